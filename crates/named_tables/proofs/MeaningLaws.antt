-- The numbers of a block times the weight are fractions over one power of ten.
use Rattle.std.proofs.Common.{◌≡◌, ◌≤◌, ◌<◌, ◌+◌, ◌-◌, ◌*◌, ◌^◌, ◌∙◌, ℕ, suc, ℤ, pos, negsuc, neg_ℤ, ◌≤ℤ◌, ◌+ℤ◌, ◌*ℤ◌, Bool, true, false, cond, List, [], ◌∷◌, Option, Some, arith, sym, ap}
use Rattle.std.specs.List.{find}
use Rattle.std.specs.Net.Reader.{map_or}
use Rattle.std.proofs.lemmas.Int.{ints}
use Rattle.std.proofs.lemmas.Nat.{pow-add}
use Rattle.whole_numbers.specs.Scaling.{ten_below}
use Rattle.whole_numbers.proofs.Powers.{ten_pow_above}
use Rattle.whole_numbers.proofs.Ring.{*ℤ_assoc}
use Rattle.decimal_e.specs.Decimals.{Decimal}
use Rattle.decimal_e.specs.Fractions.{numerator, Means}
use Rattle.param_ids.specs.Plain.{PlainId}
use Rattle.snx_rows.specs.Named.{zero_decimal, is_row_of, place_of, value_of}
use Rattle.snx_rows.specs.declared.rows.Row.{Row}
use Rattle.snx_matrices.specs.Named.{is_at, given_at, element_of}
use Rattle.snx_matrices.specs.declared.elements.Cell.{Cell}
use Rattle.named_tables.specs.Weighted.{weighted_element, weighted_value}

-- ---- decimals over one power of ten
-- the denominator is ten to this
abbrev power_below : ℤ → ℕ
power_below (pos m) = 0
power_below (negsuc m) = suc m

-- ten to a greater power is a multiple of it
tens : (most : ℕ) (e : ℤ) → power_below e ≤ most → 10 ^ most ≡ 10 ^ (most - power_below e) * ten_below e
tens most (pos m) l = let same : most - 0 ≡ most = omega arith in let h = ap (λ k. 10 ^ k) same in omega (arith, h)
tens most (negsuc m) l = let parts : most ≡ (most - suc m) + suc m = omega arith in ap (λ k. 10 ^ k) parts ∙ pow-add 10 (most - suc m) (suc m)

-- the decimal over ten to that power
abbrev over : ℕ → Decimal → ℤ
over most d = numerator d *ℤ pos (10 ^ (most - power_below d.exp))

over_means : (most : ℕ) (d : Decimal) → power_below d.exp ≤ most → Means d (over most d) (10 ^ most)
over_means most d l = ap (λ c. numerator d *ℤ pos c) (tens most d.exp l) ∙ sym (*ℤ_assoc (numerator d) (pos (10 ^ (most - power_below d.exp))) (pos (ten_below d.exp)))

-- a number at least -most is below zero by most at most
below_sum : (e : ℤ) (most : ℕ) → neg_ℤ (pos most) ≤ℤ e → power_below e ≤ most
below_sum (pos x) most h = omega arith
below_sum (negsuc x) most h = omega (arith, ints)

sum_power : (a b : ℤ) (m : ℕ) → power_below b ≤ m → power_below (a +ℤ b) ≤ power_below a + m
sum_power (pos x) (pos y) m h = below_sum (pos x +ℤ pos y) (0 + m) (omega (arith, ints))
sum_power (pos x) (negsuc y) m h = below_sum (pos x +ℤ negsuc y) (0 + m) (omega (arith, ints))
sum_power (negsuc x) (pos y) m h = below_sum (negsuc x +ℤ pos y) (suc x + m) (omega (arith, ints))
sum_power (negsuc x) (negsuc y) m h = below_sum (negsuc x +ℤ negsuc y) (suc x + m) (omega (arith, ints))

-- ---- the powers of elements and of values
cell_powers : List Cell → ℕ
cell_powers [] = 0
cell_powers (cell ∷ cells) = power_below cell.value.exp + cell_powers cells

row_powers : List Row → ℕ
row_powers [] = 0
row_powers (row ∷ rows) = power_below row.value.exp + row_powers rows

picked_cell : (most : ℕ) (b : Bool) (cell : Cell) (o : Option Cell) → power_below cell.value.exp ≤ most → power_below (map_or o zero_decimal (λ (c : Cell). c.value)).exp ≤ most → power_below (map_or (cond b (Some cell) o) zero_decimal (λ (c : Cell). c.value)).exp ≤ most
picked_cell most true cell o here there = here
picked_cell most false cell o here there = there

given_power : (cells : List Cell) (i j : ℕ) → power_below (given_at cells i j).exp ≤ cell_powers cells
unfolding cell_powers
given_power [] i j = omega arith
given_power (cell ∷ cells) i j = let rest = given_power cells i j in picked_cell (power_below cell.value.exp + cell_powers cells) (is_at i j cell) cell (find (is_at i j) cells) (omega arith) (omega arith)

picked_row : (most : ℕ) (b : Bool) (row : Row) (o : Option Row) → power_below row.value.exp ≤ most → power_below (map_or o zero_decimal (λ (r : Row). r.value)).exp ≤ most → power_below (map_or (cond b (Some row) o) zero_decimal (λ (r : Row). r.value)).exp ≤ most
picked_row most true row o here there = here
picked_row most false row o here there = there

value_power : (rows : List Row) (id : PlainId) → power_below (value_of rows id).exp ≤ row_powers rows
unfolding row_powers
value_power [] id = omega arith
value_power (row ∷ rows) id = let rest = value_power rows id in picked_row (power_below row.value.exp + row_powers rows) (is_row_of id row) row (find (is_row_of id) rows) (omega arith) (omega arith)

-- ---- the elements of a matrix, and the values of rows, each over one denominator
pub element_means : (rows : List Row) (cells : List Cell) (weight : Decimal) → (q : ℕ) × (0 < q) × ((one other : PlainId) → (x : ℤ) × Means (weighted_element rows cells weight one other) x q)
element_means rows cells weight =
    let most = power_below weight.exp + cell_powers cells in (
      10 ^ most,
      ten_pow_above most,
      λ one other. (
        over most (weighted_element rows cells weight one other),
        over_means most (weighted_element rows cells weight one other) (sum_power weight.exp (element_of rows cells one other).exp (cell_powers cells) (given_power cells (place_of rows one) (place_of rows other))),
      ),
    )

pub value_means : (rows : List Row) (weight : Decimal) → (q : ℕ) × (0 < q) × ((id : PlainId) → (x : ℤ) × Means (weighted_value rows weight id) x q)
value_means rows weight =
    let most = power_below weight.exp + row_powers rows in (
      10 ^ most,
      ten_pow_above most,
      λ id. (
        over most (weighted_value rows weight id),
        over_means most (weighted_value rows weight id) (sum_power weight.exp (value_of rows id).exp (row_powers rows) (value_power rows id)),
      ),
    )
