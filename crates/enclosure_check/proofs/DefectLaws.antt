-- Sizes of the sums that the defects of a pilot are made of, and what these sums are.
use Rattle.std.proofs.Common.{◌≡◌, ◌∙◌, ℕ, zero, suc, ℤ, pos, ◌+ℤ◌, ◌+◌, ◌*◌, ◌≤◌, ◌<◌, ◌^◌, ◌/◌, ◌%◌, ◌++◌, [], ◌∷◌, unsigned_abs, List, length, FitsSigned, refl, sym, ap, subst, arith, add-one, below_more}
use Rattle.std.specs.Int.{w128}
use Rattle.std.proofs.lemmas.List.{get_or_append_left, get_or_push}
use Rattle.std.proofs.lemmas.Nat.{mul-add-lt, div-mul-add, mod-mul-add, div_below, mod_below}
use Rattle.std.proofs.lemmas.Grind.{div_ceil_times}
use Rattle.std.proofs.Math.Nat.{mul-le-mul_right, le_of_mul-le-mul_left}
use Rattle.whole_numbers.specs.Quotients.{up_over}
use Rattle.whole_numbers.specs.Intervals.{Interval, size, interval_add, interval_scale}
use Rattle.whole_numbers.proofs.Sizes.{size_scale, size_sum_by}
use Rattle.whole_numbers.specs.Sum.{total_to}
use Rattle.whole_numbers.proofs.Sums.{total_to_same, total_to-bound}
use Rattle.whole_numbers.proofs.IntervalLaws.{sum_intervals_same, two_pow_above}
use Rattle.sys_model.specs.Systems.{Table, row_parts}
use Rattle.sys_model.proofs.Enclose.{pow_split}
use Rattle.sym_blocks.specs.Tables.{SymTable, entry_at}
use Rattle.sym_blocks.proofs.Rows.{entry_sym}
use Rattle.equil.specs.Tables.{table_of}
use Rattle.whole_numbers.specs.Lists.{at, AllAtMost}
use Rattle.enclosures.specs.Pilots.{PilotTable, pilot_entry}
use Rattle.enclosure_check.specs.Certificates.{parts_of}
use Rattle.enclosure_check.specs.Rows.{entry_between, HasEntries}
use Rattle.enclosure_check.specs.Defects.{products_to, clipped_left, turned_table, AreRows}
use Rattle.enclosure_check.proofs.ErrorLaws.{step_fits}

-- the numbers and the intervals below n are in their bounds
pub record InBounds (n : ℕ) (r : ℕ → ℤ) (f : ℕ → Interval) : Type 0 where
  pub few : n ≤ 1000
  pub numbers : (k : ℕ) → k < n → unsigned_abs (r k) ≤ 2 ^ 50
  pub entries : (k : ℕ) → k < n → size (f k) ≤ 2 ^ 61

-- a sum of products of such numbers and intervals
pub size_products : (n m : ℕ) (r : ℕ → ℤ) (f : ℕ → Interval) → InBounds n r f → m ≤ n → size (products_to m r f) ≤ 2 ^ 121
size_products n m r f b part =
    let s = size_sum_by m (λ k. interval_scale (r k) (f k)) in
    let t = total_to-bound m (λ k. size (interval_scale (r k) (f k))) (2 ^ 111) (λ k l. size_scale (r k) (f k) (2 ^ 50) (2 ^ 61) (b.numbers k (omega arith)) (b.entries k (omega arith))) in
    omega (arith, s, t, b.few)

-- it is the sum of one product more, and it fits
pub record AddsProduct (k : ℕ) (r : ℕ → ℤ) (f : ℕ → Interval) (w v : Interval) : Type 0 where
  pub sum : interval_add w v ≡ products_to (k + 1) r f
  pub lo_fits : FitsSigned w128 (w.lo +ℤ v.lo)
  pub hi_fits : FitsSigned w128 (w.hi +ℤ v.hi)

pub adds_product : (n k : ℕ) (r : ℕ → ℤ) (f : ℕ → Interval) (w v : Interval) → InBounds n r f → k < n → w ≡ products_to k r f → v ≡ interval_scale (r k) (f k) → AddsProduct k r f w v
adds_product n k r f w v b l e d =
    let fits = step_fits k (λ j. interval_scale (r j) (f j)) w v e d (omega (arith, size_products n (k + 1) r f b (omega arith))) in
    record { sum = rw (e, d, add-one) refl; lo_fits = fits.0; hi_fits = fits.1 }

pub rows_in_bounds : (r low high : List ℤ) → AreRows r low high → InBounds (length r) (at r) (entry_between low high)
rows_in_bounds r low high h = record {
  few = h.few;
  numbers = h.numbers;
  entries = λ k l. omega (arith, h.low_ends k (omega (arith, h.lows)), h.high_ends k (omega (arith, h.highs)));
}

-- a total of at most 1000 numbers of at most 2^(g + 60), in parts of 2^(g + 30)
pub parts_small : (g total : ℕ) → total ≤ 1000 * 2 ^ (g + 60) → up_over total (2 ^ (g + 30)) ≤ 2 ^ 41
parts_small g total h =
    let T = 2 ^ (g + 30) in
    let c = (div_ceil_times total T (two_pow_above (g + 30))).1 in
    let b : T * up_over total T ≤ T * (1000 * 2 ^ 30 + 1) = omega (arith, pow_split g, c) in
    omega (arith, le_of_mul-le-mul_left b (two_pow_above (g + 30)))

-- a total with one more number
pub total_more : (k : ℕ) (f : ℕ → ℕ) (t s : ℕ) → t ≡ total_to k f → s ≡ f k → t + s ≡ total_to (k + 1) f
total_more k f t s e d = rw (e, d, add-one) refl

-- at most 1000 clipped sizes
pub total_small : (m g i : ℕ) (f : ℕ → Interval) → m ≤ 1000 → total_to m (λ j. clipped_left g i j (f j)) ≤ 1000 * 2 ^ (g + 60)
total_small m g i f few =
    let t = total_to-bound m (λ j. clipped_left g i j (f j)) (2 ^ (g + 60)) (λ j l. omega arith) in
    let u = mul-le-mul_right (2 ^ (g + 60)) few in
    omega (arith, t, u)

-- the table's intervals are in their bounds
pub column_in_bounds : (n : ℕ) (a : SymTable) (r : List ℤ) (j : ℕ) → n ≤ 1000 → length r ≡ n → AllAtMost (2 ^ 50) r → ((k l : ℕ) → k < n → l < n → size (entry_at a k l) ≤ 2 ^ 61) → j < n → InBounds n (at r) (λ k. entry_at a k j)
column_in_bounds n a r j few len numbers entries column = record { few = few; numbers = λ k l. numbers k (omega arith); entries = λ k l. entries k j l column }

-- ---- what the sums are
pub products_same : (n : ℕ) (r s : ℕ → ℤ) (f h : ℕ → Interval) → ((k : ℕ) → k < n → r k ≡ s k) → ((k : ℕ) → k < n → f k ≡ h k) → products_to n r f ≡ products_to n s h
products_same n r s f h e d =
    sum_intervals_same n (λ k. interval_scale (r k) (f k)) (λ k. interval_scale (s k) (h k)) (λ k l. ap (λ z. interval_scale z (f k)) (e k l) ∙ ap (interval_scale (s k)) (d k l))

pub row_parts_same : (n g i : ℕ) (r s : ℕ → ℕ → ℤ) (t u : Table) → ((k : ℕ) → k < n → r i k ≡ s i k) → ((k j : ℕ) → k < n → j < n → t.entry k j ≡ u.entry k j) → row_parts n g r t i ≡ row_parts n g s u i
row_parts_same n g i r s t u e d =
    let c = λ (p : ℕ → ℕ → ℤ) (v : Table) (j : ℕ). clipped_left g i j (products_to n (p i) (λ k. v.entry k j)) in
    ap (λ x. up_over x (2 ^ (g + 30)))
    (total_to_same n (c r t) (c s u)
    (λ j l. ap (clipped_left g i j) (products_same n (r i) (s i) (λ k. t.entry k j) (λ k. u.entry k j) e (λ k m. d k j m l))))

-- what the loop over the columns of a row comes to: m of its numbers are those of the pilot's row
pub row_parts_is : (n m g i : ℕ) (r : List ℤ) (p : PilotTable) (t : Table) (total parts : ℕ) → m ≡ n → g ≡ p.g → total ≡ total_to m (λ j. clipped_left g i j (products_to n (at r) (λ k. t.entry k j))) → parts ≡ up_over total (2 ^ (g + 30)) → ((k : ℕ) → k < n → at r k ≡ pilot_entry p i k) → parts ≡ parts_of n t p i
row_parts_is n m g i r p t total parts whole scale sum up entries =
    let c = λ (j : ℕ). clipped_left g i j (products_to n (at r) (λ k. t.entry k j)) in
    let a : parts ≡ row_parts n g (λ i. at r) t i = up ∙ ap (λ x. up_over x (2 ^ (g + 30))) (sum ∙ ap (λ x. total_to x c) whole) in
    a ∙ row_parts_same n g i (λ i. at r) (pilot_entry p) t t entries (λ k j l h. refl) ∙ ap (λ x. row_parts n x (pilot_entry p) t i) scale

-- ---- the ends of a table's intervals, row by row
abbrev pub StandAt : ℕ → SymTable → List ℤ → List ℤ → ℕ → Type 0
StandAt n a low high m = (x : ℕ) → x < m → entry_between low high x ≡ entry_at a (x / n) (x % n)

-- one more interval at the ends of the lists
pub ends_push : (n m : ℕ) (a : SymTable) (low high : List ℤ) (lo hi : ℤ) → length low ≡ m → length high ≡ m → lo ≡ (entry_at a (m / n) (m % n)).lo → hi ≡ (entry_at a (m / n) (m % n)).hi → StandAt n a low high m → StandAt n a (low ++ lo ∷ []) (high ++ hi ∷ []) (m + 1)
ends_push n m a low high lo hi l h e d before =
    below_more _ _
    (λ x b. let p = get_or_append_left low (lo ∷ []) (pos 0) x (omega arith) in let q = get_or_append_left high (hi ∷ []) (pos 0) x (omega arith) in rw (p, q) (before x b))
    (let p = get_or_push low lo (pos 0) m l in let q = get_or_push high hi (pos 0) m h in rw (p, q, e, d) refl)

some_rows : (n x : ℕ) → x < n * n → 0 < n
some_rows zero x h = absurd (omega arith)
some_rows (suc n) x h = omega arith

pub ends_small : (n : ℕ) (a : SymTable) (low high : List ℤ) (x : ℕ) → ((i j : ℕ) → i < n → j < n → size (entry_at a i j) ≤ 2 ^ 61) → StandAt n a low high (n * n) → x < n * n → size (entry_between low high x) ≤ 2 ^ 61
ends_small n a low high x small each l =
    let some = some_rows n x l in
    let e = each x l in
    subst (λ w. size w ≤ 2 ^ 61) (sym e) (small (x / n) (x % n) (div_below x n n some l) (mod_below x n some))

pub entries_of_rows : (n : ℕ) (a : SymTable) (low high : List ℤ) → StandAt n a low high (n * n) → HasEntries n a low high
entries_of_rows n a low high each j k row column =
    let d = div-mul-add j n k column in
    let m = mod-mul-add j n k column in
    each (j * n + k) (mul-add-lt j n k n row column) ∙ rw (d, m) refl

-- the defect by the rows of the table is that by its columns
pub turned_parts : (i parts : ℕ) (a : SymTable) (d : List Interval) (p : PilotTable) → parts ≡ parts_of a.size (turned_table a) p i → parts ≡ parts_of a.size (table_of a d) p i
turned_parts i parts a d p is = is ∙ row_parts_same a.size p.g i (pilot_entry p) (pilot_entry p) (turned_table a) (table_of a d) (λ k l. refl) (λ k j l b. entry_sym a j k)
