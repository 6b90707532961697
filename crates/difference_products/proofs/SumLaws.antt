-- How large the products of a row with the scaled differences are, and their sums.
use Rattle.std.proofs.Common.{◌≡◌, ◌≤◌, ◌<◌, ◌+◌, ◌*◌, ◌^◌, ◌++◌, ◌∷◌, [], ℕ, ℤ, ◌+ℤ◌, List, FitsSigned, refl, add-one, arith, below_more}
use Rattle.std.specs.Int.{w128}
use Rattle.std.proofs.Math.Nat.{mul-le-mul_right}
use Rattle.std.proofs.lemmas.Int.{ints}
use Rattle.std.proofs.lemmas.List.{length_push}
use Rattle.whole_numbers.specs.Sum.{total_to}
use Rattle.whole_numbers.specs.Intervals.{Interval, size, interval_add, interval_mul}
use Rattle.whole_numbers.proofs.ListLaws.{each_push}
use Rattle.whole_numbers.proofs.Sizes.{product_le}
use Rattle.whole_numbers.proofs.Sums.{le-total_to, total_part}
use Rattle.sym_blocks.specs.Tables.{SymTable, entry_at}
use Rattle.difference_products.specs.Parts.{interval_of, AreSmall, sum_of_row, product_of_row, RowFits, AreProductsTo}

-- a product of an interval of the table and a scaled difference
pub term_fits : (n j : ℕ) (zs : List Interval) (a z : Interval) → AreSmall n zs → j < n → size a ≤ 2 ^ 61 → z ≡ interval_of zs j → size a * size z ≤ 2 ^ 126
term_fits n j zs a z small h l e =
    let f = le-total_to n (λ k. size (interval_of zs k)) j h in
    let d : size z ≤ 2 ^ 64 = rw e (omega (arith, small.sum, f)) in
    omega (arith, product_le (size a) (2 ^ 61) (size z) (2 ^ 64) l d)

pub term_bound : (p a z : Interval) → size a ≤ 2 ^ 61 → size p ≤ size a * size z → size p ≤ 2 ^ 61 * size z
term_bound p a z h l = omega (arith, mul-le-mul_right (size z) h)

-- ---- one product more
pub sum_small : (n j : ℕ) (zs : List Interval) (s t : Interval) → AreSmall n zs → j < n → size s ≤ 2 ^ 61 * total_to j (λ k. size (interval_of zs k)) → size t ≤ 2 ^ 61 * size (interval_of zs j)
    → (size s + size t ≤ 2 ^ 61 * total_to (j + 1) (λ k. size (interval_of zs k))) × (2 ^ 61 * total_to (j + 1) (λ k. size (interval_of zs k)) ≤ 2 ^ 125)
sum_small n j zs s t small h l m =
    let more : total_to (j + 1) (λ k. size (interval_of zs k)) ≡ total_to j (λ k. size (interval_of zs k)) + size (interval_of zs j) = rw add-one refl in
    let part = total_part n (λ k. size (interval_of zs k)) (j + 1) (omega arith) in
    (omega (arith, more), omega (arith, part, small.sum))

pub sum_fits : (s t : Interval) → size s + size t ≤ 2 ^ 125 → FitsSigned w128 (s.lo +ℤ t.lo) × FitsSigned w128 (s.hi +ℤ t.hi)
sum_fits s t h = (omega (arith, ints), omega (arith, ints))

pub sum_size : (s t : Interval) → size (interval_add s t) ≤ size s + size t
sum_size s t = omega (arith, ints)

pub sum_more : (j : ℕ) (a : SymTable) (zs : List Interval) (i : ℕ) (s p : Interval) → s ≡ sum_of_row a zs i j → p ≡ interval_mul (entry_at a i j) (interval_of zs j) → interval_add s p ≡ sum_of_row a zs i (j + 1)
sum_more j a zs i s p e d = rw (e, d, add-one) refl

-- ---- one row more
pub products_push : (n : ℕ) (a : SymTable) (zs : List Interval) (es : List ℤ) (products : List Interval) (product : Interval) → AreProductsTo n a zs es products → RowFits a zs es n → product ≡ product_of_row a zs es n
    → AreProductsTo (n + 1) a zs es (products ++ product ∷ [])
products_push n a zs es products product done here is = record {
  len = omega (arith, length_push products product, done.len);
  fit = below_more (RowFits a zs es) n done.fit here;
  each = each_push (λ k z. z ≡ product_of_row a zs es k) products n product _ done.len done.each is;
}
