-- A table has one factor, column by column, or one column at which it has none.
use Rattle.std.proofs.Common.{◌≡◌, ◌≤◌, ◌<◌, ◌∙◌, ℕ, zero, suc, ℤ, pos, negsuc, ◌+ℤ◌, ◌*ℤ◌, ◌≤ℤ◌, sym, ap, subst, arith}
use Rattle.std.proofs.Math.IntN.{◌-ℤ◌}
use Rattle.std.proofs.Math.Decide.{dec_lt}
use Rattle.std.proofs.Math.Nat.{mul-le-mul}
use Rattle.std.proofs.lemmas.Int.{ints, by_lt_z}
use Rattle.stated_order.proofs.FirstLaws.{neither_less}
use Rattle.whole_numbers.proofs.Sums.{sum_to_same}
use Rattle.chol_factor.specs.Factor.{fixed_product, fixed_quotient, left_of, IsRoot, IsColumn, HasColumns, IsPivot}
use Rattle.chol_factor.specs.Making.{AgreeBefore}

-- ---- one root
square_mono : (x y : ℤ) → pos 0 ≤ℤ x → x ≤ℤ y → (x *ℤ x) ≤ℤ (y *ℤ y)
square_mono (pos a) (pos b) some h = let l : a ≤ b = omega (arith, ints) in let p = mul-le-mul l l in omega (arith, ints, p)
square_mono (pos a) (negsuc b) some h = absurd (omega (arith, ints))
square_mono (negsuc a) y some h = absurd (omega (arith, ints))

root_order : (a r s : ℤ) → IsRoot a r → IsRoot a s → r ≤ℤ s
root_order a r s p q = by_lt_z s r (λ l. let t = square_mono (s +ℤ pos 1) r (omega (arith, ints, q.least)) (omega (arith, ints)) in absurd (omega (arith, ints, t, p.square_le, q.next_square_gt))) (λ l. l)

pub root_alone : (a r s : ℤ) → IsRoot a r → IsRoot a s → r ≡ s
root_alone a r s p q = let l = root_order a r s p q in let g = root_order a s r q p in omega (arith, ints)

-- ---- equal parts and quotients
pub equal_fixed_products : (a b c d : ℤ) → a ≡ b → c ≡ d → fixed_product a c ≡ fixed_product b d
equal_fixed_products a b c d e h = ap (λ x. fixed_product x c) e ∙ ap (λ x. fixed_product b x) h

pub equal_fixed_quotients : (a b c d : ℤ) → a ≡ b → c ≡ d → fixed_quotient a c ≡ fixed_quotient b d
equal_fixed_quotients a b c d e h = ap (λ x. fixed_quotient x c) e ∙ ap (λ x. fixed_quotient b x) h

-- ---- one column after equal columns
pub left_alone : (n : ℕ) (m f g : ℕ → ℕ → ℤ) (i j : ℕ) → AgreeBefore n f g j → j ≤ i → i < n → left_of m f i j ≡ left_of m g i j
left_alone n m f g i j same lower row =
    let row_j : j < n = omega arith in
    ap (λ s. m i j -ℤ s) (sum_to_same j (λ k. fixed_product (f i k) (f j k)) (λ k. fixed_product (g i k) (g j k)) (λ k h. equal_fixed_products (f i k) (g i k) (f j k) (g j k) (same i k h (omega arith) row) (same j k h (omega arith) row_j)))

pub diagonal_alone : (n : ℕ) (m f g : ℕ → ℕ → ℤ) (j : ℕ) → AgreeBefore n f g j → IsColumn n m f j → IsColumn n m g j → j < n → f j j ≡ g j j
diagonal_alone n m f g j same p q row = root_alone (left_of m g j j) (f j j) (g j j) (subst (λ a. IsRoot a (f j j)) (left_alone n m f g j j same (omega arith) row) p.root) q.root

pub column_alone : (n : ℕ) (m f g : ℕ → ℕ → ℤ) (i j : ℕ) → AgreeBefore n f g j → IsColumn n m f j → IsColumn n m g j → j ≤ i → i < n → f i j ≡ g i j
column_alone n m f g i j same p q lower row =
    elim (dec_lt j i) [
      | yes l ↦
          p.below i l row ∙ equal_fixed_quotients _ _ _ _ (left_alone n m f g i j same lower row) (diagonal_alone n m f g j same p q (omega arith)) ∙ sym (q.below i l row)
      | no l ↦ let e : j ≡ i = omega arith in subst (λ k. f k j ≡ g k j) e (diagonal_alone n m f g j same p q (omega arith))
    ]

-- ---- one factor
pub factor_alone : (n : ℕ) (m f g : ℕ → ℕ → ℤ) (j : ℕ) → HasColumns n m f j → HasColumns n m g j → (i k : ℕ) → k < j → k ≤ i → i < n → f i k ≡ g i k
factor_alone n m f g zero p q i k column lower row = absurd (omega arith)
factor_alone n m f g (suc j) p q i k column lower row =
    let before : AgreeBefore n f g j = factor_alone n m f g j (λ c h. p c (omega arith)) (λ c h. q c (omega arith)) in
    elim (dec_lt k j) [
      | yes l ↦ before i k l lower row
      | no l ↦
          let e : j ≡ k = omega arith in
          subst (λ c. f i c ≡ g i c) e (column_alone n m f g i j before (p j (omega arith)) (q j (omega arith)) (omega arith) row)
    ]

-- where a factor has the columns before column c, none of them is the first that no factor has
pub no_pivot_below : (n : ℕ) (m f : ℕ → ℕ → ℤ) (j c : ℕ) → HasColumns n m f c → IsPivot n m j → j < c → ⊥
no_pivot_below n m f j c p q h = q.none f (λ k l. p k (omega arith))

pub pivot_alone : (n : ℕ) (m : ℕ → ℕ → ℤ) (j k : ℕ) → IsPivot n m j → IsPivot n m k → j ≡ k
pivot_alone n m j k p q =
    let low : j < k → ⊥ = λ h. no_pivot_below n m q.before.0 j k q.before.1 p h in
    let high : k < j → ⊥ = λ h. no_pivot_below n m p.before.0 k j p.before.1 q h in
    neither_less j k low high
