-- A dominant table has each column of a factor.
use Rattle.std.proofs.Common.{◌≡◌, ◌≢◌, ℕ, zero, suc, pos, negsuc, ℤ, arith, refl, sym, ap, ◌∙◌, ◌≤◌, ◌<◌, ◌*◌, ◌^◌, unsigned_abs, subst, cond, eqb}
use Rattle.std.specs.Prelude.{◌≤ℤ◌}
use Rattle.std.proofs.Math.Decide.{dec_lt}
use Rattle.std.proofs.lemmas.Int.{ints}
use Rattle.std.proofs.lemmas.Bool.Decides.{nat_tests}
use Rattle.chol_factor.specs.Factor.{fixed_quotient, left_of, IsRoot, IsColumn, HasColumns, IsPivot}
use Rattle.chol_factor.specs.Making.{AgreeBefore}
use Rattle.chol_factor.proofs.Alone.{left_alone, equal_fixed_quotients}
use Rattle.chol_factor.proofs.ColumnLaws.{columns_more}
use Rattle.dominant_laws.proofs.Remainders.{remaining}
use Rattle.dominant_laws.proofs.Conditions.{IsGreat}
use Rattle.dominant_laws.proofs.Tails.{le_tail}
use Rattle.dominant_laws.proofs.FactorBounds.{IsPivotRow, pivot_row, small_column, all_great, remaining_sym, root_most}

-- ---- each number has a root
nat_root : (a : ℕ) → (k : ℕ) × (k * k ≤ a) × (a < suc k * suc k)
nat_root zero = (0, omega arith, omega arith)
nat_root (suc a) =
    let r = nat_root a in
    elim (dec_lt (suc a) (suc r.0 * suc r.0)) [
      | yes l ↦ (r.0, omega (arith, r.1), l)
      | no l ↦ (suc r.0, omega arith, omega (arith, r.2))
    ]

root_of : (p : ℤ) → pos 1 ≤ℤ p → (r : ℤ) × IsRoot p r
root_of (pos a) some =
    let r = nat_root (a * 2 ^ 60) in
    (pos r.0, record { least = omega (arith, ints); square_le = omega (arith, ints, r.1); next_square_gt = omega (arith, ints, r.2) })
root_of (negsuc a) some = absurd (omega (arith, ints))

-- ---- f with another column j, that of the root r
abbrev with_column : (ℕ → ℕ → ℤ) → (ℕ → ℕ → ℤ) → ℕ → ℤ → ℕ → ℕ → ℤ
with_column m f j r i q = cond (eqb q j) (cond (eqb i j) r (fixed_quotient (left_of m f i j) r)) (f i q)

column_root : (m f : ℕ → ℕ → ℤ) (j : ℕ) (r : ℤ) → with_column m f j r j j ≡ r
column_root m f j r = grind (arith, nat_tests)

column_below : (m f : ℕ → ℕ → ℤ) (j : ℕ) (r : ℤ) (i : ℕ) → i ≢ j → with_column m f j r i j ≡ fixed_quotient (left_of m f i j) r
column_below m f j r i ne = grind (arith, nat_tests)

column_other : (m f : ℕ → ℕ → ℤ) (j : ℕ) (r : ℤ) (i q : ℕ) → q ≢ j → with_column m f j r i q ≡ f i q
column_other m f j r i q ne = grind (arith, nat_tests)

next_column : (n : ℕ) (m f : ℕ → ℕ → ℤ) (j : ℕ) → IsGreat n m → j < n → HasColumns n m f j → (h : ℕ → ℕ → ℤ) × HasColumns n m h (suc j)
next_column n m f j g row has =
    let p = pivot_row n m f j g row (all_great n m f j j g (omega arith) has (omega arith)) in
    let root = root_of (remaining m f j j j) (omega (arith, ints, p.least)) in
    let r = root.0 in
    let h = with_column m f j r in
    let same : AgreeBefore n f h j = λ i q before lower inside. sym (column_other m f j r i q (omega arith)) in
    let left = λ (i : ℕ) (from : j ≤ i) (inside : i < n). left_alone n m f h i j same from inside in
    let small = small_column n m f j (λ i. fixed_quotient (left_of m f i j) r) r g row p root.1 (λ i from inside. refl) in
    let most = root_most (remaining m f j j j) r p.most root.1 in
    let here = column_root m f j r in
    let column : IsColumn n m h j = record {
      pivot = subst (λ a. pos 1 ≤ℤ a) (left j (omega arith) row) (omega (arith, ints, p.least));
      root = subst (IsRoot (left_of m h j j)) (sym here) (subst (λ a. IsRoot a r) (left j (omega arith) row) root.1);
      below = λ i from inside. column_below m f j r i (omega arith) ∙ equal_fixed_quotients _ _ _ _ (left i (omega arith) inside) (sym here);
      left_fits = λ i from inside. subst (λ a. unsigned_abs a ≤ 2 ^ 61) (left i from inside) (left_small i from inside p);
      fits = λ i from inside. elim (dec_lt j i) [
        | yes l ↦
            let t = le_tail n (suc j) (λ k. unsigned_abs (fixed_quotient (left_of m f k j) r)) i l inside in
            omega (arith, ap unsigned_abs (column_below m f j r i (omega arith)), t, small.third, most)
        | no l ↦ let e : j ≡ i = omega arith in subst (λ k. unsigned_abs (h k j) ≤ 2 ^ 61) e (omega (arith, ap unsigned_abs here, most))
      ];
    } in
    (h, subst (HasColumns n m h) (omega arith) (columns_more n m f h j row has same column))
  where
    left_small : (i : ℕ) → j ≤ i → i < n → IsPivotRow n m f j → unsigned_abs (left_of m f i j) ≤ 2 ^ 61
    left_small i from inside p = elim (dec_lt j i) [
      | yes l ↦
          let t = le_tail n (suc j) (λ k. unsigned_abs (remaining m f j j k)) i l inside in
          omega (arith, ints, ap unsigned_abs (remaining_sym n m f j i j g inside row), t, p.few, p.most)
      | no l ↦ let e : j ≡ i = omega arith in subst (λ k. unsigned_abs (left_of m f k j) ≤ 2 ^ 61) e (omega (arith, ints, p.least, p.most))
    ]

pub no_pivot_great : (n : ℕ) (m : ℕ → ℕ → ℤ) (j : ℕ) → IsGreat n m → ¬ (IsPivot n m j)
no_pivot_great n m j g pivot =
    let next = next_column n m pivot.before.0 j g pivot.within pivot.before.1 in
    pivot.none next.0 next.1
