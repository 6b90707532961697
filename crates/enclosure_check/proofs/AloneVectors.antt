-- The start vector is determined by the table and its pilot, and so is the first row at which the sizes pass their bound.
-- No vector is a start vector where there is such a row.
use Rattle.std.proofs.Common.{◌≡◌, ◌≤◌, ◌<◌, ◌+◌, ◌-◌, ◌^◌, ◌∙◌, ℕ, zero, suc, ℤ, ◌+ℤ◌, ◌*ℤ◌, arith, refl, sym, ap, subst, unsigned_abs}
use Rattle.std.proofs.Math.IntN.{◌-ℤ◌}
use Rattle.std.proofs.Math.Decide.{dec_lt}
use Rattle.whole_numbers.specs.Quotients.{floor_over}
use Rattle.whole_numbers.specs.Sum.{sum_to}
use Rattle.stated_order.proofs.FirstLaws.{neither_less}
use Rattle.whole_numbers.proofs.Sums.{sum_to_same, total_part, total_to_same}
use Rattle.sys_model.specs.Systems.{Table}
use Rattle.enclosures.specs.Pilots.{PilotTable, pilot_entry}
use Rattle.enclosure_check.specs.Vectors.{midpoint_residual, AllFitAfter, corrected, IsRefinement, AfterRefinements, IsStartVector, IsVectorRange}
use Rattle.enclosures.specs.Vectors.{IsSmall}
use Rattle.whole_numbers.specs.Intervals.{midpoint}
use Rattle.whole_numbers.specs.Lists.{SameBelow}
use Rattle.stated_order.specs.First.{IsLeast}

-- two least numbers with equivalent properties are equal
least_alone : (P Q : ℕ → Type 0) (h k : ℕ) → ((x : ℕ) → P x → Q x) → ((x : ℕ) → Q x → P x) → IsLeast P h → IsLeast Q k → h ≡ k
least_alone P Q h k to from p q = neither_less h k (λ l. q.before h l (to h p.here)) (λ l. p.before k l (from k q.here))

fits_carry : (n : ℕ) (q r : ℕ → ℤ) (h : ℕ) → SameBelow n q r → AllFitAfter n q h → AllFitAfter n r h
fits_carry n q r h same fits i row = subst (λ a. unsigned_abs (floor_over a (2 ^ h)) ≤ 2 ^ 66) (same i row) (fits i row)

small_carries : (n : ℕ) (y z : ℕ → ℤ) → SameBelow n y z → IsSmall n y → IsSmall n z
small_carries n y z same small = subst (λ s. s ≤ 2 ^ 64) (total_to_same n _ _ (λ i row. ap unsigned_abs (same i row))) small

small_fewer : (m n : ℕ) (y : ℕ → ℤ) → m ≤ n → IsSmall n y → IsSmall m y
small_fewer m n y l small = omega (arith, total_part n (λ i. unsigned_abs (y i)) m l)

module _ (n : ℕ) (t : Table) (p : PilotTable) where
  -- ---- one refinement
  left_same : (y z : ℕ → ℤ) → SameBelow n y z → SameBelow n (midpoint_residual n t y) (midpoint_residual n t z)
  left_same y z same i row =
      ap (λ s. midpoint (t.right i) -ℤ s) (sum_to_same n (λ j. midpoint (t.entry i j) *ℤ y j) (λ j. midpoint (t.entry i j) *ℤ z j) (λ j l. ap (λ a. midpoint (t.entry i j) *ℤ a) (same j l)))

  corrected_same : (c d : ℕ → ℤ) (h : ℕ) (y z : ℕ → ℤ) → SameBelow n c d → SameBelow n y z → SameBelow n (corrected n p c h y) (corrected n p d h z)
  corrected_same c d h y z left same i row =
      ap (λ a. a +ℤ floor_over (sum_to n (λ k. pilot_entry p i k *ℤ floor_over (c k) (2 ^ h))) (2 ^ (p.g + 60 - h))) (same i row)
      ∙ ap (λ s. z i +ℤ floor_over s (2 ^ (p.g + 60 - h)))
      (sum_to_same n (λ k. pilot_entry p i k *ℤ floor_over (c k) (2 ^ h)) (λ k. pilot_entry p i k *ℤ floor_over (d k) (2 ^ h)) (λ k r. ap (λ a. pilot_entry p i k *ℤ floor_over a (2 ^ h)) (left k r)))

  refinement_same : (y z c d : ℕ → ℤ) → SameBelow n y z → IsRefinement n t p y c → IsRefinement n t p z d → SameBelow n c d
  refinement_same y z c d same a b i row =
      let left = left_same y z same in
      let back = left_same z y (λ k l. sym (same k l)) in
      let shift : a.h ≡ b.h = least_alone (AllFitAfter n (midpoint_residual n t y)) (AllFitAfter n (midpoint_residual n t z)) a.h b.h (λ x. fits_carry n _ _ x left) (λ x. fits_carry n _ _ x back) a.shift b.shift in
      a.rows i row ∙ corrected_same _ _ a.h y z left same i row ∙ ap (λ h. corrected n p (midpoint_residual n t z) h z i) shift ∙ sym (b.rows i row)

  -- ---- all refinements
  refinements_same : (k : ℕ) (y z : ℕ → ℤ) → AfterRefinements n t p k y → AfterRefinements n t p k z → SameBelow n y z
  refinements_same zero y z a b = λ i row. a i row ∙ sym (b i row)
  refinements_same (suc k) y z a b = refinement_same a.0 b.0 y z (refinements_same k a.0 b.0 a.1.0 b.1.0) a.1.1.1 b.1.1.1

  -- the vector after an earlier refinement is small
  earlier_small : (k m : ℕ) (y : ℕ → ℤ) → k < m → AfterRefinements n t p m y → (x : ℕ → ℤ) × (AfterRefinements n t p k x × IsSmall n x)
  earlier_small k zero y l a = absurd (omega arith)
  earlier_small k (suc m) y l a =
      elim (dec_lt k m) [
        | yes r ↦ earlier_small k m a.0 r a.1.0
        | no r ↦ let e : m ≡ k = omega arith in subst (λ j. (x : ℕ → ℤ) × (AfterRefinements n t p j x × IsSmall n x)) e (a.0, (a.1.0, a.1.1.0))
      ]

  -- ---- one start vector or one refusal
  pub start_same : (y z : ℕ → ℤ) → IsStartVector n t p y → IsStartVector n t p z → SameBelow n y z
  start_same y z a b = refinements_same 3 y z a.refinements b.refinements

  -- where the sizes pass at a row after k refinements, no vector after k refinements is small
  no_small : (k : ℕ) (y : ℕ → ℤ) (row : ℕ) (r : IsVectorRange n t p row) → k ≡ r.refinement → AfterRefinements n t p k y → IsSmall n y → ⊥
  no_small k y row r e a small =
      let same = refinements_same k y r.z a (subst (λ j. AfterRefinements n t p j r.z) (sym e) r.refinements) in
      r.past (small_carries (suc row) y r.z (λ i l. same i (omega (arith, r.within))) (small_fewer (suc row) n y r.within small))

  pub start_no_range : (y : ℕ → ℤ) (row : ℕ) → IsStartVector n t p y → IsVectorRange n t p row → ⊥
  start_no_range y row a r =
      elim (dec_lt r.refinement 3) [
        | yes l ↦ let x = earlier_small r.refinement 3 y l a.refinements in no_small r.refinement x.0 row r refl x.1.0 x.1.1
        | no l ↦ no_small 3 y row r (omega (arith, r.few)) a.refinements a.small
      ]

  no_later_refinement : (row col : ℕ) (a : IsVectorRange n t p row) (b : IsVectorRange n t p col) → b.refinement < a.refinement → ⊥
  no_later_refinement row col a b l = let x = earlier_small b.refinement a.refinement a.z l a.refinements in no_small b.refinement x.0 col b refl x.1.0 x.1.1

  no_later_row : (row col : ℕ) (a : IsVectorRange n t p row) (b : IsVectorRange n t p col) → SameBelow n a.z b.z → col < row → ⊥
  no_later_row row col a b same l =
      b.past (small_carries (suc col) a.z b.z (λ i r. same i (omega (arith, b.within))) (small_fewer (suc col) row a.z l a.before))

  pub range_alone : (row col : ℕ) → IsVectorRange n t p row → IsVectorRange n t p col → row ≡ col
  range_alone row col a b =
      let refinement : a.refinement ≡ b.refinement = neither_less a.refinement b.refinement (no_later_refinement col row b a) (no_later_refinement row col a b) in
      let same = refinements_same a.refinement a.z b.z a.refinements (subst (λ j. AfterRefinements n t p j b.z) (sym refinement) b.refinements) in
      neither_less row col (no_later_row col row b a (λ k l. sym (same k l))) (no_later_row row col a b same)
