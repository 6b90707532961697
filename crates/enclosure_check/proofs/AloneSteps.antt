-- Each step from a table to a certificate has one result at most.
use Rattle.std.proofs.Common.{◌≡◌, ◌≤◌, ◌<◌, ◌^◌, ◌⊎◌, inl, inr, ◌∙◌, ℕ, ℤ, pos, neg_ℤ, List, Ok, Err, arith, sym, ap, subst}
use Rattle.std.proofs.Math.IntN.{◌-ℤ◌}
use Rattle.stated_order.specs.Steps.{IsOne}
use Rattle.stated_order.specs.First.{HoldsLower, HoldsBelow, IsFirstFailure, IsFirstLowerFailure}
use Rattle.stated_order.proofs.FirstLaws.{first_failure_is_one, first_failure_fails, first_failure_moves, first_lower_failure_is_one, first_lower_failure_fails, first_lower_failure_moves}
use Rattle.whole_numbers.specs.Intervals.{size}
use Rattle.whole_numbers.specs.Lists.{at}
use Rattle.whole_numbers.specs.Scaling.{interval_scale10}
use Rattle.whole_numbers.proofs.ListLaws.{equal_lists}
use Rattle.sym_blocks.specs.Tables.{zero_interval}
use Rattle.sym_blocks.proofs.EqualTables.{equal_symmetric}
use Rattle.sys_model.specs.Systems.{Table}
use Rattle.equil.specs.Tables.{exponent_of, working_entry, working_right, AreExponents, EntryFits, RightFits, IsFirstPast}
use Rattle.equil.specs.declared.EquilError.TheVariants as equil
use Rattle.equil.proofs.Hundreds.{exponent_one}
use Rattle.chol_factor.proofs.Alone.{pivot_alone}
use Rattle.enclosures.specs.Pilots.{PilotTable}
use Rattle.enclosures.specs.declared.Radius.{Radius}
use Rattle.chol_guess.specs.declared.PilotError.TheVariants as pilot
use Rattle.chol_guess.proofs.Alone.{pilot_alone, pilot_entries_alone, no_pivot, no_condition, condition_alone, condition_no_pivot}
use Rattle.enclosure_check.specs.Certificates.{IsCertified}
use Rattle.enclosure_check.specs.Steps.{Worked, IsWorkedOf, IsWorkingStep, IsPilotStep, IsVectorStep, Certificate, certificate_of, IsCertificateStep}
use Rattle.enclosure_check.specs.declared.VectorError.TheVariants as vector
use Rattle.enclosure_check.specs.declared.CheckError.TheVariants as check
use Rattle.enclosure_check.proofs.AloneVectors.{start_same, start_no_range, range_alone}
use Rattle.enclosure_check.proofs.AloneCertificates.{certified_parts, certified_error, certified_radii, certified_no_residual, certified_no_defect, residual_no_defect, residual_row, residual_error, defect_row, defect_parts}
use Rattle.enclosure_check.proofs.EqualTables.{equal_square}

-- ---- the working table
module _ (n : ℕ) (t : Table) where
  exponents_alone : (e f : ℕ → ℤ) → AreExponents n t.entry e → AreExponents n t.entry f → (i : ℕ) → i < n → e i ≡ f i
  exponents_alone e f a b i row = exponent_one (t.entry i i).hi (e i) (f i) (a i row) (b i row)

  entry_moves : (e f : ℕ → ℤ) → AreExponents n t.entry e → AreExponents n t.entry f → (i j : ℕ) → i < n → j < n → working_entry t.entry e i j ≡ working_entry t.entry f i j
  entry_moves e f a b i j row column =
      ap (λ x. interval_scale10 (t.entry i j) (neg_ℤ x -ℤ e j)) (exponents_alone e f a b i row)
      ∙ ap (λ x. interval_scale10 (t.entry i j) (neg_ℤ (f i) -ℤ x)) (exponents_alone e f a b j column)

  right_moves : (e f : ℕ → ℤ) → AreExponents n t.entry e → AreExponents n t.entry f → (i : ℕ) → i < n → working_right t.right e i ≡ working_right t.right f i
  right_moves e f a b i row = ap (λ x. interval_scale10 (t.right i) (pos 12 -ℤ x)) (exponents_alone e f a b i row)

  worked_alone : (w v : Worked) → IsWorkedOf n t w → IsWorkedOf n t v → w ≡ v
  worked_alone w v a b =
      let exponents : w.exponents ≡ v.exponents = equal_lists (pos 0) n w.exponents v.exponents a.exponents b.exponents (exponents_alone _ _ a.working.exponents b.working.exponents) in
      let table : w.table ≡ v.table = equal_symmetric n w.table v.table a.size b.size a.entries b.entries (λ i j row column.
      a.working.entries i j row column ∙ entry_moves _ _ a.working.exponents b.working.exponents i j row column ∙ sym (b.working.entries i j row column)) in
      let right : w.right ≡ v.right = equal_lists zero_interval n w.right v.right a.rights b.rights (λ i row.
      a.working.rights i row ∙ right_moves _ _ a.working.exponents b.working.exponents i row ∙ sym (b.working.rights i row)) in
      ap (λ x. (let u : Worked = record { table = x; right = w.right; exponents = w.exponents } in u)) table
      ∙ ap (λ d. (let u : Worked = record { table = v.table; right = d; exponents = w.exponents } in u)) right
      ∙ ap (λ e. (let u : Worked = record { table = v.table; right = v.right; exponents = e } in u)) exponents

  -- what is in its bound with some exponents is so with all
  entry_fits : (e f : ℕ → ℤ) → AreExponents n t.entry e → AreExponents n t.entry f → (i j : ℕ) → i < n → j ≤ i → EntryFits t.entry e i j → EntryFits t.entry f i j
  entry_fits e f a b i j row lower fits = subst (λ w. size w ≤ 2 ^ 61) (entry_moves e f a b i j row (omega arith)) fits

  right_fits : (e f : ℕ → ℤ) → AreExponents n t.entry e → AreExponents n t.entry f → (i : ℕ) → i < n → RightFits t.right e i → RightFits t.right f i
  right_fits e f a b i row fits = subst (λ w. size w ≤ 10 ^ 37) (right_moves e f a b i row) fits

  -- the first past its bound, with these exponents
  abbrev IsPastBy : (ℕ → ℤ) → ℕ → ℕ → Type 0
  IsPastBy e row col = IsFirstLowerFailure n (EntryFits t.entry e) row col ⊎ ((row ≡ col) × HoldsLower n (EntryFits t.entry e) × IsFirstFailure n (RightFits t.right e) row)

  past_by : (row col : ℕ) → IsFirstPast n t row col → (f : ℕ → ℤ) → AreExponents n t.entry f → IsPastBy f row col
  past_by row col a f are =
      elim a.first [
        | inl h ↦ inl (first_lower_failure_moves n (EntryFits t.entry a.e) (EntryFits t.entry f) row col (entry_fits a.e f a.exponents are) (entry_fits f a.e are a.exponents) h)
        | inr h ↦ inr (
          h.0,
          λ i j within lower. entry_fits a.e f a.exponents are i j within lower (h.1 i j within lower),
          first_failure_moves n (RightFits t.right a.e) (RightFits t.right f) row (right_fits a.e f a.exponents are) (right_fits f a.e are a.exponents) h.2,
        )
      ]

  past_by_fails : (f : ℕ → ℤ) (row col : ℕ) → HoldsLower n (EntryFits t.entry f) → HoldsBelow n (RightFits t.right f) → IsPastBy f row col → ⊥
  past_by_fails f row col entries rights a =
      elim a [
        | inl h ↦ first_lower_failure_fails n (EntryFits t.entry f) row col entries h
        | inr h ↦ first_failure_fails n (RightFits t.right f) row rights h.2
      ]

  past_by_is_one : (f : ℕ → ℤ) (i j k l : ℕ) → IsPastBy f i j → IsPastBy f k l → (i ≡ k) × (j ≡ l)
  past_by_is_one f i j k l a b =
      elim a [
        | inl h ↦
            elim b [
              | inl g ↦ first_lower_failure_is_one n (EntryFits t.entry f) i j k l h g
              | inr g ↦ absurd (first_lower_failure_fails n (EntryFits t.entry f) i j g.1 h)
            ]
        | inr h ↦
            elim b [
              | inl g ↦ absurd (first_lower_failure_fails n (EntryFits t.entry f) k l h.1 g)
              | inr g ↦ let e = first_failure_is_one n (RightFits t.right f) i k h.2 g.2 in (e, sym h.0 ∙ e ∙ g.0)
            ]
      ]

  worked_not_past : (w : Worked) (row col : ℕ) → IsWorkedOf n t w → IsFirstPast n t row col → ⊥
  worked_not_past w row col a b = past_by_fails (exponent_of w.exponents) row col a.entries_fit a.rights_fit (past_by row col b (exponent_of w.exponents) a.working.exponents)

  pub working_is_one : IsOne (IsWorkingStep n t)
  working_is_one (Ok w) (Ok v) a b = ap Ok (worked_alone w v a b)
  working_is_one (Ok w) (Err (equil.Range k l)) a b = absurd (worked_not_past w k l a b)
  working_is_one (Ok w) (Err equil.Memory) a b = absurd b
  working_is_one (Err (equil.Range i j)) (Ok v) a b = absurd (worked_not_past v i j b a)
  working_is_one (Err (equil.Range i j)) (Err (equil.Range k l)) a b = let e = past_by_is_one b.e i j k l (past_by i j a b.e b.exponents) (past_by k l b b.e b.exponents) in let f : i ≡ k = e.0 in let g : j ≡ l = e.1 in cc
  working_is_one (Err (equil.Range i j)) (Err equil.Memory) a b = absurd b
  working_is_one (Err equil.Memory) r a b = absurd a

-- ---- the pilot
module _ (n : ℕ) (m : ℕ → ℕ → ℤ) where
  pub pilot_is_one : IsOne (IsPilotStep n m)
  pilot_is_one (Ok p) (Ok q) a b =
      ap Ok (equal_square n p q a.pilot.size b.pilot.size a.square b.square (pilot_alone n m p q a.pilot b.pilot) (pilot_entries_alone n m p q a.pilot b.pilot))
  pilot_is_one (Ok p) (Err (pilot.Pivot k)) a b = absurd (no_pivot n m p k a.pilot b)
  pilot_is_one (Ok p) (Err (pilot.Condition k)) a b = absurd (no_condition n m p k a.pilot b)
  pilot_is_one (Ok p) (Err pilot.Memory) a b = absurd b
  pilot_is_one (Err (pilot.Pivot i)) (Ok q) a b = absurd (no_pivot n m q i b.pilot a)
  pilot_is_one (Err (pilot.Pivot i)) (Err (pilot.Pivot k)) a b = ap (λ x. Err (pilot.Pivot x)) (pivot_alone n m i k a b)
  pilot_is_one (Err (pilot.Pivot i)) (Err (pilot.Condition k)) a b = absurd (condition_no_pivot n m k i b a)
  pilot_is_one (Err (pilot.Pivot i)) (Err pilot.Memory) a b = absurd b
  pilot_is_one (Err (pilot.Condition i)) (Ok q) a b = absurd (no_condition n m q i b.pilot a)
  pilot_is_one (Err (pilot.Condition i)) (Err (pilot.Pivot k)) a b = absurd (condition_no_pivot n m i k a b)
  pilot_is_one (Err (pilot.Condition i)) (Err (pilot.Condition k)) a b = ap (λ x. Err (pilot.Condition x)) (condition_alone n m i k a b)
  pilot_is_one (Err (pilot.Condition i)) (Err pilot.Memory) a b = absurd b
  pilot_is_one (Err pilot.Memory) r a b = absurd a

-- ---- the start vector
module _ (n : ℕ) (t : Table) (p : PilotTable) where
  pub vector_is_one : IsOne (IsVectorStep n t p)
  vector_is_one (Ok y) (Ok z) a b = ap Ok (equal_lists (pos 0) n y z a.len b.len (start_same n t p (at y) (at z) a.vector b.vector))
  vector_is_one (Ok y) (Err (vector.Range k)) a b = absurd (start_no_range n t p (at y) k a.vector b)
  vector_is_one (Ok y) (Err vector.Memory) a b = absurd b
  vector_is_one (Err (vector.Range i)) (Ok z) a b = absurd (start_no_range n t p (at z) i b.vector a)
  vector_is_one (Err (vector.Range i)) (Err (vector.Range k)) a b = ap (λ x. Err (vector.Range x)) (range_alone n t p i k a b)
  vector_is_one (Err (vector.Range i)) (Err vector.Memory) a b = absurd b
  vector_is_one (Err vector.Memory) r a b = absurd a

-- ---- the certificate
same_certificate : (v u : Radius) → v.b ≡ u.b → v.m ≡ u.m → v.w.items ≡ u.w.items → certificate_of v ≡ certificate_of u
same_certificate v u parts error radii =
    ap (λ b. (let c : Certificate = record { parts = b; error = v.m; radii = v.w.items } in c)) parts
    ∙ ap (λ m. (let c : Certificate = record { parts = u.b; error = m; radii = v.w.items } in c)) error
    ∙ ap (λ r. (let c : Certificate = record { parts = u.b; error = u.m; radii = r } in c)) radii

module _ (n : ℕ) (t : Table) (p : PilotTable) (y : List ℤ) where
  certificate_alone : (v u : Radius) → IsCertified n t p (at y) v → IsCertified n t p (at y) u → certificate_of v ≡ certificate_of u
  certificate_alone v u a b =
      same_certificate v u
      (certified_parts n t p (at y) v u a b)
      (certified_error n t p (at y) v u a b)
      (certified_radii n t p (at y) v u a b)

  pub certificate_is_one : IsOne (IsCertificateStep n t p y)
  certificate_is_one (Ok c) (Ok d) a b = ap Ok (a.is ∙ certificate_alone a.radius b.radius a.certified b.certified ∙ sym b.is)
  certificate_is_one (Ok c) (Err (check.Residual k m)) a b = absurd (certified_no_residual n t p (at y) a.radius k m a.certified b)
  certificate_is_one (Ok c) (Err (check.Defect k m)) a b = absurd (certified_no_defect n t p (at y) a.radius k m a.certified b)
  certificate_is_one (Ok c) (Err check.Memory) a b = absurd b
  certificate_is_one (Err (check.Residual i l)) (Ok d) a b = absurd (certified_no_residual n t p (at y) b.radius i l b.certified a)
  certificate_is_one (Err (check.Residual i l)) (Err (check.Residual k m)) a b =
      let e : i ≡ k = residual_row n t p (at y) i l k m a b in
      let f : l ≡ m = residual_error n t p (at y) i l k m a b in
      cc
  certificate_is_one (Err (check.Residual i l)) (Err (check.Defect k m)) a b = absurd (residual_no_defect n t p (at y) i l k m a b)
  certificate_is_one (Err (check.Residual i l)) (Err check.Memory) a b = absurd b
  certificate_is_one (Err (check.Defect i l)) (Ok d) a b = absurd (certified_no_defect n t p (at y) b.radius i l b.certified a)
  certificate_is_one (Err (check.Defect i l)) (Err (check.Residual k m)) a b = absurd (residual_no_defect n t p (at y) k m i l b a)
  certificate_is_one (Err (check.Defect i l)) (Err (check.Defect k m)) a b =
      let e : i ≡ k = defect_row n t p (at y) i l k m a b in
      let f : l ≡ m = defect_parts n t p (at y) i l k m a b in
      cc
  certificate_is_one (Err (check.Defect i l)) (Err check.Memory) a b = absurd b
  certificate_is_one (Err check.Memory) r a b = absurd a
