-- What the calls answer is the step, and so is each refusal but want of memory.
use Rattle.std.proofs.Common.{◌≡◌, ◌≤◌, ◌<◌, ◌*◌, ◌^◌, ◌⊎◌, inl, inr, ℕ, ℤ, List, length, slice_index_or, Err, refl, ap, ◌∙◌, subst, arith}
use Rattle.whole_numbers.specs.Intervals.{size}
use Rattle.whole_numbers.specs.Lists.{at}
use Rattle.sym_blocks.specs.Tables.{entry_at, before, zero_interval}
use Rattle.sys_model.specs.Systems.{Table}
use Rattle.equil.specs.Refusals.{IfRange}
use Rattle.equil.specs.Tables.{exponent_of, IsWorking, IsFirstPast}
use Rattle.equil.specs.declared.EquilError.{EquilError}
use Rattle.equil.specs.declared.EquilError.TheVariants as equil
use Rattle.enclosures.specs.Pilots.{PilotTable}
use Rattle.enclosures.specs.declared.Radius.{Radius}
use Rattle.chol_guess.specs.Pilots.{IsPilot}
use Rattle.chol_guess.specs.Refusals.{IsRefused}
use Rattle.chol_guess.specs.declared.PilotError.{PilotError}
use Rattle.chol_guess.specs.declared.PilotError.TheVariants as pilot
use Rattle.enclosure_check.specs.Answers.{IsVectorRefused, IsCheckRefused}
use Rattle.enclosure_check.specs.Certificates.{IsCertified}
use Rattle.enclosure_check.specs.Steps.{Worked, intervals_of, IsWorkedOf, IsWorkingStep, IsPilotOf, IsPilotStep, IsVectorOf, IsVectorStep, certificate_of, IsCertificateOf, IsCertificateStep}
use Rattle.enclosure_check.specs.Vectors.{IsStartVector}
use Rattle.enclosure_check.specs.declared.VectorError.{VectorError}
use Rattle.enclosure_check.specs.declared.VectorError.TheVariants as vector
use Rattle.enclosure_check.specs.declared.CheckError.{CheckError}
use Rattle.enclosure_check.specs.declared.CheckError.TheVariants as check

-- ---- the working table
pub is_worked : (n : ℕ) (t : Table) (w : Worked) → w.table.size ≡ n → length w.table.entries ≡ before w.table.size → length w.right ≡ w.table.size → length w.exponents ≡ w.table.size
    → ((i j : ℕ) → i < w.table.size → j < w.table.size → size (entry_at w.table i j) ≤ 2 ^ 61) → ((i : ℕ) → i < w.table.size → size (slice_index_or w.right i zero_interval) ≤ 10 ^ 37)
    → IsWorking n t (intervals_of w) (exponent_of w.exponents) → IsWorkedOf n t w
is_worked n t w rows entries rights exponents entries_small right_small working = record {
  size = rows;
  entries = entries ∙ ap before rows;
  rights = rights ∙ rows;
  exponents = exponents ∙ rows;
  working = working;
  entries_fit = λ i j row lower. let column : j < n = omega arith in subst (λ v. size v ≤ 2 ^ 61) (working.entries i j row column) (entries_small i j (omega arith) (omega arith));
  rights_fit = λ i row. subst (λ v. size v ≤ 10 ^ 37) (working.rights i row) (right_small i (omega arith));
}

pub working_refused : (n : ℕ) (t : Table) (x : EquilError) → IfRange (IsFirstPast n t) x → (x ≡ equil.Memory) ⊎ IsWorkingStep n t (Err x)
working_refused n t (equil.Range row col) h = inr h
working_refused n t equil.Memory h = inl refl

-- ---- the steps after it, whose calls count the rows of the working table: there are k
module _ (n k : ℕ) (rows : k ≡ n) where
  -- ---- the pilot
  pub is_pilot : (m : ℕ → ℕ → ℤ) (p : PilotTable) → IsPilot k m p → length p.entries ≡ p.size * p.size → IsPilotOf n m p
  is_pilot m p h square =
      let same : p.size ≡ n = h.size ∙ rows in
      record {
        pilot = subst (λ x. IsPilot x m p) rows h;
        square = subst (λ x. length p.entries ≡ x * x) same square;
      }

  pilot_refused_by : (m : ℕ → ℕ → ℤ) (x : PilotError) → IsRefused n m x → (x ≡ pilot.Memory) ⊎ IsPilotStep n m (Err x)
  pilot_refused_by m (pilot.Pivot row) h = inr h
  pilot_refused_by m (pilot.Condition col) h = inr h
  pilot_refused_by m pilot.Memory h = inl refl

  pub pilot_refused : (m : ℕ → ℕ → ℤ) (x : PilotError) → IsRefused k m x → (x ≡ pilot.Memory) ⊎ IsPilotStep n m (Err x)
  pilot_refused m x h = pilot_refused_by m x (subst (λ y. IsRefused y m x) rows h)

  -- ---- the start vector
  pub is_vector : (t : Table) (p : PilotTable) (y : List ℤ) → length y ≡ k → IsStartVector k t p (at y) → IsVectorOf n t p y
  is_vector t p y len h = record { len = len ∙ rows; vector = subst (λ x. IsStartVector x t p (at y)) rows h }

  vector_refused_by : (t : Table) (p : PilotTable) (x : VectorError) → IsVectorRefused n t p x → (x ≡ vector.Memory) ⊎ IsVectorStep n t p (Err x)
  vector_refused_by t p (vector.Range row) h = inr h
  vector_refused_by t p vector.Memory h = inl refl

  pub vector_refused : (t : Table) (p : PilotTable) (x : VectorError) → IsVectorRefused k t p x → (x ≡ vector.Memory) ⊎ IsVectorStep n t p (Err x)
  vector_refused t p x h = vector_refused_by t p x (subst (λ y. IsVectorRefused y t p x) rows h)

  -- ---- the certificate
  pub is_certificate : (t : Table) (p : PilotTable) (y : List ℤ) (v : Radius) → IsCertified k t p (at y) v → IsCertificateOf n t p y (certificate_of v)
  is_certificate t p y v h = record { radius = v; certified = subst (λ x. IsCertified x t p (at y) v) rows h; is = refl }

  check_refused_by : (t : Table) (p : PilotTable) (y : List ℤ) (x : CheckError) → IsCheckRefused n t p (at y) x → (x ≡ check.Memory) ⊎ IsCertificateStep n t p y (Err x)
  check_refused_by t p y (check.Residual row size) h = inr h
  check_refused_by t p y (check.Defect row parts) h = inr h
  check_refused_by t p y check.Memory h = inl refl

  pub check_refused : (t : Table) (p : PilotTable) (y : List ℤ) (x : CheckError) → IsCheckRefused k t p (at y) x → (x ≡ check.Memory) ⊎ IsCertificateStep n t p y (Err x)
  check_refused t p y x h = check_refused_by t p y x (subst (λ z. IsCheckRefused z t p (at y) x) rows h)
