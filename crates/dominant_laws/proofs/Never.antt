-- A dominant working table is never refused.
use Rattle.std.proofs.Common.{◌≡◌, ◌⊎◌, inl, inr, ℕ, ℤ, List, Result, Ok, Err}
use Rattle.whole_numbers.specs.Intervals.{Interval}
use Rattle.whole_numbers.specs.Lists.{at}
use Rattle.sym_blocks.specs.Tables.{SymTable}
use Rattle.sys_model.specs.Systems.{Table}
use Rattle.equil.specs.Tables.{table_of}
use Rattle.chol_guess.specs.Midpoints.{midpoints}
use Rattle.chol_guess.specs.Pilots.{IsPilot}
use Rattle.chol_guess.specs.declared.PilotError.{PilotError}
use Rattle.chol_guess.specs.declared.PilotError.TheVariants as pilot
use Rattle.enclosures.specs.Pilots.{PilotTable}
use Rattle.enclosure_check.specs.Enclosures.{Enclosure, IsEnclosureBy, IsEnclosureStep}
use Rattle.enclosure_check.specs.Inputs.{IsWorkingTable}
use Rattle.enclosure_check.specs.Steps.{IsPilotStep, IsVectorStep, IsCertificateStep}
use Rattle.enclosure_check.specs.Vectors.{IsStartVector}
use Rattle.enclosure_check.specs.declared.VectorError.{VectorError}
use Rattle.enclosure_check.specs.declared.VectorError.TheVariants as vector
use Rattle.enclosure_check.specs.declared.CheckError.{CheckError}
use Rattle.enclosure_check.specs.declared.CheckError.TheVariants as check
use Rattle.enclosure_check.specs.declared.EncloseError.{EncloseError}
use Rattle.enclosure_check.specs.declared.EncloseError.TheVariants.{Memory}
use Rattle.dominant_laws.specs.Dominant.{IsDominant}
use Rattle.dominant_laws.specs.Refusals.{IsNeverRefused}
use Rattle.dominant_laws.proofs.NoPivot.{no_pivot_great}
use Rattle.dominant_laws.proofs.ColumnBounds.{no_condition_great}
use Rattle.dominant_laws.proofs.NarrowIntervals.{no_defect_great}
use Rattle.dominant_laws.proofs.Refinements.{no_range_great}
use Rattle.dominant_laws.proofs.Errors.{no_residual_great}
use Rattle.dominant_laws.proofs.DominantRows.{dominant_table}

-- the law, for the crates above: of a dominant table within the sizes of a working table no step is refused
pub dominant_never_refused : (a : SymTable) (d : List Interval) → IsWorkingTable a → IsDominant a.size (table_of a d) → IsNeverRefused a.size (table_of a d) (midpoints a)
dominant_never_refused a d working rows =
    let n = a.size in
    let t = table_of a d in
    let great = dominant_table a d working rows in
    record {
      pivot = λ row r. no_pivot_great n (midpoints a) row great.table r;
      condition = λ col r. no_condition_great n (midpoints a) col great.table r;
      range = λ p row is r. no_range_great n t p row great is r;
      residual = λ p y row error is start r. no_residual_great n t p y row error great is start r;
      defect = λ p y row parts is r. no_defect_great n t p y row parts great is r;
    }

-- ---- so there is no refusal of an enclosure
module _ (n : ℕ) (t : Table) (m : ℕ → ℕ → ℤ) (never : IsNeverRefused n t m) where
  pilot_stands : (fault : PilotError) → IsPilotStep n m (Err fault) → ⊥
  pilot_stands (pilot.Pivot row) h = never.pivot row h
  pilot_stands (pilot.Condition col) h = never.condition col h
  pilot_stands pilot.Memory h = h

  module _ (p : PilotTable) (is : IsPilot n m p) where
    vector_stands : (fault : VectorError) → IsVectorStep n t p (Err fault) → ⊥
    vector_stands (vector.Range row) h = never.range p row is h
    vector_stands vector.Memory h = h

    certificate_stands : (y : List ℤ) → IsStartVector n t p (at y) → (fault : CheckError) → IsCertificateStep n t p y (Err fault) → ⊥
    certificate_stands y start (check.Residual row size) h = never.residual p (at y) row size is start h
    certificate_stands y start (check.Defect row parts) h = never.defect p (at y) row parts is h
    certificate_stands y start check.Memory h = h

    pilot_encloses : (cause : EncloseError) → IsEnclosureBy n t p (Err cause) → ⊥
    pilot_encloses cause h =
        elim h [
          | inl on ↦ elim on.onward [
            | inl further ↦ no_answer further.onward
            | inr stops ↦ certificate_stands on.gives on.given.vector stops.refused.0 stops.refused.1
          ]
          | inr stops ↦ vector_stands stops.refused.0 stops.refused.1
        ]
      where
        no_answer : {e : Enclosure} → (let r : Result Enclosure EncloseError = Err cause in r ≡ Ok e) → ⊥
        no_answer equal = cc

  pub is_enclosed : (cause : EncloseError) → IsEnclosureStep n t m (Err cause) → ⊥
  is_enclosed cause h =
      elim h [
        | inl on ↦ pilot_encloses on.gives on.given.pilot cause on.onward.0
        | inr stops ↦ pilot_stands stops.refused.0 stops.refused.1
      ]

  -- want of memory alone is left of what `enclose` answers
  pub never_refused : (cause : EncloseError) → (cause ≡ Memory) ⊎ IsEnclosureStep n t m (Err cause) → cause ≡ Memory
  never_refused cause h = elim h [ inl memory ↦ memory | inr refused ↦ absurd (is_enclosed cause refused) ]
