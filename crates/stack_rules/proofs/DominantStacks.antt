-- A dominant stack is refused where the numbers of a row can't be printed, and nowhere else.
use Rattle.std.proofs.Common.{◌≡◌, ◌≤◌, ◌<◌, ◌^◌, ◌∙◌, inl, inr, ℕ, Result, Ok, Err, arith, sym, subst}
use Rattle.std.proofs.Math.Decide.{dec_le}
use Rattle.stated_order.specs.Steps.{Then, Renamed}
use Rattle.stated_order.proofs.StepLaws.{ok_same, err_same}
use Rattle.whole_numbers.specs.Intervals.{size}
use Rattle.sym_blocks.specs.Tables.{entry_at}
use Rattle.sym_blocks.proofs.Rows.{entry_sym}
use Rattle.enclosure_check.specs.Enclosures.{Enclosure, IsEnclosureStep}
use Rattle.enclosure_check.specs.Inputs.{IsWorkingTable}
use Rattle.enclosure_check.specs.Steps.{Worked, intervals_of, midpoints_of, IsWorkedOf, IsWorkingStep}
use Rattle.enclosure_check.specs.declared.EncloseError.{EncloseError}
use Rattle.enclosure_check.proofs.AloneSteps.{working_is_one}
use Rattle.dominant_laws.specs.Dominant.{IsDominant}
use Rattle.dominant_laws.specs.Refusals.{IsNeverRefused}
use Rattle.dominant_laws.proofs.Never.{dominant_never_refused, is_enclosed}
use Rattle.equil.specs.declared.EquilError.{EquilError}
use Rattle.stack_rules.specs.Dominance.{IsDominantStack, IsRefusedInPrint, DominantAreEnclosed}
use Rattle.stack_rules.specs.Refusals.{of_enclosure, of_printing}
use Rattle.stack_rules.specs.Rules.{IsPrintingStep, Numbers, numbers_from}
use Rattle.stack_rules.specs.Stacks.{Stack}
use Rattle.stack_rules.specs.declared.StackError.{StackError}

-- ---- the working table of a stack
module _ (s : Stack) (is : IsDominantStack s) where
  abbrev w : Worked
  w = is.table

  lower_small : (i j : ℕ) → i < s.rows → j ≤ i → size (entry_at w.table i j) ≤ 2 ^ 61
  lower_small i j row l = let column : j < s.rows = omega arith in subst (λ v. size v ≤ 2 ^ 61) (sym (is.worked.working.entries i j row column)) (is.worked.entries_fit i j row l)

  each_small : (i j : ℕ) → i < w.table.size → j < w.table.size → size (entry_at w.table i j) ≤ 2 ^ 61
  each_small i j row column =
      let rows = is.worked.size in
      elim (dec_le j i) [
        | yes l ↦ lower_small i j (omega arith) l
        | no l ↦ subst (λ v. size v ≤ 2 ^ 61) (entry_sym w.table j i) (lower_small j i (omega arith) (omega arith))
      ]

  is_table : IsWorkingTable w.table
  is_table = let rows = is.worked.size in let few = is.few in record { few = omega arith; small = each_small }

  never : IsNeverRefused s.rows (intervals_of w) (midpoints_of w)
  never =
      subst (λ n. IsNeverRefused n (intervals_of w) (midpoints_of w)) is.worked.size
      (dominant_never_refused w.table w.right is_table (subst (λ n. IsDominant n (intervals_of w)) (sym is.worked.size) is.dominant))

  no_enclosure_refused : (fault : EncloseError) → IsEnclosureStep s.rows (intervals_of w) (midpoints_of w) (Err fault) → ⊥
  no_enclosure_refused fault h = is_enclosed s.rows (intervals_of w) (midpoints_of w) never fault h

  -- ---- what is left of the rules after it
  abbrev FromPrinting : Enclosure → Result Numbers StackError → Type 0
  FromPrinting e = Then (Renamed of_printing (IsPrintingStep s w e)) (λ rows answer. answer ≡ Ok (numbers_from e rows))

  abbrev FromEnclosure : Result Numbers StackError → Type 0
  FromEnclosure = Then (Renamed of_enclosure (IsEnclosureStep s.rows (intervals_of w) (midpoints_of w))) FromPrinting

  no_answer : (cause : StackError) (numbers : Numbers) → (let r : Result Numbers StackError = Err cause in r ≡ Ok numbers) → ⊥
  no_answer cause numbers equal = cc

  in_print : (cause : StackError) → FromEnclosure (Err cause) → IsRefusedInPrint s cause
  in_print cause h =
      elim h [
        | inl on ↦ elim on.onward [
          | inl further ↦ absurd (no_answer cause _ further.onward)
          | inr stops ↦ record {
            table = w;
            worked = is.worked;
            enclosure = on.gives;
            encloses = on.given;
            fault = stops.refused.0;
            printing = stops.refused.1;
            is_cause = err_same {X = Numbers} cause stops.cause stops.is_cause ∙ stops.refused.2;
          }
        ]
        | inr stops ↦ absurd (no_enclosure_refused stops.refused.0 stops.refused.1)
      ]

  same_worked : (v : Worked) → IsWorkedOf s.rows s.table v → v ≡ w
  same_worked v given = ok_same {E = EquilError} v w (working_is_one s.rows s.table (Ok v) (Ok w) given is.worked)

  not_past : (fault : EquilError) → IsWorkingStep s.rows s.table (Err fault) → ⊥
  not_past fault h =
      let ok : Result Worked EquilError = Ok w in
      let past : Result Worked EquilError = Err fault in
      let equal = working_is_one s.rows s.table ok past is.worked h in
      cc

pub dominant_are_enclosed : DominantAreEnclosed
dominant_are_enclosed s cause is h =
    elim h [
      | inl on ↦ in_print s is cause (subst (λ v. Then (Renamed of_enclosure (IsEnclosureStep s.rows (intervals_of v) (midpoints_of v))) (λ e. Then (Renamed of_printing (IsPrintingStep s v e)) (λ rows answer. answer ≡ Ok (numbers_from e rows))) (Err cause)) (same_worked s is on.gives on.given) on.onward)
      | inr stops ↦ absurd (not_past s is stops.refused.0 stops.refused.1)
    ]
