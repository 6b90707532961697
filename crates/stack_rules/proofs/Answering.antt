-- What the calls of the steps answer is the answer of the rules.
use Rattle.std.proofs.Common.{◌≡◌, inl, inr, ℕ, ℤ, ◌+ℤ◌, List, Result, Ok, Err, refl, ap, subst}
use Rattle.stated_order.specs.Steps.{Then, Renamed}
use Rattle.stated_order.proofs.StepLaws.{then_gives}
use Rattle.whole_numbers.specs.Lists.{at}
use Rattle.sys_model.specs.Systems.{Table, Encloses}
use Rattle.equil.specs.declared.EquilError.{EquilError}
use Rattle.equil.specs.declared.EquilError.TheVariants as equil
use Rattle.equil.specs.Refusals.{IfRange}
use Rattle.equil.specs.Scaled.{CarriesSystems}
use Rattle.equil.specs.Tables.{IsFirstPast}
use Rattle.enclosures.specs.Pilots.{PilotTable}
use Rattle.enclosure_check.specs.Enclosures.{Enclosure, IsEnclosureStep}
use Rattle.enclosure_check.specs.Steps.{Worked, intervals_of, midpoints_of, IsWorkedOf, IsWorkingStep, radius_in}
use Rattle.enclosure_check.specs.declared.EncloseError.{EncloseError}
use Rattle.enclosure_check.specs.declared.EncloseError.TheVariants as enclose
use Rattle.enclosure_check.proofs.StepCalls as calls
use Rattle.enclosure_check.proofs.StepRefusals.{MemoryOr, renamed_or, stops_or, goes_or}
use Rattle.bounds_report.specs.declared.PrintError.{PrintError}
use Rattle.bounds_report.specs.declared.PrintError.TheVariants as print
use Rattle.bounds_report.specs.declared.numbers.Printed.{Printed}
use Rattle.bounds_report.specs.Bounds.{AreCertified}
use Rattle.bounds_report.specs.Printing.{ArePrinted, numbers_at}
use Rattle.bounds_report.specs.Refusals.{IsPrintRefused}
use Rattle.bounds_report.proofs.Law.{certified}
use Rattle.decimal_e.specs.Decimals.{Decimal}
use Rattle.stack_rules.specs.Refusals.{of_working, of_enclosure, of_printing}
use Rattle.stack_rules.specs.Rules.{power_of, IsPrintingStep, Numbers, numbers_from, IsAnswer, IsRefusedWith}
use Rattle.stack_rules.specs.Stacks.{Stack}
use Rattle.stack_rules.specs.declared.StackError.{StackError}
use Rattle.stack_rules.specs.declared.StackError.TheVariants.{Memory}

-- ---- the rules from each step on
abbrev FromPrinting : Stack → Worked → Enclosure → Result Numbers StackError → Type 0
FromPrinting s w e = Then (Renamed of_printing (IsPrintingStep s w e)) (λ rows answer. answer ≡ Ok (numbers_from e rows))

abbrev FromEnclosure : Stack → Worked → Result Numbers StackError → Type 0
FromEnclosure s w = Then (Renamed of_enclosure (IsEnclosureStep s.rows (intervals_of w) (midpoints_of w))) (FromPrinting s w)

-- ---- the working table
pub working_refused : (s : Stack) (x : EquilError) → IfRange (IsFirstPast s.rows s.table) x → IsRefusedWith s (of_working x)
working_refused s x h =
    stops_or Memory (Renamed of_working (IsWorkingStep s.rows s.table)) (FromEnclosure s) (of_working x)
    (renamed_or Memory of_working equil.Memory (IsWorkingStep s.rows s.table) x refl (calls.working_refused s.rows s.table x h))

-- ---- the steps after it, whose calls count the rows of the working table
module _ (s : Stack) (w : Worked) (is : IsWorkedOf s.rows s.table w) where
  abbrev EnclosureHere : Result Enclosure EncloseError → Type 0
  EnclosureHere = IsEnclosureStep s.rows (intervals_of w) (midpoints_of w)

  after_working : (r : Result Numbers StackError) → FromEnclosure s w r → IsAnswer s r
  after_working r h = then_gives _ _ w r is h

  pub enclosure_refused : (x : EncloseError) → MemoryOr enclose.Memory (IsEnclosureStep w.table.size (intervals_of w) (midpoints_of w)) x → IsRefusedWith s (of_enclosure x)
  enclosure_refused x h =
      let here : MemoryOr enclose.Memory EnclosureHere x = subst (λ n. MemoryOr enclose.Memory (IsEnclosureStep n (intervals_of w) (midpoints_of w)) x) is.size h in
      goes_or Memory (Renamed of_working (IsWorkingStep s.rows s.table)) (FromEnclosure s) w (of_enclosure x) is
      (stops_or Memory (Renamed of_enclosure EnclosureHere) (FromPrinting s w) (of_enclosure x) (renamed_or Memory of_enclosure enclose.Memory EnclosureHere x refl here))

  module _ (e : Enclosure) (encloses : IsEnclosureStep w.table.size (intervals_of w) (midpoints_of w) (Ok e)) where
    of_e : EnclosureHere (Ok e)
    of_e = subst (λ n. IsEnclosureStep n (intervals_of w) (midpoints_of w) (Ok e)) is.size encloses

    after_enclosure : (r : Result Numbers StackError) → FromPrinting s w e r → IsAnswer s r
    after_enclosure r h = after_working r (then_gives _ _ e r of_e h)

    print_stops : (x : PrintError) → IsPrintRefused s.rows (power_of s w) s.apriori (at e.vector) (radius_in e.certificate) x → MemoryOr print.Memory (IsPrintingStep s w e) x
    print_stops (print.Range row) h = inr h
    print_stops print.Memory h = inl refl

    pub print_refused : (x : PrintError) → IsPrintRefused w.table.size (power_of s w) s.apriori (at e.vector) (radius_in e.certificate) x → IsRefusedWith s (of_printing x)
    print_refused x h =
        let here = print_stops x (subst (λ n. IsPrintRefused n (power_of s w) s.apriori (at e.vector) (radius_in e.certificate) x) is.size h) in
        elim (stops_or Memory (Renamed of_printing (IsPrintingStep s w e)) (λ rows answer. answer ≡ Ok (numbers_from e rows)) (of_printing x) (renamed_or Memory of_printing print.Memory (IsPrintingStep s w e) x refl here)) [
          | inl memory ↦ inl memory
          | inr r ↦ inr (after_enclosure (Err (of_printing x)) r)
        ]

    pub answered : (rows : List Printed) → ArePrinted w.table.size (intervals_of w) e.pilot (power_of s w) s.apriori (at e.vector) (radius_in e.certificate) rows
        → (g : ℕ) → g ≡ e.pilot.g → IsAnswer s (Ok (record { g = g; parts = e.certificate.parts; error = e.certificate.error; rows = rows }))
    answered rows h g scale = after_enclosure _ (then_gives _ _ rows _
        (subst (λ n. ArePrinted n (intervals_of w) e.pilot (power_of s w) s.apriori (at e.vector) (radius_in e.certificate) rows) is.size h)
        (ap (λ k. Ok (record { g = k; parts = e.certificate.parts; error = e.certificate.error; rows = rows })) scale))

-- ---- what is printed is certified
pub certified_by : (n m : ℕ) (stack w : Table) (e t : ℕ → ℤ) (p : PilotTable) (x0 : ℕ → Decimal) (y z : List ℤ) (r : ℕ → ℕ) (ps : List Printed) → m ≡ n → z ≡ y
    → CarriesSystems n stack w e → Encloses m w (at z) r → ArePrinted m w p (λ i. e i +ℤ t i) x0 (at y) r ps → AreCertified n stack t x0 (numbers_at ps)
certified_by n m stack w e t p x0 y z r ps len same carries encloses printed =
    certified n stack w e t p x0 (at y) r ps carries
    (subst (λ k. Encloses k w (at y) r) len (subst (λ ys. Encloses m w (at ys) r) same encloses))
    (subst (λ k. ArePrinted k w p (λ i. e i +ℤ t i) x0 (at y) r ps) len printed)
