-- One step and then the next, as a body with `?` shows it.
use Rattle.std.proofs.Common.{◌≡◌, ◌∙◌, ℕ, List, Result, Ok, Err, string_bytes, ap, sym, subst}
use Rattle.stated_order.specs.Steps.{Then}
use Rattle.stated_order.proofs.StepLaws.{then_gives, then_stops}
use Rattle.control_doc.specs.Control.{Is}
use Rattle.control_doc.specs.Faults.{PlainFault, fault, and_then}
use Rattle.control_doc.specs.Views.{Answers, IsFault, fault_view}
use Rattle.control_doc.specs.declared.faults.ControlCause.{ControlCause}
use Rattle.control_doc.specs.declared.faults.ControlError.{ControlError}
use Rattle.control_doc.specs.declared.faults.ControlError.TheVariants as errors

pub goes_on : {T X U Y : Type 0} (v : T → X) (w : U → Y) (first : Result X PlainFault → Type 0) (next : X → Result Y PlainFault → Type 0) (t : T) (r : Result U ControlError)
    → first (Ok (v t)) → Answers w (next (v t)) r → Answers w (Then first next) r
goes_on v w first next t (Ok u) given onward = then_gives first next (v t) (Ok (w u)) given onward
goes_on v w first next t (Err (errors.Fault fault)) given onward = then_gives first next (v t) (Err (fault_view fault)) given onward
goes_on v w first next t (Err errors.Memory) given onward = tt

pub stops : {T X U Y : Type 0} (v : T → X) (w : U → Y) (first : Result X PlainFault → Type 0) (next : X → Result Y PlainFault → Type 0) (e : ControlError)
    → Answers v first (let r : Result T ControlError = Err e in r) → Answers w (Then first next) (let r : Result U ControlError = Err e in r)
stops v w first next (errors.Fault fault) refused = then_stops first next (fault_view fault) refused
stops v w first next errors.Memory refused = tt

-- a fault that is the one that a definition says
pub faulty : {T X : Type 0} (v : T → X) (f : Result X PlainFault) (cause : ControlCause) (path : List ℕ) (e : ControlError) → f ≡ fault cause path → IsFault e cause path
    → Answers v (Is f) (let r : Result T ControlError = Err e in r)
faulty {X = X} v f cause path (errors.Fault x) is (c, p) =
    let make : ControlCause → List ℕ → Result X PlainFault = λ c p. Err (record { cause = c; path = p }) in
    ap (λ y. make y (string_bytes x.path)) c ∙ ap (make cause) p ∙ sym is
faulty v f cause path errors.Memory is h = tt

-- the same of steps that a function says
pub and_goes : {T X U Y : Type 0} (v : T → X) (w : U → Y) (f : Result X PlainFault) (next : X → Result Y PlainFault) (t : T) (r : Result U ControlError)
    → Is f (Ok (v t)) → Answers w (Is (next (v t))) r → Answers w (Is (and_then f next)) r
and_goes v w f next t r given onward = subst (λ g. Answers w (Is (and_then g next)) r) given onward

pub and_stops : {T X U Y : Type 0} (v : T → X) (w : U → Y) (f : Result X PlainFault) (next : X → Result Y PlainFault) (e : ControlError)
    → Answers v (Is f) (let r : Result T ControlError = Err e in r) → Answers w (Is (and_then f next)) (let r : Result U ControlError = Err e in r)
and_stops v w f next (errors.Fault fault) refused = ap (λ g. and_then g next) refused
and_stops v w f next errors.Memory refused = tt
