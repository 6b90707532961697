-- Decimals that are positive and short.
use Rattle.stated_order.proofs.StepLaws.{ok_same}
use Rattle.std.proofs.Common.{◌≡◌, ◌∙◌, ℕ, List, false, Option, Some, None, Result, Ok, Err, refl, sym, ap, subst, arith}
use Rattle.std.proofs.lemmas.Int.{ints}
use Rattle.decimal_e.specs.Decimals.{Decimal, IsCanonicalOf, IsBounded}
use Rattle.decimal_e.specs.Answers.{IsAnswer}
use Rattle.decimal_e.specs.declared.read.DecFault.{DecFault}
use Rattle.decimal_e.proofs.Values.{one_form}
use Rattle.toml.specs.Data.{Data, as_str}
use Rattle.control_doc.specs.Control.{one, is_positive_and_short, Is, IsDecimalIn, IsDecimalAt, IsSigma}
use Rattle.control_doc.specs.Faults.{or_fault}
use Rattle.control_doc.specs.Tables.{text_at}
use Rattle.control_doc.specs.Views.{Answers, IsFault}
use Rattle.control_doc.specs.declared.faults.ControlError.{ControlError}
use Rattle.control_doc.specs.declared.faults.ControlCause.TheVariants as causes
use Rattle.control_doc.proofs.Chain.{goes_on, stops, faulty}

-- a text whose decimal is not short has no other
pub not_short : (text : List ℕ) (d : Decimal) → ((other : Result Decimal DecFault) → IsAnswer text other → other ≡ Ok d) → is_positive_and_short d ≡ false → (e : Decimal) → IsAnswer text (Ok e) → is_positive_and_short e ≡ false
not_short text d only long e h = ap is_positive_and_short (ok_same e d (only (Ok e) h)) ∙ long

-- one that has a fault has no decimal
pub no_decimal : (text : List ℕ) (fault : DecFault) → ((other : Result Decimal DecFault) → IsAnswer text other → other ≡ Err fault) → (e : Decimal) → IsAnswer text (Ok e) → is_positive_and_short e ≡ false
no_decimal text fault only e h = let same = only (Ok e) h in cc

-- ---- the number one
one_canonical : IsCanonicalOf one one
one_canonical = record { same = record { same = refl }; canonical = record { zero = λ e. absurd (omega (arith, ints)); other = λ _ e. absurd (omega (arith, ints)) } }

pub one_is : (d : Decimal) → IsCanonicalOf d one → d ≡ one
one_is d h = one_form d one one h one_canonical

pub one_bounded : IsBounded one
one_bounded = record { mant = omega (arith, ints); low = omega (arith, ints); high = omega (arith, ints) }

pub one_not_none : (d : Decimal) → IsCanonicalOf d one → (IsBounded d → ⊥) → ⊥
one_not_none d form out = out (subst IsBounded (sym (one_is d form)) one_bounded)

-- ---- at a key
pub decimal_text : (path text : List ℕ) (given : Data) (r : Result Decimal ControlError) → as_str given ≡ Some text → Answers (λ d. d) (IsDecimalIn path text) r → Answers (λ d. d) (IsDecimalAt path given) r
decimal_text path text given r is h = goes_on (λ t. t) (λ d. d) (Is (text_at path given)) (IsDecimalIn path) text r (sym (ap (or_fault causes.Kind path) is)) h

pub decimal_kind : (path : List ℕ) (given : Data) (e : ControlError) → as_str given ≡ None → IsFault e causes.Kind path → Answers (λ d. d) (IsDecimalAt path given) (let r : Result Decimal ControlError = Err e in r)
decimal_kind path given e is h = stops (λ (t : List ℕ). t) (λ (d : Decimal). d) (Is (text_at path given)) (IsDecimalIn path) e (faulty (λ (t : List ℕ). t) (text_at path given) causes.Kind path e (ap (or_fault causes.Kind path) is) h)

pub sigma_given : (path : List ℕ) (given : Data) (d : Decimal) → Answers (λ d. d) (IsDecimalAt path given) (let r : Result Decimal ControlError = Ok d in r) → Answers (λ s. s) (IsSigma path (Some given)) (let r : Result (Option Decimal) ControlError = Ok (Some d) in r)
sigma_given path given d h = goes_on (λ (d : Decimal). d) (λ (s : Option Decimal). s) (IsDecimalAt path given) (λ d r. r ≡ Ok (Some d)) d (Ok (Some d)) h refl

pub sigma_refused : (path : List ℕ) (given : Data) (e : ControlError) → Answers (λ d. d) (IsDecimalAt path given) (let r : Result Decimal ControlError = Err e in r) → Answers (λ s. s) (IsSigma path (Some given)) (let r : Result (Option Decimal) ControlError = Err e in r)
sigma_refused path given e h = stops (λ (d : Decimal). d) (λ (s : Option Decimal). s) (IsDecimalAt path given) (λ d r. r ≡ Ok (Some d)) e h
