-- The text of a control file: UTF-8, then TOML, then its table.
use Rattle.std.proofs.Common.{◌≡◌, ◌∷◌, ◌+◌, ℕ, suc, List, [], Bool, true, false, if◌then◌else◌, Option, Some, None, Result, Ok, Err, refl, ap, sym, codes, arith}
use Rattle.std.specs.Str.{IsUtf8, is_utf8}
use Rattle.std.proofs.lemmas.Str.{IsUtf8-from_is_utf8, is_utf8-from_IsUtf8}
use Rattle.toml.specs.Data.{Members}
use Rattle.toml.specs.Parse.{parse_document}
use Rattle.control_doc.specs.Control.{Is, IsControl, IsControlOf, table_in, known_from, is_known}
use Rattle.control_doc.specs.Faults.{PlainFault, fault, or_fault, key_path, entry_path}
use Rattle.control_doc.specs.Plain.{PlainControl, PlainPlan, PlainReduction}
use Rattle.control_doc.specs.Views.{Answers, fault_view}
use Rattle.control_doc.specs.declared.faults.ControlCause.TheVariants as causes
use Rattle.control_doc.specs.declared.faults.ControlError.{ControlError}
use Rattle.control_doc.specs.declared.faults.ControlError.TheVariants as errors

pub table_is : (text : List ℕ) → IsUtf8 text → table_in text ≡ parse_document text
table_is text h = rw (is_utf8-from_IsUtf8 text h) refl

none_of : (text : List ℕ) (b : Bool) → is_utf8 text ≡ b → (IsUtf8 text → ⊥) → (if b then parse_document text else None) ≡ None
none_of text true e bad = absurd (bad (IsUtf8-from_is_utf8 text e))
none_of text false e bad = refl

pub table_none : (text : List ℕ) → (IsUtf8 text → ⊥) → table_in text ≡ None
table_none text bad = none_of text (is_utf8 text) refl bad

-- a control file without a table, and one with a table
pub read_stops : {T U : Type 0} (v : T → Members) (w : U → PlainControl) (o : Option Members) (e : ControlError)
    → Answers v (Is (or_fault causes.Syntax [] o)) (let r : Result T ControlError = Err e in r) → Answers w (IsControl o) (let r : Result U ControlError = Err e in r)
read_stops v w None (errors.Fault x) h = err_in (fault_view x) _ h
  where
    err_in : {X Y : Type 0} (a b : PlainFault) → (let r : Result X PlainFault = Err a in let s : Result X PlainFault = Err b in r ≡ s) → (let r : Result Y PlainFault = Err a in let s : Result Y PlainFault = Err b in r ≡ s)
    err_in {Y = Y} a b h = let e : a ≡ b = cc in ap (λ (z : PlainFault). let r : Result Y PlainFault = Err z in r) e
read_stops v w (Some top) (errors.Fault x) h = absurd (cc)
read_stops v w None errors.Memory h = tt
read_stops v w (Some top) errors.Memory h = tt

pub read_goes : {T U : Type 0} (v : T → Members) (w : U → PlainControl) (o : Option Members) (t : T) (r : Result U ControlError)
    → Is (or_fault causes.Syntax [] o) (Ok (v t)) → Answers w (IsControlOf (v t)) r → Answers w (IsControl o) r
read_goes v w None t r h onward = absurd (cc)
read_goes v w (Some top) t r h onward = let e : v t ≡ top = cc in rw (sym e) onward

-- reductions, one by one
pub known_more : (k : ℕ) (files : List PlainPlan) (x : PlainReduction) (rest : List PlainReduction) → is_known files x ≡ true → known_from k files (x ∷ rest) ≡ known_from (k + 1) files rest
known_more k files x rest is = let e : suc k ≡ k + 1 = omega arith in rw is (ap (λ j. known_from j files rest) e)

pub known_stops : (k : ℕ) (files : List PlainPlan) (x : PlainReduction) (rest : List PlainReduction) → is_known files x ≡ false
    → known_from k files (x ∷ rest) ≡ fault causes.Value (key_path (entry_path (codes "reduce") k) (codes "of"))
known_stops k files x rest is = rw is refl
