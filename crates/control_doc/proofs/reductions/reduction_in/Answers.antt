use Rattle.std.proofs.Common.{◌≡◌, ◌∷◌, ℕ, List, [], Result, Err, map, codes, string_bytes, Bor, String, Vec, Global, subst, arith}
use Rattle.std.proofs.lemmas.Grind.{common_steps}
use Rattle.std.proofs.lemmas.Result.{err_from_is_err_and}
use Rattle.toml.specs.Data.{get_member}
use Rattle.toml.specs.View.{table_view}
use Rattle.param_ids.specs.Plain.{PlainId}
use Rattle.control_doc.specs.Control as spec
use Rattle.control_doc.specs.Faults.{and_then, or_fault, key_path}
use Rattle.control_doc.specs.Tables.{Entry, only_keys, there, texts_at, needed}
use Rattle.control_doc.specs.Texts.{place_text}
use Rattle.control_doc.specs.Views.{Answers, reduction_view}
use Rattle.control_doc.specs.declared.faults.ControlCause.TheVariants as causes
use Rattle.control_doc.specs.declared.faults.ControlError.{ControlError}
use Rattle.control_doc.specs.declared.plans.Place.{Place}
use Rattle.control_doc.specs.declared.plans.Reduction.{Reduction}
use Rattle.control_doc.proofs.Chain.{and_goes, and_stops}
use Rattle.control_doc.proofs.reductions.reduction_in.Goals as goal

abbrev see : List (Bor (List ℕ)) → List (List ℕ)
see texts = map (λ text. text.now) texts

pub returns-in_err-id : goal.returns-in_err-id
returns-in_err-id c =
    let e = c.in_err-id.field-0.0 in
    let refused : Result Reduction ControlError = Err e in
    let unnamed : Result PlainId ControlError = Err e in
    let members = table_view c.args.table.now in
    let entry : Entry = record { path = c.args.path.now; members = members } in
    let param = key_path c.args.path.now (codes "param") in
    let before = map reduction_view c.args.before.now in
    let seen : c.deref.result.now ≡ c.in_ok-texts.texts.items = grind (arith, common_steps) in
    let from = err_from_is_err_and c.from_residual-in_err-id.result c.from_residual-in_err-id.ensures.1 in
    let id_stops : Answers (λ (id : PlainId). id) (spec.Is (and_then (or_fault causes.Value param (spec.id_of (see c.in_ok-texts.texts.items))) (spec.new_id before param))) unnamed =
    subst (λ ts. Answers (λ (id : PlainId). id) (spec.Is (and_then (or_fault causes.Value param (spec.id_of (see ts))) (spec.new_id before param))) unnamed) seen c.in_err-id.ensures in
    let texts_stop = and_goes (λ (texts : Vec (Bor (List ℕ)) Global). see texts.items) (λ (id : PlainId). id) (and_then (there param (get_member (codes "param") members)) (texts_at param))
    (λ texts. and_then (or_fault causes.Value param (spec.id_of texts)) (spec.new_id before param)) c.in_ok-texts.texts unnamed c.in_ok-texts.ensures id_stops in
    rw (from.1, from.2)
    (and_goes (λ (x : Unit {0}). x) reduction_view (only_keys c.args.path.now (codes "at" ∷ codes "of" ∷ codes "param" ∷ []) members) _ c.in_ok-only_keys.field-0 refused c.in_ok-only_keys.ensures
    (and_goes (λ (x : Place). x) reduction_view (needed place_text c.args.path.now (codes "at") members) _ c.in_ok-place.place refused c.in_ok-place.ensures
    (and_goes (λ (x : String Global). string_bytes x) reduction_view (spec.of_text c.in_ok-place.place entry) _ c.in_ok-of.of refused c.in_ok-of.ensures
    (and_stops (λ (id : PlainId). id) reduction_view _ _ e texts_stop))))
