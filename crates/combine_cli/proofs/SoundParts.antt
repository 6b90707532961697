-- The parts of a stack are sound: what a part has of a parameter, the stack has.
use Rattle.std.proofs.Common.{◌≡◌, ◌∙◌, ◌++◌, ◌∷◌, ◌<◌, ◌^◌, ℕ, ℤ, zero, suc, inl, inr, List, [], length, get_or, map, slice_get, Some, Ok, refl, ap, sym, subst, arith}
use Rattle.std.proofs.lemmas.List.{length-map}
use Rattle.std.specs.Prelude.{All, Contains}
use Rattle.std.proofs.lemmas.Option.{slice_get-get_or, same_Some}
use Rattle.std.proofs.lemmas.List.Elements.{All-contains, All-contains_itself, All-head, All-tail, All-push, All-nil, All-cons, All-weaker}
use Rattle.stated_order.specs.Steps.{InTurn}
use Rattle.decimal_e.specs.Decimals.{Decimal}
use Rattle.decimal_e.specs.Fractions.{IsAtMost}
use Rattle.param_ids.specs.Plain.{PlainId}
use Rattle.param_ids.specs.Tables.{ScaleMap, IsScale}
use Rattle.snx_rows.specs.Named.{value_of}
use Rattle.snx_rows.specs.declared.rows.Row.{Row}
use Rattle.neq_stack.specs.Neqs.{PlainNeq, IsSound}
use Rattle.neq_stack.specs.ByName.{Parameter, HasParameter}
use Rattle.neq_stack.specs.Stacks.{IsStackOf}
use Rattle.file_recovery.proofs.MadeLaws.{IsMade, shifted_made, recovered_is_made}
use Rattle.run_inputs.specs.Inputs.{PlainInput}
use Rattle.combine_cli.specs.Combination.{Recovers, Shifts, Part, IsPart, AreParts}
use Rattle.combine_cli.proofs.EachLaws.{went_on}
use Rattle.combine_cli.specs.Parts.{neqs_of}

-- ---- normal equations of a file at the common values
part_made : (scales : ScaleMap) (base : List Row) (before : List Part) (input : PlainInput) (part : Part) → IsPart scales base before input (Ok part) → IsMade part.neq
part_made scales base before input part h =
    let f = went_on (Recovers input.plan scales input.doc) _ part h in
    let g = went_on (Shifts input.plan.name base f.gives) _ part f.onward in
    let is : part ≡ record { plan = input.plan; neq = g.gives } = let e = g.onward in cc in
    let made = recovered_is_made input.plan input.doc scales f.gives f.given in
    subst (λ (p : Part). IsMade p.neq) (sym is) (shifted_made (map (value_of base) f.gives.names) f.gives g.gives (length-map f.gives.names (value_of base)) made g.given)

abbrev PartMade : Part → Type 0
PartMade part = IsMade part.neq

made_from : (scales : ScaleMap) (base : List Row) (before : List Part) (inputs : List PlainInput) (parts : List Part) → All PartMade before → InTurn (IsPart scales base) before inputs (Ok parts) → All PartMade parts
made_from scales base before [] parts made h = let same : parts ≡ before = cc in subst (All PartMade) (sym same) made
made_from scales base before (input ∷ inputs) parts made h =
    let f = went_on (IsPart scales base before input) (λ part. InTurn (IsPart scales base) (before ++ part ∷ []) inputs) parts h in
    made_from scales base (before ++ f.gives ∷ []) inputs parts (All-push PartMade before f.gives made (part_made scales base before input f.gives f.given)) f.onward

pub neqs_made : (parts : List Part) → All PartMade parts → All IsMade (neqs_of parts)
neqs_made [] made = All-nil IsMade
neqs_made (part ∷ parts) made = All-cons IsMade part.neq (neqs_of parts) (All-head PartMade part parts made) (neqs_made parts (All-tail PartMade part parts made))

pub parts_made : (scales : ScaleMap) (base : List Row) (inputs : List PlainInput) (parts : List Part) → AreParts scales base inputs (Ok parts) → All IsMade (neqs_of parts)
parts_made scales base inputs parts h = neqs_made parts (made_from scales base [] inputs parts (All-nil PartMade) h)

-- ---- parts of a sound stack
at_place : {X : Type 0} (P : X → Type 0) (xs : List X) (k : ℕ) (x : X) → slice_get xs k ≡ Some x → All P xs → P x
at_place P [] k x e all = absurd (cc)
at_place P (y ∷ xs) zero x e all = subst P (same_Some y x e) (All-head P y xs all)
at_place P (y ∷ xs) (suc k) x e all = at_place P xs k x e (All-tail P y xs all)

some_at : {X : Type 0} (xs : List X) (k : ℕ) → k < length xs → (x : X) × (slice_get xs k ≡ Some x)
some_at [] k lt = absurd (omega arith)
some_at (x ∷ xs) zero lt = (x, refl)
some_at (x ∷ xs) (suc k) lt = some_at xs k (omega arith)

module _ (neq whole : PlainNeq) (made : IsMade neq) (sound : IsSound whole) (has : (id : PlainId) (parameter : Parameter) → HasParameter neq id parameter → HasParameter whole id parameter) where
  parameter_at : (k : ℕ) → k < length neq.names → (id : PlainId) × (parameter : Parameter) × HasParameter neq id parameter × (slice_get neq.apriori k ≡ Some parameter.value) × (slice_get neq.scales k ≡ Some parameter.exponent)
  parameter_at k lt =
      let id = some_at neq.names k lt in
      let value = some_at neq.apriori k (rw made.values lt) in
      let unit = some_at neq.units k (rw made.named_units lt) in
      let exponent = some_at neq.scales k (rw made.exponents lt) in
      let parameter : Parameter = record { value = value.0; unit = unit.0; exponent = exponent.0 } in
      (id.0, parameter, record { place = k; name = id.1; value_is = value.1; unit_is = unit.1; exponent_is = exponent.1 }, value.1, exponent.1)

  modest_at : (k : ℕ) (d : Decimal) → k < length neq.apriori → IsAtMost (10 ^ 12) (get_or neq.apriori k d)
  modest_at k d lt =
      let p = parameter_at k (rw made.values at lt) in
      let there = has p.0 p.1 p.2 in
      let same : p.1.value ≡ get_or neq.apriori k d = same_Some p.1.value (get_or neq.apriori k d) (sym p.3 ∙ slice_get-get_or neq.apriori k d lt) in
      subst (IsAtMost (10 ^ 12)) same (at_place (IsAtMost (10 ^ 12)) whole.apriori there.place p.1.value there.value_is sound.modest)

  scaled_at : (k : ℕ) (d : ℤ) → k < length neq.scales → IsScale (get_or neq.scales k d)
  scaled_at k d lt =
      let p = parameter_at k (rw made.exponents at lt) in
      let there = has p.0 p.1 p.2 in
      let same : p.1.exponent ≡ get_or neq.scales k d = same_Some p.1.exponent (get_or neq.scales k d) (sym p.4 ∙ slice_get-get_or neq.scales k d lt) in
      subst IsScale same (at_place IsScale whole.scales there.place p.1.exponent there.exponent_is sound.scaled)

  part_sound : IsSound neq
  part_sound = record {
    names = made.names;
    rows = made.rows;
    entries = made.entries;
    rights = made.rights;
    values = made.values;
    named_units = made.named_units;
    exponents = made.exponents;
    modest = modest_at;
    scaled = scaled_at;
  }

pub parts_sound : (neqs : List PlainNeq) (whole : PlainNeq) → All IsMade neqs → IsStackOf neqs whole → All IsSound neqs
parts_sound neqs whole made stack =
    All-weaker (Contains neqs) IsSound (λ neq there.
    part_sound neq whole (All-contains IsMade neqs neq made there) stack.sound (λ id parameter has. (stack.parameters id parameter).1 (there.0, neq, there.1, there.2, has))) neqs
    (All-contains_itself neqs)
