-- The parts of files at common values agree on their parameters.
use Rattle.std.proofs.Common.{◌≡◌, ◌∷◌, ◌++◌, ◌*◌, ◌^◌, ◌∙◌, ℕ, ℤ, zero, suc, List, [], length, map, slice_get, Option, Some, Ok, refl, sym, ap, subst, arith, codes}
use Rattle.std.specs.Prelude.{All, Contains}
use Rattle.std.specs.List.{filter, flat_map}
use Rattle.std.specs.Net.Reader.{map_or}
use Rattle.std.specs.Option.{option_map}
use Rattle.std.proofs.lemmas.List.Concat.{flat_map-cons}
use Rattle.std.proofs.lemmas.List.Elements.{All-nil, All-cons, Contains-append_left, Contains-append_right}
use Rattle.std.proofs.lemmas.Option.{same_Some, slice_get-map}
use Rattle.stated_order.specs.Lists.{AreEach}
use Rattle.decimal_e.specs.Decimals.{Decimal}
use Rattle.param_ids.specs.Plain.{PlainId}
use Rattle.param_ids.specs.Tables.{ScaleMap}
use Rattle.snx_rows.specs.Named.{value_of}
use Rattle.snx_rows.specs.declared.rows.Row.{Row}
use Rattle.neq_stack.specs.Neqs.{PlainNeq, IsSound}
use Rattle.neq_stack.specs.ByName.{Parameter, HasParameter, AllAgree, AreAtMost}
use Rattle.named_tables.specs.Weighted.{scale_of}
use Rattle.recover_solution.proofs.MovingLaws.{Keeps, shift_keeps}
use Rattle.file_recovery.specs.Recovery.{IsParameterOf}
use Rattle.file_recovery.proofs.RecoveryLaws.{IsKnownAs, known_by, parameters_are}
use Rattle.run_inputs.specs.Inputs.{PlainInput}
use Rattle.combine_cli.specs.Combination.{apriori_rows, is_reference, counted_rows, HaveCommon, Part}
use Rattle.combine_cli.specs.Parts.{neqs_of, IsPartOf}
use Rattle.combine_cli.proofs.Equal.{equal_unit}
use Rattle.combine_cli.proofs.FileRows.{later, found_row}

-- ---- members
in_flat : {X A : Type 0} (f : X → List A) (xs : List X) (x : X) (a : A) → Contains xs x → Contains (f x) a → Contains (flat_map f xs) a
in_flat f [] x a (k, lt, e) there = absurd (omega arith)
in_flat f (y ∷ xs) x a (zero, lt, e) there =
    let here : Contains (f y) a = subst (λ z. Contains (f z) a) (sym e) there in
    subst (λ l. Contains l a) (sym (flat_map-cons f y xs)) (Contains-append_left (f y) (flat_map f xs) a here)
in_flat f (y ∷ xs) x a (suc k, lt, e) there =
    subst (λ l. Contains l a) (sym (flat_map-cons f y xs)) (Contains-append_right (f y) (flat_map f xs) a (in_flat f xs x a (k, omega arith, e) there))

-- a row of a file is among those that count
counted_row : (reference : List ℕ) (inputs : List PlainInput) (input : PlainInput) (row : Row) → Contains inputs input → Contains (apriori_rows input.doc.apriori) row → Contains (counted_rows reference inputs) row
counted_row reference inputs input row there here =
    in_flat (λ (input : PlainInput). apriori_rows input.doc.apriori) (filter (is_reference reference) inputs ++ inputs) input row
    (Contains-append_right (filter (is_reference reference) inputs) inputs input there) here

-- ---- the parameters of a part
-- what a list of values by name has at a place
pub value_there : {X : Type 0} (f : PlainId → X) (names : List PlainId) (xs : List X) (k : ℕ) (id : PlainId) (x : X) → xs ≡ map f names → slice_get names k ≡ Some id → slice_get xs k ≡ Some x → x ≡ f id
value_there f names xs k id x are name is = same_Some x (f id) (sym is ∙ ap (λ l. slice_get l k) are ∙ slice_get-map f names k ∙ ap (option_map f) name)

-- the unit of a parameter stands on a row of its name, its value is the common one of the name, and its exponent is that of the name
record StandsAt (scales : ScaleMap) (base rows : List Row) (id : PlainId) (parameter : Parameter) : Type 0 where
  row : Row
  there : Contains rows row
  name : row.id ≡ id
  unit : parameter.unit ≡ row.unit
  value : parameter.value ≡ value_of base id
  exponent : parameter.exponent ≡ scale_of scales id

-- the unit of a parameter of recovered normal equations stands on a row of its name
record HasUnit (rows : List Row) (id : PlainId) (unit : List ℕ) : Type 0 where
  row : Row
  there : Contains rows row
  name : row.id ≡ id
  is : unit ≡ row.unit

unit_of_parameter : (scales : ScaleMap) (apriori : List Row) (id : PlainId) (parameter : Parameter) → IsParameterOf apriori scales id parameter → HasUnit apriori id parameter.unit
unit_of_parameter scales apriori id parameter is =
    let found = found_row apriori id is.row is.known in
    record { row = is.row; there = found.0; name = found.1; is = is.unit_is ∙ ap (λ (o : Option Row). map_or o (codes "    ") (λ (r : Row). r.unit)) is.known }

module _ (scales : ScaleMap) (base : List Row) (input : PlainInput) (part : Part) (is : IsPartOf scales base input part) where
  kept : Keeps (map (value_of base) is.recovered.names) is.recovered part.neq
  kept = shift_keeps (map (value_of base) is.recovered.names) is.recovered part.neq is.shifts

  own : IsKnownAs input.plan input.doc scales is.recovered
  own = known_by input.plan input.doc scales is.recovered is.recovers

  -- what a part has of a parameter at the common values, its recovered normal equations have at the file's own
  before_shift : (id : PlainId) (p : Parameter) → HasParameter part.neq id p → (value : Decimal) × HasParameter is.recovered id (record { value = value; unit = p.unit; exponent = p.exponent })
  before_shift id p has =
      let name : slice_get is.recovered.names has.place ≡ Some id = subst (λ (l : List PlainId). slice_get l has.place ≡ Some id) kept.names has.name in (
        value_of own.apriori id,
        record {
          place = has.place;
          name = name;
          value_is = ap (λ l. slice_get l has.place) own.values ∙ slice_get-map (value_of own.apriori) is.recovered.names has.place ∙ ap (option_map (value_of own.apriori)) name;
          unit_is = subst (λ (l : List (List ℕ)). slice_get l has.place ≡ Some p.unit) kept.units has.unit_is;
          exponent_is = subst (λ (l : List ℤ). slice_get l has.place ≡ Some p.exponent) kept.scales has.exponent_is;
        },
      )

  part_unit : (id : PlainId) (p : Parameter) → HasParameter part.neq id p → HasUnit (apriori_rows input.doc.apriori) id p.unit
  part_unit id p has =
      let before = before_shift id p has in
      let q : Parameter = record { value = before.0; unit = p.unit; exponent = p.exponent } in
      let of = parameters_are input.plan input.doc scales own.apriori is.recovered id q own.has is.recovers before.1 in
      subst (λ (rows : List Row). HasUnit rows id p.unit) (sym (ap apriori_rows own.has)) (unit_of_parameter scales own.apriori id q of)

  part_parameter : (id : PlainId) (p : Parameter) → HasParameter part.neq id p → StandsAt scales base (apriori_rows input.doc.apriori) id p
  part_parameter id p has =
      let unit = part_unit id p has in
      let are : part.neq.apriori ≡ map (value_of base) part.neq.names = kept.values_are ∙ ap (map (value_of base)) (sym kept.names) in
      record {
        row = unit.row;
        there = unit.there;
        name = unit.name;
        unit = unit.is;
        value = value_there (value_of base) part.neq.names part.neq.apriori has.place id p.value are has.name has.value_is;
        exponent = value_there (scale_of scales) part.neq.names part.neq.scales has.place id p.exponent is.exponents has.name has.exponent_is;
      }

-- ---- two parts
same_parameter : (p q : Parameter) → p.value ≡ q.value → p.unit ≡ q.unit → p.exponent ≡ q.exponent → p ≡ q
same_parameter p q value unit exponent = λ i. record { value = value i; unit = unit i; exponent = exponent i }

-- the file of a part's normal equations
record HasOwner (scales : ScaleMap) (base : List Row) (inputs : List PlainInput) (neq : PlainNeq) : Type 0 where
  input : PlainInput
  there : Contains inputs input
  part : Part
  is : IsPartOf scales base input part
  neq_is : part.neq ≡ neq

module _ (scales : ScaleMap) (base : List Row) where
  owner_later : (first : PlainInput) (inputs : List PlainInput) (neq : PlainNeq) → HasOwner scales base inputs neq → HasOwner scales base (first ∷ inputs) neq
  owner_later first inputs neq o = record { input = o.input; there = later first inputs o.input o.there; part = o.part; is = o.is; neq_is = o.neq_is }

  owner : (inputs : List PlainInput) (parts : List Part) (neq : PlainNeq) → AreEach (IsPartOf scales base) inputs parts → Contains (neqs_of parts) neq → HasOwner scales base inputs neq
  owner [] [] neq each (k, lt, e) = absurd (omega arith)
  owner [] (part ∷ parts) neq each there = absurd each
  owner (input ∷ inputs) [] neq each there = absurd each
  owner (input ∷ inputs) (part ∷ parts) neq each (zero, lt, e) = record { input = input; there = (0, omega arith, refl); part = part; is = each.0; neq_is = e }
  owner (input ∷ inputs) (part ∷ parts) neq each (suc k, lt, e) = owner_later input inputs neq (owner inputs parts neq each.1 (k, omega arith, e))

-- ---- all parts
module _ (reference : List ℕ) (scales : ScaleMap) (base : List Row) (inputs : List PlainInput) (common : HaveCommon reference inputs (Ok base)) where
  one_unit : (one other : PlainInput) (id : PlainId) (p q : Parameter) → Contains inputs one → Contains inputs other
      → StandsAt scales base (apriori_rows one.doc.apriori) id p → StandsAt scales base (apriori_rows other.doc.apriori) id q → p ≡ q
  one_unit one other id p q here there a b =
      let same : a.row.unit ≡ b.row.unit =
      equal_unit a.row.unit b.row.unit (λ apart.
      common.1 id (record { one = a.row; other = b.row; here = counted_row reference inputs one a.row here a.there; there = counted_row reference inputs other b.row there b.there; named = a.name; likewise = b.name; apart = apart })) in
      same_parameter p q (a.value ∙ sym b.value) (a.unit ∙ same ∙ sym b.unit) (a.exponent ∙ sym b.exponent)

  pub parts_agree : (parts : List Part) → AreEach (IsPartOf scales base) inputs parts → AllAgree (neqs_of parts)
  parts_agree parts each one other here there id p q a b =
      let o = owner scales base inputs parts one each here in
      let r = owner scales base inputs parts other each there in
      one_unit o.input r.input id p q o.there r.there (part_parameter scales base o.input o.part o.is id p (subst (λ (n : PlainNeq). HasParameter n id p) (sym o.neq_is) a))
      (part_parameter scales base r.input r.part r.is id q (subst (λ (n : PlainNeq). HasParameter n id q) (sym r.neq_is) b))

-- ---- what is known of all parts
module _ (scales : ScaleMap) (base : List Row) where
  pub parts_as_many : (inputs : List PlainInput) (parts : List Part) → AreEach (IsPartOf scales base) inputs parts → length parts ≡ length inputs
  parts_as_many [] [] each = refl
  parts_as_many [] (part ∷ parts) each = absurd each
  parts_as_many (input ∷ inputs) [] each = absurd each
  parts_as_many (input ∷ inputs) (part ∷ parts) each = ap suc (parts_as_many inputs parts each.1)

  pub parts_known : (inputs : List PlainInput) (parts : List Part) → AreEach (IsPartOf scales base) inputs parts → All IsSound (neqs_of parts) × All (AreAtMost (3 * 10 ^ 34)) (neqs_of parts)
  parts_known [] [] each = (All-nil IsSound, All-nil (AreAtMost (3 * 10 ^ 34)))
  parts_known [] (part ∷ parts) each = absurd each
  parts_known (input ∷ inputs) [] each = absurd each
  parts_known (input ∷ inputs) (part ∷ parts) each =
      let rest = parts_known inputs parts each.1 in
      (All-cons IsSound part.neq (neqs_of parts) each.0.sound rest.0, All-cons (AreAtMost (3 * 10 ^ 34)) part.neq (neqs_of parts) each.0.modest rest.1)
