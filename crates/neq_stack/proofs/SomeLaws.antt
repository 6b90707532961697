-- Where sound parts have a stack, some of them have one too.
use Rattle.std.proofs.Common.{◌≡◌, ◌≤◌, ◌∙◌, ◌^◌, ℕ, zero, suc, Bool, true, not, List, [], ◌∷◌, Option, Some, All, Contains, length, map, get_or, slice_get, refl, sym, ap, subst, arith}
use Rattle.std.specs.Prelude.{slice_index_or, unwrap_or}
use Rattle.std.specs.List.{Any, filter, list_any}
use Rattle.std.specs.Option.{option_map}
use Rattle.std.proofs.lemmas.List.{length-map, get_or-map}
use Rattle.std.proofs.lemmas.List.Filters.{length-filter_both}
use Rattle.std.proofs.lemmas.List.Folds.{Any-from_list_any, list_any-from_Any}
use Rattle.std.proofs.lemmas.List.Kept.{IsStrictlySortedBy-filter}
use Rattle.std.proofs.lemmas.Option.{same_Some, slice_get-map, slice_get_within, get_or_from_slice_get}
use Rattle.whole_numbers.specs.Intervals.{Interval}
use Rattle.sym_blocks.specs.Tables.{entry_at, zero_interval}
use Rattle.decimal_e.specs.Fractions.{IsAtMost}
use Rattle.param_ids.specs.Plain.{PlainId}
use Rattle.param_ids.specs.Order.{id_cmp}
use Rattle.param_ids.specs.Tables.{IsScale}
use Rattle.neq_stack.specs.Neqs.{PlainNeq, IsSound}
use Rattle.neq_stack.specs.ByName.{Parameter, HasParameter, entry_in, right_in}
use Rattle.neq_stack.specs.Stacks.{AreNamesOf, IsStackOf, SomeHaveStack, sum_of_intervals}
use Rattle.neq_stack.specs.Systems.{name_at, no_name}
use Rattle.neq_stack.proofs.AnyLaws.{any_member, any_weaker}
use Rattle.neq_stack.proofs.FewerLaws.{kept, passes, is_among, among, from_among}
use Rattle.neq_stack.proofs.NameLaws.{contained, some_place}
use Rattle.neq_stack.proofs.ParameterLaws.{StandsAt, has_there, some_stands, one_parameter, item_there}
use Rattle.neq_stack.proofs.PlacedLaws.{placed_stack, entry_sym}
use Rattle.neq_stack.proofs.TableLaws.{table_of, rows_length, table_read}

-- ---- lists
all_at : {X : Type 0} (P : X → Type 0) (xs : List X) (k : ℕ) (x : X) → All P xs → slice_get xs k ≡ Some x → P x
all_at P xs k x all is = subst P (get_or_from_slice_get xs k x x is) (all k x (slice_get_within xs k x is))

-- a list with a member for each that is given one
record AreChosen {X Y : Type 0} (P : X → Y → Type 0) (xs : List X) : Type 0 where
  chosen : List Y
  as_many : length chosen ≡ length xs
  each : (k : ℕ) (x : X) → slice_get xs k ≡ Some x → (y : Y) × (slice_get chosen k ≡ Some y) × P x y

one_more : {X Y : Type 0} (P : X → Y → Type 0) (x : X) (xs : List X) (y : Y) → P x y → AreChosen P xs → AreChosen P (x ∷ xs)
one_more {X = X} {Y = Y} P x xs y p rest = record { chosen = y ∷ rest.chosen; as_many = ap suc rest.as_many; each = at }
  where
    at : (k : ℕ) (z : X) → slice_get (x ∷ xs) k ≡ Some z → (w : Y) × (slice_get (y ∷ rest.chosen) k ≡ Some w) × P z w
    at zero z is = (y, refl, subst (λ v. P v y) (same_Some x z is) p)
    at (suc k) z is = rest.each k z is

choose : {X Y : Type 0} (P : X → Y → Type 0) (xs : List X) → ((k : ℕ) (x : X) → slice_get xs k ≡ Some x → (y : Y) × P x y) → AreChosen P xs
choose P [] given = record { chosen = []; as_many = refl; each = λ k x is. absurd (let within = slice_get_within [] k x is in omega arith) }
choose P (x ∷ xs) given = let first = given 0 x refl in one_more P x xs first.0 first.1 (choose P xs (λ k z is. given (suc k) z is))

-- what stands in a list of what the chosen ones have
module _ {X Y Z : Type 0} (P : X → Y → Type 0) (xs : List X) (made : AreChosen P xs) (g : Y → Z) where
  chosen_length : length (map g made.chosen) ≡ length xs
  chosen_length = length-map made.chosen g ∙ made.as_many

  chosen_at : (k : ℕ) (y : Y) → slice_get made.chosen k ≡ Some y → slice_get (map g made.chosen) k ≡ Some (g y)
  chosen_at k y is = slice_get-map g made.chosen k ∙ ap (option_map g) is

  all_chosen : (Q : Z → Type 0) → ((x : X) (y : Y) → P x y → Q (g y)) → All Q (map g made.chosen)
  all_chosen Q holds k d lt =
      let x = item_there xs k (omega (arith, chosen_length)) in
      let y = made.each k x.0 x.1 in
      subst Q (sym (get_or_from_slice_get (map g made.chosen) k (g y.0) d (chosen_at k y.0 y.1))) (holds x.0 y.0 y.2)

-- ---- some parts
module _ (parts some : List PlainNeq) (neq : PlainNeq) (all_sound : All IsSound parts) (of : IsStackOf parts neq) (within : All (Contains parts) some) where
  any_among : (P : PlainNeq → Type 0) → Any P some → Any P parts
  any_among P any = any_member P parts any.1 (subst (Contains parts) any.3 (within any.0 any.1 any.2)) any.4

  -- the names that some of them have
  has_name : PlainId → Bool
  has_name id = list_any (λ part. is_among part.names id) some

  names : List PlainId
  names = filter has_name neq.names

  from_names : (id : PlainId) → Contains names id → Any (λ part. Contains part.names id) some
  unfolding has_name names
  from_names id there =
      any_weaker (λ part. is_among part.names id ≡ true) (λ part. Contains part.names id) (λ part test. from_among part.names id test) some (Any-from_list_any (λ part. is_among part.names id) some (passes has_name neq.names id there))

  to_names : (id : PlainId) → Any (λ part. Contains part.names id) some → Contains names id
  unfolding has_name names
  to_names id any =
      kept has_name neq.names id ((of.names.same id).1 (any_among (λ part. Contains part.names id) any))
      (list_any-from_Any (λ part. is_among part.names id) some (any_weaker (λ part. Contains part.names id) (λ part. is_among part.names id ≡ true) (λ part there. among part.names id there) some any))

  names_are : AreNamesOf some names
  unfolding names
  names_are = record { rising = IsStrictlySortedBy-filter id_cmp has_name neq.names of.names.rising; same = λ id. (from_names id, to_names id) }

  few_names : length names ≤ 1000
  unfolding names
  few_names = omega (arith, of.sound.names.1, length-filter_both has_name (λ id. not (has_name id)) (λ id. refl) neq.names)

  -- each of these names has a parameter
  record IsGiven (id : PlainId) (p : Parameter) : Type 0 where
    by_part : Any (λ part. HasParameter part id p) some
    modest : IsAtMost (10 ^ 12) p.value
    scaled : IsScale p.exponent

  given : (k : ℕ) (id : PlainId) → slice_get names k ≡ Some id → (p : Parameter) × IsGiven id p
  given k id is =
      let any = from_names id (contained names k id is) in
      let part = any.1 in
      let sound = subst IsSound any.3 (let there = within any.0 part any.2 in subst IsSound there.2 (all_sound there.0 (get_or some any.0 part) there.1)) in
      let place = some_place part.names id any.4 in
      let p = some_stands part place.0 sound (slice_get_within part.names place.0 id place.1) in (
        p.0,
        record {
          by_part = (any.0, part, any.2, any.3, has_there part place.0 id p.0 place.1 p.1);
          modest = all_at (IsAtMost (10 ^ 12)) part.apriori place.0 p.0.value sound.modest p.1.value_is;
          scaled = all_at IsScale part.scales place.0 p.0.exponent sound.scaled p.1.exponent_is;
        },
      )

  parameters : AreChosen IsGiven names
  parameters = choose IsGiven names given

  one_given : (id : PlainId) (p q : Parameter) → Any (λ part. HasParameter part id p) some → Any (λ part. HasParameter part id q) some → p ≡ q
  one_given id p q first second =
      one_parameter neq id p q of.names.rising ((of.parameters id p).1 (any_among (λ part. HasParameter part id p) first)) ((of.parameters id q).1 (any_among (λ part. HasParameter part id q) second))

  -- the sums of their intervals
  entry_sum : PlainId → PlainId → Interval
  entry_sum one other = sum_of_intervals (map (λ part. entry_in part one other) some)

  right_sum : PlainId → Interval
  right_sum id = sum_of_intervals (map (λ part. right_in part id) some)

  entry_turned : (one other : PlainId) → entry_sum one other ≡ entry_sum other one
  unfolding entry_sum
  entry_turned one other = λ i. sum_of_intervals (map (λ part. entry_sym part one other i) some)

  entry_by_place : ℕ → ℕ → Interval
  entry_by_place i j = entry_sum (name_at names i) (name_at names j)

  stack : PlainNeq
  stack = record {
    names = names;
    table = table_of entry_by_place (length names);
    right = map right_sum names;
    apriori = map (λ (p : Parameter). p.value) parameters.chosen;
    units = map (λ (p : Parameter). p.unit) parameters.chosen;
    scales = map (λ (p : Parameter). p.exponent) parameters.chosen;
  }

  stack_sound : IsSound stack
  unfolding stack
  stack_sound = record {
    names = (names_are.rising, few_names);
    rows = refl;
    entries = rows_length entry_by_place (length names);
    rights = length-map names right_sum;
    values = chosen_length IsGiven names parameters (λ (p : Parameter). p.value);
    named_units = chosen_length IsGiven names parameters (λ (p : Parameter). p.unit);
    exponents = chosen_length IsGiven names parameters (λ (p : Parameter). p.exponent);
    modest = all_chosen IsGiven names parameters (λ (p : Parameter). p.value) (IsAtMost (10 ^ 12)) (λ id p h. h.modest);
    scaled = all_chosen IsGiven names parameters (λ (p : Parameter). p.exponent) IsScale (λ id p h. h.scaled);
  }

  stack_each : (k : ℕ) (id : PlainId) → slice_get names k ≡ Some id → (p : Parameter) × StandsAt stack k p × Any (λ part. HasParameter part id p) some
  unfolding stack
  stack_each k id is =
      let p = parameters.each k id is in (
        p.0,
        record {
          value_is = chosen_at IsGiven names parameters (λ (p : Parameter). p.value) k p.0 p.1;
          unit_is = chosen_at IsGiven names parameters (λ (p : Parameter). p.unit) k p.0 p.1;
          exponent_is = chosen_at IsGiven names parameters (λ (p : Parameter). p.exponent) k p.0 p.1;
        },
        p.2.by_part,
      )

  name_is : (k : ℕ) (id : PlainId) → slice_get names k ≡ Some id → name_at names k ≡ id
  name_is k id is = ap (λ (o : Option PlainId). unwrap_or o no_name) is

  stack_entries : (i j : ℕ) (a b : PlainId) → slice_get names i ≡ Some a → slice_get names j ≡ Some b → entry_at stack.table i j ≡ sum_of_intervals (map (λ part. entry_in part a b) some)
  unfolding stack entry_by_place entry_sum
  stack_entries i j a b row col =
      table_read entry_by_place (λ k l. entry_turned (name_at names k) (name_at names l)) (length names) i j (slice_get_within names i a row) (slice_get_within names j b col)
      ∙ ap (λ id. entry_sum id (name_at names j)) (name_is i a row)
      ∙ ap (λ id. entry_sum a id) (name_is j b col)

  stack_rights : (i : ℕ) (a : PlainId) → slice_get names i ≡ Some a → slice_index_or stack.right i zero_interval ≡ sum_of_intervals (map (λ part. right_in part a) some)
  unfolding stack right_sum
  stack_rights i a row = get_or-map right_sum names i a zero_interval (slice_get_within names i a row) ∙ ap right_sum (get_or_from_slice_get names i a a row)

  some_stacked : IsStackOf some stack
  unfolding stack
  some_stacked = placed_stack some stack (record { sound = stack_sound; names = names_are; one = one_given; each = stack_each; entries = stack_entries; rights = stack_rights })

pub some_have_stack : SomeHaveStack
some_have_stack parts some neq all_sound of within = (stack parts some neq all_sound of within, some_stacked parts some neq all_sound of within)
