-- The stack of two parts.
use Rattle.std.proofs.Common.{◌≡◌, ◌<◌, ◌≤◌, ◌∙◌, ◌⊎◌, ◌^◌, inl, inr, ℕ, List, [], ◌∷◌, Option, Some, Contains, length, map, slice_get, slice_index_or, sym, ap, arith}
use Rattle.std.specs.List.{Any}
use Rattle.std.proofs.lemmas.Bool.{cases_lt}
use Rattle.std.proofs.lemmas.List.Elements.{Contains-append_cases, Contains-append_left, Contains-append_right}
use Rattle.std.proofs.lemmas.Option.{slice_get_within}
use Rattle.whole_numbers.specs.Intervals.{interval_add}
use Rattle.sym_blocks.specs.Tables.{entry_at, zero_interval}
use Rattle.sym_blocks.proofs.Rows.{entry_sym as table_sym}
use Rattle.decimal_e.specs.Fractions.{IsAtMost}
use Rattle.param_ids.specs.Plain.{PlainId}
use Rattle.param_ids.specs.Tables.{IsScale}
use Rattle.param_ids.specs.Union.{IsUnion}
use Rattle.neq_stack.specs.Neqs.{PlainNeq, IsSound}
use Rattle.neq_stack.specs.ByName.{Parameter, HasParameter, Agree, entry_in, right_in}
use Rattle.neq_stack.specs.Stacks.{AreNamesOf, IsStackOf, sum_of_intervals}
use Rattle.neq_stack.specs.Joining.{IsJoined, places_in, place_at, entry_by, right_by, HaveMany}
use Rattle.neq_stack.proofs.AnyLaws.{any_here, any_there, any_none, any_cases}
use Rattle.neq_stack.proofs.ParameterLaws.{StandsAt, has_there, some_stands, one_parameter, first_here, first_there, all_first}
use Rattle.neq_stack.proofs.PlaceLaws.{places_length, place_read, entry_read, right_read, one_has}
use Rattle.neq_stack.proofs.PlacedLaws.{placed_stack, entry_sym}
use Rattle.neq_stack.proofs.SumLaws.{sum_two}

-- what one of two has
any_of_two : (P : PlainNeq → Type 0) (one other : PlainNeq) → Any P (one ∷ other ∷ []) → P one ⊎ P other
any_of_two P one other h =
    elim (any_cases P one (other ∷ []) h) [
      | inl p ↦ inl p
      | inr t ↦ elim (any_cases P other [] t) [ inl p ↦ inr p | inr n ↦ absurd (any_none P n) ]
    ]

first_of_two : (P : PlainNeq → Type 0) (one other : PlainNeq) → P one → Any P (one ∷ other ∷ [])
first_of_two P one other p = any_here P one (other ∷ []) p

second_of_two : (P : PlainNeq → Type 0) (one other : PlainNeq) → P other → Any P (one ∷ other ∷ [])
second_of_two P one other p = any_there P one (other ∷ []) (any_here P other [] p)

-- the union has the names of two
pub union_names : (one other : PlainNeq) (ids : List PlainId) → IsUnion one.names other.names ids → AreNamesOf (one ∷ other ∷ []) ids
union_names one other ids union = record {
  rising = union.rising;
  same = λ id. (
    λ there. elim (Contains-append_cases one.names other.names id ((union.same id).0 there)) [
      | inl c ↦ first_of_two (λ part. Contains part.names id) one other c
      | inr c ↦ second_of_two (λ part. Contains part.names id) one other c
    ],
    λ any. (union.same id).1 (elim (any_of_two (λ part. Contains part.names id) one other any) [
      | inl c ↦ Contains-append_left one.names other.names id c
      | inr c ↦ Contains-append_right one.names other.names id c
    ]),
  );
}

pub union_many : (one other : PlainNeq) (ids : List PlainId) (count : ℕ) → IsUnion one.names other.names ids → 1000 < length ids → count ≡ length ids → HaveMany (one ∷ other ∷ []) count
union_many one other ids count union many is = record { names = ids; together = union_names one other ids union; count_is = is; many = omega arith }

module _ (one other neq : PlainNeq) (one_sound : IsSound one) (other_sound : IsSound other) (agree : Agree one other) (joined : IsJoined one other neq) where
  ones : List (Option ℕ)
  ones = places_in one neq.names

  others : List (Option ℕ)
  others = places_in other neq.names

  sound : IsSound neq
  unfolding ones others
  sound = record {
    names = (joined.union.rising, joined.few);
    rows = joined.rows;
    entries = joined.whole;
    rights = joined.right_length;
    values = joined.value_length;
    named_units = joined.unit_length;
    exponents = joined.scale_length;
    modest = all_first (IsAtMost (10 ^ 12)) one.apriori other.apriori neq.apriori ones others one_sound.modest other_sound.modest (joined.value_length ∙ sym (places_length one neq.names)) joined.values;
    scaled = all_first IsScale one.scales other.scales neq.scales ones others one_sound.scaled other_sound.scaled (joined.scale_length ∙ sym (places_length one neq.names)) joined.scales;
  }

  one_given : (id : PlainId) (p q : Parameter) → Any (λ part. HasParameter part id p) (one ∷ other ∷ []) → Any (λ part. HasParameter part id q) (one ∷ other ∷ []) → p ≡ q
  one_given id p q first second =
      elim (any_of_two (λ part. HasParameter part id p) one other first) [
        | inl h ↦ elim (any_of_two (λ part. HasParameter part id q) one other second) [
          | inl g ↦ one_parameter one id p q one_sound.names.0 h g
          | inr g ↦ agree id p q h g
        ]
        | inr h ↦ elim (any_of_two (λ part. HasParameter part id q) one other second) [
          | inl g ↦ sym (agree id q p g h)
          | inr g ↦ one_parameter other id p q other_sound.names.0 h g
        ]
      ]

  at_place : (k : ℕ) (id : PlainId) → slice_get neq.names k ≡ Some id → (p : Parameter) × StandsAt neq k p × Any (λ part. HasParameter part id p) (one ∷ other ∷ [])
  at_place k id is =
      let within : k < length (places_in one neq.names) = omega (arith, places_length one neq.names, slice_get_within neq.names k id is) in
      let at_one = place_read one neq.names k id is in
      let at_other = place_read other neq.names k id is in
      let here = place_at (places_in one neq.names) k in
      let there = place_at (places_in other neq.names) k in
      elim (one_has one other neq.names k id joined.union is) [
        | inl h ↦
            let p = some_stands one h.0 one_sound (slice_get_within one.names h.0 id h.1) in
            let at = at_one ∙ h.2 in (
              p.0,
              record {
                value_is = joined.values k within ∙ first_here one.apriori other.apriori here there h.0 p.0.value at p.1.value_is;
                unit_is = joined.units k within ∙ first_here one.units other.units here there h.0 p.0.unit at p.1.unit_is;
                exponent_is = joined.scales k within ∙ first_here one.scales other.scales here there h.0 p.0.exponent at p.1.exponent_is;
              },
              first_of_two (λ part. HasParameter part id p.0) one other (has_there one h.0 id p.0 h.1 p.1),
            )
        | inr h ↦
            let j = h.1.0 in
            let p = some_stands other j other_sound (slice_get_within other.names j id h.1.1) in
            let none = at_one ∙ h.0 in
            let at = at_other ∙ h.1.2 in (
              p.0,
              record {
                value_is = joined.values k within ∙ first_there one.apriori other.apriori here there j p.0.value none at p.1.value_is;
                unit_is = joined.units k within ∙ first_there one.units other.units here there j p.0.unit none at p.1.unit_is;
                exponent_is = joined.scales k within ∙ first_there one.scales other.scales here there j p.0.exponent none at p.1.exponent_is;
              },
              second_of_two (λ part. HasParameter part id p.0) one other (has_there other j id p.0 h.1.1 p.1),
            )
      ]

  lower_entry : (i j : ℕ) (a b : PlainId) → j ≤ i → slice_get neq.names i ≡ Some a → slice_get neq.names j ≡ Some b → entry_at neq.table i j ≡ interval_add (entry_in one a b) (entry_in other a b)
  lower_entry i j a b low row col =
      joined.entries i j (slice_get_within neq.names i a row) low
      ∙ ap (λ w. interval_add w (entry_by other.table (places_in other neq.names) i j)) (entry_read one neq.names i j a b row col)
      ∙ ap (λ w. interval_add (entry_in one a b) w) (entry_read other neq.names i j a b row col)

  entry : (i j : ℕ) (a b : PlainId) → slice_get neq.names i ≡ Some a → slice_get neq.names j ≡ Some b → entry_at neq.table i j ≡ sum_of_intervals (map (λ part. entry_in part a b) (one ∷ other ∷ []))
  entry i j a b row col =
      elim (cases_lt i j) [
        | inl above ↦
            table_sym neq.table i j ∙ lower_entry j i b a (omega arith) col row
            ∙ ap (λ w. interval_add w (entry_in other b a)) (entry_sym one b a) ∙ ap (λ w. interval_add (entry_in one a b) w) (entry_sym other b a) ∙ sym (sum_two (entry_in one a b) (entry_in other a b))
        | inr low ↦ lower_entry i j a b low row col ∙ sym (sum_two (entry_in one a b) (entry_in other a b))
      ]

  right : (i : ℕ) (a : PlainId) → slice_get neq.names i ≡ Some a → slice_index_or neq.right i zero_interval ≡ sum_of_intervals (map (λ part. right_in part a) (one ∷ other ∷ []))
  right i a row =
      joined.rights i (slice_get_within neq.names i a row)
      ∙ ap (λ w. interval_add w (right_by other.right (places_in other neq.names) i)) (right_read one neq.names i a row)
      ∙ ap (λ w. interval_add (right_in one a) w) (right_read other neq.names i a row)
      ∙ sym (sum_two (right_in one a) (right_in other a))

  pub pair_stacked : IsStackOf (one ∷ other ∷ []) neq
  pair_stacked = placed_stack (one ∷ other ∷ []) neq (record {
    sound = sound;
    names = union_names one other neq.names joined.union;
    one = one_given;
    each = at_place;
    entries = entry;
    rights = right;
  })
