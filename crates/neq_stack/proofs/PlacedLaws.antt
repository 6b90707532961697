-- Normal equations whose places have the intervals and parameters of some parts are the stack of these.
use Rattle.std.proofs.Common.{◌≡◌, ◌<◌, ◌∙◌, inl, inr, ℕ, List, Option, Some, None, Contains, length, map, get_or, slice_get, slice_index_or, refl, sym, ap, subst}
use Rattle.std.specs.List.{Any}
use Rattle.std.proofs.lemmas.List.{get_or_default}
use Rattle.sym_blocks.specs.Tables.{SymTable, entry_at, zero_interval}
use Rattle.sym_blocks.proofs.Rows.{entry_sym as table_sym}
use Rattle.param_ids.specs.Plain.{PlainId}
use Rattle.neq_stack.specs.Neqs.{PlainNeq, IsSound}
use Rattle.neq_stack.specs.ByName.{Parameter, HasParameter, entry_in, right_in, entry_at_places, right_at_place, place_in}
use Rattle.neq_stack.specs.Stacks.{AreNamesOf, IsStackOf, sum_of_intervals}
use Rattle.neq_stack.proofs.AnyLaws.{any_weaker}
use Rattle.neq_stack.proofs.NameLaws.{place_cases, place_missing, some_place, contained}
use Rattle.neq_stack.proofs.ParameterLaws.{StandsAt, has_there, stands_there, one_stands}
use Rattle.neq_stack.proofs.SumLaws.{sum_of_zeros}

-- each place has the parameter of a part, and the sums of the parts' intervals
pub record IsPlaced (parts : List PlainNeq) (neq : PlainNeq) : Type 0 where
  pub sound : IsSound neq
  pub names : AreNamesOf parts neq.names
  pub one : (id : PlainId) (p q : Parameter) → Any (λ part. HasParameter part id p) parts → Any (λ part. HasParameter part id q) parts → p ≡ q
  pub each : (k : ℕ) (id : PlainId) → slice_get neq.names k ≡ Some id → (p : Parameter) × StandsAt neq k p × Any (λ part. HasParameter part id p) parts
  pub entries : (i j : ℕ) (a b : PlainId) → slice_get neq.names i ≡ Some a → slice_get neq.names j ≡ Some b → entry_at neq.table i j ≡ sum_of_intervals (map (λ part. entry_in part a b) parts)
  pub rights : (i : ℕ) (a : PlainId) → slice_get neq.names i ≡ Some a → slice_index_or neq.right i zero_interval ≡ sum_of_intervals (map (λ part. right_in part a) parts)

-- ---- names that are not there
pub no_row : (neq : PlainNeq) (one other : PlainId) → (Contains neq.names one → ⊥) → entry_in neq one other ≡ zero_interval
no_row neq one other none = ap (λ p. entry_at_places neq.table p (place_in neq.names other)) (place_missing neq.names one none)

empty_column : (table : SymTable) (p : Option ℕ) → entry_at_places table p None ≡ zero_interval
empty_column table None = refl
empty_column table (Some i) = refl

pub no_column : (neq : PlainNeq) (one other : PlainId) → (Contains neq.names other → ⊥) → entry_in neq one other ≡ zero_interval
no_column neq one other none = ap (λ p. entry_at_places neq.table (place_in neq.names one) p) (place_missing neq.names other none) ∙ empty_column neq.table (place_in neq.names one)

pub no_right : (neq : PlainNeq) (id : PlainId) → (Contains neq.names id → ⊥) → right_in neq id ≡ zero_interval
no_right neq id none = ap (λ p. right_at_place neq.right p) (place_missing neq.names id none)

-- ---- names that are there
pub entry_there : (neq : PlainNeq) (i j : ℕ) (one other : PlainId) → place_in neq.names one ≡ Some i → place_in neq.names other ≡ Some j → entry_in neq one other ≡ entry_at neq.table i j
entry_there neq i j one other row col = ap (λ p. entry_at_places neq.table p (place_in neq.names other)) row ∙ ap (λ p. entry_at_places neq.table (Some i) p) col

pub right_there : (neq : PlainNeq) (i : ℕ) (id : PlainId) → place_in neq.names id ≡ Some i → right_in neq id ≡ slice_index_or neq.right i zero_interval
right_there neq i id row = ap (λ p. right_at_place neq.right p) row

-- the order of two names does not matter
entry_turned : (table : SymTable) (p q : Option ℕ) → entry_at_places table p q ≡ entry_at_places table q p
entry_turned table None None = refl
entry_turned table None (Some j) = refl
entry_turned table (Some i) None = refl
entry_turned table (Some i) (Some j) = table_sym table i j

pub entry_sym : (neq : PlainNeq) (one other : PlainId) → entry_in neq one other ≡ entry_in neq other one
entry_sym neq one other = entry_turned neq.table (place_in neq.names one) (place_in neq.names other)

-- ---- no part has a name that the stack lacks
module _ (parts : List PlainNeq) (names : List PlainId) (of : AreNamesOf parts names) (id : PlainId) (none : Contains names id → ⊥) where
  lacking : (k : ℕ) (d : PlainNeq) → k < length parts → Contains (get_or parts k d).names id → ⊥
  lacking k d lt there = none ((of.same id).1 (k, get_or parts k d, lt, get_or_default parts k (get_or parts k d) d lt, there))

  pub no_rows : (other : PlainId) → sum_of_intervals (map (λ part. entry_in part id other) parts) ≡ zero_interval
  no_rows other = sum_of_zeros (λ part. entry_in part id other) parts (λ k d lt. no_row (get_or parts k d) id other (lacking k d lt))

  pub no_columns : (one : PlainId) → sum_of_intervals (map (λ part. entry_in part one id) parts) ≡ zero_interval
  no_columns one = sum_of_zeros (λ part. entry_in part one id) parts (λ k d lt. no_column (get_or parts k d) one id (lacking k d lt))

  pub no_rights : sum_of_intervals (map (λ part. right_in part id) parts) ≡ zero_interval
  no_rights = sum_of_zeros (λ part. right_in part id) parts (λ k d lt. no_right (get_or parts k d) id (lacking k d lt))

-- ---- the stack
module _ (parts : List PlainNeq) (neq : PlainNeq) (placed : IsPlaced parts neq) where
  parameter_given : (id : PlainId) (p : Parameter) → HasParameter neq id p → Any (λ part. HasParameter part id p) parts
  parameter_given id p h =
      let there = placed.each h.place id h.name in
      subst (λ (q : Parameter). Any (λ part. HasParameter part id q) parts) (one_stands neq h.place there.0 p there.1 (stands_there neq id p h)) there.2

  parameter_taken : (id : PlainId) (p : Parameter) → Any (λ part. HasParameter part id p) parts → HasParameter neq id p
  parameter_taken id p any =
      let named = any_weaker (λ part. HasParameter part id p) (λ part. Contains part.names id) (λ part h. contained part.names h.place id h.name) parts any in
      let place = some_place neq.names id ((placed.names.same id).1 named) in
      let there = placed.each place.0 id place.1 in
      subst (HasParameter neq id) (placed.one id there.0 p there.2 any) (has_there neq place.0 id there.0 place.1 there.1)

  entry_stacked : (one other : PlainId) → entry_in neq one other ≡ sum_of_intervals (map (λ part. entry_in part one other) parts)
  entry_stacked one other =
      elim (place_cases neq.names one) [
        | inl row ↦ elim (place_cases neq.names other) [
          | inl col ↦ entry_there neq row.0 col.0 one other row.2 col.2 ∙ placed.entries row.0 col.0 one other row.1 col.1
          | inr none ↦ no_column neq one other none.0 ∙ sym (no_columns parts neq.names placed.names other none.0 one)
        ]
        | inr none ↦ no_row neq one other none.0 ∙ sym (no_rows parts neq.names placed.names one none.0 other)
      ]

  right_stacked : (id : PlainId) → right_in neq id ≡ sum_of_intervals (map (λ part. right_in part id) parts)
  right_stacked id =
      elim (place_cases neq.names id) [
        | inl row ↦ right_there neq row.0 id row.2 ∙ placed.rights row.0 id row.1
        | inr none ↦ no_right neq id none.0 ∙ sym (no_rights parts neq.names placed.names id none.0)
      ]

  pub placed_stack : IsStackOf parts neq
  placed_stack = record {
    sound = placed.sound;
    names = placed.names;
    parameters = λ id p. (parameter_given id p, parameter_taken id p);
    entries = entry_stacked;
    rights = right_stacked;
  }
