-- Names among others.
use Rattle.std.proofs.Common.{◌≡◌, ◌≤◌, ◌∙◌, inl, inr, Bool, true, false, cond, not, List, [], ◌∷◌, Contains, length, get_or, refl, sym, ap, subst, arith}
use Rattle.std.specs.List.{Any, filter, list_any}
use Rattle.std.proofs.lemmas.List.Elements.{filter_passes}
use Rattle.std.proofs.lemmas.List.Filters.{length-filter_both}
use Rattle.std.proofs.lemmas.List.Folds.{Any-from_list_any, list_any_at}
use Rattle.std.proofs.lemmas.List.Kept.{IsStrictlySortedBy-filter}
use Rattle.param_ids.specs.Plain.{PlainId}
use Rattle.param_ids.specs.Order.{id_cmp, is_same_id, IsRising}
use Rattle.param_ids.proofs.SameIds.{itself, same_id}
use Rattle.param_ids.proofs.Unions.{one_rising}
use Rattle.neq_stack.proofs.AnyLaws.{any_here, any_there, any_none, any_cases}

-- ---- what passes a test
module _ {X : Type 0} (test : X → Bool) where
  kept_front : (x : X) (xs : List X) (y : X) (b : Bool) → test x ≡ b → y ≡ x → test y ≡ true → Any (λ z. z ≡ y) (cond b (x ∷ filter test xs) (filter test xs))
  kept_front x xs y true is same passes = any_here (λ z. z ≡ y) x (filter test xs) (sym same)
  kept_front x xs y false is same passes = absurd (let apart : true ≡ false = sym passes ∙ (ap test same ∙ is) in cc)

  kept_later : (x : X) (xs : List X) (y : X) (b : Bool) → Any (λ z. z ≡ y) (filter test xs) → Any (λ z. z ≡ y) (cond b (x ∷ filter test xs) (filter test xs))
  kept_later x xs y true any = any_there (λ z. z ≡ y) x (filter test xs) any
  kept_later x xs y false any = any

  any_kept : (xs : List X) (y : X) → Any (λ z. z ≡ y) xs → test y ≡ true → Any (λ z. z ≡ y) (filter test xs)
  any_kept [] y any passes = absurd (any_none (λ z. z ≡ y) any)
  any_kept (x ∷ xs) y any passes =
      elim (any_cases (λ z. z ≡ y) x xs any) [
        | inl same ↦ kept_front x xs y (test x) refl (sym same) passes
        | inr later ↦ kept_later x xs y (test x) (any_kept xs y later passes)
      ]

  was_there : (x : X) (xs : List X) (y : X) (b : Bool) → (Any (λ z. z ≡ y) (filter test xs) → Any (λ z. z ≡ y) xs) → Any (λ z. z ≡ y) (cond b (x ∷ filter test xs) (filter test xs)) → Any (λ z. z ≡ y) (x ∷ xs)
  was_there x xs y true below any =
      elim (any_cases (λ z. z ≡ y) x (filter test xs) any) [
        | inl same ↦ any_here (λ z. z ≡ y) x xs same
        | inr later ↦ any_there (λ z. z ≡ y) x xs (below later)
      ]
  was_there x xs y false below any = any_there (λ z. z ≡ y) x xs (below any)

  any_was : (xs : List X) (y : X) → Any (λ z. z ≡ y) (filter test xs) → Any (λ z. z ≡ y) xs
  any_was [] y any = any
  any_was (x ∷ xs) y any = was_there x xs y (test x) (λ later. any_was xs y later) any

any_from : {X : Type 0} (xs : List X) (y : X) → Contains xs y → Any (λ z. z ≡ y) xs
any_from xs y there = (there.0, y, there.1, there.2, refl)

contains_from : {X : Type 0} (xs : List X) (y : X) → Any (λ z. z ≡ y) xs → Contains xs y
contains_from xs y any = (any.0, any.2, subst (λ z. get_or xs any.0 z ≡ z) any.4 any.3)

-- what is kept is what passes
pub kept : {X : Type 0} (test : X → Bool) (xs : List X) (y : X) → Contains xs y → test y ≡ true → Contains (filter test xs) y
kept test xs y there passes = contains_from (filter test xs) y (any_kept test xs y (any_from xs y there) passes)

pub was : {X : Type 0} (test : X → Bool) (xs : List X) (y : X) → Contains (filter test xs) y → Contains xs y
was test xs y there = contains_from xs y (any_was test xs y (any_from (filter test xs) y there))

pub passes : {X : Type 0} (test : X → Bool) (xs : List X) (y : X) → Contains (filter test xs) y → test y ≡ true
passes test xs y there = subst (λ z. test z ≡ true) there.2 (filter_passes test xs there.0 y there.1)

-- whether a name is in a list
abbrev pub is_among : List PlainId → PlainId → Bool
is_among ids id = list_any (is_same_id id) ids

pub among : (ids : List PlainId) (id : PlainId) → Contains ids id → is_among ids id ≡ true
among ids id there = list_any_at (is_same_id id) ids there.0 id there.1 (ap (is_same_id id) there.2 ∙ itself id)

pub from_among : (ids : List PlainId) (id : PlainId) → is_among ids id ≡ true → Contains ids id
from_among ids id test =
    let any = Any-from_list_any (is_same_id id) ids test in
    contains_from ids id (any.0, any.1, any.2, any.3, sym ((same_id id any.1).0 any.4))

-- names that are among others are no more
pub fewer_names : (ids more : List PlainId) → IsRising ids → IsRising more → ((id : PlainId) → Contains ids id → Contains more id) → length ids ≤ length more
fewer_names ids more rising others_rising within =
    let same : ids ≡ filter (is_among ids) more =
    one_rising ids (filter (is_among ids) more) rising (IsStrictlySortedBy-filter id_cmp (is_among ids) more others_rising)
    (λ id. (λ there. kept (is_among ids) more id (within id there) (among ids id there), λ there. from_among ids id (passes (is_among ids) more id there))) in
    omega (arith, ap length same, length-filter_both (is_among ids) (λ id. not (is_among ids id)) (λ id. refl) more)
