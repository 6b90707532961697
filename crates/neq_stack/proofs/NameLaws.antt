-- The places of names in order.
use Rattle.std.proofs.Common.{◌≡◌, ◌<◌, ◌+◌, ◌∙◌, ◌⊎◌, inl, inr, ℕ, zero, suc, Bool, true, false, cond, List, [], ◌∷◌, Option, Some, None, length, get_or, slice_get, Contains, IfSome, IfNone, refl, sym, ap, arith}
use Rattle.std.specs.List.{position_from}
use Rattle.std.proofs.lemmas.Bool.{cases_eq}
use Rattle.std.proofs.lemmas.List.Sorted.{IsPermutation-refl}
use Rattle.std.proofs.lemmas.Option.{slice_get-get_or, slice_get_within, get_or_from_slice_get}
use Rattle.param_ids.specs.Plain.{PlainId}
use Rattle.param_ids.specs.Order.{is_same_id, IsRising}
use Rattle.param_ids.proofs.Repeats.{none_moved}
use Rattle.param_ids.proofs.SameIds.{itself, same_id}
use Rattle.neq_stack.specs.ByName.{place_in}

-- a name in a list, by its place
pub contained : (names : List PlainId) (k : ℕ) (id : PlainId) → slice_get names k ≡ Some id → Contains names id
contained names k id is = (k, slice_get_within names k id is, get_or_from_slice_get names k id id is)

pub some_place : (names : List PlainId) (id : PlainId) → Contains names id → (k : ℕ) × (slice_get names k ≡ Some id)
some_place names id there = (there.0, slice_get-get_or names there.0 id there.1 ∙ ap (λ x. Some x) there.2)

-- names in order have a name at one place
pub one_rank : (names : List PlainId) (id : PlainId) (i j : ℕ) → IsRising names → slice_get names i ≡ Some id → slice_get names j ≡ Some id → i ≡ j
one_rank names id i j rising here there =
    elim (cases_eq i j) [
      | inl same ↦ same
      | inr apart ↦ absurd (none_moved names names (IsPermutation-refl names) rising id (i, j, apart, here, there))
    ]

-- what a search by place gives
abbrev Found : List PlainId → PlainId → Option ℕ → ℕ → Type 0
Found names id found k = ((i : ℕ) × (slice_get names i ≡ Some id) × (found ≡ Some (k + i))) ⊎ ((Contains names id → ⊥) × (found ≡ None))

none_in_front : (first id : PlainId) (rest : List PlainId) → (first ≡ id → ⊥) → (Contains rest id → ⊥) → Contains (first ∷ rest) id → ⊥
none_in_front first id rest apart none there = front there.0 there.1 there.2
  where
    front : (k : ℕ) → k < length (first ∷ rest) → get_or (first ∷ rest) k id ≡ id → ⊥
    front zero lt is = apart is
    front (suc k) lt is = none (k, omega arith, is)

module _ (id : PlainId) where
  from_rest : (first : PlainId) (rest : List PlainId) (k : ℕ) → (b : Bool) → is_same_id id first ≡ b → Found rest id (position_from (is_same_id id) (k + 1) rest) (k + 1) → Found (first ∷ rest) id (cond b (Some k) (position_from (is_same_id id) (k + 1) rest)) k
  from_rest first rest k true test later =
      let same : id ≡ first = (same_id id first).0 test in
      let here : k ≡ k + 0 = omega arith in
      inl (0, ap (λ x. Some x) (sym same), ap (λ x. Some x) here)
  from_rest first rest k false test (inl h) =
      let next : k + 1 + h.0 ≡ k + suc h.0 = omega arith in
      inl (suc h.0, h.1, h.2 ∙ ap (λ x. Some x) next)
  from_rest first rest k false test (inr h) =
      inr (none_in_front first id rest (λ same. let yes : true ≡ false = sym (itself id) ∙ (ap (is_same_id id) (sym same) ∙ test) in cc) h.0, h.1)

  found_from : (names : List PlainId) (k : ℕ) → Found names id (position_from (is_same_id id) k names) k
  found_from [] k = inr (λ there. absurd (omega (arith, there.1)), refl)
  found_from (first ∷ rest) k = from_rest first rest k (is_same_id id first) refl (found_from rest (k + 1))

-- a name is at a place, or nowhere
pub place_cases : (names : List PlainId) (id : PlainId) → ((i : ℕ) × (slice_get names i ≡ Some id) × (place_in names id ≡ Some i)) ⊎ ((Contains names id → ⊥) × (place_in names id ≡ None))
place_cases names id =
    elim (found_from id names 0) [
      | inl h ↦ let here : 0 + h.0 ≡ h.0 = omega arith in inl (h.0, h.1, h.2 ∙ ap (λ x. Some x) here)
      | inr h ↦ inr h
    ]

pub place_found : (names : List PlainId) (id : PlainId) (k : ℕ) → IsRising names → slice_get names k ≡ Some id → place_in names id ≡ Some k
place_found names id k rising is =
    elim (place_cases names id) [
      | inl h ↦ h.2 ∙ ap (λ x. Some x) (one_rank names id h.0 k rising h.1 is)
      | inr h ↦ absurd (h.0 (contained names k id is))
    ]

pub place_missing : (names : List PlainId) (id : PlainId) → (Contains names id → ⊥) → place_in names id ≡ None
place_missing names id none =
    elim (place_cases names id) [
      | inl h ↦ absurd (none (contained names h.0 id h.1))
      | inr h ↦ h.1
    ]

-- what `find` says
pub place_said : (names : List PlainId) (id : PlainId) (found : Option ℕ) → IsRising names → IfSome found (λ i. slice_get names i ≡ Some id) → IfNone found (Contains names id → ⊥) → found ≡ place_in names id
place_said names id (Some i) rising some none = sym (place_found names id i rising some)
place_said names id None rising some none = sym (place_missing names id none)
