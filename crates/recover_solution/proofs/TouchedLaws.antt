-- Names that are kept of others: they stand in order, and have the places of rows.
use Rattle.std.proofs.Common.{◌≡◌, ◌<◌, ◌+◌, ◌∙◌, ◌++◌, ◌∷◌, [], ℕ, zero, suc, Bool, true, false, cond, List, Some, Ok, Err, Contains, length, take, get_or, slice_get, sym, ap, subst, arith}
use Rattle.std.specs.List.{filter}
use Rattle.std.proofs.lemmas.Bool.{false≢true}
use Rattle.std.proofs.lemmas.List.{append-nil}
use Rattle.std.proofs.lemmas.List.Elements.{All-contains, All-contains_itself, All-filter, filter_more}
use Rattle.std.proofs.lemmas.List.Kept.{IsStrictlySortedBy-filter}
use Rattle.std.proofs.lemmas.List.Sums.{length-filter, count_by-le-length}
use Rattle.std.proofs.lemmas.List.Sorted.{Contains-permutation, IsPermutation-refl, IsPermutation-sym}
use Rattle.std.proofs.lemmas.Option.{slice_get_within, get_or_from_slice_get}
use Rattle.param_ids.specs.Plain.{PlainId}
use Rattle.param_ids.specs.Order.{id_cmp, IsNames}
use Rattle.param_ids.specs.Lists.{IsLeastRepeat, IsListed}
use Rattle.param_ids.specs.declared.listing.NamesError.{NamesError}
use Rattle.param_ids.specs.declared.listing.NamesError.TheVariants.{Repeated, TooMany}
use Rattle.param_ids.proofs.Repeats.{none_moved}
use Rattle.param_ids.proofs.Unions.{one_rising}

-- ---- names that pass a test
in_front : (b : Bool) (first id : PlainId) (rest : List PlainId) → b ≡ true → first ≡ id → Contains (cond b (first ∷ rest) rest) id
in_front true first id rest e same = (0, omega arith, same)
in_front false first id rest e same = absurd (false≢true e)

behind : (b : Bool) (first id : PlainId) (rest : List PlainId) → Contains rest id → Contains (cond b (first ∷ rest) rest) id
behind true first id rest there = (suc there.0, omega (arith, there.1), there.2)
behind false first id rest there = there

kept_at : (first : PlainId) (rest : List PlainId) (p : PlainId → Bool) (id : PlainId) → p id ≡ true → (Contains rest id → Contains (filter p rest) id)
    → (k : ℕ) → k < length (first ∷ rest) → get_or (first ∷ rest) k id ≡ id → Contains (filter p (first ∷ rest)) id
kept_at first rest p id passes later zero l is = in_front (p first) first id (filter p rest) (ap p is ∙ passes) is
kept_at first rest p id passes later (suc k) l is = behind (p first) first id (filter p rest) (later (k, omega arith, is))

pub kept_name : (p : PlainId → Bool) (names : List PlainId) (id : PlainId) → p id ≡ true → Contains names id → Contains (filter p names) id
kept_name p [] id passes there = absurd (omega (arith, there.1))
kept_name p (first ∷ rest) id passes there = kept_at first rest p id passes (kept_name p rest id passes) there.0 there.1 there.2

pub among : (p : PlainId → Bool) (names : List PlainId) (id : PlainId) → Contains (filter p names) id → Contains names id
among p names id there = All-contains (Contains names) (filter p names) id (All-filter p (Contains names) names (All-contains_itself names)) there

pub kept_names : (p : PlainId → Bool) (names : List PlainId) → IsNames names → IsNames (filter p names)
kept_names p names ordered = (IsStrictlySortedBy-filter id_cmp p names ordered.0, omega (arith, length-filter p names, count_by-le-length p names, ordered.1))

-- ---- the list of names in order
-- a list in order has no fault, and is the list of its names
pub none_repeated : (list : List PlainId) (fault : NamesError) (id : PlainId) → IsNames list → fault ≡ Repeated id → IsListed list (Err fault) → ⊥
none_repeated list fault id ordered repeated h =
    let least : IsLeastRepeat list id = subst (λ (x : NamesError). IsListed list (Err x)) repeated h in
    none_moved list list (IsPermutation-refl list) ordered.0 id least.twice

pub not_many : (list : List PlainId) (fault : NamesError) (count : ℕ) → IsNames list → fault ≡ TooMany count → IsListed list (Err fault) → ⊥
not_many list fault count ordered many h =
    let over : IsListed list (Err (TooMany count)) = subst (λ (x : NamesError). IsListed list (Err x)) many h in
    omega (arith, over.1, ordered.1)

pub listed_same : (list names : List PlainId) → IsNames list → IsListed list (Ok names) → names ≡ list
listed_same list names ordered h =
    one_rising names list h.1.0 ordered.0 (λ id. (
      λ there. Contains-permutation names list id (IsPermutation-sym list names h.0) there,
      λ there. Contains-permutation list names id h.0 there,
    ))

-- ---- what a loop shows
module _ (p : PlainId → Bool) (names : List PlainId) (k : ℕ) (id : PlainId) (here : slice_get names k ≡ Some id) where
  kept_more : (list : List PlainId) → list ≡ filter p (take k names) → filter p (take (k + 1) names) ≡ list ++ cond (p id) (id ∷ []) []
  kept_more list is =
      let at : get_or names k id ≡ id = get_or_from_slice_get names k id id here in
      filter_more p names k id (slice_get_within names k id here) ∙ ap (λ x. filter p (take k names) ++ cond (p x) (x ∷ []) []) at ∙ ap (λ l. l ++ cond (p id) (id ∷ []) []) (sym is)

  pub taken_more : (list pushed : List PlainId) → list ≡ filter p (take k names) → p id ≡ true → pushed ≡ list ++ id ∷ [] → pushed ≡ filter p (take (k + 1) names)
  taken_more list pushed is passes push = push ∙ ap (λ b. list ++ cond b (id ∷ []) []) (sym passes) ∙ sym (kept_more list is)

  pub left_more : (list : List PlainId) → list ≡ filter p (take k names) → p id ≡ false → list ≡ filter p (take (k + 1) names)
  left_more list is fails = sym (append-nil list) ∙ ap (λ b. list ++ cond b (id ∷ []) []) (sym fails) ∙ sym (kept_more list is)
