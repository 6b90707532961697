-- Lists read at the places of names.
use Rattle.std.proofs.Common.{◌≡◌, ◌≤◌, ◌<◌, ◌∙◌, ◌⊎◌, inl, inr, ℕ, zero, suc, List, [], ◌∷◌, Option, Some, None, IfSome, IsSome, length, slice_get, refl, sym, ap, subst, arith}
use Rattle.std.proofs.lemmas.List.{length-map, get_or-map}
use Rattle.std.proofs.lemmas.List.Elements.{Contains-append_cases}
use Rattle.std.proofs.lemmas.Option.{slice_get_within, get_or_from_slice_get}
use Rattle.whole_numbers.specs.Intervals.{size}
use Rattle.param_ids.specs.Plain.{PlainId}
use Rattle.param_ids.specs.Union.{IsUnion}
use Rattle.neq_stack.specs.Neqs.{PlainNeq}
use Rattle.neq_stack.specs.ByName.{AreAtMost, entry_in, right_in, entry_at_places, right_at_place, place_in}
use Rattle.neq_stack.specs.Joining.{AreWithin, AreFirst, place_at, places_in, entry_by, right_by, first_value}
use Rattle.neq_stack.proofs.NameLaws.{place_cases}

pub places_length : (part : PlainNeq) (names : List PlainId) → length (places_in part names) ≡ length names
places_length part names = length-map names (place_in part.names)

-- the name at a place
pub name_there : (names : List PlainId) (k : ℕ) → k < length names → (id : PlainId) × (slice_get names k ≡ Some id)
name_there [] k lt = absurd (omega arith)
name_there (first ∷ rest) zero lt = (first, refl)
name_there (first ∷ rest) (suc k) lt = name_there rest k (omega arith)

pub place_read : (part : PlainNeq) (names : List PlainId) (k : ℕ) (id : PlainId) → slice_get names k ≡ Some id → place_at (places_in part names) k ≡ place_in part.names id
place_read part names k id is =
    get_or-map (place_in part.names) names k id None (slice_get_within names k id is) ∙ ap (place_in part.names) (get_or_from_slice_get names k id id is)

place_below : (names : List PlainId) (id : PlainId) (n : ℕ) → n ≡ length names → IfSome (place_in names id) (λ i. i < n)
place_below names id n all =
    elim (place_cases names id) [
      | inl h ↦ subst (λ (p : Option ℕ). IfSome p (λ i. i < n)) (sym h.2) (omega (arith, slice_get_within names h.0 id h.1))
      | inr h ↦ subst (λ (p : Option ℕ). IfSome p (λ i. i < n)) (sym h.1) tt
    ]

pub places_within : (part : PlainNeq) (names : List PlainId) (n : ℕ) → n ≡ length part.names → AreWithin n (places_in part names)
places_within part names n all k lt =
    let there = name_there names k (omega (arith, places_length part names)) in
    subst (λ (p : Option ℕ). IfSome p (λ i. i < n)) (sym (place_read part names k there.0 there.1)) (place_below part.names there.0 n all)

-- ---- intervals
pub entry_read : (part : PlainNeq) (names : List PlainId) (i j : ℕ) (a b : PlainId) → slice_get names i ≡ Some a → slice_get names j ≡ Some b → entry_by part.table (places_in part names) i j ≡ entry_in part a b
entry_read part names i j a b row col =
    ap (λ p. entry_at_places part.table p (place_at (places_in part names) j)) (place_read part names i a row) ∙ ap (λ p. entry_at_places part.table (place_in part.names a) p) (place_read part names j b col)

pub right_read : (part : PlainNeq) (names : List PlainId) (i : ℕ) (a : PlainId) → slice_get names i ≡ Some a → right_by part.right (places_in part names) i ≡ right_in part a
right_read part names i a row = ap (λ p. right_at_place part.right p) (place_read part names i a row)

pub entry_small : (part : PlainNeq) (names : List PlainId) (most i j : ℕ) → AreAtMost most part → i < length (places_in part names) → j < length (places_in part names) → size (entry_by part.table (places_in part names) i j) ≤ most
entry_small part names most i j small li lj =
    let row = name_there names i (omega (arith, places_length part names)) in
    let col = name_there names j (omega (arith, places_length part names)) in
    subst (λ w. size w ≤ most) (sym (entry_read part names i j row.0 col.0 row.1 col.1)) (small.entries row.0 col.0)

pub right_small : (part : PlainNeq) (names : List PlainId) (most i : ℕ) → AreAtMost most part → i < length (places_in part names) → size (right_by part.right (places_in part names) i) ≤ most
right_small part names most i small li =
    let row = name_there names i (omega (arith, places_length part names)) in
    subst (λ w. size w ≤ most) (sym (right_read part names i row.0 row.1)) (small.rights row.0)

-- ---- what is given of each name
module _ {X : Type 0} (xs ys : List X) where
  given : (p q : Option ℕ) → ((i : ℕ) × (p ≡ Some i) × (i < length xs)) ⊎ ((p ≡ None) × ((j : ℕ) × (q ≡ Some j) × (j < length ys))) → IsSome (first_value xs ys p q)
  given p q (inl h) = subst (λ (o : Option ℕ). IsSome (first_value xs ys o q)) (sym h.1) (some_there xs h.0 h.2)
    where
      some_there : (xs : List X) (i : ℕ) → i < length xs → IsSome (first_value xs ys (Some i) q)
      some_there [] i lt = absurd (omega arith)
      some_there (x ∷ xs) zero lt = refl
      some_there (x ∷ xs) (suc i) lt = some_there xs i (omega arith)
  given p q (inr h) = subst (λ (o : Option ℕ). IsSome (first_value xs ys o q)) (sym h.0) (subst (λ (o : Option ℕ). IsSome (first_value xs ys None o)) (sym h.1.1) (some_here ys h.1.0 h.1.2))
    where
      some_here : (ys : List X) (j : ℕ) → j < length ys → IsSome (slice_get ys j)
      some_here [] j lt = absurd (omega arith)
      some_here (y ∷ ys) zero lt = refl
      some_here (y ∷ ys) (suc j) lt = some_here ys j (omega arith)

-- a name of two parts has a place in one of them
pub one_has : (one other : PlainNeq) (names : List PlainId) (k : ℕ) (id : PlainId) → IsUnion one.names other.names names → slice_get names k ≡ Some id
    → ((i : ℕ) × (slice_get one.names i ≡ Some id) × (place_in one.names id ≡ Some i)) ⊎ ((place_in one.names id ≡ None) × ((j : ℕ) × (slice_get other.names j ≡ Some id) × (place_in other.names id ≡ Some j)))
one_has one other names k id union is =
    elim (place_cases one.names id) [
      | inl h ↦ inl h
      | inr h ↦ elim (place_cases other.names id) [
        | inl g ↦ inr (h.1, g)
        | inr g ↦ absurd (elim (Contains-append_cases one.names other.names id ((union.same id).0 (k, slice_get_within names k id is, get_or_from_slice_get names k id id is))) [ inl c ↦ h.0 c | inr c ↦ g.0 c ])
      ]
    ]

pub first_given : {X : Type 0} (xs ys : List X) (one other : PlainNeq) (names : List PlainId) → length xs ≡ length one.names → length ys ≡ length other.names → IsUnion one.names other.names names
    → (k : ℕ) → k < length names → IsSome (first_value xs ys (place_at (places_in one names) k) (place_at (places_in other names) k))
first_given xs ys one other names few many union k lt =
    let there = name_there names k lt in
    let at_one = place_read one names k there.0 there.1 in
    let at_other = place_read other names k there.0 there.1 in
    given xs ys (place_at (places_in one names) k) (place_at (places_in other names) k)
    (elim (one_has one other names k there.0 union there.1) [
      | inl h ↦ inl (h.0, at_one ∙ h.2, omega (arith, slice_get_within one.names h.0 there.0 h.1, few))
      | inr h ↦ inr (at_one ∙ h.0, (h.1.0, at_other ∙ h.1.2, omega (arith, slice_get_within other.names h.1.0 there.0 h.1.1, many)))
    ])

-- ---- the same by lists that are these places
module _ (part : PlainNeq) (names : List PlainId) (places : List (Option ℕ)) (is : places ≡ places_in part names) where
  pub length_by : length places ≡ length names
  length_by = ap length is ∙ places_length part names

  pub within_by : (n : ℕ) → n ≡ length part.names → AreWithin n places
  within_by n all = subst (AreWithin n) (sym is) (places_within part names n all)

  pub entry_small_by : (most : ℕ) → AreAtMost most part → (i j : ℕ) → i < length places → j < length places → size (entry_by part.table places i j) ≤ most
  entry_small_by most small = subst (λ (ps : List (Option ℕ)). (i j : ℕ) → i < length ps → j < length ps → size (entry_by part.table ps i j) ≤ most) (sym is) (λ i j li lj. entry_small part names most i j small li lj)

  pub right_small_by : (most : ℕ) → AreAtMost most part → (i : ℕ) → i < length places → size (right_by part.right places i) ≤ most
  right_small_by most small = subst (λ (ps : List (Option ℕ)). (i : ℕ) → i < length ps → size (right_by part.right ps i) ≤ most) (sym is) (λ i li. right_small part names most i small li)

pub first_given_by : {X : Type 0} (xs ys : List X) (one other : PlainNeq) (names : List PlainId) (ones others : List (Option ℕ)) → ones ≡ places_in one names → others ≡ places_in other names
    → length xs ≡ length one.names → length ys ≡ length other.names → IsUnion one.names other.names names → (k : ℕ) → k < length ones → IsSome (first_value xs ys (place_at ones k) (place_at others k))
first_given_by xs ys one other names ones others first second few many union k lt =
    subst (λ (ps : List (Option ℕ)). IsSome (first_value xs ys (place_at ps k) (place_at others k))) (sym first)
    (subst (λ (ps : List (Option ℕ)). IsSome (first_value xs ys (place_at (places_in one names) k) (place_at ps k))) (sym second)
    (first_given xs ys one other names few many union k (omega (arith, length_by one names ones first))))

pub first_by : {X : Type 0} (list xs xs' ys ys' : List X) (ones ones' others others' : List (Option ℕ)) → xs ≡ xs' → ys ≡ ys' → ones ≡ ones' → others ≡ others' → AreFirst xs ones ys others list → AreFirst xs' ones' ys' others' list
first_by list xs xs' ys ys' ones ones' others others' x y first second each =
    subst (λ l. AreFirst l ones' ys' others' list) x (subst (λ l. AreFirst xs ones' l others' list) y
    (subst (λ l. AreFirst xs l ys others' list) first (subst (λ l. AreFirst xs ones ys l list) second each)))
