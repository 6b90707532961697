-- Lists that are related member by member, and steps over them.
use Rattle.std.proofs.Common.{◌≡◌, ◌++◌, ◌∷◌, ◌⊎◌, ◌<◌, ℕ, zero, suc, List, [], length, get_or, map, Result, Ok, refl, sym, ◌∙◌, ap, subst, inl, inr, arith}
use Rattle.std.specs.List.{Any}
use Rattle.std.specs.List.Sorted.{IsPermutation}
use Rattle.std.specs.List.{swap}
use Rattle.std.proofs.Math.ListN.{set, get_or-map}
use Rattle.std.proofs.lemmas.List.{length-map, map-set}
use Rattle.std.proofs.lemmas.List.Sorted.{IsPermutation-refl, IsPermutation-trans, IsPermutation-swap, IsPermutation-keeps}
use Rattle.stated_order.specs.Lists.{AreEach}
use Rattle.stated_order.specs.Steps.{GoesOn, Then, InTurn}
use Rattle.stated_order.proofs.StepLaws.{then_gives}

-- ---- some member
pub any_cases : {X : Type 0} (P : X → Type 0) (x : X) (xs : List X) → Any P (x ∷ xs) → P x ⊎ Any P xs
any_cases P x xs (zero, y, lt, e, p) = inl (subst P (sym e) p)
any_cases P x xs (suc k, y, lt, e, p) = inr (k, y, omega arith, e, p)

pub any_here : {X : Type 0} (P : X → Type 0) (x : X) (xs : List X) → P x → Any P (x ∷ xs)
any_here P x xs p = (0, x, omega arith, refl, p)

pub any_later : {X : Type 0} (P : X → Type 0) (x : X) (xs : List X) → Any P xs → Any P (x ∷ xs)
any_later P x xs (k, y, lt, e, p) = (suc k, y, omega arith, e, p)

pub any_none : {X : Type 0} (P : X → Type 0) → Any P [] → ⊥
any_none P (k, y, lt, e, p) = absurd (omega arith)

pub any_map : {A B : Type 0} (f : A → B) (P : B → Type 0) (xs : List A) → Any (λ x. P (f x)) xs → Any P (map f xs)
any_map f P [] h = absurd (any_none (λ x. P (f x)) h)
any_map f P (x ∷ xs) h =
    elim (any_cases (λ x. P (f x)) x xs h) [
      | inl here ↦ any_here P (f x) (map f xs) here
      | inr later ↦ any_later P (f x) (map f xs) (any_map f P xs later)
    ]

-- ---- members in pairs
pub each_more : {A B : Type 0} (R : A → B → Type 0) (xs : List A) (ys : List B) (x : A) (y : B) → AreEach R xs ys → R x y → AreEach R (xs ++ x ∷ []) (ys ++ y ∷ [])
each_more R [] [] x y each one = (one, tt)
each_more R [] (b ∷ ys) x y each one = absurd each
each_more R (a ∷ xs) [] x y each one = absurd each
each_more R (a ∷ xs) (b ∷ ys) x y each one = (each.0, each_more R xs ys x y each.1 one)

-- a function makes equal what is related
pub maps_from_each : {A B C : Type 0} (R : A → B → Type 0) (f : A → C) (g : B → C) → ((x : A) (y : B) → R x y → f x ≡ g y) → (xs : List A) (ys : List B) → AreEach R xs ys → map f xs ≡ map g ys
maps_from_each R f g same [] [] each = refl
maps_from_each R f g same [] (y ∷ ys) each = absurd each
maps_from_each R f g same (x ∷ xs) [] each = absurd each
maps_from_each R f g same (x ∷ xs) (y ∷ ys) each = let head = same x y each.0 in let tail = maps_from_each R f g same xs ys each.1 in cc

pub each_from_maps : {A B : Type 0} (f : A → B) (xs ys : List A) → map f xs ≡ map f ys → AreEach (λ (x y : A). f x ≡ f y) xs ys
each_from_maps f [] [] e = tt
each_from_maps f [] (y ∷ ys) e = absurd (cc)
each_from_maps f (x ∷ xs) [] e = absurd (cc)
each_from_maps f (x ∷ xs) (y ∷ ys) e = (cc, each_from_maps f xs ys (cc))

pub any_alike : {A B : Type 0} (R : A → B → Type 0) (P : A → Type 0) (Q : B → Type 0) → ((x : A) (y : B) → R x y → Q y → P x) → (xs : List A) (ys : List B) → AreEach R xs ys → Any Q ys → Any P xs
any_alike R P Q back xs [] each h = absurd (any_none Q h)
any_alike R P Q back [] (y ∷ ys) each h = absurd each
any_alike R P Q back (x ∷ xs) (y ∷ ys) each h =
    elim (any_cases Q y ys h) [
      | inl q ↦ any_here P x xs (back x y each.0 q)
      | inr later ↦ any_later P x xs (any_alike R P Q back xs ys each.1 later)
    ]

pub any_onward : {A B : Type 0} (R : A → B → Type 0) (P : A → Type 0) (Q : B → Type 0) → ((x : A) (y : B) → R x y → P x → Q y) → (xs : List A) (ys : List B) → AreEach R xs ys → Any P xs → Any Q ys
any_onward R P Q onward [] ys each h = absurd (any_none P h)
any_onward R P Q onward (x ∷ xs) [] each h = absurd each
any_onward R P Q onward (x ∷ xs) (y ∷ ys) each h =
    elim (any_cases P x xs h) [
      | inl p ↦ any_here Q y ys (onward x y each.0 p)
      | inr later ↦ any_later Q y ys (any_onward R P Q onward xs ys each.1 later)
    ]

-- ---- steps
-- a step that gave something went on
pub went_on : {X Y C : Type 0} (first : Result X C → Type 0) (next : X → Result Y C → Type 0) (y : Y) → Then first next (Ok y) → GoesOn first next (Ok y)
went_on first next y (inl f) = f
went_on first next y (inr f) = let e = f.is_cause in absurd (cc)

same_ok : {X C : Type 0} (x y : X) → (let r : Result X C = Ok x in let s : Result X C = Ok y in r ≡ s) → x ≡ y
same_ok x y e = cc

-- what a list gives in turn, a related list gives in turn, and the results are related
module _ {A B A' B' C : Type 0} (step : List B → A → Result B C → Type 0) (step' : List B' → A' → Result B' C → Type 0) (R : A → A' → Type 0) (S : B → B' → Type 0)
    (carry : (before : List B) (before' : List B') (a : A) (a' : A') (b : B) → AreEach S before before' → R a a' → step before a (Ok b) → (b' : B') × step' before' a' (Ok b') × S b b') where
  pub in_turn_alike : (before : List B) (before' : List B') (list : List A) (list' : List A') (given : List B) → AreEach S before before' → AreEach R list list' → InTurn step before list (Ok given)
      → (given' : List B') × InTurn step' before' list' (Ok given') × AreEach S given given'
  in_turn_alike before before' [] [] given so_far each h = (before', refl, subst (λ l. AreEach S l before') (same_ok before given (sym h)) so_far)
  in_turn_alike before before' [] (a' ∷ list') given so_far each h = absurd each
  in_turn_alike before before' (a ∷ list) [] given so_far each h = absurd each
  in_turn_alike before before' (a ∷ list) (a' ∷ list') given so_far each h =
      let f = went_on (step before a) (λ b. InTurn step (before ++ b ∷ []) list) given h in
      let next = carry before before' a a' f.gives so_far each.0 f.given in
      let rest = in_turn_alike (before ++ f.gives ∷ []) (before' ++ next.0 ∷ []) list list' given (each_more S before before' f.gives next.0 so_far next.2) each.1 f.onward in
      (rest.0, then_gives (step' before' a') (λ b. InTurn step' (before' ++ b ∷ []) list') next.0 (Ok rest.0) next.1 rest.1, rest.2)

-- ---- lists in another order
mapped_swap : {A B : Type 0} (f : A → B) (xs : List A) (i j : ℕ) → map f (swap xs i j) ≡ swap (map f xs) i j
mapped_swap f [] i j = refl
mapped_swap f (d ∷ rest) i j =
    let xs = d ∷ rest in
    map-set f (set xs i (get_or xs j d)) j (get_or xs i d)
    ∙ (λ t. set ((map-set f xs i (get_or xs j d) ∙ ap (set (map f xs) i) (sym (get_or-map f xs j d))) t) j (sym (get_or-map f xs i d) t))

abbrev Lifted : {A B : Type 0} → (A → B) → List A → List B → Type 0
Lifted {A = A} f xs ys = (zs : List A) × IsPermutation xs zs × (map f zs ≡ ys)

swap_lifted : {A B : Type 0} (f : A → B) (xs : List A) (ys : List B) (i j : ℕ) → i < length ys → j < length ys → Lifted f xs ys → Lifted f xs (swap ys i j)
swap_lifted f xs ys i j li lj h =
    let long : length ys ≡ length h.0 = ap length (sym h.2) ∙ length-map h.0 f in
    let moved = IsPermutation-swap h.0 (swap h.0 i j) i j (omega arith) (omega arith) refl in
    (swap h.0 i j, IsPermutation-trans xs h.0 (swap h.0 i j) h.1 moved, mapped_swap f h.0 i j ∙ ap (λ l. swap l i j) h.2)

-- where what a function makes of a list is put in another order, so can the list itself be
pub lifted : {A B : Type 0} (f : A → B) (xs : List A) (ys : List B) → IsPermutation (map f xs) ys → Lifted f xs ys
lifted f xs ys p = IsPermutation-keeps (map f xs) (Lifted f xs) (xs, IsPermutation-refl xs, refl) (swap_lifted f xs) ys p
