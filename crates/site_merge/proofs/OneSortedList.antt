-- A list in which each member stands below those after it is known by its members.
use Rattle.std.proofs.Common.{◌≡◌, ◌∷◌, ◌∙◌, zero, suc, List, [], refl, sym, ap, subst, arith}
use Rattle.std.specs.Prelude.{◌↔◌, Contains}
use Rattle.std.specs.Cmp.{IsTotalOrder}
use Rattle.std.specs.List.Sorted.{IsStrictlySortedBy}
use Rattle.std.specs.declared.cmp.Ordering.{Ordering}
use Rattle.std.specs.declared.cmp.Ordering.TheVariants.{Less, Equal}
use Rattle.std.proofs.lemmas.Cmp.{tied_itself}
use Rattle.std.proofs.lemmas.List.Elements.{All-contains, All-from_recursion}
use Rattle.std.proofs.lemmas.Map.Keys.{sorted_head, sorted_tail}

-- ---- members
pub head_there : {X : Type 0} (x : X) (xs : List X) → Contains (x ∷ xs) x
head_there x xs = (0, omega arith, refl)

pub tail_there : {X : Type 0} (x : X) (xs : List X) (y : X) → Contains xs y → Contains (x ∷ xs) y
tail_there x xs y there = (suc there.0, omega (arith, there.1), there.2)

-- a member that is not the first is one of the others
there_behind : {X : Type 0} (x : X) (xs : List X) (y : X) → (x ≡ y → ⊥) → Contains (x ∷ xs) y → Contains xs y
there_behind x xs y apart (zero, lt, at) = absurd (apart at)
there_behind x xs y apart (suc k, lt, at) = (k, omega arith, at)

none_there : {X : Type 0} (y : X) → Contains [] y → ⊥
none_there y there = omega (arith, there.1)

module _ {X : Type 0} (R : X → X → Ordering) (total : IsTotalOrder R) where
  not_below_itself : (x : X) → R x x ≡ Less → ⊥
  not_below_itself x less = let e : Less ≡ Equal = sym less ∙ tied_itself total x in cc

  -- the first stands below the others
  below_others : (x : X) (xs : List X) → IsStrictlySortedBy R (x ∷ xs) → (y : X) → Contains xs y → R x y ≡ Less
  below_others x xs sorted y there = All-contains (λ z. R x z ≡ Less) xs y (All-from_recursion (λ z. R x z ≡ Less) xs (sorted_head R x xs sorted)) there

  -- a member stands not below the first
  first_least : (x : X) (xs : List X) → IsStrictlySortedBy R (x ∷ xs) → (y : X) → Contains (x ∷ xs) y → R y x ≡ Less → ⊥
  first_least x xs sorted y (zero, lt, at) less = not_below_itself x (subst (λ z. R z x ≡ Less) (sym at) less)
  first_least x xs sorted y (suc k, lt, at) less =
      let above = below_others x xs sorted y (k, omega arith, at) in
      not_below_itself x (total.trans x y x above less)

  same_first : (x : X) (xs : List X) (y : X) (ys : List X) → IsStrictlySortedBy R (x ∷ xs) → IsStrictlySortedBy R (y ∷ ys) → Contains (y ∷ ys) x → Contains (x ∷ xs) y → x ≡ y
  same_first x xs y ys sx sy (zero, lt, at) other = sym at
  same_first x xs y ys sx sy (suc k, lt, at) other = absurd (first_least x xs sx y other (below_others y ys sy x (k, omega arith, at)))

  pub same_members : (xs ys : List X) → IsStrictlySortedBy R xs → IsStrictlySortedBy R ys → ((z : X) → Contains xs z ↔ Contains ys z) → xs ≡ ys
  same_members [] [] sx sy same = refl
  same_members [] (y ∷ ys) sx sy same = absurd (none_there y ((same y).1 (head_there y ys)))
  same_members (x ∷ xs) [] sx sy same = absurd (none_there x ((same x).0 (head_there x xs)))
  same_members (x ∷ xs) (y ∷ ys) sx sy same =
      let first = same_first x xs y ys sx sy ((same x).0 (head_there x xs)) ((same y).1 (head_there y ys)) in
      let rest = same_members xs ys (sorted_tail R x xs sx) (sorted_tail R y ys sy) (λ z. (
        λ there. there_behind y ys z (λ e. not_below_itself x (subst (λ w. R x w ≡ Less) (sym e ∙ sym first) (below_others x xs sx z there))) ((same z).0 (tail_there x xs z there)),
        λ there. there_behind x xs z (λ e. not_below_itself y (subst (λ w. R y w ≡ Less) (sym e ∙ first) (below_others y ys sy z there))) ((same z).1 (tail_there y ys z there)),
      )) in
      ap (λ z. z ∷ xs) first ∙ ap (λ l. y ∷ l) rest
