-- What some member of a list has.
use Rattle.std.proofs.Common.{◌≡◌, ◌<◌, ◌++◌, ◌⊎◌, inl, inr, ℕ, zero, suc, List, [], ◌∷◌, length, get_or, Contains, refl, sym, subst, arith}
use Rattle.std.specs.List.{Any}

module _ {X : Type 0} (P : X → Type 0) where
  pub any_here : (x : X) (xs : List X) → P x → Any P (x ∷ xs)
  any_here x xs p = (0, x, omega arith, refl, p)

  pub any_there : (x : X) (xs : List X) → Any P xs → Any P (x ∷ xs)
  any_there x xs h = let within = h.2 in (suc h.0, h.1, omega arith, h.3, h.4)

  pub any_none : Any P [] → ⊥
  any_none h = let within = h.2 in absurd (omega arith)

  at_front : (x : X) (xs : List X) (k : ℕ) (y : X) → k < length (x ∷ xs) → get_or (x ∷ xs) k y ≡ y → P y → P x ⊎ Any P xs
  at_front x xs zero y within is p = inl (subst P (sym is) p)
  at_front x xs (suc k) y within is p = inr (k, y, omega arith, is, p)

  pub any_cases : (x : X) (xs : List X) → Any P (x ∷ xs) → P x ⊎ Any P xs
  any_cases x xs h = at_front x xs h.0 h.1 h.2 h.3 h.4

  pub any_left : (xs ys : List X) → Any P xs → Any P (xs ++ ys)
  any_left [] ys h = absurd (any_none h)
  any_left (x ∷ xs) ys h = elim (any_cases x xs h) [ inl p ↦ any_here x (xs ++ ys) p | inr t ↦ any_there x (xs ++ ys) (any_left xs ys t) ]

  pub any_right : (xs ys : List X) → Any P ys → Any P (xs ++ ys)
  any_right [] ys h = h
  any_right (x ∷ xs) ys h = any_there x (xs ++ ys) (any_right xs ys h)

  pub any_either : (xs ys : List X) → Any P (xs ++ ys) → Any P xs ⊎ Any P ys
  any_either [] ys h = inr h
  any_either (x ∷ xs) ys h =
      elim (any_cases x (xs ++ ys) h) [
        | inl p ↦ inl (any_here x xs p)
        | inr t ↦ elim (any_either xs ys t) [ inl l ↦ inl (any_there x xs l) | inr r ↦ inr r ]
      ]

  pub any_member : (xs : List X) (x : X) → Contains xs x → P x → Any P xs
  any_member xs x there p = (there.0, x, there.1, there.2, p)

pub any_weaker : {X : Type 0} (P Q : X → Type 0) → ((x : X) → P x → Q x) → (xs : List X) → Any P xs → Any Q xs
any_weaker P Q f xs h = (h.0, h.1, h.2, h.3, f h.1 h.4)
