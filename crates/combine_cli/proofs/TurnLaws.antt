-- Steps over a list in turn, one more member at a time.
use Rattle.std.proofs.Common.{◌≡◌, ◌∷◌, ◌++◌, ◌+◌, ◌<◌, ℕ, List, [], length, get_or, take, drop, map, Result, Ok, Err, sym, ap, ◌∙◌, subst, append_assoc}
use Rattle.std.proofs.lemmas.List.{take_more, map-append, take-append-drop}
use Rattle.stated_order.specs.Lists.{AreEach}
use Rattle.stated_order.specs.Steps.{InTurn}
use Rattle.stated_order.proofs.StepLaws.{in_turn_more, in_turn_stops}
use Rattle.combine_cli.proofs.EachLaws.{each_more}

module _ {X A : Type 0} (view : X → A) (xs : List X) (i : ℕ) (x : X) (lt : i < length xs) (is : x ≡ get_or xs i x) where
  -- the members up to one, with it, and the whole list from it on
  pub upto_more : map view (take i xs) ++ (view x ∷ []) ≡ map view (take (i + 1) xs)
  upto_more = sym (map-append view (take i xs) (x ∷ [])) ∙ ap (λ y. map view (take i xs ++ (y ∷ []))) is ∙ sym (ap (map view) (take_more xs i x lt))

  pub whole_from : map view (take i xs) ++ (view x ∷ map view (drop (i + 1) xs)) ≡ map view xs
  whole_from =
      sym (append_assoc (map view (take i xs)) (view x ∷ []) (map view (drop (i + 1) xs))) ∙ ap (λ l. l ++ map view (drop (i + 1) xs)) upto_more
      ∙ sym (map-append view (take (i + 1) xs) (drop (i + 1) xs)) ∙ ap (map view) (take-append-drop (i + 1) xs)

  -- one more member
  pub turn_more : {B C : Type 0} (step : List B → A → Result B C → Type 0) (given : List B) (b : B) → InTurn step [] (map view (take i xs)) (Ok given) → step given (view x) (Ok b)
      → InTurn step [] (map view (take (i + 1) xs)) (Ok (given ++ (b ∷ [])))
  turn_more step given b so_far here = subst (λ l. InTurn step [] l (Ok (given ++ (b ∷ [])))) upto_more (in_turn_more step [] given (map view (take i xs)) (view x) b so_far here)

  -- the first that is refused
  pub turn_stops : {B C : Type 0} (step : List B → A → Result B C → Type 0) (given : List B) (c : C) → InTurn step [] (map view (take i xs)) (Ok given) → step given (view x) (Err c)
      → InTurn step [] (map view xs) (Err c)
  turn_stops step given c so_far here =
      subst (λ l. InTurn step [] l (Err c)) whole_from (in_turn_stops step [] given (map view (take i xs)) (map view (drop (i + 1) xs)) (view x) c so_far here)

  -- one more pair
  pub pair_more : {B : Type 0} (R : A → B → Type 0) (ys : List B) (y : B) → AreEach R (map view (take i xs)) ys → R (view x) y → AreEach R (map view (take (i + 1) xs)) (ys ++ (y ∷ []))
  pair_more R ys y each here = subst (λ l. AreEach R l (ys ++ (y ∷ []))) upto_more (each_more R (map view (take i xs)) ys (view x) y each here)
