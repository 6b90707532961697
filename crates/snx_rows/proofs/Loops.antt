-- What a loop over a list shows of the list in turn, where each member is seen by a view.
use Rattle.std.proofs.Common.{◌≡◌, ◌∙◌, ◌++◌, ◌∷◌, ℕ, ◌+◌, ◌<◌, List, [], length, get_or, take, drop, map, Result, Ok, Err, ap, sym, subst}
use Rattle.std.proofs.Math.ListN.{get_or-map}
use Rattle.std.proofs.lemmas.List.{length-map, take_more, drop_more, take-append-drop}
use Rattle.stated_order.specs.Steps.{InTurn}
use Rattle.stated_order.proofs.StepLaws.{in_turn_more, in_turn_stops}

module _ {A V B C : Type 0} (step : List B → V → Result B C → Type 0) (view : A → V) (list : List A) (i : ℕ) (d : A) (given : List B) (within : i < length list) (so_far : InTurn step [] (take i (map view list)) (Ok given)) where
  seen_within : i < length (map view list)
  seen_within = subst (λ n. i < n) (sym (length-map list view)) within

  -- the members so far and this one
  up_to : take (i + 1) (map view list) ≡ take i (map view list) ++ view (get_or list i d) ∷ []
  up_to = take_more (map view list) i (view d) seen_within ∙ ap (λ x. take i (map view list) ++ x ∷ []) (get_or-map view list i d)

  -- this one and those after it
  from_here : drop i (map view list) ≡ view (get_or list i d) ∷ drop (i + 1) (map view list)
  from_here = drop_more (map view list) i (view d) seen_within ∙ ap (λ x. x ∷ drop (i + 1) (map view list)) (get_or-map view list i d)

  all_parts : take i (map view list) ++ (view (get_or list i d) ∷ drop (i + 1) (map view list)) ≡ map view list
  all_parts = ap (λ rest. take i (map view list) ++ rest) (sym from_here) ∙ take-append-drop i (map view list)

  module _ (before : List B) (same : before ≡ given) where
    -- a member that gives something is one more
    pub loop_more : (b : B) → step before (view (get_or list i d)) (Ok b) → InTurn step [] (take (i + 1) (map view list)) (Ok (given ++ b ∷ []))
    loop_more b here =
        let step_here = subst (λ l. step l (view (get_or list i d)) (Ok b)) same here in
        subst (λ seen. InTurn step [] seen (Ok (given ++ b ∷ []))) (sym up_to)
        (in_turn_more step [] given (take i (map view list)) (view (get_or list i d)) b so_far step_here)

    -- a member that is refused ends it
    pub loop_stops : (c : C) → step before (view (get_or list i d)) (Err c) → InTurn step [] (map view list) (Err c)
    loop_stops c here =
        let step_here = subst (λ l. step l (view (get_or list i d)) (Err c)) same here in
        subst (λ seen. InTurn step [] seen (Err c)) all_parts
        (in_turn_stops step [] given (take i (map view list)) (drop (i + 1) (map view list)) (view (get_or list i d)) c so_far step_here)
