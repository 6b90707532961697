-- What a loop over a list shows of what stands after it, where each member is seen by a view.
use Rattle.std.proofs.Common.{◌≡◌, ◌∙◌, ◌++◌, ◌∷◌, ℕ, ◌+◌, ◌<◌, List, [], length, get_or, take, drop, map, Result, Ok, Err, ap, sym, subst}
use Rattle.std.proofs.Math.ListN.{get_or-map}
use Rattle.std.proofs.lemmas.List.{length-map, take_more, drop_more, take-append-drop}
use Rattle.stated_order.specs.Steps.{Through}
use Rattle.stated_order.proofs.StepLaws.{through_more, through_stops}
use Rattle.snx_rows.specs.Blocks.{Answers}
use Rattle.snx_rows.specs.declared.causes.LineFault.{LineFault}
use Rattle.snx_rows.specs.declared.causes.DocError.{DocError}
use Rattle.snx_rows.specs.declared.causes.DocError.TheVariants.{Line, Memory}

module _ {A V S : Type 0} (step : S → V → Result S LineFault → Type 0) (view : A → V) (list : List A) (i : ℕ) (item : A) (is : item ≡ get_or list i item) (start so_far : S) (within : i < length list) (stands : Through step start (take i (map view list)) (Ok so_far)) where
  seen_within : i < length (map view list)
  seen_within = subst (λ n. i < n) (sym (length-map list view)) within

  item_at : get_or (map view list) i (view item) ≡ view item
  item_at = get_or-map view list i item ∙ ap view (sym is)

  -- the members so far and this one
  up_to : take (i + 1) (map view list) ≡ take i (map view list) ++ view item ∷ []
  up_to = take_more (map view list) i (view item) seen_within ∙ ap (λ x. take i (map view list) ++ x ∷ []) item_at

  -- this one and those after it
  from_here : drop i (map view list) ≡ view item ∷ drop (i + 1) (map view list)
  from_here = drop_more (map view list) i (view item) seen_within ∙ ap (λ x. x ∷ drop (i + 1) (map view list)) item_at

  all_parts : take i (map view list) ++ (view item ∷ drop (i + 1) (map view list)) ≡ map view list
  all_parts = ap (λ rest. take i (map view list) ++ rest) (sym from_here) ∙ take-append-drop i (map view list)

  -- a member that gives something is passed
  pub pass_more : (after : S) → step so_far (view item) (Ok after) → Through step start (take (i + 1) (map view list)) (Ok after)
  pass_more after here =
      subst (λ seen. Through step start seen (Ok after)) (sym up_to)
      (through_more step start so_far (take i (map view list)) (view item) (Ok after) stands here)

  -- a member that is refused ends it
  pub pass_stops : {T U : Type 0} (now : T → S) (last : U → S) (error : DocError) → Answers now (step so_far (view item)) (Err error) → Answers last (Through step start (map view list)) (Err error)
  pass_stops now last (Line fault) here =
      subst (λ seen. Through step start seen (Err fault)) all_parts
      (through_stops step start so_far (take i (map view list)) (drop (i + 1) (map view list)) (view item) fault stands here)
  pass_stops now last Memory here = tt
