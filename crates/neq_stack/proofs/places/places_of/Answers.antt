use Rattle.std.proofs.Common.{◌∙◌, ◌++◌, ◌∷◌, [], map, take, sym, ap}
use Rattle.std.proofs.lemmas.List.{map_more}
use Rattle.std.proofs.lemmas.Option.{slice_get_within, get_or_from_slice_get}
use Rattle.neq_stack.specs.ByName.{place_in}
use Rattle.neq_stack.proofs.places.places_of.Goals as goal

pub loop-k-preserved : goal.loop-k-preserved
loop-k-preserved c =
    let names = c.args.names.now in
    let k = c.loop-k.k in
    let id = c.at.result.now in
    let said = ap (λ p. map (place_in c.args.part.now) (take k names) ++ p ∷ []) (c.place_of.ensures ∙ ap (place_in c.args.part.now) (sym (get_or_from_slice_get names k id id c.at.ensures))) in
    c.in_ok-push.ensures.items ∙ ap (λ l. l ++ c.place_of.result ∷ []) c.loop-k.invariant ∙ said ∙ sym (map_more (place_in c.args.part.now) names k id (slice_get_within names k id c.at.ensures))
