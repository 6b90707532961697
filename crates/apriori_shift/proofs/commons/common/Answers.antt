use Rattle.std.proofs.Common.{◌≡◌, ◌+◌, ◌∷◌, ◌++◌, ◌∙◌, [], Bor, List, Option, take, refl, sym, ap, subst, arith}
use Rattle.std.specs.List.{flat_map}
use Rattle.std.proofs.lemmas.List.{take_more, take_all, flat_map_more}
use Rattle.param_ids.specs.Plain.{PlainId}
use Rattle.snx_rows.specs.declared.rows.Row.{Row}
use Rattle.apriori_shift.specs.Firsts.{IsClashOf, Stands}
use Rattle.apriori_shift.proofs.commons.common.Goals as goal

pub loop-rows-preserved : goal.loop-rows-preserved
loop-rows-preserved c =
    let files = c.args.files.now in
    let i = c.loop-rows.rows-index in
    let file = c.rows-item.result in
    let f : Bor (List Row) → List Row = λ file. file.now in
    let front : take i files ++ (file ∷ []) ≡ take (i + 1) files = ap (λ y. take i files ++ (y ∷ [])) c.rows-item.is ∙ sym (take_more files i file (omega arith)) in
    subst (λ (l : List Row). Stands c.add_rows.new.base c.in_ok-clash.clash l) (flat_map_more f [] (take i files) file ∙ ap (flat_map f) front) (c.in_ok-clash.ensures (flat_map f (take i files)) c.loop-rows.invariant)

pub returns-in-None-clause-common : goal.returns-in-None-clause-common
returns-in-None-clause-common c =
    let f : Bor (List Row) → List Row = λ file. file.now in
    let stands = subst (λ (l : List (Bor (List Row))). Stands c.loop-rows.base c.loop-rows.clash (flat_map f l)) (take_all c.loop-rows.rows-index c.args.files.now (omega arith)) c.loop-rows.invariant in
    let rows = flat_map f c.args.files.now in
    (rows, (refl, subst (λ (o : Option PlainId). IsClashOf rows o) c.in-None.is stands.least), stands.first)
