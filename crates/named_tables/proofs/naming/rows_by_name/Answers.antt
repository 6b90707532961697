use Rattle.std.proofs.Common.{rules, ◌≡◌, ◌∙◌, ◌-◌, ◌∷◌, None, replicate, drop, map, length, set, Some, sym, ap, arith}
use Rattle.std.proofs.lemmas.List.{length-map}
use Rattle.std.proofs.lemmas.Option.{slice_get_within}
use Rattle.snx_rows.specs.Named.{row_of}
use Rattle.named_tables.proofs.NameLaws.{drop_back, found_none, found_same, found_here}
use Rattle.named_tables.proofs.naming.rows_by_name.Goals as goal

pub loop-place-init : goal.loop-place-init
loop-place-init c = c.in_ok-found.ensures.items_if_clones_equal (λ y h. search rules) ∙ ap (λ n. replicate n None) c.len.ensures.value ∙ found_none c.args.names.now c.args.rows.now (length c.args.rows.now) (omega arith)

pub index_mut-requires : goal.index_mut-requires
index_mut-requires c =
    omega (arith, slice_get_within c.args.names.now c.in-Some.rank c.index-rows-place.result.id c.in-Some.ensures.some, ap length c.loop-place.invariant, length-map c.args.names.now (row_of (drop c.loop-place.place c.args.rows.now)), c.loop-place.found.ok.0)

pub loop-place-preserved-in-Some : goal.loop-place-preserved-in-Some
loop-place-preserved-in-Some c =
    let row = c.index-rows-place.result in
    let rest = drop c.loop-place.place c.args.rows.now in
    let front : drop (c.loop-place.place - 1) c.args.rows.now ≡ row ∷ rest = drop_back c.args.rows.now c.loop-place.place row (omega arith) c.loop-place.auto.place c.index-rows-place.is in
    ap (λ l. set l c.in-Some.rank (Some row)) c.loop-place.invariant ∙ found_here c.args.names.now rest row c.in-Some.rank c.requires.0 c.in-Some.ensures.some ∙ ap (λ l. map (row_of l) c.args.names.now) (sym front)

pub loop-place-preserved : goal.loop-place-preserved
loop-place-preserved c =
    let row = c.index-rows-place.result in
    let rest = drop c.loop-place.place c.args.rows.now in
    let front : drop (c.loop-place.place - 1) c.args.rows.now ≡ row ∷ rest = drop_back c.args.rows.now c.loop-place.place row (omega arith) c.loop-place.auto.place c.index-rows-place.is in
    c.loop-place.invariant ∙ found_same c.args.names.now rest row c.in_default.ensures.none ∙ ap (λ l. map (row_of l) c.args.names.now) (sym front)
