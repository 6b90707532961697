use Rattle.std.proofs.Common.{◌≡◌, ◌+◌, ◌∷◌, ◌++◌, ◌∙◌, [], List, take, sym, ap, subst, arith, append_assoc}
use Rattle.std.proofs.lemmas.List.{take_all, take_more}
use Rattle.snx_sites.specs.Plain.{PlainEpochRow}
use Rattle.site_merge.specs.Keyed.{HasMergedRows}
use Rattle.site_merge.proofs.epochs.add_rows.Goals as goal

pub loop-row-preserved : goal.loop-row-preserved
loop-row-preserved c = λ before has.
    let rows = c.args.rows.now in
    let i = c.loop-row.row-index in
    let row = c.row-item.result in
    let front : take i rows ++ (row ∷ []) ≡ take (i + 1) rows = ap (λ y. take i rows ++ (y ∷ [])) c.row-item.is ∙ sym (take_more rows i row (omega arith)) in
    subst (λ (l : List PlainEpochRow). HasMergedRows c.add_row.new.table l) (append_assoc before (take i rows) (row ∷ []) ∙ ap (λ l. before ++ l) front)
    (c.in_ok-add_row.ensures (before ++ take i rows) (c.loop-row.invariant before has))

pub returns : goal.returns
returns c = λ before has.
    subst (λ l. HasMergedRows c.loop-row.table (before ++ l)) (take_all c.loop-row.row-index c.args.rows.now (omega arith)) (c.loop-row.invariant before has)
