use Rattle.std.proofs.Common.{◌≡◌, ◌+◌, ◌∷◌, ◌++◌, ◌∙◌, [], List, take, sym, ap, subst, arith, append_assoc}
use Rattle.std.proofs.lemmas.List.{take_more, take_all}
use Rattle.snx_rows.specs.declared.rows.Row.{Row}
use Rattle.apriori_shift.specs.Firsts.{Stands}
use Rattle.apriori_shift.proofs.commons.add_rows.Goals as goal

pub loop-row-preserved : goal.loop-row-preserved
loop-row-preserved c = λ before stands.
    let rows = c.args.rows.now in
    let i = c.loop-row.row-index in
    let row = c.row-item.result in
    let front : take i rows ++ (row ∷ []) ≡ take (i + 1) rows = ap (λ y. take i rows ++ (y ∷ [])) c.row-item.is ∙ sym (take_more rows i row (omega arith)) in
    subst (λ (l : List Row). Stands c.add_row.new.base c.in_ok-clash.clash l) (append_assoc before (take i rows) (row ∷ []) ∙ ap (λ l. before ++ l) front)
    (c.in_ok-clash.ensures (before ++ take i rows) (c.loop-row.invariant before stands))

pub returns : goal.returns
returns c = λ before stands.
    subst (λ (l : List Row). Stands c.loop-row.base c.loop-row.clash (before ++ l)) (take_all c.loop-row.row-index c.args.rows.now (omega arith)) (c.loop-row.invariant before stands)
