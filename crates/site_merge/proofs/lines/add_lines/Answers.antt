use Rattle.std.proofs.Common.{◌∷◌, ◌++◌, ◌∙◌, [], List, map, take, ap, subst, arith, append_assoc}
use Rattle.std.proofs.lemmas.List.{take_all}
use Rattle.snx_sites.specs.Plain.{PlainSite}
use Rattle.snx_sites.specs.Views.{site_view}
use Rattle.site_merge.specs.Keyed.{HasFirstLines}
use Rattle.site_merge.proofs.Loops.{mapped_more}
use Rattle.site_merge.proofs.lines.add_lines.Goals as goal

pub loop-line-preserved : goal.loop-line-preserved
loop-line-preserved c = λ before firsts.
    let lines = c.args.lines.now in
    let i = c.loop-line.line-index in
    let front = mapped_more site_view lines i c.line-item.result (omega arith) c.line-item.is in
    subst (λ (l : List PlainSite). HasFirstLines c.add_line.new.table l) (append_assoc before (map site_view (take i lines)) (site_view c.line-item.result ∷ []) ∙ ap (λ l. before ++ l) front)
    (c.in_ok-add_line.ensures (before ++ map site_view (take i lines)) (c.loop-line.invariant before firsts))

pub returns : goal.returns
returns c = λ before firsts.
    subst (λ l. HasFirstLines c.loop-line.table (before ++ map site_view l)) (take_all c.loop-line.line-index c.args.lines.now (omega arith)) (c.loop-line.invariant before firsts)
