use Rattle.std.proofs.Common.{map, sym, subst}
use Rattle.std.proofs.lemmas.Result.{IfOk-weaker}
use Rattle.snx_blocks.specs.Views.{doc_view}
use Rattle.site_merge.specs.Merged.{AreMergedSites, all_sites}
use Rattle.site_merge.proofs.LineLaws.{lines_listed}
use Rattle.site_merge.proofs.lines.merged_lines.Goals as goal

pub returns : goal.returns
returns c =
    let all = all_sites (map (λ doc. doc_view doc.now) c.args.docs.now) in
    IfOk-weaker c.lines_in.result _ _ (λ lines is. subst (AreMergedSites all) (sym is) (lines_listed all c.in_ok-table.table c.lines_in.ensures.order c.in_ok-table.ensures)) c.lines_in.ensures.lines
