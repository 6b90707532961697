use Rattle.std.proofs.Common.{map, sym, subst}
use Rattle.std.proofs.lemmas.Result.{IfOk-weaker}
use Rattle.snx_blocks.specs.Views.{doc_view}
use Rattle.site_merge.specs.Merged.{AreMergedEpochs, all_epochs}
use Rattle.site_merge.proofs.EpochLaws.{rows_listed}
use Rattle.site_merge.proofs.epochs.merged_epochs.Goals as goal

pub returns : goal.returns
returns c =
    let all = all_epochs (map (λ doc. doc_view doc.now) c.args.docs.now) in
    IfOk-weaker c.rows_in.result _ _ (λ rows is. subst (AreMergedEpochs all) (sym is) (rows_listed all c.in_ok-table.table c.rows_in.ensures.order c.in_ok-table.ensures)) c.rows_in.ensures.rows
