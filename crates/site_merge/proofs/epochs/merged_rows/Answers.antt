use Rattle.std.proofs.Common.{◌++◌, ◌∙◌, Bor, List, [], map, take, ap, subst, arith}
use Rattle.std.specs.Option.{unwrap_or}
use Rattle.snx_blocks.specs.Documents.{PlainDoc}
use Rattle.snx_blocks.specs.Views.{doc_view}
use Rattle.snx_blocks.specs.declared.documents.Doc.{Doc}
use Rattle.snx_sites.specs.Plain.{PlainEpochRow}
use Rattle.site_merge.specs.Keyed.{HasMergedRows}
use Rattle.site_merge.specs.Merged.{all_epochs}
use Rattle.site_merge.proofs.Loops.{rows_more}
use Rattle.site_merge.proofs.epochs.merged_rows.Goals as goal

pub loop-doc-preserved : goal.loop-doc-preserved
loop-doc-preserved c =
    let seen : Bor Doc → PlainDoc = λ doc. doc_view doc.now in
    let before = all_epochs (map seen (take c.loop-doc.doc-index c.args.docs.now)) in
    let front = rows_more seen (λ doc. unwrap_or doc.epochs []) c.args.docs.now c.loop-doc.doc-index c.doc-item.result (omega arith) c.doc-item.is in
    subst (λ (l : List PlainEpochRow). HasMergedRows c.add_rows.new.table l) (ap (λ l. before ++ l) c.rows_of.ensures ∙ front) (c.in_ok-add_rows.ensures before c.loop-doc.invariant)
