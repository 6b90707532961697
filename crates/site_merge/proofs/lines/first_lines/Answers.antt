use Rattle.std.proofs.Common.{◌++◌, ◌∙◌, Bor, List, [], map, take, ap, subst, arith}
use Rattle.std.specs.Option.{unwrap_or}
use Rattle.snx_blocks.specs.Documents.{PlainDoc}
use Rattle.snx_blocks.specs.Views.{doc_view}
use Rattle.snx_blocks.specs.declared.documents.Doc.{Doc}
use Rattle.snx_sites.specs.Plain.{PlainSite}
use Rattle.site_merge.specs.Keyed.{HasFirstLines}
use Rattle.site_merge.specs.Merged.{all_sites}
use Rattle.site_merge.proofs.Loops.{rows_more}
use Rattle.site_merge.proofs.lines.first_lines.Goals as goal

pub loop-doc-preserved : goal.loop-doc-preserved
loop-doc-preserved c =
    let seen : Bor Doc → PlainDoc = λ doc. doc_view doc.now in
    let before = all_sites (map seen (take c.loop-doc.doc-index c.args.docs.now)) in
    let front = rows_more seen (λ doc. unwrap_or doc.sites []) c.args.docs.now c.loop-doc.doc-index c.doc-item.result (omega arith) c.doc-item.is in
    subst (λ (l : List PlainSite). HasFirstLines c.add_lines.new.table l) (ap (λ l. before ++ l) c.lines_of.ensures ∙ front) (c.in_ok-add_lines.ensures before c.loop-doc.invariant)
