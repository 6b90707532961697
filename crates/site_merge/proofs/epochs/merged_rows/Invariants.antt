use Rattle.std.proofs.Common.{map, take}
use Rattle.snx_blocks.specs.Views.{doc_view}
use Rattle.site_merge.specs.Keyed.{HasMergedRows}
use Rattle.site_merge.specs.Merged.{all_epochs}
use Rattle.site_merge.proofs.epochs.merged_rows.Given as goal

abbrev pub invariant-loop-doc : goal.invariant-loop-doc
invariant-loop-doc l = HasMergedRows l.table (all_epochs (map (λ doc. doc_view doc.now) (take l.doc-index l.docs)))
