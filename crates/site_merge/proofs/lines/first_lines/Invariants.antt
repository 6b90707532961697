use Rattle.std.proofs.Common.{map, take}
use Rattle.snx_blocks.specs.Views.{doc_view}
use Rattle.site_merge.specs.Keyed.{HasFirstLines}
use Rattle.site_merge.specs.Merged.{all_sites}
use Rattle.site_merge.proofs.lines.first_lines.Given as goal

abbrev pub invariant-loop-doc : goal.invariant-loop-doc
invariant-loop-doc l = HasFirstLines l.table (all_sites (map (λ doc. doc_view doc.now) (take l.doc-index l.docs)))
