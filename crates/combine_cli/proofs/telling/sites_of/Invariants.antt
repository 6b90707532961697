use Rattle.std.proofs.Common.{◌≡◌, map, take}
use Rattle.snx_blocks.specs.Views.{doc_view}
use Rattle.run_inputs.specs.Views.{input_view}
use Rattle.combine_cli.specs.Parts.{docs_in}
use Rattle.combine_cli.proofs.telling.sites_of.Given as goal

abbrev pub invariant-loop-input : goal.invariant-loop-input
invariant-loop-input l = map (λ doc. doc_view doc.now) l.docs.items ≡ docs_in (map input_view (take l.input-index l.inputs))
