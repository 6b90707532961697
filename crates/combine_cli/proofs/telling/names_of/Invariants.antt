use Rattle.std.proofs.Common.{◌≡◌, map, take}
use Rattle.run_inputs.specs.Views.{input_view}
use Rattle.combine_cli.specs.Parts.{names_in}
use Rattle.combine_cli.proofs.telling.names_of.Given as goal

abbrev pub invariant-loop-input : goal.invariant-loop-input
invariant-loop-input l = map (λ name. name.now) l.names.items ≡ names_in (map input_view (take l.input-index l.inputs))
