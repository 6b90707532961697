use Rattle.std.proofs.Common.{◌≡◌, ◌++◌, map, take}
use Rattle.std.specs.List.{filter, flat_map}
use Rattle.run_inputs.specs.Views.{input_view}
use Rattle.combine_cli.specs.Combination.{is_reference}
use Rattle.combine_cli.proofs.CountedLaws.{rows_of}
use Rattle.combine_cli.proofs.commons.counted_files.Given as goal

abbrev pub invariant-loop-input : goal.invariant-loop-input
invariant-loop-input l = flat_map (λ file. file.now) l.files.items ≡ rows_of (filter (is_reference l.reference) (map input_view (take l.input-index l.inputs)))

abbrev pub invariant-loop-input-2 : goal.invariant-loop-input-2
invariant-loop-input-2 l = flat_map (λ file. file.now) l.files.items ≡ rows_of (filter (is_reference l.reference) (map input_view l.inputs) ++ map input_view (take l.input-index l.inputs))
