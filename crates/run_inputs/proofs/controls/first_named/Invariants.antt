use Rattle.std.proofs.Common.{◌≡◌, map, drop}
use Rattle.std.specs.List.{find}
use Rattle.control_doc.specs.Views.{plan_view}
use Rattle.run_inputs.specs.Controls.{is_named}
use Rattle.run_inputs.specs.Views.{combined_files}
use Rattle.run_inputs.proofs.controls.first_named.Given as goal

abbrev pub invariant-loop-plan : goal.invariant-loop-plan
invariant-loop-plan l = find (is_named (combined_files l.names)) (map plan_view (drop l.plan-index l.files)) ≡ find (is_named (combined_files l.names)) (map plan_view l.files)
