use Rattle.std.proofs.Common.{List, length, map, take}
use Rattle.std.specs.Prelude.{Ok}
use Rattle.stated_order.specs.Lists.{AreEach}
use Rattle.snx_rows.specs.declared.rows.Row.{Row}
use Rattle.apriori_shift.specs.Answers.{HasFirstRows}
use Rattle.run_inputs.specs.Views.{input_view}
use Rattle.combine_cli.specs.Combination.{AreParts}
use Rattle.combine_cli.specs.Parts.{part_view, IsPartOf}
use Rattle.combine_cli.proofs.parts.parts_of.Given as goal

abbrev pub invariant-loop-input : goal.invariant-loop-input
invariant-loop-input g l = record {
  so_far : (rows : List Row) → HasFirstRows l.base rows → AreParts l.scales rows (map input_view (take (length l.yielded) l.fn.inputs.items)) (Ok (map part_view l.parts.items));
  each : (rows : List Row) → HasFirstRows l.base rows → AreEach (IsPartOf l.scales rows) (map input_view (take (length l.yielded) l.fn.inputs.items)) (map part_view l.parts.items);
}
