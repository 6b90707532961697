use Rattle.std.proofs.Common.{◌∙◌, Bor, List, Ok, map, ap}
use Rattle.std.specs.List.{flat_map}
use Rattle.std.proofs.lemmas.List.Elements.{All-map}
use Rattle.snx_blocks.specs.Documents.{IsValid}
use Rattle.snx_rows.specs.declared.rows.Row.{Row}
use Rattle.run_inputs.specs.Inputs.{PlainInput}
use Rattle.run_inputs.specs.Views.{input_view}
use Rattle.apriori_shift.specs.Answers.{HasFirstRows}
use Rattle.apriori_shift.specs.Common.{IsCommon}
use Rattle.combine_cli.specs.Combination.{counted_rows}
use Rattle.combine_cli.proofs.CountedLaws.{counted_common, common_modest}
use Rattle.combine_cli.proofs.commons.common_of.Goals as goal
use Rattle.combine_cli.proofs.commons.common_of.Goals.{After-drop-files}

counted : (c : After-drop-files) → (let rows = counted_rows c.args.reference.now (map input_view c.args.inputs.now) in IsCommon rows (Ok rows) × HasFirstRows c.in-Ok.base rows)
counted c =
    let f : Bor (List Row) → List Row = λ file. file.now in
    counted_common c.in-Ok.base (flat_map f c.deref.result.now) (counted_rows c.args.reference.now (map input_view c.args.inputs.now)) (ap (flat_map f) c.deref.ensures.value ∙ c.in_ok-files.ensures) c.in-Ok.ensures.common

pub returns-in-Ok-clause-common : goal.returns-in-Ok-clause-common
returns-in-Ok-clause-common c = (counted c).0

pub returns-in-Ok-clause-small : goal.returns-in-Ok-clause-small
returns-in-Ok-clause-small c =
    common_modest c.in-Ok.base c.args.reference.now (map input_view c.args.inputs.now) (counted c).1
    (All-map (λ (input : PlainInput). IsValid input.doc) input_view c.args.inputs.now c.requires.valid)
