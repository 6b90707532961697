use Rattle.std.proofs.Common.{map}
use Rattle.desk_io.specs.Outputs.{named_text}
use Rattle.desk_io.proofs.OutputLists.{stands}
use Rattle.desk_io.proofs.outputs.write_outputs.Goals as goal

pub returns-clause-stands : goal.returns-clause-stands
returns-clause-stands g c = λ tells differ. stands (map named_text c.args.outputs.now) _ _ _ differ (c.write_each.ensures.content tells)
