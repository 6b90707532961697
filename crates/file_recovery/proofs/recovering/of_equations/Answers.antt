use Rattle.neq_stack.specs.Neqs.{neq_view}
use Rattle.file_recovery.specs.Parts.{equations_view}
use Rattle.file_recovery.proofs.KnownLaws.{equations_known}
use Rattle.file_recovery.proofs.recovering.of_equations.Goals as goal

pub returns-in-Ok-clause-known : goal.returns-in-Ok-clause-known
returns-in-Ok-clause-known g c =
    let e = c.in-Ok.ensures in
    equations_known (equations_view c.args.blocks.now) c.args.weight.now c.args.scales.now (neq_view c.in-Ok.neq) e.neq e.sound e.exact e.modest e.exponents
