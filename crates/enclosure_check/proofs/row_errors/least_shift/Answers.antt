use Rattle.std.proofs.Common.{rules}
use Rattle.enclosure_check.specs.ErrorParts.{FitAfter}
use Rattle.enclosure_check.proofs.ErrorLaws.{least_to}
use Rattle.enclosure_check.proofs.row_errors.least_shift.Goals as goal

pub returns-clause-least : goal.returns-clause-least
returns-clause-least c =
    let entries = c.args.entries.now in
    least_to (FitAfter entries) 60 c.least_passed.result c.least_passed.ensures.few
    (λ k less fits. let said = c.least_passed.ensures.before k less in search rules)
    (λ less. let said = c.least_passed.ensures.here less in search rules)
    (λ i within. let small = c.requires i within in search rules)
