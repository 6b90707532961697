use Rattle.std.proofs.Common.{◌≡◌, ◌∙◌, Ok, length, ap, subst}
use Rattle.stated_order.specs.Steps.{HasOne}
use Rattle.neq_stack.specs.Systems.{NamedSystem}
use Rattle.named_tables.specs.Tables.{LiesInTable}
use Rattle.information_tables.specs.Exact.{IsInformation}
use Rattle.information_tables.specs.Tables.{IsInformationTable}
use Rattle.recover_solution.specs.Solutions.{touched_names}
use Rattle.file_recovery.specs.Solved.{IsSpread}
use Rattle.file_recovery.proofs.TableLaws.{matrix_known}
use Rattle.file_recovery.proofs.tables.matrix_table.Goals as goal

pub returns-clause-known : goal.returns-clause-known
returns-clause-known g c =
    let apriori = c.args.apriori.now in
    let cells = c.args.cells.now in
    let weight = c.args.weight.now in
    let scales = c.args.scales.now in
    let names = c.args.names.now in
    let part : c.in_ok-part.part ≡ touched_names apriori cells names = c.in_ok-part.ensures in
    let small = c.in_ok-small.small in
    let e = c.in_ok-small.ensures in
    matrix_known c.args.content apriori cells weight scales names small c.in_ok-spread.field-0
    (subst (λ l. IsInformationTable c.args.content apriori cells weight scales l (Ok small)) part e.table) (e.size ∙ ap length part) (subst (λ l. IsSpread names l small c.in_ok-spread.field-0) part c.in_ok-spread.ensures)
    (subst (λ l. (K : NamedSystem) → IsInformation c.args.content apriori cells l weight K → LiesInTable scales l small K) part e.lies) (subst (λ l. HasOne (IsInformation c.args.content apriori cells l weight)) part e.exists) e.modest
