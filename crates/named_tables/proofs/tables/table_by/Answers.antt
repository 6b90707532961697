use Rattle.std.proofs.Common.{inr, refl}
use Rattle.named_tables.specs.declared.faults.RecoverFault.TheVariants.{Range}
use Rattle.named_tables.proofs.TableLaws.{is_table, no_table}
use Rattle.named_tables.proofs.tables.table_by.Goals as goal

pub returns-in-Some-clause-refused : goal.returns-in-Some-clause-refused
returns-in-Some-clause-refused g c = inr (
  Range c.at.result.now c.at-in-Some.result.now,
  refl,
  no_table c.args.content c.args.rows.now c.args.cells.now c.args.weight.now c.args.scales.now c.args.names.now c.in_ok-table.table c.in_ok-table.ensures c.in-Some.row c.in-Some.col c.at.result.now c.at-in-Some.result.now c.in-Some.ensures c.at.ensures c.at-in-Some.ensures,
)

pub returns-in-None-clause-table : goal.returns-in-None-clause-table
returns-in-None-clause-table g c = is_table c.args.content c.args.rows.now c.args.cells.now c.args.weight.now c.args.scales.now c.args.names.now c.in_ok-table.table c.in_ok-table.ensures c.in-None.ensures
