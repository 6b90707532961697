use Rattle.named_tables.proofs.Alone.{one_table_by, one_column}
use Rattle.named_tables.proofs.one_table.Goals as goal

pub returns-clause-tables : goal.returns-clause-tables
returns-clause-tables c = one_table_by

pub returns-clause-columns : goal.returns-clause-columns
returns-clause-columns c = one_column
