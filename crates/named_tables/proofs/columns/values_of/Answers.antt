use Rattle.std.proofs.Common.{◌∙◌}
use Rattle.snx_rows.specs.Named.{row_of}
use Rattle.named_tables.proofs.ColumnLaws.{if_named, value_or}
use Rattle.named_tables.proofs.columns.values_of.Goals as goal

pub returns : goal.returns
returns c = if_named value_or (row_of c.args.rows.now) c.args.names.now c.deref.result.now c.values_in.result (c.deref.ensures.value ∙ c.in_ok-found.ensures) c.values_in.ensures
