use Rattle.std.proofs.Common.{◌∙◌}
use Rattle.snx_rows.specs.Named.{row_of}
use Rattle.named_tables.proofs.ColumnLaws.{if_named, unit_or}
use Rattle.named_tables.proofs.columns.units_of.Goals as goal

pub returns : goal.returns
returns c = if_named unit_or (row_of c.args.rows.now) c.args.names.now c.deref.result.now c.units_in.result (c.deref.ensures.value ∙ c.in_ok-found.ensures) c.units_in.ensures
