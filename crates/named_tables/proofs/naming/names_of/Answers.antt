use Rattle.std.proofs.Common.{◌∙◌}
use Rattle.named_tables.proofs.NameLaws.{no_repeat, not_many}
use Rattle.named_tables.proofs.naming.names_of.Goals as goal

pub unreachable-requires : goal.unreachable-requires
unreachable-requires c = no_repeat c.args.rows.now c.deref.result.now c.in-Err-Repeated.field-0 c.in-Err-Repeated.field-0-0 c.requires.1.names (c.deref.ensures.value ∙ c.in_ok-ids.ensures) c.in-Err-Repeated.field-0-is c.in-Err-Repeated.ensures

pub unreachable-requires-in-Err-TooMany : goal.unreachable-requires-in-Err-TooMany
unreachable-requires-in-Err-TooMany c = not_many c.args.rows.now c.deref.result.now c.in-Err-TooMany.field-0 c.in-Err-TooMany.field-0-0 c.requires.1.few (c.deref.ensures.value ∙ c.in_ok-ids.ensures) c.in-Err-TooMany.field-0-is c.in-Err-TooMany.ensures
