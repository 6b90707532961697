use Rattle.std.proofs.Common.{◌∙◌, sym}
use Rattle.control_doc.proofs.Items.{keys_count}
use Rattle.control_doc.proofs.parts.key_count.Goals as goal

pub returns : goal.returns
returns c = c.len.ensures.len ∙ sym (keys_count c.args.table.now.entries)
