use Rattle.std.proofs.Common.{sym}
use Rattle.control_doc.proofs.SiteLists.{too_few, too_many}
use Rattle.control_doc.proofs.datum.site_of.Goals as goal

pub returns-in_default : goal.returns-in_default
returns-in_default c = sym (too_few c.args.texts.now c.in_default.len_below)

pub returns-in_default-2 : goal.returns-in_default-2
returns-in_default-2 c = sym (too_many c.args.texts.now c.in_default.len_at_least)
