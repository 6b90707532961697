use Rattle.std.proofs.Common.{sym, arith}
use Rattle.std.proofs.lemmas.Grind.{common_steps}
use Rattle.control_doc.proofs.Fives.{too_few, too_many}
use Rattle.control_doc.proofs.reductions.id_of.Goals as goal
use Rattle.control_doc.proofs.reductions.id_of.Goals.{in_default-via-then-texts-lt5, in_default-via-else-texts-lt5+else-texts-lt6}

pub returns-in_default : goal.returns-in_default
returns-in_default c = elim c.in_default.branch [ in_default-via-then-texts-lt5 w ↦ sym (too_few c.args.texts.now (grind (arith, common_steps))) | in_default-via-else-texts-lt5+else-texts-lt6 w ↦ sym (too_many c.args.texts.now (grind (arith, common_steps))) ]
