use Rattle.neq_stack.proofs.NameLaws.{place_said}
use Rattle.neq_stack.proofs.places.place_of.Goals as goal

pub returns : goal.returns
returns c = place_said c.args.names.now c.args.id.now c.find.result c.requires.0 c.find.ensures.some c.find.ensures.none
