use Rattle.std.proofs.Common.{inr}
use Rattle.enclosure_check.proofs.enclosure.enclosed_by_transposed.Goals as goal

pub returns-in-Ok-clause-enclosed : goal.returns-in-Ok-clause-enclosed
returns-in-Ok-clause-enclosed g c = inr (c.args.refusal, c.requires.refused, (c.in_ok-turned.turned, c.in_ok-turned.ensures, c.in-Ok.ensures.enclosed))
