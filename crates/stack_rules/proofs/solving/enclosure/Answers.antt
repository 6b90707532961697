use Rattle.std.proofs.Common.{arith, refl}
use Rattle.stack_rules.proofs.solving.enclosure.Goals as goal

pub enclose_dominant-requires-after_bounds : goal.enclose_dominant-requires-after_bounds
enclose_dominant-requires-after_bounds g c κs within = (omega arith, (c.if-dominant.ensures.0 refl, (c.requires.some_workers, c.requires.few_workers)))
