use Rattle.stack_rules.proofs.DominantStacks as laws
use Rattle.stack_rules.proofs.solving.dominant_are_enclosed.Goals as goal

pub returns : goal.returns
returns c = laws.dominant_are_enclosed
