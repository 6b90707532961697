use Rattle.combine_cli.proofs.DominantLaws as laws
use Rattle.combine_cli.proofs.laws.dominant_stacks_are_enclosed.Goals as goal

pub returns : goal.returns
returns c = laws.dominant_stacks_are_enclosed
