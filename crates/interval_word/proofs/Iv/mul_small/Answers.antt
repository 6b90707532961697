use Rattle.std.proofs.Common.{arith}
use Rattle.std.proofs.lemmas.Int.{to_z-of_z}
use Rattle.interval_word.proofs.Fits.{scale_down}
use Rattle.interval_word.proofs.Iv.mul_small.Goals as goal

pub made-requires-else-k-ge0 : goal.made-requires-else-k-ge0
made-requires-else-k-ge0 c = grind (arith, to_z-of_z, scale_down)
