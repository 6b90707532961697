use Rattle.std.proofs.Common.{take}
use Rattle.std.specs.List.{flat_map}
use Rattle.apriori_shift.specs.Firsts.{Stands}
use Rattle.apriori_shift.proofs.commons.common.Given as goal

abbrev pub invariant-loop-rows : goal.invariant-loop-rows
invariant-loop-rows l = Stands l.base l.clash (flat_map (λ file. file.now) (take l.rows-index l.files))
