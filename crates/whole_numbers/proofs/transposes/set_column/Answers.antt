use Rattle.std.proofs.Common.{arith, rules, FitsSigned}
use Rattle.std.specs.Int.{w64}
use Rattle.std.proofs.lemmas.Int.{to_z-of_z}
use Rattle.whole_numbers.specs.Lists.{at}
use Rattle.whole_numbers.proofs.ColumnsSet.{set_more}
use Rattle.whole_numbers.proofs.transposes.set_column.Goals as goal

pub loop-i-preserved : goal.loop-i-preserved
loop-i-preserved c =
    let x = at c.args.x.now c.loop-i.i in
    let fits : FitsSigned w64 x = search rules in
    set_more c.loop-i.i c.args.s.now c.loop-i.s c.set.new.self c.args.c c.args.x.now _ c.requires.len (omega arith) c.requires.within c.loop-i.invariant (to_z-of_z w64 x fits) c.set.ensures
