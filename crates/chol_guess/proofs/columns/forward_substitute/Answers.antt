use Rattle.std.proofs.Common.{arith, rules, FitsSigned}
use Rattle.std.specs.Int.{w128}
use Rattle.std.proofs.lemmas.Int.{to_z-of_z}
use Rattle.whole_numbers.specs.Squares.{square_at}
use Rattle.whole_numbers.specs.Lists.{at}
use Rattle.chol_guess.proofs.Alone.{up_stops}
use Rattle.chol_guess.proofs.Steps.{cleared_up, up_more}
use Rattle.chol_guess.proofs.columns.forward_substitute.Goals as goal

pub loop-i-init : goal.loop-i-init
loop-i-init c = cleared_up (square_at c.args.f.now) c.args.g c.args.c (at c.clear.new.u) c.clear.ensures

pub returns-in-None-clause-none : goal.returns-in-None-clause-none
returns-in-None-clause-none c = λ v.
    up_stops c.args.f.now.size c.loop-i.i (square_at c.args.f.now) c.args.g c.args.c (at c.loop-i.u) v (omega arith) c.loop-i.invariant c.in-None.ensures

pub loop-i-preserved : goal.loop-i-preserved
loop-i-preserved c =
    let fits : FitsSigned w128 c.in-Some.next = search rules in
    up_more c.loop-i.i (square_at c.args.f.now) c.args.g c.args.c c.loop-i.u c.in-Some.next _ (omega arith) c.loop-i.invariant c.in-Some.ensures.0 c.in-Some.ensures.1 (to_z-of_z w128 c.in-Some.next fits)
