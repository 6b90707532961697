use Rattle.std.proofs.Common.{◌≡◌, ◌-◌, suc, arith, rules, subst, FitsSigned}
use Rattle.std.specs.Int.{w64}
use Rattle.std.proofs.lemmas.Int.{to_z-of_z}
use Rattle.whole_numbers.specs.Squares.{square_at}
use Rattle.whole_numbers.specs.Lists.{at}
use Rattle.chol_guess.specs.Rows.{IsBackFrom}
use Rattle.chol_guess.proofs.Alone.{down_stops}
use Rattle.chol_guess.proofs.Steps.{down_more}
use Rattle.chol_guess.proofs.columns.back_substitute.Goals as goal

pub loop-i-preserved : goal.loop-i-preserved
loop-i-preserved c =
    let n = c.args.f.now.size in
    let f = square_at c.args.f.now in
    let i = c.loop-i.i - 1 in
    let fits : FitsSigned w64 c.in-Some.next = search rules in
    let next : c.loop-i.i ≡ suc i = omega arith in
    let so_far = subst (λ m. IsBackFrom n m f (at c.args.u.now) (at c.loop-i.x)) next c.loop-i.invariant in
    down_more n i f (at c.args.u.now) c.loop-i.x c.in-Some.next _ (omega arith) (omega arith) so_far c.in-Some.ensures.0 c.in-Some.ensures.1 (to_z-of_z w64 c.in-Some.next fits)

pub returns-in-None-clause-none : goal.returns-in-None-clause-none
returns-in-None-clause-none c =
    let n = c.args.f.now.size in
    let f = square_at c.args.f.now in
    let i = c.loop-i.i - 1 in
    let next : c.loop-i.i ≡ suc i = omega arith in
    let so_far = subst (λ m. IsBackFrom n m f (at c.args.u.now) (at c.loop-i.x)) next c.loop-i.invariant in
    λ y. down_stops n i f (at c.args.u.now) (at c.loop-i.x) y (omega arith) so_far c.in-None.ensures
