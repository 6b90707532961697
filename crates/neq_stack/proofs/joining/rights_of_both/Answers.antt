use Rattle.std.proofs.Common.{◌≤◌, ◌<◌, ◌∙◌, length, sym, ap, subst, arith}
use Rattle.whole_numbers.specs.Intervals.{Interval, size}
use Rattle.neq_stack.specs.ByName.{right_at_place}
use Rattle.neq_stack.proofs.SumLaws.{small_sum}
use Rattle.neq_stack.proofs.joining.rights_of_both.Goals as goal

pub sum-requires : goal.sum-requires
sum-requires c =
    let k = c.loop-k.k in
    let within : k < length c.args.ones.now = omega arith in
    let first = c.right_at-first.ensures ∙ ap (right_at_place c.args.one.now) c.said_at.ensures in
    let second = c.right_at-second.ensures ∙ ap (right_at_place c.args.other.now) c.said_at-in-loop-k.ensures in
    small_sum c.right_at-first.result c.right_at-second.result c.requires.fit.0 c.requires.fit.1
    (subst (λ (w : Interval). size w ≤ c.requires.fit.0) (sym first) (c.requires.fit.2 k within)) (subst (λ (w : Interval). size w ≤ c.requires.fit.1) (sym second) (c.requires.fit.3 k within)) c.requires.fit.4
