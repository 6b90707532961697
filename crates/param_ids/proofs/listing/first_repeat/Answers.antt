use Rattle.std.proofs.Common.{sym, ◌∙◌, arith}
use Rattle.param_ids.proofs.Repeats.{repeat_at, rises_step, rising_from_all, not_less, less_from}
use Rattle.param_ids.proofs.listing.first_repeat.Goals as goal

pub returns-then-ne-clause-some : goal.returns-then-ne-clause-some
returns-then-ne-clause-some c =
    repeat_at c.args.ids.now c.loop-i.i c.index-ids-i.result c.index-ids-i-in-loop-i.result c.index-ids-i-then-ne.result c.requires (omega arith) (omega arith) c.loop-i.invariant
    c.index-ids-i.is c.index-ids-i-in-loop-i.is c.index-ids-i-then-ne.is (λ less. not_less c.order_of.result c.ne.result c.ne.ensures c.if-ne.true (c.order_of.ensures ∙ less))

pub loop-i-preserved : goal.loop-i-preserved
loop-i-preserved c =
    rises_step c.args.ids.now c.loop-i.i c.index-ids-i.result c.index-ids-i-in-loop-i.result (omega arith) (omega arith) c.loop-i.invariant
    c.index-ids-i.is c.index-ids-i-in-loop-i.is (sym c.order_of.ensures ∙ less_from c.order_of.result c.ne.result c.ne.ensures c.if-ne.false)

pub returns-clause-none : goal.returns-clause-none
returns-clause-none c = rising_from_all c.args.ids.now (λ k d lt. c.loop-i.invariant k d (omega arith))
