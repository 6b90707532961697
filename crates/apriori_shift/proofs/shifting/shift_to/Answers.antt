use Rattle.neq_stack.specs.Neqs.{neq_view}
use Rattle.apriori_shift.proofs.ShiftLaws.{placed_sound, placed_small}
use Rattle.apriori_shift.proofs.shifting.shift_to.Goals as goal

pub returns-clause-sound : goal.returns-clause-sound
returns-clause-sound g c =
    placed_sound c.deref-3.result.now c.args.values.items (neq_view c.args.neq.now) c.in_ok-right.right.items c.requires.sound c.in_ok-right.ensures.moved c.requires.lengths c.requires.values

pub returns-clause-modest : goal.returns-clause-modest
returns-clause-modest g c = placed_small c.deref-3.result.now c.args.values.items (neq_view c.args.neq.now) c.in_ok-right.right.items c.requires.sound c.in_ok-right.ensures.moved
