use Rattle.std.proofs.Common.{refl, arith}
use Rattle.apriori_shift.proofs.RightLaws.{less_made, none_past, first_past}
use Rattle.apriori_shift.proofs.rights.rights_less.Goals as goal

pub returns-then-mag-gt-LIMIT-clause-past : goal.returns-then-mag-gt-LIMIT-clause-past
returns-then-mag-gt-LIMIT-clause-past c =
    (refl, first_past c.args.right.now c.args.products.now c.requires.lengths c.loop-row.row c.mag.result c.right_less-w.result (omega arith) c.loop-row.invariant.fit c.right_less-w.ensures c.mag.ensures c.if-mag-gt-LIMIT.true)

pub returns-clause-less : goal.returns-clause-less
returns-clause-less c = less_made c.args.right.now c.args.products.now c.loop-row.less.items c.loop-row.row c.requires.lengths c.loop-row.invariant.len (omega arith) c.loop-row.invariant.each

pub returns-clause-fit : goal.returns-clause-fit
returns-clause-fit c = none_past c.args.right.now c.args.products.now c.requires.lengths c.loop-row.row (omega arith) c.loop-row.invariant.fit
