use Rattle.std.proofs.Common.{arith, ◌+◌}
use Rattle.sym_blocks.specs.Tables.{entry_at}
use Rattle.whole_numbers.specs.Lists.{at}
use Rattle.equil.specs.Tables.{table_of}
use Rattle.enclosure_check.specs.Defects.{products_to}
use Rattle.whole_numbers.proofs.Division.{two_pow_le}
use Rattle.enclosure_check.proofs.DefectLaws.{total_small, row_parts_is}
use Rattle.enclosure_check.proofs.row_defects.row_defect.Goals as goal

pub overflow_add-total : goal.overflow_add-total
overflow_add-total g c =
    let w = c.args.w.now in
    let r = c.row-r.result.now in
    let s = total_small c.loop-j.j c.g-g.result c.args.i (λ j. products_to w.a.size (at r) (λ k. entry_at w.a k j)) (omega (arith, w.few)) in
    let p = two_pow_le (c.g-g.result + 60) (omega (arith, c.g-g.ensures.scale.most)) in
    omega arith

pub parts-requires-clause-small : goal.parts-requires-clause-small
parts-requires-clause-small g c =
    let w = c.args.w.now in
    let r = c.row-r.result.now in
    let s = total_small c.loop-j.j c.g-g.result c.args.i (λ j. products_to w.a.size (at r) (λ k. entry_at w.a k j)) (omega (arith, w.few)) in
    omega arith

pub returns : goal.returns
returns g c =
    let w = c.args.w.now in
    let r = c.row-r.result.now in
    row_parts_is w.a.size c.loop-j.j c.g-g.result c.args.i r c.args.p.now (table_of w.a w.d.items) c.loop-j.total c.parts.result (omega arith) c.g-g.ensures.value c.loop-j.invariant c.parts.ensures
    (λ k l. c.row-r.ensures.entries k (omega arith))
