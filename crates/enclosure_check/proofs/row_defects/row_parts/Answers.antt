use Rattle.std.proofs.Common.{arith, ◌+◌, ◌∙◌, ap}
use Rattle.whole_numbers.specs.Lists.{at}
use Rattle.sym_blocks.specs.Tables.{entry_at}
use Rattle.enclosure_check.specs.Defects.{products_to, clipped_left, turned_table}
use Rattle.whole_numbers.proofs.Division.{two_pow_le}
use Rattle.enclosure_check.proofs.DefectLaws.{total_more, total_small, row_parts_is}
use Rattle.enclosure_check.proofs.row_defects.row_parts.Goals as goal

pub overflow_add-total : goal.overflow_add-total
overflow_add-total g c =
    let a = c.args.rows.now.table.now in
    let r = c.row-r.result.now in
    let t = total_small c.loop-j.j c.g-g.result c.args.i (λ j. products_to a.size (at r) (λ k. entry_at a j k)) (omega (arith, c.args.rows.now.working.few)) in
    let p = two_pow_le (c.g-g.result + 60) (omega (arith, c.g-g.ensures.scale.most)) in
    omega arith

pub loop-j-preserved : goal.loop-j-preserved
loop-j-preserved g c =
    let a = c.args.rows.now.table.now in
    let r = c.row-r.result.now in
    total_more c.loop-j.j (λ j. clipped_left c.g-g.result c.args.i j (products_to a.size (at r) (λ k. entry_at a j k))) c.loop-j.total c.clipped-total.result c.loop-j.invariant
    (c.clipped-total.ensures ∙ ap (clipped_left c.g-g.result c.args.i c.loop-j.j) c.row_products.ensures.value)

pub parts-requires-clause-small : goal.parts-requires-clause-small
parts-requires-clause-small g c =
    let a = c.args.rows.now.table.now in
    let r = c.row-r.result.now in
    let t = total_small c.loop-j.j c.g-g.result c.args.i (λ j. products_to a.size (at r) (λ k. entry_at a j k)) (omega (arith, c.args.rows.now.working.few)) in
    omega arith

pub returns : goal.returns
returns g c =
    let a = c.args.rows.now.table.now in
    row_parts_is a.size c.loop-j.j c.g-g.result c.args.i c.row-r.result.now c.args.p.now (turned_table a) c.loop-j.total c.parts.result (omega arith) c.g-g.ensures.value c.loop-j.invariant c.parts.ensures
    (λ k l. c.row-r.ensures.entries k (omega arith))
