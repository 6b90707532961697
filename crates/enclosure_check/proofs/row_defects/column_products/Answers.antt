use Rattle.std.proofs.Common.{arith, rules, ◌∙◌, ap, FitsSigned, w64}
use Rattle.std.proofs.lemmas.Int.{to_z-of_z}
use Rattle.whole_numbers.specs.Intervals.{size}
use Rattle.sym_blocks.specs.Tables.{entry_at}
use Rattle.whole_numbers.specs.Lists.{at}
use Rattle.enclosure_check.proofs.DefectLaws.{size_products, column_in_bounds, adds_product}
use Rattle.enclosure_check.proofs.row_defects.column_products.Goals as goal

pub plus-sum-requires : goal.plus-sum-requires
plus-sum-requires g c =
    let a = c.args.a.now in
    let r = c.args.r.now in
    let k = c.loop-k.k in
    let fr : FitsSigned w64 (at r k) = search rules in
    let term = simp to_z-of_z at c.scaled_at.ensures in
    let b = column_in_bounds a.size a r c.args.j c.requires.entries.few c.requires.len c.requires.numbers c.requires.entries.small c.requires.column in
    let m = adds_product a.size k (at r) (λ k. entry_at a k c.args.j) c.loop-k.sum c.scaled_at.result b (omega arith) c.loop-k.invariant term in
    record { lo_fits = m.lo_fits; hi_fits = m.hi_fits }

pub loop-k-preserved : goal.loop-k-preserved
loop-k-preserved g c =
    let a = c.args.a.now in
    let r = c.args.r.now in
    let k = c.loop-k.k in
    let fr : FitsSigned w64 (at r k) = search rules in
    let term = simp to_z-of_z at c.scaled_at.ensures in
    let b = column_in_bounds a.size a r c.args.j c.requires.entries.few c.requires.len c.requires.numbers c.requires.entries.small c.requires.column in
    let m = adds_product a.size k (at r) (λ k. entry_at a k c.args.j) c.loop-k.sum c.scaled_at.result b (omega arith) c.loop-k.invariant term in
    c.plus-sum.ensures ∙ m.sum

pub returns-clause-small : goal.returns-clause-small
returns-clause-small g c =
    let a = c.args.a.now in
    let r = c.args.r.now in
    let b = column_in_bounds a.size a r c.args.j c.requires.entries.few c.requires.len c.requires.numbers c.requires.entries.small c.requires.column in
    let s = size_products a.size c.loop-k.k (at r) (λ k. entry_at a k c.args.j) b (omega arith) in
    omega (arith, s, ap (λ w. size w) c.loop-k.invariant)
