use Rattle.std.proofs.Common.{◌≡◌, ◌<◌, ◌+◌, ◌∙◌, ◌*ℤ◌, arith, rules, sym, ap, length, FitsSigned}
use Rattle.std.proofs.lemmas.Int.{ints, to_z-of_z}
use Rattle.std.specs.Int.{w64}
use Rattle.whole_numbers.specs.Lists.{at}
use Rattle.enclosure_check.specs.VectorParts.{part_number}
use Rattle.enclosure_check.proofs.FactorLaws.{NoneOutside, sum_before, sum_whole, product_zero}
use Rattle.enclosure_check.proofs.VectorLaws.{parts_small, sum_step}
use Rattle.enclosure_check.proofs.vector.row_by_short.Goals as goal

pub loop-k-init : goal.loop-k-init
loop-k-init c =
    let r = c.args.row.now in
    let vs = c.args.numbers.now in
    let none : NoneOutside (part_number r vs.numbers.now) vs.first vs.end = λ k out. product_zero (at r k) _ (vs.zeros k out) in
    sym (sum_before (part_number r vs.numbers.now) vs.first vs.end none)

pub overflow_add-sum : goal.overflow_add-sum
overflow_add-sum c =
    let r = c.args.row.now in
    let vs = c.args.numbers.now.numbers.now in
    let k = c.loop-k.k in
    let short = c.as_slice-short.result.now in
    let inside : k < length short = omega (arith, c.args.numbers.now.order, c.as_slice-short.ensures.len) in
    let same : at short k ≡ at vs k = rw c.as_slice-short.ensures.value (c.args.numbers.now.same k (omega (arith, c.as_slice-short.ensures.len))) in
    let row_fits : FitsSigned w64 (at r k) = search rules in
    let number_fits : FitsSigned w64 (at short k) = search rules in
    let term : c.long_product-sum.result ≡ part_number r vs k = (simp to_z-of_z at c.long_product-sum.ensures) ∙ ap (λ x. at r k *ℤ x) same in
    let b = parts_small r vs (c.loop-k.k + 1) c.requires.sizes (omega (arith, c.args.numbers.now.order, c.args.numbers.now.within)) in
    let s = sum_step c.loop-k.k (part_number r vs) _ c.long_product-sum.result c.loop-k.invariant term b in
    omega (arith, ints, s.0)

pub loop-k-preserved : goal.loop-k-preserved
loop-k-preserved c =
    let r = c.args.row.now in
    let vs = c.args.numbers.now.numbers.now in
    let k = c.loop-k.k in
    let short = c.as_slice-short.result.now in
    let inside : k < length short = omega (arith, c.args.numbers.now.order, c.as_slice-short.ensures.len) in
    let same : at short k ≡ at vs k = rw c.as_slice-short.ensures.value (c.args.numbers.now.same k (omega (arith, c.as_slice-short.ensures.len))) in
    let row_fits : FitsSigned w64 (at r k) = search rules in
    let number_fits : FitsSigned w64 (at short k) = search rules in
    let term : c.long_product-sum.result ≡ part_number r vs k = (simp to_z-of_z at c.long_product-sum.ensures) ∙ ap (λ x. at r k *ℤ x) same in
    let b = parts_small r vs (c.loop-k.k + 1) c.requires.sizes (omega (arith, c.args.numbers.now.order, c.args.numbers.now.within)) in
    let s = sum_step c.loop-k.k (part_number r vs) _ c.long_product-sum.result c.loop-k.invariant term b in
    omega (arith, ints, s.0, s.1)

pub returns : goal.returns
returns c =
    let r = c.args.row.now in
    let vs = c.args.numbers.now in
    let none : NoneOutside (part_number r vs.numbers.now) vs.first vs.end = λ k out. product_zero (at r k) _ (vs.zeros k out) in
    sum_whole (length vs.numbers.now) c.loop-k.k (part_number r vs.numbers.now) vs.first vs.end _ none vs.within (omega (arith, vs.order)) c.loop-k.invariant
