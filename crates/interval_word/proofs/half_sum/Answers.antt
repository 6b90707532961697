use Rattle.std.proofs.Common.{rules, FitsSigned}
use Rattle.std.specs.Int.{w128}
use Rattle.std.proofs.lemmas.Int.{to_z-of_z}
use Rattle.interval_word.proofs.Halves.{half_sum_is, rests_fit}
use Rattle.interval_word.proofs.half_sum.Goals as goal

pub overflow_add-result-2 : goal.overflow_add-result-2
overflow_add-result-2 c =
    let fa : FitsSigned w128 c.args.a = c.ranges.a in
    let fb : FitsSigned w128 c.args.b = c.ranges.b in
    let d = simp to_z-of_z at c.div_euclid.ensures in
    let e = simp to_z-of_z at c.div_euclid-2.ensures in
    let r = simp to_z-of_z at c.rem_euclid.ensures.value in
    let s = simp to_z-of_z at c.rem_euclid-2.ensures.value in
    let fr : FitsSigned w128 c.rem_euclid.result = search rules in
    let fs : FitsSigned w128 c.rem_euclid-2.result = search rules in
    let rests = rests_fit c.args.a c.args.b c.rem_euclid.result c.rem_euclid-2.result r s in
    let f = simp to_z-of_z at c.div_euclid-3.ensures in
    let h = half_sum_is c.args.a c.args.b c.div_euclid.result c.div_euclid-2.result c.rem_euclid.result c.rem_euclid-2.result c.div_euclid-3.result fa fb d e r s f in
    let halves = h.halves in
    let rest = h.rest in
    let whole = h.whole in
    let fd : FitsSigned w128 c.div_euclid.result = search rules in
    let fe : FitsSigned w128 c.div_euclid-2.result = search rules in
    simp to_z-of_z whole

pub returns : goal.returns
returns c =
    let fa : FitsSigned w128 c.args.a = c.ranges.a in
    let fb : FitsSigned w128 c.args.b = c.ranges.b in
    let d = simp to_z-of_z at c.div_euclid.ensures in
    let e = simp to_z-of_z at c.div_euclid-2.ensures in
    let r = simp to_z-of_z at c.rem_euclid.ensures.value in
    let s = simp to_z-of_z at c.rem_euclid-2.ensures.value in
    let fr : FitsSigned w128 c.rem_euclid.result = search rules in
    let fs : FitsSigned w128 c.rem_euclid-2.result = search rules in
    let rests = rests_fit c.args.a c.args.b c.rem_euclid.result c.rem_euclid-2.result r s in
    let f = simp to_z-of_z at c.div_euclid-3.ensures in
    let h = half_sum_is c.args.a c.args.b c.div_euclid.result c.div_euclid-2.result c.rem_euclid.result c.rem_euclid-2.result c.div_euclid-3.result fa fb d e r s f in
    let halves = h.halves in
    let rest = h.rest in
    let whole = h.whole in
    let fd : FitsSigned w128 c.div_euclid.result = search rules in
    let fe : FitsSigned w128 c.div_euclid-2.result = search rules in
    simp to_z-of_z h.value
