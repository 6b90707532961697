use Rattle.std.proofs.Common.{FitsSigned, w32, rules, refl, subst, sym}
use Rattle.std.specs.Int.{w128}
use Rattle.std.proofs.lemmas.Int.{to_z-of_z}
use Rattle.decimal_e.specs.Decimals.{Decimal, IsCanonicalOf, IsBounded, signed_like}
use Rattle.decimal_e.proofs.Values.{stripped_form_at, bounded_form_at, bounded_parts}
use Rattle.decimal_e.proofs.dec.Dec.new.Goals as goal

pub returns-else-is_bounded : goal.returns-else-is_bounded
returns-else-is_bounded c =
    let f : FitsSigned w128 c.args.mant = c.ranges.mant in
    let e : FitsSigned w32 c.args.exp = c.ranges.exp in
    let g : FitsSigned w32 c.raised-exp.result = search rules in
    let k = simp to_z-of_z at c.if-is_bounded.ensures in
    let r = simp to_z-of_z at c.raised-exp.ensures in
    let u = simp to_z-of_z at c.unsigned_abs.ensures.value in
    let form = stripped_form_at c.args.mant c.args.exp _ c.raised-exp.result c.stripped-size.result.0 c.stripped-size.result.1 c.unsigned_abs.result refl r c.stripped-size.ensures.value u c.stripped-size.ensures.end in
    (record { mant = signed_like c.args.mant c.stripped-size.result.0; exp = c.raised-exp.result }, (form, λ b. k (bounded_parts c.args.mant c.raised-exp.result c.stripped-size.result.0 b)))

formed : (c : goal.After-with_sign) → IsCanonicalOf (record { mant = c.with_sign.result; exp = c.raised-exp.result }) (record { mant = c.args.mant; exp = c.args.exp })
formed c =
    let f : FitsSigned w128 c.args.mant = c.ranges.mant in
    let e : FitsSigned w32 c.args.exp = c.ranges.exp in
    let w = simp to_z-of_z at c.with_sign.ensures in
    let r = simp to_z-of_z at c.raised-exp.ensures in
    let u = simp to_z-of_z at c.unsigned_abs.ensures.value in
    stripped_form_at c.args.mant c.args.exp c.with_sign.result c.raised-exp.result c.stripped-size.result.0 c.stripped-size.result.1 c.unsigned_abs.result w r c.stripped-size.ensures.value u c.stripped-size.ensures.end

bounded : (c : goal.After-with_sign) → IsBounded (record { mant = c.with_sign.result; exp = c.raised-exp.result })
bounded c =
    let f : FitsSigned w128 c.args.mant = c.ranges.mant in
    let g : FitsSigned w32 c.raised-exp.result = search rules in
    let w = simp to_z-of_z at c.with_sign.ensures in
    let k = simp to_z-of_z at c.if-is_bounded.ensures in
    bounded_form_at c.args.mant c.raised-exp.result c.with_sign.result c.stripped-size.result.0 w k

pub made-requires-then-is_bounded-clause-canonical : goal.made-requires-then-is_bounded-clause-canonical
made-requires-then-is_bounded-clause-canonical c =
    let f : FitsSigned w128 c.with_sign.result = search rules in
    let g : FitsSigned w32 c.raised-exp.result = search rules in
    simp to_z-of_z (formed c).canonical

pub made-requires-then-is_bounded-clause-bounded : goal.made-requires-then-is_bounded-clause-bounded
made-requires-then-is_bounded-clause-bounded c =
    let f : FitsSigned w128 c.with_sign.result = search rules in
    let g : FitsSigned w32 c.raised-exp.result = search rules in
    simp to_z-of_z (bounded c)

pub returns-then-is_bounded : goal.returns-then-is_bounded
returns-then-is_bounded c =
    let f : FitsSigned w128 c.with_sign.result = search rules in
    let g : FitsSigned w32 c.raised-exp.result = search rules in
    let n : FitsSigned w128 c.args.mant = c.ranges.mant in
    let e : FitsSigned w32 c.args.exp = c.ranges.exp in
    let w = simp to_z-of_z at c.with_sign.ensures in
    let r = simp to_z-of_z at c.raised-exp.ensures in
    let u = simp to_z-of_z at c.unsigned_abs.ensures.value in
    let k = simp to_z-of_z at c.if-is_bounded.ensures in
    let m = simp to_z-of_z at c.made-then-is_bounded.ensures in
    subst (λ (x : Decimal). IsCanonicalOf x (record { mant = c.args.mant; exp = c.args.exp }) × IsBounded x) (sym m)
    (stripped_form_at c.args.mant c.args.exp c.with_sign.result c.raised-exp.result c.stripped-size.result.0 c.stripped-size.result.1 c.unsigned_abs.result w r c.stripped-size.ensures.value u c.stripped-size.ensures.end, bounded_form_at c.args.mant c.raised-exp.result c.with_sign.result c.stripped-size.result.0 w k)
