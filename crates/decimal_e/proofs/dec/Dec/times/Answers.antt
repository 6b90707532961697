use Rattle.std.proofs.Common.{◌*◌, rules, FitsSigned, w32}
use Rattle.std.specs.Int.{w128}
use Rattle.std.proofs.lemmas.Int.{to_z-of_z}
use Rattle.decimal_e.proofs.SameValues.{same_dec, product_none, product_same, sizes_are, signs_are}
use Rattle.decimal_e.proofs.dec.Dec.times.Goals as goal

pub returns-in-None : goal.returns-in-None
returns-in-None c =
    let a = c.args.self.now in
    let b = c.args.other.now in
    let s = sizes_are a b c.mant.result c.mant-2.result _ _ _ (search rules) (search rules) c.mant.ensures.value c.mant-2.ensures.value c.unsigned_abs.ensures.value c.unsigned_abs-2.ensures.value c.parted-left.ensures.value in
    product_none a b (c.parted-left.result.0 * c.parted-left.result.1) c.parted-left.result.2 s c.parted-left.ensures.end c.in-None.ensures

pub returns-in-Some : goal.returns-in-Some
returns-in-Some c =
    let a = c.args.self.now in
    let b = c.args.other.now in
    let s = sizes_are a b c.mant.result c.mant-2.result _ _ _ (search rules) (search rules) c.mant.ensures.value c.mant-2.ensures.value c.unsigned_abs.ensures.value c.unsigned_abs-2.ensures.value c.parted-left.ensures.value in
    let w = signs_are a b c.mant-in-Some.result c.mant-in-Some-2.result _ _ _ (search rules) (search rules) c.mant-in-Some.ensures.value c.mant-in-Some-2.ensures.value c.in-Some.ensures.1 c.with_signs.ensures in
    let m : FitsSigned w128 c.with_signs.result = search rules in
    let e : FitsSigned w32 c.exponent_of.result = search rules in
    let r = simp to_z-of_z at c.new.ensures in
    same_dec (record { mant = c.with_signs.result; exp = c.exponent_of.result }) _ _
    (product_same a b (c.parted-left.result.0 * c.parted-left.result.1) c.parted-left.result.2 c.with_signs.result c.exponent_of.result w s c.parted-left.ensures.end c.exponent_of.ensures) r
