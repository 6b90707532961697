use Rattle.std.proofs.Common.{◌≡◌, ◌≤◌, ◌<◌, ◌+◌, ◌*◌, ◌^◌, arith, ap, ◌∙◌, ◌⊎◌, inl, inr}
use Rattle.std.proofs.Math.Decide.{dec_lt}
use Rattle.std.proofs.lemmas.Int.{ints}
use Rattle.whole_numbers.proofs.Powers.{ten_le, ten_pow_above}
use Rattle.decimal_text.proofs.Places.{HasDigits, counted, rounded_most, whole_below, digits_whole, digits_kept, digits_more, places_whole, places_kept, places_carried, exponent_of}
use Rattle.decimal_text.proofs.rounding.round_to.Goals as goal

pub returns-then-size-eq0-clause-few : goal.returns-then-size-eq0-clause-few
returns-then-size-eq0-clause-few c = ten_pow_above c.args.digits

whole : (c : goal.After-pow) → HasDigits (c.ilog10-count.result + 1) c.args.size
whole c = counted c.ilog10-count.result c.args.size c.ilog10-count.ensures.power_le c.ilog10-count.ensures.next_power_gt

below : (c : goal.After-pow) → c.args.size * c.pow.result < 10 ^ c.args.digits
below c = let l = c.if-count-digits.true in let w = whole_below c.args.digits c.args.size (c.ilog10-count.result + 1) (whole c) l in omega (arith, ap (λ n. c.args.size * n) c.pow.ensures)

pub overflow_cast-result : goal.overflow_cast-result
overflow_cast-result c =
    let t = ten_le (c.ilog10-count.result + 1) 18 (omega arith) in
    let w = counted c.ilog10-count.result c.args.size c.ilog10-count.ensures.power_le c.ilog10-count.ensures.next_power_gt in
    omega (arith, w.high)

pub overflow_mul-result : goal.overflow_mul-result
overflow_mul-result c = let t = ten_le c.args.digits 18 (omega arith) in omega (arith, below c)

pub returns-then-count-digits-clause-digits : goal.returns-then-count-digits-clause-digits
returns-then-count-digits-clause-digits c =
    let w = digits_whole c.args.digits c.args.size (c.ilog10-count.result + 1) (whole c) c.if-count-digits.true (omega arith) in
    ap (λ n. c.args.size * n) c.pow.ensures ∙ w

pub returns-then-count-digits-clause-exponent : goal.returns-then-count-digits-clause-exponent
returns-then-count-digits-clause-exponent c =
    let p = places_whole c.args.digits c.args.size (c.ilog10-count.result + 1) (whole c) c.if-count-digits.true (omega arith) in
    let x = exponent_of c.args.digits c.args.size c.args.exp (omega arith) in
    omega (arith, ints, p, x)

pub returns-then-count-digits-clause-few : goal.returns-then-count-digits-clause-few
returns-then-count-digits-clause-few c = below c

many : (c : goal.After-over) → HasDigits (c.ilog10-count.result + 1) c.args.size
many c = counted c.ilog10-count.result c.args.size c.ilog10-count.ensures.power_le c.ilog10-count.ensures.next_power_gt

most : (c : goal.After-over) → c.over.result ≤ 10 ^ c.args.digits
most c = omega (arith, c.over.ensures, rounded_most c.args.digits c.args.size (c.ilog10-count.result + 1) (many c) (omega arith))

pub overflow_cast-over : goal.overflow_cast-over
overflow_cast-over c = let t = ten_le c.args.digits 18 (omega arith) in omega (arith, most c)

pub carried-requires-clause-most : goal.carried-requires-clause-most
carried-requires-clause-most c = most c

either : (c : goal.After-carried) → (c.over.result < 10 ^ c.args.digits) ⊎ (c.over.result ≡ 10 ^ c.args.digits)
either c =
    let h = counted c.ilog10-count.result c.args.size c.ilog10-count.ensures.power_le c.ilog10-count.ensures.next_power_gt in
    let m = rounded_most c.args.digits c.args.size (c.ilog10-count.result + 1) h c.if-count-digits.false in
    elim (dec_lt c.over.result (10 ^ c.args.digits)) [ yes l ↦ inl l | no l ↦ inr (omega (arith, c.over.ensures)) ]

pub returns-clause-digits : goal.returns-clause-digits
returns-clause-digits c =
    let h = counted c.ilog10-count.result c.args.size c.ilog10-count.ensures.power_le c.ilog10-count.ensures.next_power_gt in
    elim (either c) [
      | inl l ↦ (c.carried.ensures.kept l).0 ∙ c.over.ensures ∙ digits_kept c.args.digits c.args.size (c.ilog10-count.result + 1) h c.if-count-digits.false (omega arith) (omega (arith, c.over.ensures))
      | inr e ↦ (c.carried.ensures.more e).0 ∙ digits_more c.args.digits c.args.size (c.ilog10-count.result + 1) h c.if-count-digits.false (omega arith) (omega arith) (omega (arith, c.over.ensures))
    ]

pub returns-clause-exponent : goal.returns-clause-exponent
returns-clause-exponent c =
    let h = counted c.ilog10-count.result c.args.size c.ilog10-count.ensures.power_le c.ilog10-count.ensures.next_power_gt in
    let x = exponent_of c.args.digits c.args.size c.args.exp (omega arith) in
    elim (either c) [
      | inl l ↦ omega (arith, ints, x, (c.carried.ensures.kept l).1, places_kept c.args.digits c.args.size (c.ilog10-count.result + 1) h c.if-count-digits.false (omega arith) (omega (arith, c.over.ensures)))
      | inr e ↦ omega (arith, ints, x, (c.carried.ensures.more e).1, places_carried c.args.digits c.args.size (c.ilog10-count.result + 1) h c.if-count-digits.false (omega arith) (omega (arith, c.over.ensures)))
    ]

pub returns-clause-few : goal.returns-clause-few
returns-clause-few c =
    let d = ten_pow_above c.args.digits in
    elim (either c) [ inl l ↦ omega (arith, (c.carried.ensures.kept l).0) | inr e ↦ omega (arith, (c.carried.ensures.more e).0) ]
