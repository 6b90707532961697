use Rattle.std.proofs.Common.{pos, ◌*ℤ◌, FitsSigned, w32, rules, arith, sym, ap, refl, ◌∙◌}
use Rattle.std.specs.Int.{w128}
use Rattle.std.proofs.lemmas.Int.{ints, to_z-of_z, fits_signed_from_abs}
use Rattle.decimal_e.specs.Cuts.{numeral_of}
use Rattle.decimal_e.specs.Decimals.{Decimal, IsCanonicalOf}
use Rattle.decimal_e.specs.Grammar.{sign_of, digits_of, value_of}
use Rattle.decimal_e.proofs.Outcomes.{tally_form, tally_zero, value_read, zero_read, far_below, far_above, form_at}
use Rattle.decimal_e.proofs.Tallied.{not_too_long}
use Rattle.decimal_e.proofs.Values.{decimal_by}
use Rattle.decimal_e.proofs.read.numeral_value.Goals.{then-exp-lt-LEAST_EXPONENT-via-then-exp-lt-LEAST_EXPONENT, then-exp-lt-LEAST_EXPONENT-via-else-exp-lt-LEAST_EXPONENT+then-exp-gt-GREATEST_EXPONENT}
use Rattle.decimal_e.proofs.read.numeral_value.Goals as goal

pub returns-then-tally-eq0 : goal.returns-then-tally-eq0
returns-then-tally-eq0 c =
    let n = numeral_of c.args.numeral.now in
    let t = c.tally_of-tally.result in
    let form = tally_zero n t c.tally_of-tally.ensures c.if-tally-gt-MOST_DIGITS.false c.if-tally-eq0.true in
    let r = value_read n _ c.made.result c.capped-written.result c.made.ensures form c.capped-written.ensures c.if-written-gt-GREATEST_WRITTEN.false zero_read in
    (not_too_long t (digits_of n.mantissa) c.tally_of-tally.ensures c.if-tally-gt-MOST_DIGITS.false, r.0, r.1)

pub returns-then-exp-lt-LEAST_EXPONENT : goal.returns-then-exp-lt-LEAST_EXPONENT
returns-then-exp-lt-LEAST_EXPONENT c =
    let n = numeral_of c.args.numeral.now in
    let t = c.tally_of-tally.result in
    let form = tally_form n t c.capped-written.result c.exponent_of-exp.result c.tally_of-tally.ensures c.if-tally-gt-MOST_DIGITS.false c.if-tally-eq0.false c.capped-written.ensures c.if-written-gt-GREATEST_WRITTEN.false c.exponent_of-exp.ensures in (
      not_too_long t (digits_of n.mantissa) c.tally_of-tally.ensures c.if-tally-gt-MOST_DIGITS.false,
      elim c.then-exp-lt-LEAST_EXPONENT.branch [
        | then-exp-lt-LEAST_EXPONENT-via-then-exp-lt-LEAST_EXPONENT w ↦ far_below n t.value c.exponent_of-exp.result form c.if-tally-eq0.false (omega (arith, ints, w.if-exp-lt-LEAST_EXPONENT.true))
        | then-exp-lt-LEAST_EXPONENT-via-else-exp-lt-LEAST_EXPONENT+then-exp-gt-GREATEST_EXPONENT w ↦ far_above n t.value c.exponent_of-exp.result form c.if-tally-eq0.false (omega (arith, ints, w.if-exp-gt-GREATEST_EXPONENT.true))
      ],
    )

-- the canonical form, as it is made
formed : (c : goal.After-signed) → IsCanonicalOf (record { mant = c.signed.result; exp = c.exponent_of-exp.result }) (value_of (numeral_of c.args.numeral.now))
formed c =
    let n = numeral_of c.args.numeral.now in
    let t = c.tally_of-tally.result in
    form_at _ _ (value_of n) (decimal_by (record { mant = sign_of n.mantissa.sign *ℤ pos t.value; exp = c.exponent_of-exp.result }) (record { mant = c.signed.result; exp = c.exponent_of-exp.result }) (sym c.signed.ensures.value) refl)
    (tally_form n t c.capped-written.result c.exponent_of-exp.result c.tally_of-tally.ensures c.if-tally-gt-MOST_DIGITS.false c.if-tally-eq0.false c.capped-written.ensures c.if-written-gt-GREATEST_WRITTEN.false c.exponent_of-exp.ensures)

pub made-requires-2-clause-canonical : goal.made-requires-2-clause-canonical
made-requires-2-clause-canonical c =
    let f : FitsSigned w128 c.signed.result = search rules in
    let e : FitsSigned w128 c.exponent_of-exp.result = search rules in
    let g : FitsSigned w32 c.exponent_of-exp.result = fits_signed_from_abs w32 c.exponent_of-exp.result (omega (arith, ints)) in
    simp to_z-of_z (formed c).canonical

pub returns : goal.returns
returns c =
    let n = numeral_of c.args.numeral.now in
    let t = c.tally_of-tally.result in
    let f : FitsSigned w128 c.signed.result = search rules in
    let e : FitsSigned w128 c.exponent_of-exp.result = search rules in
    let g : FitsSigned w32 c.exponent_of-exp.result = fits_signed_from_abs w32 c.exponent_of-exp.result (omega (arith, ints)) in
    let form = tally_form n t c.capped-written.result c.exponent_of-exp.result c.tally_of-tally.ensures c.if-tally-gt-MOST_DIGITS.false c.if-tally-eq0.false c.capped-written.ensures c.if-written-gt-GREATEST_WRITTEN.false c.exponent_of-exp.ensures in
    let made = simp to_z-of_z at c.made-2.ensures in
    let is = decimal_by c.made-2.result (record { mant = sign_of n.mantissa.sign *ℤ pos t.value; exp = c.exponent_of-exp.result }) (ap (λ (d : Decimal). d.mant) made ∙ c.signed.ensures.value) (ap (λ (d : Decimal). d.exp) made) in
    let r = value_read n _ c.made-2.result c.capped-written.result is form c.capped-written.ensures c.if-written-gt-GREATEST_WRITTEN.false (record { low = λ _. omega (arith, ints); high = λ _. omega (arith, ints) }) in
    (not_too_long t (digits_of n.mantissa) c.tally_of-tally.ensures c.if-tally-gt-MOST_DIGITS.false, r.0, r.1)
