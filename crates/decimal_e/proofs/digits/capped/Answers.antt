use Rattle.std.proofs.Common.{◌≡◌, ◌+◌, arith, take, get_or, ap, ◌∙◌, min}
use Rattle.std.proofs.lemmas.List.{take_more}
use Rattle.decimal_e.specs.Digits.{number}
use Rattle.decimal_e.proofs.Numbers.{number_push}
use Rattle.decimal_e.proofs.digits.capped.Goals as goal

pub loop-byte-preserved : goal.loop-byte-preserved
loop-byte-preserved c =
    let t = take_more c.args.digits.now c.loop-byte.byte-index 0 c.loop-byte-test.true in
    let p = ap number t ∙ number_push (take c.loop-byte.byte-index c.args.digits.now) (get_or c.args.digits.now c.loop-byte.byte-index 0) in
    let q : c.min-power.result ≡ min (number (take (c.loop-byte.byte-index + 1) c.args.digits.now)) 1000 = omega (arith, p, c.min-power.ensures, c.from.ensures, c.loop-byte.invariant) in
    q
