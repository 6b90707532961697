use Rattle.std.proofs.Common.{◌≡◌, ◌+◌, ◌*◌, ◌<◌, ◌^◌, arith, take, get_or, ap, ◌∙◌}
use Rattle.std.proofs.lemmas.List.{take_more}
use Rattle.decimal_e.specs.Digits.{number}
use Rattle.decimal_e.proofs.Numbers.{number_push}
use Rattle.snx_rows.proofs.Digits.{digit_at, one_more}
use Rattle.snx_rows.proofs.indices.number_of.Goals as goal

pub loop-byte-preserved : goal.loop-byte-preserved
loop-byte-preserved c =
    let i = c.loop-byte.byte-index in
    let byte = get_or c.args.digits.now i 0 in
    let t = take_more c.args.digits.now i 0 c.loop-byte-test.true in
    let p = ap number t ∙ number_push (take i c.args.digits.now) byte in
    let m = one_more c.loop-byte.number i _ c.loop-byte.invariant.1 (digit_at c.args.digits.now i c.requires.digits c.loop-byte-test.true) in
    let q : c.loop-byte.number * 10 + c.from.result ≡ number (take (i + 1) c.args.digits.now) = omega (arith, p, c.from.ensures, c.loop-byte.invariant.0) in
    let r : c.loop-byte.number * 10 + c.from.result < 10 ^ (i + 1) = omega (arith, m, c.from.ensures) in
    (q, r)
