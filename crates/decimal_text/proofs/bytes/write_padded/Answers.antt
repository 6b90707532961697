use Rattle.std.proofs.Common.{◌≤◌, ◌<◌, ◌^◌, ℕ, length, arith}
use Rattle.std.specs.Fmt.{decimal}
use Rattle.std.proofs.lemmas.Fmt.{length-decimal-le}
use Rattle.whole_numbers.proofs.Powers.{ten_le}
use Rattle.decimal_text.proofs.bytes.write_padded.Goals as goal

short : (n width : ℕ) → 1 ≤ width → width ≤ 18 → n < 10 ^ width → length (decimal n) ≤ width
short n width some most few = let t = ten_le width 18 most in length-decimal-le width n some few (omega arith)

pub write_digits-start-requires : goal.write_digits-start-requires
write_digits-start-requires c =
    let s = short c.args.n c.args.width c.requires.some c.requires.most c.requires.few in
    (omega arith, c.requires.within)

pub overflow_sub-start : goal.overflow_sub-start
overflow_sub-start c =
    let s = short c.args.n c.args.width c.requires.some c.requires.most c.requires.few in
    omega arith

pub returns-clause-start : goal.returns-clause-start
returns-clause-start c =
    let s = short c.args.n c.args.width c.requires.some c.requires.most c.requires.few in
    omega arith
