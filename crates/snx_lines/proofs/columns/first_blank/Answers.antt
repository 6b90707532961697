use Rattle.std.proofs.Common.{◌≡◌, length, sym, ◌∙◌, arith}
use Rattle.std.proofs.lemmas.List.Sums.{position_or_len_is}
use Rattle.blanks.specs.Blanks.{is_blank}
use Rattle.snx_lines.proofs.columns.first_blank.Goals as goal

pub returns-then-is_blank-clause-place : goal.returns-then-is_blank-clause-place
returns-then-is_blank-clause-place c =
    sym (position_or_len_is is_blank c.args.text.now c.loop-i.i 0 (omega arith) c.loop-i.invariant (λ _. sym c.is_blank.ensures ∙ c.if-is_blank.true))

pub returns-clause-place : goal.returns-clause-place
returns-clause-place c =
    let same : c.loop-i.i ≡ length c.args.text.now = omega arith in
    sym same ∙ sym (position_or_len_is is_blank c.args.text.now c.loop-i.i 0 (omega arith) c.loop-i.invariant (λ lt. absurd (omega arith)))
