use Rattle.std.proofs.Common.{arith, ◌∙◌}
use Rattle.decimal_e.proofs.Tallied.{zero_first, zero_more, other_digit}
use Rattle.decimal_e.proofs.digits.tally_digit.Goals.{then-tally-lt18, else-tally-lt18}
use Rattle.decimal_e.proofs.digits.tally_digit.Goals as goal

pub returns-then-tally-eq0-clause-tallies : goal.returns-then-tally-eq0-clause-tallies
returns-then-tally-eq0-clause-tallies c = λ before h. zero_first c.args.tally before c.args.byte c.if-byte-eq48.true c.if-tally-eq0.true h

pub returns-else-tally-eq0-clause-tallies : goal.returns-else-tally-eq0-clause-tallies
returns-else-tally-eq0-clause-tallies c = λ before h. zero_more c.args.tally before c.args.byte c.if-byte-eq48.true c.if-tally-eq0.false h

pub returns-clause-tallies : goal.returns-clause-tallies
returns-clause-tallies c = λ before h. other_digit c.args.tally before c.args.byte c.if-tally-lt18.value c.if-byte-eq48.false c.requires.digit.0 c.requires.digit.1
    (λ l. elim c.if-tally-lt18.branch [ then-tally-lt18 w ↦ w.value-is ∙ w.value_with-value.ensures.value | else-tally-lt18 w ↦ absurd (omega (arith, w.if-tally-lt18.false)) ]) h
