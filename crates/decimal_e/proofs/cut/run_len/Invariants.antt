use Rattle.std.proofs.Common.{take}
use Rattle.decimal_e.specs.Grammar.{IsRun}
use Rattle.decimal_e.proofs.cut.run_len.Given as goal

abbrev pub invariant-loop-i : goal.invariant-loop-i
invariant-loop-i l = IsRun l.kind (take l.i l.text)
