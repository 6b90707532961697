use Rattle.std.proofs.Common.{◌≡◌, min, take}
use Rattle.decimal_e.specs.Digits.{number}
use Rattle.decimal_e.proofs.digits.capped.Given as goal

abbrev pub invariant-loop-byte : goal.invariant-loop-byte
invariant-loop-byte l = l.power ≡ min (number (take l.byte-index l.digits)) 1000
