use Rattle.std.proofs.Common.{◌≡◌, ◌<◌, ◌^◌, take}
use Rattle.decimal_e.specs.Digits.{number}
use Rattle.snx_rows.proofs.indices.number_of.Given as goal

abbrev pub invariant-loop-byte : goal.invariant-loop-byte
invariant-loop-byte l = (l.number ≡ number (take l.byte-index l.digits)) × (l.number < 10 ^ l.byte-index)
