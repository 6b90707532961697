use Rattle.std.proofs.Common.{ℕ, ◌+◌, ◌^◌, ◌<◌, ◌≤◌, List, ◌++◌, take}
use Rattle.decimal_e.specs.Tallies.{Tallies}
use Rattle.decimal_e.proofs.digits.tally_more.Given as goal

abbrev pub invariant-loop-byte : goal.invariant-loop-byte
invariant-loop-byte l = record {
  tallies : (before : List ℕ) → Tallies l.fn.tally before → Tallies l.all (before ++ take l.byte-index l.digits);
  room : l.all.digits + l.all.zeros ≤ l.fn.tally.digits + l.fn.tally.zeros + l.byte-index;
  small : l.all.digits ≤ 18 → l.all.value < 10 ^ l.all.digits;
}
