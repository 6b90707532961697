use Rattle.std.specs.Prelude.{◌≡◌, ◌<◌, ◌^◌, ℕ}
use Rattle.whole_numbers.specs.Lists.{AllAtMost}
use Rattle.whole_numbers.specs.Squares.{square_at}
use Rattle.enclosures.specs.Pilots.{pilot_entry}
use Rattle.enclosure_check.proofs.transposes.transposed.Given as goal

abbrev pub invariant-loop-k : goal.invariant-loop-k
invariant-loop-k l =
    (l.columns.size ≡ l.p.size)
    × AllAtMost (2 ^ 50) l.columns.numbers
    × ((i c : ℕ) → i < l.p.size → c < l.k → square_at l.columns i c ≡ pilot_entry l.p c i)
