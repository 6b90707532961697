use Rattle.std.proofs.Common.{◌≡◌, ◌^◌, All, vec_len}
use Rattle.decimal_e.specs.Fractions.{IsAtMost}
use Rattle.step_times.proofs.made.values_of.Given as goal

abbrev pub invariant-loop : goal.invariant-loop
invariant-loop l = (vec_len l.values ≡ l.counter) × (IsAtMost (10 ^ 12) l.value × All (IsAtMost (10 ^ 12)) l.values.items)
