use Rattle.std.proofs.Common.{◌≤◌, ◌<◌, ◌^◌, ℕ, slice_index}
use Rattle.enclosure_check.proofs.certificates.small_errors.Given as goal

abbrev pub invariant-loop-row : goal.invariant-loop-row
invariant-loop-row l = (k : ℕ) → k < l.row → slice_index l.errors k ≤ 2 ^ 66
