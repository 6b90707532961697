use Rattle.std.proofs.Common.{◌≡◌, ◌≤◌, ◌<◌, ℕ, length, get_or, drop}
use Rattle.snx_rows.specs.Named.{zero_decimal}
use Rattle.snx_matrices.specs.Named.{given_at}
use Rattle.snx_matrices.specs.declared.elements.Cell.{Cell}
use Rattle.correlations.specs.Parts.{IsTyped}
use Rattle.correlations.proofs.deviations.diagonals.Given as goal

abbrev pub invariant-loop-place : goal.invariant-loop-place
invariant-loop-place l = record {
  len : length l.given.items ≡ l.count;
  values : (p : ℕ) → p < l.count → get_or l.given.items p zero_decimal ≡ given_at (drop l.place l.cells) p p;
  typed : (k : ℕ) (d : Cell) → l.place ≤ k → k < length l.cells → IsTyped (get_or l.cells k d).value;
}
