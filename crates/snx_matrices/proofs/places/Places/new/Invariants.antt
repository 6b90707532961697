use Rattle.std.proofs.Common.{◌≡◌, ◌≤◌, ◌<◌, ℕ, length, drop, get_or, None}
use Rattle.snx_matrices.proofs.PlaceLaws.{place_from}
use Rattle.snx_matrices.proofs.places.Places.new.Given as goal

abbrev pub invariant-loop-place : goal.invariant-loop-place
invariant-loop-place l = record {
  place : l.place ≤ length l.rows;
  size : length l.table.items ≡ 100000;
  places : (index : ℕ) → index < 100000 → get_or l.table.items index None ≡ place_from l.place (drop l.place l.rows) index;
}

abbrev pub decreases-loop-place : goal.decreases-loop-place
decreases-loop-place l = l.place
