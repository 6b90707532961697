use Rattle.std.proofs.Common.{◌≡◌, ◌<◌, ℕ, length, slice_index}
use Rattle.named_tables.proofs.RankLaws.{IsRankIn}
use Rattle.named_tables.proofs.naming.ranks_of.Given as goal

abbrev pub invariant-loop-row : goal.invariant-loop-row
invariant-loop-row l = record {
  len : length l.ranks.items ≡ l.row-index;
  each : (k : ℕ) → k < l.row-index → IsRankIn l.names l.rows k (slice_index l.ranks.items k);
}
