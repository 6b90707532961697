use Rattle.std.proofs.Common.{arith}
use Rattle.datum_rows.proofs.SiteLaws.{floor_near}
use Rattle.datum_rows.proofs.sites.floor_of.Goals as goal

pub unreachable-requires : goal.unreachable-requires
unreachable-requires c = let n = floor_near c.args.value.now c.requires in c.in-None.ensures (omega arith)
