use Rattle.std.proofs.Common.{codes, map}
use Rattle.snx_write.specs.Combined.{moments_line}
use Rattle.snx_write.proofs.Lines.{pushed_block}
use Rattle.snx_write.proofs.moments.push_moments.Goals as goal

pub returns : goal.returns
returns c =
    pushed_block (codes "SOLUTION/EPOCHS") (map moments_line c.args.rows.now) c.args.out.now.items _ _ _ _ c.in_ok-push_line.ensures c.in_ok-push_rows.ensures c.push_line-2.ensures
