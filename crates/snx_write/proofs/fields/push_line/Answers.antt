use Rattle.snx_write.proofs.Lines.{pushed_line}
use Rattle.snx_write.proofs.fields.push_line.Goals as goal

pub returns : goal.returns
returns c =
    pushed_line c.args.out.now.items c.args.first.now c.args.others.now _ _ _ c.in_ok-extend_from_slice.ensures.items c.in_ok-push_fields.ensures c.in_ok-push.ensures.items
