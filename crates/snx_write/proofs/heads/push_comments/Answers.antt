use Rattle.std.proofs.Common.{codes, map}
use Rattle.snx_write.specs.Combined.{comment_line}
use Rattle.snx_write.proofs.Lines.{pushed_block}
use Rattle.snx_write.proofs.heads.push_comments.Goals as goal

pub returns : goal.returns
returns c =
    pushed_block (codes "FILE/COMMENT") (map comment_line (map (λ file. file.now) c.args.files.now)) c.args.out.now.items _ _ _ _ c.in_ok-push_line.ensures
    c.in_ok-push_names.ensures c.push_line-2.ensures
