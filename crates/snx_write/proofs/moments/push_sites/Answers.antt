use Rattle.std.proofs.Common.{codes, map}
use Rattle.snx_sites.specs.Plain.{PlainSite}
use Rattle.snx_sites.specs.Views.{site_view}
use Rattle.snx_write.proofs.Lines.{pushed_block}
use Rattle.snx_write.proofs.moments.push_sites.Goals as goal

pub returns : goal.returns
returns c =
    pushed_block (codes "SITE/ID") (map (λ (site : PlainSite). site.text) (map site_view c.args.sites.now)) c.args.out.now.items _ _ _ _ c.in_ok-push_line.ensures
    c.in_ok-push_site_lines.ensures c.push_line-2.ensures
