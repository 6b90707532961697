use Rattle.std.proofs.Common.{◌≡◌, ◌++◌, map, take}
use Rattle.snx_sites.specs.Plain.{PlainSite}
use Rattle.snx_sites.specs.Views.{site_view}
use Rattle.snx_write.specs.Combined.{text_of}
use Rattle.snx_write.proofs.moments.push_site_lines.Given as goal

abbrev pub invariant-loop-site : goal.invariant-loop-site
invariant-loop-site l = l.out.items ≡ l.fn.out.items ++ text_of (map (λ (site : PlainSite). site.text) (map site_view (take l.site-index l.sites)))
