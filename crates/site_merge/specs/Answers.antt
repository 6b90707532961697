-- What the code holds, without where it lies in memory.
use Rattle.std.specs.Prelude.{map}
use Rattle.snx_sites.specs.Views.{site_view}
use Rattle.site_merge.specs.Merged.{PlainSites}
use Rattle.site_merge.specs.declared.merging.Sites.{Sites}

abbrev pub sites_view : Sites → PlainSites
sites_view sites = record { lines = map site_view sites.lines.items; epochs = sites.epochs.items }
