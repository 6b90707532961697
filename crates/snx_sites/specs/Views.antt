-- What the code holds, without where it lies in memory.
use Rattle.snx_sites.specs.Plain.{PlainSite}
use Rattle.snx_sites.specs.declared.sites.SiteRow.{SiteRow}

abbrev pub site_view : SiteRow → PlainSite
site_view site = record { code = site.code; point = site.point; text = site.text.items }
