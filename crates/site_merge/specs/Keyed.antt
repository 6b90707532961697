-- For private functions alone: rows by the names that they are of, as the code keeps them while it goes over the documents.
use Rattle.std.specs.Prelude.{◌≡◌, Bool, List, Option, Some, None, find}
use Rattle.std.specs.Borrow.{Bor}
use Rattle.std.specs.BTreeMap.{BTreeMap, get}
use Rattle.std.specs.Cmp.Lexicographic.{slice_cmp}
use Rattle.std.specs.Option.{option_map}
use Rattle.std.specs.Ordering.{nat_cmp, ordering_then, is_eq}
use Rattle.std.specs.declared.cmp.Ordering.{Ordering}
use Rattle.snx_epoch.specs.Moments.{IsMiddleOf}
use Rattle.snx_sites.specs.Plain.{PlainSite, PlainEpochRow}
use Rattle.snx_sites.specs.Views.{site_view}
use Rattle.snx_sites.specs.declared.sites.SiteRow.{SiteRow}
use Rattle.site_merge.specs.Merged.{IsMergedOf, earlier, later}
use Rattle.site_merge.specs.declared.names.SiteName.{SiteName}
use Rattle.site_merge.specs.declared.names.SolutionName.{SolutionName}

-- ---- sites
abbrev pub site_name : PlainSite → SiteName
site_name line = record { code = line.code; point = line.point }

abbrev pub site_name_cmp : SiteName → SiteName → Ordering
site_name_cmp a b = ordering_then (slice_cmp nat_cmp a.code b.code) (slice_cmp nat_cmp a.point b.point)

-- whether a line is of this name
abbrev pub is_line_of : SiteName → PlainSite → Bool
is_line_of name line = is_eq (site_name_cmp name (site_name line))

abbrev pub LineMap : Type 0
LineMap = BTreeMap SiteName (Bor SiteRow)

-- the map has of each name the line that comes first
abbrev pub HasFirstLines : LineMap → List PlainSite → Type 0
HasFirstLines table all =
    (name : SiteName) → option_map (λ line. site_view line.now) (get site_name_cmp table name) ≡ find (is_line_of name) all

-- ---- moments
abbrev pub solution_name : PlainEpochRow → SolutionName
solution_name row = record { code = row.code; point = row.point; soln = row.soln }

abbrev pub solution_name_cmp : SolutionName → SolutionName → Ordering
solution_name_cmp a b =
    ordering_then (slice_cmp nat_cmp a.code b.code)
    (ordering_then (slice_cmp nat_cmp a.point b.point)
    (slice_cmp nat_cmp a.soln b.soln))

-- whether a row is of this name
abbrev pub is_row_of : SolutionName → PlainEpochRow → Bool
is_row_of name row = is_eq (solution_name_cmp name (solution_name row))

abbrev pub EpochMap : Type 0
EpochMap = BTreeMap SolutionName PlainEpochRow

-- none where no row is of this name, or else what all its rows make
abbrev pub IsMergedAt : List PlainEpochRow → SolutionName → Option PlainEpochRow → Type 0
IsMergedAt all name None = find (is_row_of name) all ≡ None
IsMergedAt all name (Some row) = (solution_name row ≡ name) × IsMergedOf all row

-- the map has of each name what all its rows make
abbrev pub HasMergedRows : EpochMap → List PlainEpochRow → Type 0
HasMergedRows table all = (name : SolutionName) → IsMergedAt all name (get solution_name_cmp table name)

-- what a row makes of those of its name before it, but for the mean
abbrev pub joined_to : Option PlainEpochRow → PlainEpochRow → PlainEpochRow
joined_to None row = row
joined_to (Some before) row = record before { start = earlier before.start row.start; end = later before.end row.end }

-- a row with a mean that is half way between its start and its end
pub record IsWithMean (row whole : PlainEpochRow) : Type 0 where
  pub is : whole ≡ record row { mean = whole.mean }
  pub middle : IsMiddleOf row.start row.end whole.mean
