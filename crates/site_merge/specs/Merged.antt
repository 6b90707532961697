-- The sites and the moments of some documents, each once (SINEX 2.02 format description, SITE/ID and SOLUTION/EPOCHS).
--
-- The documents stand in the order of the names of their files, and a document that lacks a block has no rows of it. Nothing else has
-- a part in what is merged.
use Rattle.std.specs.Prelude.{◌≡◌, ◌≢◌, ◌↔◌, Bool, List, [], map, unwrap_or, Some, All, Contains, if◌then◌else◌}
use Rattle.std.specs.Cmp.Lexicographic.{slice_cmp}
use Rattle.std.specs.List.{filter, find, flat_map, fold}
use Rattle.std.specs.List.Sorted.{IsStrictlySortedBy}
use Rattle.std.specs.Ordering.{nat_cmp, ordering_then, is_eq, is_lt}
use Rattle.std.specs.declared.cmp.Ordering.{Ordering}
use Rattle.std.specs.declared.cmp.Ordering.TheVariants.{Less}
use Rattle.stated_order.specs.Steps.{IsOne}
use Rattle.snx_epoch.specs.Moments.{epoch_cmp, IsMiddleOf}
use Rattle.snx_epoch.specs.declared.Epoch.{Epoch}
use Rattle.snx_epoch.specs.declared.Epoch.TheVariants.{Never, At}
use Rattle.snx_sites.specs.Plain.{PlainSite, PlainEpochRow}
use Rattle.snx_blocks.specs.Documents.{PlainDoc}

-- the rows of all documents, one document after another
abbrev pub all_sites : List PlainDoc → List PlainSite
all_sites docs = flat_map (λ doc. unwrap_or doc.sites []) docs

abbrev pub all_epochs : List PlainDoc → List PlainEpochRow
all_epochs docs = flat_map (λ doc. unwrap_or doc.epochs []) docs

-- ---- sites
-- sites go by code and point, by their bytes
abbrev pub site_cmp : PlainSite → PlainSite → Ordering
site_cmp a b = ordering_then (slice_cmp nat_cmp a.code b.code) (slice_cmp nat_cmp a.point b.point)

abbrev pub is_same_site : PlainSite → PlainSite → Bool
is_same_site a b = is_eq (site_cmp a b)

-- a line is the first of its code and point
abbrev pub IsFirstLine : List PlainSite → PlainSite → Type 0
IsFirstLine all line = find (is_same_site line) all ≡ Some line

-- each code and point once, in order, with its first line
pub record AreMergedSites (all lines : List PlainSite) : Type 0 where
  pub rising : IsStrictlySortedBy site_cmp lines
  pub firsts : (line : PlainSite) → Contains lines line ↔ IsFirstLine all line

-- ---- moments
-- the least of some moments, of which those that are Never do not count; Never where there is no other
abbrev pub IsEarliest : List Epoch → Epoch → Type 0
IsEarliest moments Never = All (λ other. other ≡ Never) moments
IsEarliest moments (At day second) =
    Contains moments (At day second) × All (λ other. other ≢ Never → epoch_cmp other (At day second) ≢ Less) moments

-- the greatest of them
abbrev pub IsLatest : List Epoch → Epoch → Type 0
IsLatest moments Never = All (λ other. other ≡ Never) moments
IsLatest moments (At day second) = Contains moments (At day second) × All (λ other. epoch_cmp (At day second) other ≢ Less) moments

-- moments go by the code, the point and the solution that they are of, by their bytes
abbrev pub solution_cmp : PlainEpochRow → PlainEpochRow → Ordering
solution_cmp a b =
    ordering_then (slice_cmp nat_cmp a.code b.code)
    (ordering_then (slice_cmp nat_cmp a.point b.point)
    (slice_cmp nat_cmp a.soln b.soln))

abbrev pub is_same_solution : PlainEpochRow → PlainEpochRow → Bool
is_same_solution a b = is_eq (solution_cmp a b)

-- all rows of the code, the point and the solution of a row
abbrev pub rows_like : PlainEpochRow → List PlainEpochRow → List PlainEpochRow
rows_like row all = filter (is_same_solution row) all

abbrev pub starts : List PlainEpochRow → List Epoch
starts rows = map (λ row. row.start) rows

abbrev pub ends : List PlainEpochRow → List Epoch
ends rows = map (λ row. row.end) rows

-- a row is what all rows of its code, point and solution make, of which there is one at least: the technique is that of the first, and
-- the mean is half way between the start and the end, whatever means these have
pub record IsMergedOf (all : List PlainEpochRow) (row : PlainEpochRow) : Type 0 where
  pub first : PlainEpochRow
  pub is_first : find (is_same_solution row) all ≡ Some first
  pub technique : row.technique ≡ first.technique
  pub start : IsEarliest (starts (rows_like row all)) row.start
  pub end : IsLatest (ends (rows_like row all)) row.end
  pub mean : IsMiddleOf row.start row.end row.mean

-- each code, point and solution once, in order
pub record AreMergedEpochs (all rows : List PlainEpochRow) : Type 0 where
  pub rising : IsStrictlySortedBy solution_cmp rows
  pub merged : (row : PlainEpochRow) → Contains rows row ↔ IsMergedOf all row

-- ---- both
pub record PlainSites : Type 0 where
  pub lines : List PlainSite
  pub epochs : List PlainEpochRow

-- the sites and the moments of these documents
pub record IsMerge (docs : List PlainDoc) (sites : PlainSites) : Type 0 where
  pub lines : AreMergedSites (all_sites docs) sites.lines
  pub epochs : AreMergedEpochs (all_epochs docs) sites.epochs

-- documents have one merge at most
abbrev pub OneMerge : Type 0
OneMerge = (docs : List PlainDoc) → IsOne (IsMerge docs)

-- ---- from the first start to the last end
-- of two moments the earlier and the later, where a moment that is Never does not count
abbrev pub earlier : Epoch → Epoch → Epoch
earlier Never b = b
earlier (At day second) Never = At day second
earlier (At day second) (At d s) = if is_lt (epoch_cmp (At d s) (At day second)) then At d s else At day second

abbrev pub later : Epoch → Epoch → Epoch
later a b = if is_lt (epoch_cmp a b) then b else a

-- the least start and the greatest end of some rows: `IsEarliest` and `IsLatest` hold of these and of no other
abbrev pub first_start : List PlainEpochRow → Epoch
first_start rows = fold earlier Never (starts rows)

abbrev pub last_end : List PlainEpochRow → Epoch
last_end rows = fold later Never (ends rows)
