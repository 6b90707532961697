-- For private functions alone: the blocks of a file in memory, the tables of their constraints, and what is known of their normal
-- equations.
use Rattle.std.specs.Prelude.{◌≡◌, ◌<◌, ◌*◌, ◌^◌, ℕ, List, length, map, Option, None, Result, Ok, Err, IfSome, slice_index_or}
use Rattle.stated_order.specs.Steps.{HasOne}
use Rattle.whole_numbers.specs.Intervals.{Interval}
use Rattle.decimal_e.specs.Decimals.{Decimal}
use Rattle.sym_blocks.specs.Tables.{SymTable}
use Rattle.param_ids.specs.Plain.{PlainId}
use Rattle.param_ids.specs.Tables.{ScaleMap}
use Rattle.snx_rows.specs.Blocks.{AreSound}
use Rattle.snx_rows.specs.declared.rows.Row.{Row}
use Rattle.snx_rows.specs.declared.rows.Shape.TheVariants.{Value, Vector}
use Rattle.snx_matrices.specs.Elements.{AreElementsOf}
use Rattle.neq_stack.specs.ByName.{AreAtMost, entry_at_places}
use Rattle.neq_stack.specs.Neqs.{PlainNeq, IsSound}
use Rattle.neq_stack.specs.Systems.{NamedSystem, LiesInNeq}
use Rattle.named_tables.specs.Tables.{LiesInTable}
use Rattle.named_tables.specs.Weighted.{scale_of}
use Rattle.recover_neq.specs.Blocks.{Blocks, blocks_of}
use Rattle.recover_solution.specs.Recovery.{IsModestTable}
use Rattle.recover_solution.specs.Solutions.{PlainConstraint}
use Rattle.recover_solution.specs.Views.{IsRead, solution_view}
use Rattle.file_recovery.specs.Files.{Source}
use Rattle.file_recovery.specs.Files as plain
use Rattle.file_recovery.specs.Solved.{IsConstraintTable, AreConstraints}
use Rattle.file_recovery.specs.Recovery.{IsRecoveredFrom, IsExactFrom}
use Rattle.file_recovery.specs.declared.faults.FileFault.{FileFault}
use Rattle.file_recovery.specs.declared.sources.Equations.{Equations}
use Rattle.file_recovery.specs.declared.sources.FileSource.{FileSource}
use Rattle.file_recovery.specs.declared.sources.FileSource.TheVariants as sources

-- a result in memory is one of the relation
abbrev pub Gives : {T X : Type 0} → (T → X) → (Result X FileFault → Type 0) → Result T FileFault → Type 0
Gives view IsResult (Ok x) = IsResult (Ok (view x))
Gives view IsResult (Err fault) = IsResult (Err fault)

abbrev pub equations_view : Equations → Blocks
equations_view e = blocks_of e.apriori.now e.vector.now e.cells.now

abbrev pub source_view : FileSource → Source
source_view (sources.Equations equations) = plain.Equations (equations_view equations)
source_view (sources.Estimated solution) = plain.Estimated (solution_view solution)

-- the rows and the elements are those of blocks that were read
pub record AreRead (blocks : Blocks) : Type 0 where
  pub apriori : AreSound Value blocks.apriori
  pub vector : AreSound Vector blocks.vector
  pub cells : AreElementsOf (length blocks.vector) blocks.cells

abbrev pub IsReadSource : Source → Type 0
IsReadSource (plain.Equations blocks) = AreRead blocks
IsReadSource (plain.Estimated solution) = IsRead solution

-- what is known of the normal equations of blocks
pub record IsRecoveredOf (weight : Decimal) (scales : ScaleMap) (source : Source) (neq : PlainNeq) : Type 0 where
  pub recovers : IsRecoveredFrom weight scales source (Ok neq)
  pub sound : IsSound neq
  pub exact : (S : NamedSystem) → IsExactFrom weight source S → LiesInNeq (scale_of scales) neq S
  pub exact_exists : HasOne (IsExactFrom weight source)
  pub modest : AreAtMost (2 * 10 ^ 34) neq
  pub exponents : neq.scales ≡ map (scale_of scales) neq.names

-- what is known of the table of constraints
pub record IsConstraintTableOf (constraint : PlainConstraint) (apriori : List Row) (weight : Decimal) (scales : ScaleMap) (names : List PlainId) (table : SymTable) : Type 0 where
  pub is : IsConstraintTable constraint apriori weight scales names (Ok table)
  pub lies : (K : NamedSystem) → AreConstraints constraint apriori weight names K → LiesInTable scales names table K
  pub exists : HasOne (AreConstraints constraint apriori weight names)
  pub size : table.size ≡ length names
  pub modest : IsModestTable table

-- ---- tables over some of the names
-- the interval of a table at the places that names have in it
abbrev pub spread_entry : SymTable → List (Option ℕ) → ℕ → ℕ → Interval
spread_entry small places i j = entry_at_places small (slice_index_or places i None) (slice_index_or places j None)

-- they are places of the table
abbrev pub ArePlacesIn : SymTable → List (Option ℕ) → Type 0
ArePlacesIn small places = (i : ℕ) → i < length places → IfSome (slice_index_or places i None) (λ k. k < small.size)
