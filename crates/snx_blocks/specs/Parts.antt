-- What the parts of the reader answer. These definitions serve private functions.
use Rattle.std.specs.Prelude.{Bool, length, true, false, List, Option, Some, None, Result, IfSome}
use Rattle.stated_order.specs.Steps.{Then}
use Rattle.snx_lines.specs.Lines.{PlainLine}
use Rattle.snx_lines.specs.Framing.{PlainBlock}
use Rattle.snx_rows.specs.Rows.{fault_at}
use Rattle.snx_rows.specs.Blocks.{AreSound}
use Rattle.snx_rows.specs.declared.causes.Cause.{Cause}
use Rattle.snx_rows.specs.declared.causes.DocError.{DocError}
use Rattle.snx_rows.specs.declared.causes.DocError.TheVariants as errors
use Rattle.snx_rows.specs.declared.causes.LineFault.{LineFault}
use Rattle.snx_rows.specs.declared.rows.Shape.{Shape}
use Rattle.snx_rows.specs.declared.rows.Row.{Row}
use Rattle.snx_rows.specs.declared.rows.Shape.TheVariants as shapes
use Rattle.snx_matrices.specs.Elements.{AreElementsOf}
use Rattle.snx_blocks.specs.Documents.{PlainMatrix, PlainDoc, IsFirst}

-- the title is bad for this cause
abbrev pub bad_title : PlainLine → Cause → DocError
bad_title title cause = errors.Line (fault_at title.number cause)

-- something of which is known only whether it is there
abbrev pub something : Bool → Option (Unit {0})
something true = Some tt
something false = None

-- what the lines of a block say, where none of its name stood before it
abbrev pub IsNewBlock : {X : Type 0} → Bool → PlainBlock → (List PlainLine → Result X LineFault → Type 0) → Result X LineFault → Type 0
IsNewBlock stood_before block IsBody = Then (IsFirst (something stood_before) block.title) (λ new. IsBody block.body)

-- the rows are sound for some shape, if they are there
abbrev pub HasSoundRows : Option (List Row) → Type 0
HasSoundRows rows = IfSome rows (λ rows. (shape : Shape) × AreSound shape rows)

-- the rows of a matrix are there, and its elements are theirs
abbrev pub IsMatrixOver : Option (List Row) → PlainMatrix → Type 0
IsMatrixOver None matrix = ⊥
IsMatrixOver (Some rows) matrix = AreElementsOf (length rows) matrix.cells

-- what stays true of the document from block to block: no matrix stands in it without its rows
pub record IsKept (doc : PlainDoc) : Type 0 where
  pub estimates : IfSome doc.estimates (AreSound shapes.Value)
  pub apriori : IfSome doc.apriori (AreSound shapes.Value)
  pub vector : IfSome doc.vector (AreSound shapes.Vector)
  pub estimate_matrix : IfSome doc.estimate_matrix (IsMatrixOver doc.estimates)
  pub apriori_matrix : IfSome doc.apriori_matrix (IsMatrixOver doc.apriori)
  pub normal_matrix : IfSome doc.normal_matrix (IsMatrixOver doc.vector)
