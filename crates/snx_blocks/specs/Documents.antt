-- A whole text as a document: what its blocks say, or its first bad line (SINEX 2.02 format description).
--
-- The text is read as it stands: block by block up to the line at which its frame breaks, if there is one; in a block the title
-- first, then line by line. So the first bad line is the one with the least number.
use Rattle.std.specs.Prelude.{◌≡◌, ℕ, List, length, Option, Some, None, Result, Ok, Err, IfSome}
use Rattle.std.specs.Option.{ok_or}
use Rattle.stated_order.specs.Steps.{Then, Renamed, Through}
use Rattle.snx_lines.specs.Lines.{PlainLine, lines_in}
use Rattle.snx_lines.specs.Framing.{PlainBlock, PlainFraming, IsFraming}
use Rattle.snx_lines.specs.declared.blocks.FrameFault.{FrameFault}
use Rattle.snx_rows.specs.Rows.{fault_at}
use Rattle.snx_rows.specs.Blocks.{AreRows, AreSound}
use Rattle.snx_rows.specs.declared.causes.Cause.{Cause}
use Rattle.snx_rows.specs.declared.causes.Cause.TheVariants as causes
use Rattle.snx_rows.specs.declared.causes.LineFault.{LineFault}
use Rattle.snx_rows.specs.declared.rows.Shape.TheVariants as shapes
use Rattle.snx_rows.specs.declared.rows.Row.{Row}
use Rattle.snx_matrices.specs.Elements.{AreElements, AreElementsOf, normal_heading, solution_heading}
use Rattle.snx_matrices.specs.declared.elements.Cell.{Cell}
use Rattle.snx_matrices.specs.declared.elements.Content.{Content}
use Rattle.snx_matrices.specs.declared.elements.Heading.{Heading}
use Rattle.snx_sites.specs.Plain.{PlainSite, PlainEpochRow}
use Rattle.snx_sites.specs.Sites.{AreSites, AreEpochs}
use Rattle.snx_blocks.specs.Sections.{section_of}
use Rattle.snx_blocks.specs.declared.sections.Section.{Section}
use Rattle.snx_blocks.specs.declared.sections.Section.TheVariants.{Estimates, Apriori, Vector, EstimateMatrix, AprioriMatrix, NormalMatrix, Sites, Epochs}

-- a matrix: what its elements are, and those that are given
pub record PlainMatrix : Type 0 where
  pub content : Content
  pub cells : List Cell

-- what a text says: each block that is read, if it stands there
pub record PlainDoc : Type 0 where
  pub estimates : Option (List Row)
  pub apriori : Option (List Row)
  pub vector : Option (List Row)
  pub estimate_matrix : Option PlainMatrix
  pub apriori_matrix : Option PlainMatrix
  pub normal_matrix : Option PlainMatrix
  pub sites : Option (List PlainSite)
  pub epochs : Option (List PlainEpochRow)

-- a text without any of them
abbrev pub empty_doc : PlainDoc
empty_doc = record { estimates = None; apriori = None; vector = None; estimate_matrix = None; apriori_matrix = None; normal_matrix = None; sites = None; epochs = None }

-- ---- titles
-- a block that is read stands once in a text
abbrev pub once : {X : Type 0} → Option X → Result (Unit {0}) Cause
once None = Ok tt
once (Some block) = Err causes.Repeated

-- the block of this title is new in the text
abbrev pub IsFirst : {X : Type 0} → Option X → PlainLine → Result (Unit {0}) LineFault → Type 0
IsFirst before title = Renamed (fault_at title.number) (λ r. r ≡ once before)

-- the title's matrix is new, then its block of rows has ended before, and then the title's words name a triangle and a content
pub record Headed : Type 0 where
  pub heading : Heading
  pub rows : List Row

abbrev pub IsMatrixTitle : Option PlainMatrix → Option (List Row) → Option Heading → PlainLine → Result Headed LineFault → Type 0
IsMatrixTitle before rows heading title =
    Renamed (fault_at title.number) (
    Then (λ r. r ≡ once before) (λ new.
    Then (λ r. r ≡ ok_or rows causes.MissingBlock) (λ rows.
    Then (λ r. r ≡ ok_or heading causes.Field) (λ heading r.
    r ≡ Ok (record { heading = heading; rows = rows })))))

-- ---- blocks
-- the matrix of a block with this title, over its block of rows
abbrev pub IsMatrix : Option PlainMatrix → Option (List Row) → Option Heading → PlainBlock → Result PlainMatrix LineFault → Type 0
IsMatrix before rows heading block =
    Then (IsMatrixTitle before rows heading block.title) (λ headed.
    Then (AreElements headed.heading.triangle headed.rows block.body) (λ cells r.
    r ≡ Ok (record { content = headed.heading.content; cells = cells })))

-- the document so far with what a block of this section says, or the block's first bad line
abbrev pub IsSectionRead : Section → PlainDoc → PlainBlock → Result PlainDoc LineFault → Type 0
IsSectionRead Estimates doc block =
    Then (IsFirst doc.estimates block.title) (λ new. Then (AreRows shapes.Value block.body) (λ rows r. r ≡ Ok (record doc { estimates = Some rows })))
IsSectionRead Apriori doc block =
    Then (IsFirst doc.apriori block.title) (λ new. Then (AreRows shapes.Value block.body) (λ rows r. r ≡ Ok (record doc { apriori = Some rows })))
IsSectionRead Vector doc block =
    Then (IsFirst doc.vector block.title) (λ new. Then (AreRows shapes.Vector block.body) (λ rows r. r ≡ Ok (record doc { vector = Some rows })))
IsSectionRead EstimateMatrix doc block =
    Then (IsMatrix doc.estimate_matrix doc.estimates (solution_heading block.title.text) block) (λ matrix r. r ≡ Ok (record doc { estimate_matrix = Some matrix }))
IsSectionRead AprioriMatrix doc block =
    Then (IsMatrix doc.apriori_matrix doc.apriori (solution_heading block.title.text) block) (λ matrix r. r ≡ Ok (record doc { apriori_matrix = Some matrix }))
IsSectionRead NormalMatrix doc block =
    Then (IsMatrix doc.normal_matrix doc.vector (normal_heading block.title.text) block) (λ matrix r. r ≡ Ok (record doc { normal_matrix = Some matrix }))
IsSectionRead Sites doc block =
    Then (IsFirst doc.sites block.title) (λ new. Then (AreSites block.body) (λ sites r. r ≡ Ok (record doc { sites = Some sites })))
IsSectionRead Epochs doc block =
    Then (IsFirst doc.epochs block.title) (λ new. Then (AreEpochs block.body) (λ epochs r. r ≡ Ok (record doc { epochs = Some epochs })))

-- the same for a block that is read or passed over
abbrev pub IsReadOrPassed : Option Section → PlainDoc → PlainBlock → Result PlainDoc LineFault → Type 0
IsReadOrPassed None doc block result = result ≡ Ok doc
IsReadOrPassed (Some section) doc block result = IsSectionRead section doc block result

abbrev pub IsBlockRead : PlainDoc → PlainBlock → Result PlainDoc LineFault → Type 0
IsBlockRead doc block = IsReadOrPassed (section_of block.name) doc block

-- ---- the whole text
-- the document of all blocks, where the frame of the text is whole; or the line at which it breaks
abbrev pub whole : Option FrameFault → PlainDoc → Result PlainDoc LineFault
whole None doc = Ok doc
whole (Some fault) doc = Err (record { line = fault.line; cause = causes.Frame fault.cause })

-- the text is read as this document, or has this first bad line
pub record IsDocument (text : List ℕ) (result : Result PlainDoc LineFault) : Type 0 where
  pub framing : PlainFraming
  pub framed : IsFraming (lines_in text) framing
  pub read : Then (Through IsBlockRead empty_doc framing.blocks) (λ doc r. r ≡ whole framing.stop doc) result

-- ---- what documents keep
-- the elements of a matrix are those of its block of rows
abbrev pub IsMatrixOf : Option (List Row) → PlainMatrix → Type 0
IsMatrixOf rows matrix = IfSome rows (λ rows. AreElementsOf (length rows) matrix.cells)

pub record IsValid (doc : PlainDoc) : Type 0 where
  pub estimates : IfSome doc.estimates (AreSound shapes.Value)
  pub apriori : IfSome doc.apriori (AreSound shapes.Value)
  pub vector : IfSome doc.vector (AreSound shapes.Vector)
  pub estimate_matrix : IfSome doc.estimate_matrix (IsMatrixOf doc.estimates)
  pub apriori_matrix : IfSome doc.apriori_matrix (IsMatrixOf doc.apriori)
  pub normal_matrix : IfSome doc.normal_matrix (IsMatrixOf doc.vector)
