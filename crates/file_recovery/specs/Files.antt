-- Of which blocks a file's normal equations are made: those of its normal equations, or those of its solution (SINEX 2.02 format description;
-- the forms are those of the control file).
use Rattle.std.specs.Prelude.{◌≡◌, List, Option, Some, None, Result, Ok, Err}
use Rattle.std.specs.Option.{ok_or}
use Rattle.stated_order.specs.Steps.{Then}
use Rattle.param_ids.specs.Plain.{PlainId}
use Rattle.snx_rows.specs.declared.rows.Row.{Row}
use Rattle.snx_blocks.specs.Documents.{PlainDoc, PlainMatrix}
use Rattle.snx_blocks.specs.declared.sections.Section.{Section}
use Rattle.snx_blocks.specs.declared.sections.Section.TheVariants.{Estimates, Apriori, Vector, EstimateMatrix, AprioriMatrix, NormalMatrix}
use Rattle.control_doc.specs.Plain.{PlainPlan}
use Rattle.control_doc.specs.declared.plans.Form.{Form}
use Rattle.control_doc.specs.declared.plans.Form.TheVariants as forms
use Rattle.control_doc.specs.declared.plans.Held.{Held}
use Rattle.control_doc.specs.declared.plans.Held.TheVariants as held
use Rattle.recover_neq.specs.Blocks.{Blocks, blocks_of}
use Rattle.recover_solution.specs.Solutions.{PlainConstraint, Free, Matrix, Sigmas, PlainSolution}
use Rattle.file_recovery.specs.declared.faults.FileFault.{FileFault}
use Rattle.file_recovery.specs.declared.faults.FileFault.TheVariants.{MissingBlock}

-- the blocks of which normal equations are made
pub data Source : Type 0 where
  Equations : Blocks → Source
  Estimated : PlainSolution → Source

-- the rows whose names are the parameters, and the a priori rows
abbrev pub rows_of : Source → List Row
rows_of (Equations blocks) = blocks.vector
rows_of (Estimated solution) = solution.estimates

abbrev pub apriori_of : Source → List Row
apriori_of (Equations blocks) = blocks.apriori
apriori_of (Estimated solution) = solution.apriori

-- a block that is needed
abbrev pub needed : {X : Type 0} → Section → Option X → Result X FileFault
needed section block = ok_or block (MissingBlock section)

-- ---- the form
-- a file without a form is taken from its normal equations where it has the right side and the matrix of some, and else from its solution
abbrev pub form_in : Option (List Row) → Option PlainMatrix → Form
form_in (Some vector) (Some matrix) = forms.Neq
form_in vector matrix = forms.Solution

abbrev pub form_of : Form → PlainDoc → Form
form_of forms.Auto doc = form_in doc.vector doc.normal_matrix
form_of form doc = form

-- ---- constraints
-- without a choice those of the a priori matrix are removed where there is one, and else none
abbrev pub auto_in : Option PlainMatrix → PlainConstraint
auto_in None = Free
auto_in (Some matrix) = Matrix matrix.content matrix.cells

-- those that are chosen, or the block that they need
abbrev pub IsReported : Held → PlainDoc → Result PlainConstraint FileFault → Type 0
IsReported held.Auto doc result = result ≡ Ok (auto_in doc.apriori_matrix)
IsReported held.Matrix doc result = Then (λ r. r ≡ needed AprioriMatrix doc.apriori_matrix) (λ matrix r. r ≡ Ok (Matrix matrix.content matrix.cells)) result
IsReported held.Sigma doc result = result ≡ Ok Sigmas
IsReported held.Nothing doc result = result ≡ Ok Free

-- ---- the blocks
-- those of normal equations, or the first that is missing
abbrev pub AreEquations : PlainDoc → List Row → Result Source FileFault → Type 0
AreEquations doc apriori =
    Then (λ r. r ≡ needed Vector doc.vector) (λ vector.
    Then (λ r. r ≡ needed NormalMatrix doc.normal_matrix) (λ matrix r.
    r ≡ Ok (Equations (blocks_of apriori vector matrix.cells))))

-- those of a solution, or the first that is missing
abbrev pub IsSolution : Held → PlainDoc → List Row → Result Source FileFault → Type 0
IsSolution choice doc apriori =
    Then (λ r. r ≡ needed Estimates doc.estimates) (λ estimates.
    Then (λ r. r ≡ needed EstimateMatrix doc.estimate_matrix) (λ matrix.
    Then (IsReported choice doc) (λ constraint r.
    r ≡ Ok (Estimated (record { apriori = apriori; estimates = estimates; content = matrix.content; cells = matrix.cells; constraint = constraint })))))

abbrev pub IsSourceBy : Form → Held → PlainDoc → List Row → Result Source FileFault → Type 0
IsSourceBy forms.Neq choice doc apriori = AreEquations doc apriori
IsSourceBy form choice doc apriori = IsSolution choice doc apriori

-- the blocks of a file by its plan: the a priori values first
abbrev pub IsSource : PlainPlan → PlainDoc → Result Source FileFault → Type 0
IsSource plan doc = Then (λ r. r ≡ needed Apriori doc.apriori) (IsSourceBy (form_of plan.form doc) plan.held doc)
