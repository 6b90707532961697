-- A file has one set of blocks by its plan, or one first cause for which it has none; and its a priori rows are among them.
use Rattle.std.proofs.Common.{◌≡◌, ◌∙◌, List, Option, Some, None, Result, Ok, Err, refl, sym, ap}
use Rattle.stated_order.specs.Steps.{IsOne}
use Rattle.stated_order.proofs.StepLaws.{then_is_one, then_gives, then_stops, went_on, ok_same}
use Rattle.snx_rows.specs.declared.rows.Row.{Row}
use Rattle.snx_blocks.specs.Documents.{PlainDoc, PlainMatrix}
use Rattle.snx_blocks.specs.declared.sections.Section.{Section}
use Rattle.snx_blocks.specs.declared.sections.Section.TheVariants.{Estimates, Apriori, Vector, EstimateMatrix, AprioriMatrix, NormalMatrix}
use Rattle.control_doc.specs.Plain.{PlainPlan}
use Rattle.control_doc.specs.declared.plans.Form.{Form}
use Rattle.control_doc.specs.declared.plans.Form.TheVariants as forms
use Rattle.control_doc.specs.declared.plans.Held.{Held}
use Rattle.control_doc.specs.declared.plans.Held.TheVariants as held
use Rattle.recover_neq.specs.Blocks.{blocks_of}
use Rattle.recover_solution.specs.Solutions.{PlainConstraint, Matrix}
use Rattle.file_recovery.specs.Files.{Source, Equations, Estimated, apriori_of, needed, form_of, IsReported, AreEquations, IsSolution, IsSourceBy, IsSource}
use Rattle.file_recovery.specs.declared.faults.FileFault.{FileFault}

-- ---- one source
reported_is_one : (choice : Held) (doc : PlainDoc) → IsOne (IsReported choice doc)
reported_is_one held.Auto doc = λ r s a b. a ∙ sym b
reported_is_one held.Matrix doc = then_is_one (λ r. r ≡ needed AprioriMatrix doc.apriori_matrix) _ (λ r s a b. a ∙ sym b) (λ matrix given r s a b. a ∙ sym b)
reported_is_one held.Sigma doc = λ r s a b. a ∙ sym b
reported_is_one held.Nothing doc = λ r s a b. a ∙ sym b

equations_are_one : (doc : PlainDoc) (apriori : List Row) → IsOne (AreEquations doc apriori)
equations_are_one doc apriori =
    then_is_one (λ r. r ≡ needed Vector doc.vector) _ (λ r s a b. a ∙ sym b) (λ vector given.
    then_is_one (λ r. r ≡ needed NormalMatrix doc.normal_matrix) _ (λ r s a b. a ∙ sym b) (λ matrix given r s a b. a ∙ sym b))

solution_is_one : (choice : Held) (doc : PlainDoc) (apriori : List Row) → IsOne (IsSolution choice doc apriori)
solution_is_one choice doc apriori =
    then_is_one (λ r. r ≡ needed Estimates doc.estimates) _ (λ r s a b. a ∙ sym b) (λ estimates given.
    then_is_one (λ r. r ≡ needed EstimateMatrix doc.estimate_matrix) _ (λ r s a b. a ∙ sym b) (λ matrix given.
    then_is_one (IsReported choice doc) _ (reported_is_one choice doc) (λ constraint given r s a b. a ∙ sym b)))

source_by_is_one : (form : Form) (choice : Held) (doc : PlainDoc) (apriori : List Row) → IsOne (IsSourceBy form choice doc apriori)
source_by_is_one forms.Neq choice doc apriori = equations_are_one doc apriori
source_by_is_one forms.Auto choice doc apriori = solution_is_one choice doc apriori
source_by_is_one forms.Solution choice doc apriori = solution_is_one choice doc apriori

pub source_is_one : (plan : PlainPlan) (doc : PlainDoc) → IsOne (IsSource plan doc)
source_is_one plan doc =
    then_is_one (λ r. r ≡ needed Apriori doc.apriori) _ (λ r s a b. a ∙ sym b) (λ apriori given. source_by_is_one (form_of plan.form doc) plan.held doc apriori)

pub same_source : (plan : PlainPlan) (doc : PlainDoc) (one other : Source) → IsSource plan doc (Ok one) → IsSource plan doc (Ok other) → one ≡ other
same_source plan doc one other first second = ok_same one other (source_is_one plan doc (Ok one) (Ok other) first second)

-- ---- its a priori rows
needed_there : {X : Type 0} (section : Section) (block : Option X) (x : X) → Ok x ≡ needed section block → block ≡ Some x
needed_there section None x e = absurd (cc)
needed_there section (Some y) x e = cc

equations_apriori : (doc : PlainDoc) (apriori : List Row) (source : Source) → AreEquations doc apriori (Ok source) → apriori_of source ≡ apriori
equations_apriori doc apriori source h =
    let vector = went_on _ _ source h in
    let matrix = went_on _ _ source vector.onward in
    ap apriori_of (ok_same source _ matrix.onward)

solution_apriori : (choice : Held) (doc : PlainDoc) (apriori : List Row) (source : Source) → IsSolution choice doc apriori (Ok source) → apriori_of source ≡ apriori
solution_apriori choice doc apriori source h =
    let estimates = went_on _ _ source h in
    let matrix = went_on _ _ source estimates.onward in
    let constraint = went_on _ _ source matrix.onward in
    ap apriori_of (ok_same source _ constraint.onward)

apriori_by : (form : Form) (choice : Held) (doc : PlainDoc) (apriori : List Row) (source : Source) → IsSourceBy form choice doc apriori (Ok source) → apriori_of source ≡ apriori
apriori_by forms.Neq choice doc apriori source h = equations_apriori doc apriori source h
apriori_by forms.Auto choice doc apriori source h = solution_apriori choice doc apriori source h
apriori_by forms.Solution choice doc apriori source h = solution_apriori choice doc apriori source h

-- they are those of the document
pub source_apriori : (plan : PlainPlan) (doc : PlainDoc) (source : Source) → IsSource plan doc (Ok source) → doc.apriori ≡ Some (apriori_of source)
source_apriori plan doc source h =
    let first = went_on (λ r. r ≡ needed Apriori doc.apriori) (IsSourceBy (form_of plan.form doc) plan.held doc) source h in
    needed_there Apriori doc.apriori first.gives first.given ∙ ap Some (sym (apriori_by (form_of plan.form doc) plan.held doc first.gives source first.onward))

-- ---- those of normal equations
pub equations_there : (doc : PlainDoc) (apriori vector : List Row) (matrix : PlainMatrix) → doc.vector ≡ Some vector → doc.normal_matrix ≡ Some matrix
    → AreEquations doc apriori (Ok (Equations (blocks_of apriori vector matrix.cells)))
equations_there doc apriori vector matrix rows elements =
    then_gives (λ r. r ≡ needed Vector doc.vector) _ vector _ (sym (ap (needed Vector) rows)) (then_gives (λ r. r ≡ needed NormalMatrix doc.normal_matrix) _ matrix _ (sym (ap (needed NormalMatrix) elements)) refl)

pub matrix_reported : (doc : PlainDoc) (matrix : PlainMatrix) → doc.apriori_matrix ≡ Some matrix → IsReported held.Matrix doc (Ok (Matrix matrix.content matrix.cells))
matrix_reported doc matrix is = then_gives (λ r. r ≡ needed AprioriMatrix doc.apriori_matrix) _ matrix _ (sym (ap (needed AprioriMatrix) is)) refl

-- ---- those of a solution, up to the first step that refuses
module _ (choice : Held) (doc : PlainDoc) (apriori estimates : List Row) (matrix : PlainMatrix) (rows : doc.estimates ≡ Some estimates) (elements : doc.estimate_matrix ≡ Some matrix) where
  pub no_report : (fault : FileFault) → IsReported choice doc (Err fault) → IsSolution choice doc apriori (Err fault)
  no_report fault refused =
      then_gives _ _ estimates _ (sym (ap (needed Estimates) rows)) (then_gives _ _ matrix _ (sym (ap (needed EstimateMatrix) elements)) (then_stops (IsReported choice doc) _ fault refused))

  pub solution_there : (constraint : PlainConstraint) → IsReported choice doc (Ok constraint)
      → IsSolution choice doc apriori (Ok (Estimated (record { apriori = apriori; estimates = estimates; content = matrix.content; cells = matrix.cells; constraint = constraint })))
  solution_there constraint reported =
      then_gives _ _ estimates _ (sym (ap (needed Estimates) rows)) (then_gives _ _ matrix _ (sym (ap (needed EstimateMatrix) elements)) (then_gives (IsReported choice doc) _ constraint _ reported refl))
