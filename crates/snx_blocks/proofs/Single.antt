-- A text has one document at most or one first bad line, and never both.
use Rattle.std.proofs.Common.{◌≡◌, ◌∙◌, ℕ, List, Option, Some, None, Result, Ok, sym, subst}
use Rattle.stated_order.specs.Steps.{IsOne, Then, Through}
use Rattle.stated_order.proofs.StepLaws.{then_is_one, through_is_one, renamed_is_one}
use Rattle.snx_lines.specs.Lines.{PlainLine, lines_in}
use Rattle.snx_lines.specs.Framing.{PlainBlock, PlainFraming}
use Rattle.snx_lines.proofs.Alone.{one_framing}
use Rattle.snx_rows.specs.Rows.{fault_at}
use Rattle.snx_rows.specs.declared.causes.LineFault.{LineFault}
use Rattle.snx_rows.specs.declared.rows.Row.{Row}
use Rattle.snx_rows.specs.declared.rows.Shape.TheVariants as shapes
use Rattle.snx_rows.proofs.Alone.{rows_are_one}
use Rattle.snx_rows.specs.Blocks.{AreRows}
use Rattle.snx_matrices.specs.Elements.{normal_heading, solution_heading}
use Rattle.snx_matrices.proofs.Single.{matrix_is_one}
use Rattle.snx_sites.specs.Sites.{AreSites, AreEpochs}
use Rattle.snx_matrices.specs.declared.elements.Heading.{Heading}
use Rattle.snx_sites.proofs.Alone.{sites_are_one, epochs_are_one}
use Rattle.snx_blocks.specs.Documents.{PlainMatrix, PlainDoc, empty_doc, once, IsFirst, IsMatrixTitle, IsMatrix, IsSectionRead, IsReadOrPassed, IsBlockRead, whole, IsDocument}
use Rattle.snx_blocks.specs.Sections.{section_of}
use Rattle.snx_blocks.specs.declared.sections.Section.{Section}
use Rattle.snx_blocks.specs.declared.sections.Section.TheVariants.{Estimates, Apriori, Vector, EstimateMatrix, AprioriMatrix, NormalMatrix, Sites, Epochs}

first_is_one : {X : Type 0} (before : Option X) (title : PlainLine) → IsOne (IsFirst before title)
first_is_one before title = renamed_is_one (fault_at title.number) (λ r. r ≡ once before) (λ r s a b. a ∙ sym b)

title_is_one : (before : Option PlainMatrix) (rows : Option (List Row)) (heading : Option Heading) (title : PlainLine) → IsOne (IsMatrixTitle before rows heading title)
title_is_one before rows heading title =
    renamed_is_one (fault_at title.number) _
    (then_is_one _ _ (λ r s a b. a ∙ sym b) (λ new of_new.
    then_is_one _ _ (λ r s a b. a ∙ sym b) (λ given of_rows.
    then_is_one _ _ (λ r s a b. a ∙ sym b) (λ named of_heading r s a b. a ∙ sym b))))

-- what stands once: its title, then its body
put_is_one : {X : Type 0} (before : Option X) (title : PlainLine) (IsBody : Result X LineFault → Type 0) (put : X → PlainDoc) → IsOne IsBody → IsOne (Then (IsFirst before title) (λ new. Then IsBody (λ x r. r ≡ Ok (put x))))
put_is_one before title IsBody put one = then_is_one _ _ (first_is_one before title) (λ new of_title. then_is_one _ _ one (λ x of_body r s a b. a ∙ sym b))

elements_are_one : (before : Option PlainMatrix) (rows : Option (List Row)) (heading : Option Heading) (block : PlainBlock) → IsOne (IsMatrix before rows heading block)
elements_are_one before rows heading block =
    then_is_one _ _ (title_is_one before rows heading block.title) (λ headed of_title.
    then_is_one _ _ (matrix_is_one headed.heading.triangle headed.rows block.body) (λ cells of_lines r s a b. a ∙ sym b))

put_over_is_one : (before : Option PlainMatrix) (rows : Option (List Row)) (heading : Option Heading) (block : PlainBlock) (put : PlainMatrix → PlainDoc) → IsOne (Then (IsMatrix before rows heading block) (λ matrix r. r ≡ Ok (put matrix)))
put_over_is_one before rows heading block put = then_is_one _ _ (elements_are_one before rows heading block) (λ matrix of_block r s a b. a ∙ sym b)

section_is_one : (section : Section) (doc : PlainDoc) (block : PlainBlock) → IsOne (IsSectionRead section doc block)
section_is_one Estimates doc block = put_is_one doc.estimates block.title (AreRows shapes.Value block.body) (λ rows. record doc { estimates = Some rows }) (rows_are_one shapes.Value block.body)
section_is_one Apriori doc block = put_is_one doc.apriori block.title (AreRows shapes.Value block.body) (λ rows. record doc { apriori = Some rows }) (rows_are_one shapes.Value block.body)
section_is_one Vector doc block = put_is_one doc.vector block.title (AreRows shapes.Vector block.body) (λ rows. record doc { vector = Some rows }) (rows_are_one shapes.Vector block.body)
section_is_one EstimateMatrix doc block = put_over_is_one doc.estimate_matrix doc.estimates (solution_heading block.title.text) block (λ matrix. record doc { estimate_matrix = Some matrix })
section_is_one AprioriMatrix doc block = put_over_is_one doc.apriori_matrix doc.apriori (solution_heading block.title.text) block (λ matrix. record doc { apriori_matrix = Some matrix })
section_is_one NormalMatrix doc block = put_over_is_one doc.normal_matrix doc.vector (normal_heading block.title.text) block (λ matrix. record doc { normal_matrix = Some matrix })
section_is_one Sites doc block = put_is_one doc.sites block.title (AreSites block.body) (λ sites. record doc { sites = Some sites }) (sites_are_one block.body)
section_is_one Epochs doc block = put_is_one doc.epochs block.title (AreEpochs block.body) (λ epochs. record doc { epochs = Some epochs }) (epochs_are_one block.body)

passed_is_one : (section : Option Section) (doc : PlainDoc) (block : PlainBlock) → IsOne (IsReadOrPassed section doc block)
passed_is_one None doc block = λ r s a b. a ∙ sym b
passed_is_one (Some section) doc block = λ r s a b. section_is_one section doc block r s a b

block_is_one : (doc : PlainDoc) (block : PlainBlock) → IsOne (IsBlockRead doc block)
block_is_one doc block = passed_is_one (section_of block.name) doc block

-- the document of a framing
read_is_one : (framing : PlainFraming) → IsOne (Then (Through IsBlockRead empty_doc framing.blocks) (λ doc r. r ≡ whole framing.stop doc))
read_is_one framing = then_is_one _ _ (through_is_one IsBlockRead block_is_one empty_doc framing.blocks) (λ doc of_blocks r s a b. a ∙ sym b)

pub document_is_one : (text : List ℕ) → IsOne (IsDocument text)
document_is_one text r s a b =
    let same : a.framing ≡ b.framing = one_framing (lines_in text) a.framing b.framing a.framed b.framed in
    read_is_one b.framing r s (subst (λ (f : PlainFraming). Then (Through IsBlockRead empty_doc f.blocks) (λ doc r. r ≡ whole f.stop doc) r) same a.read) b.read
