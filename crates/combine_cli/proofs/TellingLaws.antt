-- The combined file, from the text that was made.
use Rattle.std.proofs.Common.{◌≡◌, ◌∙◌, ℕ, Bool, true, List, Result, Ok, Err, IfOk, ap, sym, subst}
use Rattle.bounds_report.specs.declared.numbers.Printed.{Printed}
use Rattle.control_doc.specs.Plain.{PlainControl}
use Rattle.neq_stack.specs.Neqs.{PlainNeq}
use Rattle.stack_rules.specs.Rules.{Numbers}
use Rattle.site_merge.specs.Merged.{PlainSites, IsMerge}
use Rattle.snx_write.specs.Combined.{combined_text}
use Rattle.run_inputs.specs.Inputs.{PlainInput}
use Rattle.combine_cli.specs.Combination.{IsOutIf}
use Rattle.combine_cli.specs.Parts.{names_in, docs_in}

module _ (control : PlainControl) (inputs : List PlainInput) (files : List (List ℕ)) (sites : PlainSites) (free : PlainNeq) (numbers : Numbers) (rows : List Printed) where
  pub out_is : (whole : Bool) (text : List ℕ) → whole ≡ true → rows ≡ numbers.rows → files ≡ names_in inputs → IsMerge (docs_in inputs) sites → text ≡ combined_text control files sites free rows
      → IsOutIf whole control inputs free numbers text
  out_is whole text e same names merged is =
      subst (λ (b : Bool). IsOutIf b control inputs free numbers text) (sym e)
      (record { sites = sites; merged = merged; tells = is ∙ ap (λ (r : List Printed). combined_text control files sites free r) same ∙ ap (λ (f : List (List ℕ)). combined_text control f sites free numbers.rows) names })

  pub out_told : {X : Type 0} (text_of : X → List ℕ) {E : Type 0} (whole : Bool) (r : Result X E) → whole ≡ true → rows ≡ numbers.rows → files ≡ names_in inputs → IsMerge (docs_in inputs) sites
      → IfOk r (λ text. text_of text ≡ combined_text control files sites free rows) → IfOk r (λ text. IsOutIf whole control inputs free numbers (text_of text))
  out_told text_of whole (Ok text) e same names merged is = out_is whole (text_of text) e same names merged is
  out_told text_of whole (Err error) e same names merged is = tt
