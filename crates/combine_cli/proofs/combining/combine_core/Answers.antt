use Rattle.std.proofs.Common.{◌≡◌, ◌∙◌, ℕ, List, Bor, Option, Some, None, Ok, Err, map, length, ap, sym, subst, refl}
use Rattle.std.specs.Option.{IfSome, option_map, option_copied}
use Rattle.std.proofs.lemmas.Result.{err_from_is_err_and}
use Rattle.control_doc.specs.Valid.{HasPositiveSigmas}
use Rattle.control_doc.specs.Views.{datum_view, control_view}
use Rattle.control_doc.specs.declared.plans.Datum.{Datum}
use Rattle.neq_stack.specs.Neqs.{PlainNeq, neq_view}
use Rattle.stack_rules.specs.Rules.{numbers_in}
use Rattle.bounds_text.specs.Report.{numbers_report}
use Rattle.site_merge.specs.Answers.{sites_view}
use Rattle.site_merge.specs.Merged.{IsMerge}
use Rattle.run_inputs.specs.Views.{input_view}
use Rattle.run_inputs.specs.declared.inputs.Input.{Input}
use Rattle.combine_cli.specs.Combination.{Solves}
use Rattle.combine_cli.specs.Headline.{AreCertifiedOf}
use Rattle.combine_cli.specs.Parts.{added_view, names_in, docs_in}
use Rattle.combine_cli.proofs.ExactSystems.{names_added, is_certified_report}
use Rattle.combine_cli.proofs.CombinedLaws.{no_datum, not_solved, combined_by}
use Rattle.combine_cli.proofs.combining.combine_core.Goals as goal

-- ---- the datum, as a reference to what the control has
seen : (given : Option (Bor Datum)) (datum : Option Datum) → option_copied given ≡ datum → option_map (λ given. datum_view given.now) given ≡ option_map datum_view datum
seen None datum e = ap (option_map datum_view) e
seen (Some given) datum e = ap (option_map datum_view) e

positive_seen : (given : Option (Bor Datum)) (datum : Option Datum) → option_copied given ≡ datum → IfSome (option_map datum_view datum) HasPositiveSigmas
    → IfSome given (λ given. HasPositiveSigmas (datum_view given.now))
positive_seen None datum e h = tt
positive_seen (Some given) datum e h = subst (λ (o : Option Datum). IfSome (option_map datum_view o) HasPositiveSigmas) (sym e) h

pub with_datum-requires-clause-positive : goal.with_datum-requires-clause-positive
with_datum-requires-clause-positive g c = positive_seen c.as_ref.result c.args.control.now.datum c.as_ref.ensures.value c.requires.positive

-- ---- refusals
pub returns-in_err-free-clause-refused : goal.returns-in_err-free-clause-refused
returns-in_err-free-clause-refused g c =
    let p = err_from_is_err_and c.from_residual-in_err-free.result c.from_residual-in_err-free.ensures.1 in
    rw (p.1, p.2) (λ a b. c.in_err-free.ensures.refused a b c.args.whole)

pub returns-in_err-added-clause-refused : goal.returns-in_err-added-clause-refused
returns-in_err-added-clause-refused g c =
    let p = err_from_is_err_and c.from_residual-in_err-added.result c.from_residual-in_err-added.ensures.1 in
    let datum = seen c.as_ref.result c.args.control.now.datum c.as_ref.ensures.value in
    rw (p.1, p.2) (λ a b. no_datum c.args.whole (control_view c.args.control.now) (map input_view c.args.inputs.items) (neq_view c.in_ok-free.free) c.in_ok-free.ensures.summed _ (rw datum at (c.in_err-added.ensures.refused a b)))

pub returns-in_err-numbers-clause-refused : goal.returns-in_err-numbers-clause-refused
returns-in_err-numbers-clause-refused g c =
    let p = err_from_is_err_and c.from_residual-in_err-numbers.result c.from_residual-in_err-numbers.ensures.1 in
    let datum = seen c.as_ref.result c.args.control.now.datum c.as_ref.ensures.value in
    let neq = added_view (neq_view c.in_ok-free.free) c.in_ok-added.added in
    rw (p.1, p.2) (λ a b.
    not_solved c.args.whole (control_view c.args.control.now) (map input_view c.args.inputs.items) (neq_view c.in_ok-free.free) c.in_ok-free.ensures.summed neq (rw datum at c.in_ok-added.ensures.added) _
    (subst (λ (n : PlainNeq). Solves n (Err c.in_err-numbers.field-0.0)) c.solved_stack-neq.ensures (c.in_err-numbers.ensures.refused a b)))

pub returns-in_err-out-clause-refused : goal.returns-in_err-out-clause-refused
returns-in_err-out-clause-refused g c =
    let p = err_from_is_err_and c.from_residual-in_err-out.result c.from_residual-in_err-out.ensures.1 in
    rw (p.1, p.2) (λ a b. absurd (a refl))

-- ---- the texts
pub out_of-requires-clause-rows : goal.out_of-requires-clause-rows
out_of-requires-clause-rows g c =
    let datum = seen c.as_ref.result c.args.control.now.datum c.as_ref.ensures.value in
    let free = neq_view c.in_ok-free.free in
    let neq = added_view free c.in_ok-added.added in
    let same = names_added (control_view c.args.control.now).datum free neq (rw datum at c.in_ok-added.ensures.added) in
    c.in_ok-numbers.ensures.rows ∙ ap (λ (n : PlainNeq). length n.names) c.solved_stack-neq.ensures ∙ ap length same.names

pub returns-clause-combined : goal.returns-clause-combined
returns-clause-combined g c =
    let datum = seen c.as_ref.result c.args.control.now.datum c.as_ref.ensures.value in
    let inputs = map input_view c.args.inputs.items in
    let free = neq_view c.in_ok-free.free in
    let neq = added_view free c.in_ok-added.added in
    let numbers = numbers_in c.in_ok-numbers.numbers in
    let names : map (λ name. name.now) c.deref-4.result.now ≡ names_in inputs =
    ap (map (λ (name : Bor (List ℕ)). name.now)) c.deref-4.ensures.value ∙ c.in_ok-files.ensures ∙ ap (λ (files : List Input). names_in (map input_view files)) c.deref.ensures.value in
    let merged : IsMerge (docs_in inputs) (sites_view c.in_ok-sites.sites) = subst (λ (files : List Input). IsMerge (docs_in (map input_view files)) (sites_view c.in_ok-sites.sites)) c.deref-2.ensures.value c.in_ok-sites.ensures in
    let told : c.in_ok-report.report.items ≡ numbers_report neq.names neq.units numbers =
    c.in_ok-report.ensures ∙ ap (λ (units : List (List ℕ)). numbers_report c.solved_stack-neq.result.now.names units numbers) c.deref-3.ensures.value
    ∙ ap (λ (n : PlainNeq). numbers_report n.names n.units numbers) c.solved_stack-neq.ensures in
    combined_by c.args.whole (control_view c.args.control.now) inputs free c.in_ok-free.ensures.summed neq (rw datum at c.in_ok-added.ensures.added) numbers
    (record { out = c.in_ok-out.out.items; report = c.in_ok-report.report.items })
    (subst (λ (n : PlainNeq). Solves n (Ok numbers)) c.solved_stack-neq.ensures c.in_ok-numbers.ensures.solves) (c.in_ok-out.ensures inputs names merged, told)

pub returns-clause-certified : goal.returns-clause-certified
returns-clause-certified g c =
    let datum = seen c.as_ref.result c.args.control.now.datum c.as_ref.ensures.value in
    let inputs = map input_view c.args.inputs.items in
    let free = neq_view c.in_ok-free.free in
    let neq = added_view free c.in_ok-added.added in
    let numbers = numbers_in c.in_ok-numbers.numbers in
    let summed = c.in_ok-free.ensures.summed in
    let told : c.in_ok-report.report.items ≡ numbers_report neq.names neq.units numbers =
    c.in_ok-report.ensures ∙ ap (λ (units : List (List ℕ)). numbers_report c.solved_stack-neq.result.now.names units numbers) c.deref-3.ensures.value
    ∙ ap (λ (n : PlainNeq). numbers_report n.names n.units numbers) c.solved_stack-neq.ensures in
    is_certified_report (control_view c.args.control.now) inputs summed.base summed.parts free neq summed.common summed.each summed.whole c.requires.positive c.in_ok-added.ensures.sound
    (rw datum at c.in_ok-added.ensures.added) numbers c.in_ok-report.report.items summed.are
    (subst (λ (n : PlainNeq). Solves n (Ok numbers)) c.solved_stack-neq.ensures c.in_ok-numbers.ensures.solves)
    (subst (λ (n : PlainNeq). AreCertifiedOf n numbers) c.solved_stack-neq.ensures c.in_ok-numbers.ensures.certified) told
