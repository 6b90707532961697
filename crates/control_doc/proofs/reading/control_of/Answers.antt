use Rattle.std.proofs.Common.{◌≡◌, List, Result, Ok, Err, Vec, Global, map, subst, arith, Bor, BTreeMap, String}
use Rattle.std.proofs.lemmas.Grind.{common_steps}
use Rattle.std.proofs.lemmas.Result.{err_from_is_err_and}
use Rattle.toml.specs.View.{table_view}
use Rattle.toml.specs.Data.{Members}
use Rattle.toml.specs.declared.value.Value.{Value}
use Rattle.control_doc.specs.Control.{Is, ArePlans, AreReductions, reference_in, known_from}
use Rattle.control_doc.specs.Views.{Answers, plan_view, reduction_view}
use Rattle.control_doc.specs.declared.faults.ControlError.{ControlError}
use Rattle.control_doc.specs.declared.plans.FilePlan.{FilePlan}
use Rattle.control_doc.specs.declared.plans.Reduction.{Reduction}
use Rattle.control_doc.proofs.WholeSteps.{no_run, no_files, no_datum, no_reductions, no_scales, no_reference, no_known, whole_control}
use Rattle.control_doc.proofs.reading.control_of.Goals as goal

abbrev tables : List (Bor (BTreeMap (String Global) Value)) → List Members
tables found = map (λ (table : Bor (BTreeMap (String Global) Value)). table_view table.now) found

abbrev IsFiles : List (Bor (BTreeMap (String Global) Value)) → Result (Vec FilePlan Global) ControlError → Type 0
IsFiles found = Answers (λ (v : Vec FilePlan Global). map plan_view v.items) (ArePlans (tables found))

abbrev IsReductions : List (Bor (BTreeMap (String Global) Value)) → Result (Vec Reduction Global) ControlError → Type 0
IsReductions found = Answers (λ (v : Vec Reduction Global). map reduction_view v.items) (AreReductions (tables found))

abbrev IsReferred : Members → List FilePlan → Result (Unit {0}) ControlError → Type 0
IsReferred run files = Answers (λ (x : Unit {0}). x) (Is (reference_in (map plan_view files) run))

abbrev IsKnown : List FilePlan → List Reduction → Result (Unit {0}) ControlError → Type 0
IsKnown files reductions = Answers (λ (x : Unit {0}). x) (Is (known_from 0 (map plan_view files) (map reduction_view reductions)))

pub returns-in_err-run : goal.returns-in_err-run
returns-in_err-run c =
    let from = err_from_is_err_and c.from_residual-in_err-run.result c.from_residual-in_err-run.ensures.1 in
    rw (from.1, from.2) (no_run (table_view c.args.top.now) c.in_ok-parts.parts c.in_ok-parts.ensures.value c.in_ok-header.header c.in_ok-header.ensures c.in_err-run.field-0.0 c.in_err-run.ensures)

pub returns-in_err-files : goal.returns-in_err-files
returns-in_err-files c =
    let files-seen : c.deref.result.now ≡ c.in_ok-parts.parts.files.items = grind (arith, common_steps) in
    let err-files : Result (Vec FilePlan Global) ControlError = Err c.in_err-files.field-0.0 in
    let from = err_from_is_err_and c.from_residual-in_err-files.result c.from_residual-in_err-files.ensures.1 in
    rw (from.1, from.2) (no_files (table_view c.args.top.now) c.in_ok-parts.parts c.in_ok-parts.ensures.value c.in_ok-header.header c.in_ok-header.ensures c.in_ok-run.run' c.in_ok-run.ensures c.in_err-files.field-0.0 (subst (λ l. IsFiles l err-files) files-seen c.in_err-files.ensures))

pub returns-in_err-datum : goal.returns-in_err-datum
returns-in_err-datum c =
    let files-seen : c.deref.result.now ≡ c.in_ok-parts.parts.files.items = grind (arith, common_steps) in
    let ok-files : Result (Vec FilePlan Global) ControlError = Ok c.in_ok-files.files in
    let from = err_from_is_err_and c.from_residual-in_err-datum.result c.from_residual-in_err-datum.ensures.1 in
    rw (from.1, from.2) (no_datum (table_view c.args.top.now) c.in_ok-parts.parts c.in_ok-parts.ensures.value c.in_ok-header.header c.in_ok-header.ensures c.in_ok-run.run' c.in_ok-run.ensures c.in_ok-files.files (subst (λ l. IsFiles l ok-files) files-seen c.in_ok-files.ensures) c.in_err-datum.field-0.0 c.in_err-datum.ensures)

pub returns-in_err-reductions : goal.returns-in_err-reductions
returns-in_err-reductions c =
    let files-seen : c.deref.result.now ≡ c.in_ok-parts.parts.files.items = grind (arith, common_steps) in
    let ok-files : Result (Vec FilePlan Global) ControlError = Ok c.in_ok-files.files in
    let red-seen : c.deref-2.result.now ≡ c.in_ok-parts.parts.reductions.items = grind (arith, common_steps) in
    let err-reductions : Result (Vec Reduction Global) ControlError = Err c.in_err-reductions.field-0.0 in
    let from = err_from_is_err_and c.from_residual-in_err-reductions.result c.from_residual-in_err-reductions.ensures.1 in
    rw (from.1, from.2) (no_reductions (table_view c.args.top.now) c.in_ok-parts.parts c.in_ok-parts.ensures.value c.in_ok-header.header c.in_ok-header.ensures c.in_ok-run.run' c.in_ok-run.ensures c.in_ok-files.files (subst (λ l. IsFiles l ok-files) files-seen c.in_ok-files.ensures) c.in_ok-datum.datum c.in_ok-datum.ensures c.in_err-reductions.field-0.0 (subst (λ l. IsReductions l err-reductions) red-seen c.in_err-reductions.ensures))

pub returns-in_err-scales : goal.returns-in_err-scales
returns-in_err-scales c =
    let files-seen : c.deref.result.now ≡ c.in_ok-parts.parts.files.items = grind (arith, common_steps) in
    let ok-files : Result (Vec FilePlan Global) ControlError = Ok c.in_ok-files.files in
    let red-seen : c.deref-2.result.now ≡ c.in_ok-parts.parts.reductions.items = grind (arith, common_steps) in
    let ok-reductions : Result (Vec Reduction Global) ControlError = Ok c.in_ok-reductions.reductions in
    let from = err_from_is_err_and c.from_residual-in_err-scales.result c.from_residual-in_err-scales.ensures.1 in
    rw (from.1, from.2) (no_scales (table_view c.args.top.now) c.in_ok-parts.parts c.in_ok-parts.ensures.value c.in_ok-header.header c.in_ok-header.ensures c.in_ok-run.run' c.in_ok-run.ensures c.in_ok-files.files (subst (λ l. IsFiles l ok-files) files-seen c.in_ok-files.ensures) c.in_ok-datum.datum c.in_ok-datum.ensures c.in_ok-reductions.reductions (subst (λ l. IsReductions l ok-reductions) red-seen c.in_ok-reductions.ensures) c.in_err-scales.field-0.0 c.in_err-scales.ensures)

pub returns-in_err-reference_in : goal.returns-in_err-reference_in
returns-in_err-reference_in c =
    let files-seen : c.deref.result.now ≡ c.in_ok-parts.parts.files.items = grind (arith, common_steps) in
    let ok-files : Result (Vec FilePlan Global) ControlError = Ok c.in_ok-files.files in
    let red-seen : c.deref-2.result.now ≡ c.in_ok-parts.parts.reductions.items = grind (arith, common_steps) in
    let ok-reductions : Result (Vec Reduction Global) ControlError = Ok c.in_ok-reductions.reductions in
    let ref-seen : c.deref-3.result.now ≡ c.in_ok-files.files.items = grind (arith, common_steps) in
    let err-reference_in : Result (Unit {0}) ControlError = Err c.in_err-reference_in.field-0.0 in
    let from = err_from_is_err_and c.from_residual-in_err-reference_in.result c.from_residual-in_err-reference_in.ensures.1 in
    rw (from.1, from.2) (no_reference (table_view c.args.top.now) c.in_ok-parts.parts c.in_ok-parts.ensures.value c.in_ok-header.header c.in_ok-header.ensures c.in_ok-run.run' c.in_ok-run.ensures c.in_ok-files.files (subst (λ l. IsFiles l ok-files) files-seen c.in_ok-files.ensures) c.in_ok-datum.datum c.in_ok-datum.ensures c.in_ok-reductions.reductions (subst (λ l. IsReductions l ok-reductions) red-seen c.in_ok-reductions.ensures) c.in_ok-scales.scales c.in_ok-scales.ensures c.in_err-reference_in.field-0.0 (subst (λ l. IsReferred (table_view c.in_ok-parts.parts.run.now) l err-reference_in) ref-seen c.in_err-reference_in.ensures))

pub returns-in_err-known_from : goal.returns-in_err-known_from
returns-in_err-known_from c =
    let files-seen : c.deref.result.now ≡ c.in_ok-parts.parts.files.items = grind (arith, common_steps) in
    let ok-files : Result (Vec FilePlan Global) ControlError = Ok c.in_ok-files.files in
    let red-seen : c.deref-2.result.now ≡ c.in_ok-parts.parts.reductions.items = grind (arith, common_steps) in
    let ok-reductions : Result (Vec Reduction Global) ControlError = Ok c.in_ok-reductions.reductions in
    let ref-seen : c.deref-3.result.now ≡ c.in_ok-files.files.items = grind (arith, common_steps) in
    let ok-reference_in : Result (Unit {0}) ControlError = Ok c.in_ok-reference_in.field-0 in
    let kf-seen : c.deref-4.result.now ≡ c.in_ok-files.files.items = grind (arith, common_steps) in
    let kr-seen : c.deref-5.result.now ≡ c.in_ok-reductions.reductions.items = grind (arith, common_steps) in
    let err-known_from : Result (Unit {0}) ControlError = Err c.in_err-known_from.field-0.0 in
    let from = err_from_is_err_and c.from_residual-in_err-known_from.result c.from_residual-in_err-known_from.ensures.1 in
    rw (from.1, from.2) (no_known (table_view c.args.top.now) c.in_ok-parts.parts c.in_ok-parts.ensures.value c.in_ok-header.header c.in_ok-header.ensures c.in_ok-run.run' c.in_ok-run.ensures c.in_ok-files.files (subst (λ l. IsFiles l ok-files) files-seen c.in_ok-files.ensures) c.in_ok-datum.datum c.in_ok-datum.ensures c.in_ok-reductions.reductions (subst (λ l. IsReductions l ok-reductions) red-seen c.in_ok-reductions.ensures) c.in_ok-scales.scales c.in_ok-scales.ensures c.in_ok-reference_in.field-0 (subst (λ l. IsReferred (table_view c.in_ok-parts.parts.run.now) l ok-reference_in) ref-seen c.in_ok-reference_in.ensures) c.in_err-known_from.field-0.0 (subst (λ l. IsKnown l c.in_ok-reductions.reductions.items err-known_from) kf-seen (subst (λ l. IsKnown c.deref-4.result.now l err-known_from) kr-seen c.in_err-known_from.ensures)))

pub returns : goal.returns
returns c =
    let files-seen : c.deref.result.now ≡ c.in_ok-parts.parts.files.items = grind (arith, common_steps) in
    let ok-files : Result (Vec FilePlan Global) ControlError = Ok c.in_ok-files.files in
    let red-seen : c.deref-2.result.now ≡ c.in_ok-parts.parts.reductions.items = grind (arith, common_steps) in
    let ok-reductions : Result (Vec Reduction Global) ControlError = Ok c.in_ok-reductions.reductions in
    let ref-seen : c.deref-3.result.now ≡ c.in_ok-files.files.items = grind (arith, common_steps) in
    let ok-reference_in : Result (Unit {0}) ControlError = Ok c.in_ok-reference_in.field-0 in
    let kf-seen : c.deref-4.result.now ≡ c.in_ok-files.files.items = grind (arith, common_steps) in
    let kr-seen : c.deref-5.result.now ≡ c.in_ok-reductions.reductions.items = grind (arith, common_steps) in
    let ok-known_from : Result (Unit {0}) ControlError = Ok c.in_ok-known_from.field-0 in
    whole_control (table_view c.args.top.now) c.in_ok-parts.parts c.in_ok-parts.ensures.value c.in_ok-header.header c.in_ok-header.ensures c.in_ok-run.run' c.in_ok-run.ensures c.in_ok-files.files (subst (λ l. IsFiles l ok-files) files-seen c.in_ok-files.ensures) c.in_ok-datum.datum c.in_ok-datum.ensures c.in_ok-reductions.reductions (subst (λ l. IsReductions l ok-reductions) red-seen c.in_ok-reductions.ensures) c.in_ok-scales.scales c.in_ok-scales.ensures c.in_ok-reference_in.field-0 (subst (λ l. IsReferred (table_view c.in_ok-parts.parts.run.now) l ok-reference_in) ref-seen c.in_ok-reference_in.ensures) c.in_ok-known_from.field-0 (subst (λ l. IsKnown l c.in_ok-reductions.reductions.items ok-known_from) kf-seen (subst (λ l. IsKnown c.deref-4.result.now l ok-known_from) kr-seen c.in_ok-known_from.ensures))
