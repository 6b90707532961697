use Rattle.std.proofs.Common.{◌≡◌, ◌∙◌, Err, string_bytes, ap}
use Rattle.std.proofs.lemmas.Result.{err_from_is_err_and}
use Rattle.file_recovery.specs.Recovery.{IsRecovered}
use Rattle.snx_blocks.specs.Views.{doc_view}
use Rattle.refusal_lines.specs.Refusals.{status_of}
use Rattle.run_inputs.specs.Views.{input_view}
use Rattle.combine_cli.specs.Causes.{refusal_of_recovery}
use Rattle.combine_cli.proofs.PartLaws.{fault_told}
use Rattle.combine_cli.proofs.parts.recovered.Goals as goal

pub returns-in_ok-name-in-Err-Fault : goal.returns-in_ok-name-in-Err-Fault
returns-in_ok-name-in-Err-Fault g c =
    let plan = (input_view c.args.input.now).plan in
    let fault = c.in-Err-Fault.fault in
    let told : c.refusal_of_recovery.result ≡ refusal_of_recovery plan.name fault =
    c.refusal_of_recovery.ensures.told ∙ ap (λ n. refusal_of_recovery n fault) (c.in_ok-name-in-Err-Fault.ensures.name ∙ c.as_str.ensures.value) in
    record {
      recovers = tt;
      known = tt;
      refused = λ a b. (fault, fault_told fault (λ f. IsRecovered plan (doc_view c.args.input.now.doc) c.args.scales.now (Err f)) (rw c.in-Err-Fault.field-0-is at c.in-Err-Fault.ensures.refused), told);
      no_fault = c.refusal_of_recovery.ensures.no_fault;
    }

pub returns-in_err-name-in-Err-Fault-clause-refused : goal.returns-in_err-name-in-Err-Fault-clause-refused
returns-in_err-name-in-Err-Fault-clause-refused g c =
    let p = err_from_is_err_and c.from_residual.result c.from_residual.ensures.1 in
    rw (p.1, p.2) (λ a b. absurd (a (ap status_of c.in_err-name-in-Err-Fault.ensures.memory)))
