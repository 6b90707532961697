use Rattle.std.proofs.Common.{refl}
use Rattle.std.proofs.lemmas.Result.{err_from_is_err_and}
use Rattle.neq_stack.specs.Neqs.{neq_view}
use Rattle.run_inputs.specs.Views.{input_view}
use Rattle.combine_cli.proofs.ShiftedParts.{part_given, part_not_shifted, part_not_recovered, part_known}
use Rattle.combine_cli.proofs.parts.part_of.Goals as goal

pub returns-in_err-neq-clause-refused : goal.returns-in_err-neq-clause-refused
returns-in_err-neq-clause-refused g c = λ rows first.
    let p = err_from_is_err_and c.from_residual.result c.from_residual.ensures.1 in
    rw (p.1, p.2) (λ a b. part_not_recovered c.args.scales.now rows (input_view c.args.input.now) _ (c.in_err-neq.ensures.refused a b))

pub returns-in_err-shifted-clause-refused : goal.returns-in_err-shifted-clause-refused
returns-in_err-shifted-clause-refused g c = λ rows first.
    let p = err_from_is_err_and c.from_residual-in_err-shifted.result c.from_residual-in_err-shifted.ensures.1 in
    rw (p.1, p.2) (λ a b. part_not_shifted c.args.scales.now rows (input_view c.args.input.now) (neq_view c.in_ok-neq.neq) c.in_ok-neq.ensures.recovers _ (c.in_err-shifted.ensures.refused rows first a b))

pub returns-clause-part : goal.returns-clause-part
returns-clause-part g c = λ rows first.
    part_given c.args.scales.now rows (input_view c.args.input.now) (neq_view c.in_ok-neq.neq) c.in_ok-neq.ensures.recovers _ refl (c.in_ok-shifted.ensures.shifts rows first)

pub returns-clause-known : goal.returns-clause-known
returns-clause-known g c = λ rows first.
    part_known c.args.scales.now rows (input_view c.args.input.now) (neq_view c.in_ok-neq.neq) (neq_view c.shifted.new.neq) c.in_ok-neq.ensures.known (c.in_ok-shifted.ensures.shifts rows first) _ refl refl
    c.in_ok-shifted.ensures.sound c.in_ok-shifted.ensures.modest
