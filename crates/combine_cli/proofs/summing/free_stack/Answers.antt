use Rattle.std.proofs.Common.{◌≡◌, map, length, ap, arith}
use Rattle.std.specs.String.{string_bytes}
use Rattle.std.proofs.lemmas.List.{length-map}
use Rattle.std.proofs.lemmas.Result.{err_from_is_err_and}
use Rattle.control_doc.specs.Views.{control_view}
use Rattle.run_inputs.specs.Views.{input_view}
use Rattle.combine_cli.specs.Combination.{counted_rows}
use Rattle.combine_cli.specs.Parts.{part_view}
use Rattle.combine_cli.proofs.Agreement.{parts_agree, parts_known, parts_as_many}
use Rattle.combine_cli.proofs.CombinedLaws.{no_common, no_parts, no_stack}
use Rattle.combine_cli.proofs.summing.free_stack.Goals as goal

-- ---- the stack of the parts
pub stack_of_parts-requires-clause-sound : goal.stack_of_parts-requires-clause-sound
stack_of_parts-requires-clause-sound g c =
    let inputs = map input_view c.args.inputs.items in
    let base = counted_rows (string_bytes c.args.control.now.reference) inputs in
    let each = c.in_ok-parts.ensures.each base (rw (c.as_str.ensures.value, c.deref.ensures.value) at c.in_ok-base.ensures.first) in
    rw c.deref-2.ensures.value (parts_known c.args.control.now.scales base inputs (map part_view c.in_ok-parts.parts.items) each).0

pub stack_of_parts-requires-clause-agree : goal.stack_of_parts-requires-clause-agree
stack_of_parts-requires-clause-agree g c =
    let reference = string_bytes c.args.control.now.reference in
    let inputs = map input_view c.args.inputs.items in
    let base = counted_rows reference inputs in
    let common = rw (c.as_str.ensures.value, c.deref.ensures.value) at c.in_ok-base.ensures.common in
    let each = c.in_ok-parts.ensures.each base (rw (c.as_str.ensures.value, c.deref.ensures.value) at c.in_ok-base.ensures.first) in
    rw c.deref-2.ensures.value (parts_agree reference c.args.control.now.scales base inputs common (map part_view c.in_ok-parts.parts.items) each)

pub stack_of_parts-requires-clause-modest : goal.stack_of_parts-requires-clause-modest
stack_of_parts-requires-clause-modest g c =
    let inputs = map input_view c.args.inputs.items in
    let base = counted_rows (string_bytes c.args.control.now.reference) inputs in
    let each = c.in_ok-parts.ensures.each base (rw (c.as_str.ensures.value, c.deref.ensures.value) at c.in_ok-base.ensures.first) in
    rw c.deref-2.ensures.value (parts_known c.args.control.now.scales base inputs (map part_view c.in_ok-parts.parts.items) each).1

pub stack_of_parts-requires-clause-few : goal.stack_of_parts-requires-clause-few
stack_of_parts-requires-clause-few g c =
    let parts = c.in_ok-parts.parts.items in
    let files = c.args.inputs.items in
    let inputs = map input_view files in
    let base = counted_rows (string_bytes c.args.control.now.reference) inputs in
    let each = c.in_ok-parts.ensures.each base (rw (c.as_str.ensures.value, c.deref.ensures.value) at c.in_ok-base.ensures.first) in
    let as_many = parts_as_many c.args.control.now.scales base inputs (map part_view parts) each in
    omega (arith, ap length c.deref-2.ensures.value, as_many, length-map parts part_view, length-map files input_view, c.requires.few)

-- ---- refusals
pub returns-in_err-base-clause-refused : goal.returns-in_err-base-clause-refused
returns-in_err-base-clause-refused g c =
    let p = err_from_is_err_and c.from_residual.result c.from_residual.ensures.1 in
    rw (p.1, p.2) (λ a b whole.
    no_common whole (control_view c.args.control.now) (map input_view c.args.inputs.items) _ (rw (c.as_str.ensures.value, c.deref.ensures.value) at (c.in_err-base.ensures.refused a b)))

pub returns-in_err-parts-clause-refused : goal.returns-in_err-parts-clause-refused
returns-in_err-parts-clause-refused g c =
    let p = err_from_is_err_and c.from_residual-in_err-parts.result c.from_residual-in_err-parts.ensures.1 in
    let inputs = map input_view c.args.inputs.items in
    let base = counted_rows (string_bytes c.args.control.now.reference) inputs in
    let common = rw (c.as_str.ensures.value, c.deref.ensures.value) at c.in_ok-base.ensures.common in
    let first = rw (c.as_str.ensures.value, c.deref.ensures.value) at c.in_ok-base.ensures.first in
    rw (p.1, p.2) (λ a b whole. no_parts whole (control_view c.args.control.now) inputs base common _ (c.in_err-parts.ensures.refused base first a b))

pub returns-in_err-neq-clause-refused : goal.returns-in_err-neq-clause-refused
returns-in_err-neq-clause-refused g c =
    let p = err_from_is_err_and c.from_residual-in_err-neq.result c.from_residual-in_err-neq.ensures.1 in
    let inputs = map input_view c.args.inputs.items in
    let base = counted_rows (string_bytes c.args.control.now.reference) inputs in
    let common = rw (c.as_str.ensures.value, c.deref.ensures.value) at c.in_ok-base.ensures.common in
    let first = rw (c.as_str.ensures.value, c.deref.ensures.value) at c.in_ok-base.ensures.first in
    rw (p.1, p.2) (λ a b whole.
    no_stack whole (control_view c.args.control.now) inputs base common (map part_view c.in_ok-parts.parts.items) (c.in_ok-parts.ensures.parts base first) _ (rw c.deref-2.ensures.value at (c.in_err-neq.ensures.refused a b)))

-- ---- the stack
pub returns-clause-summed : goal.returns-clause-summed
returns-clause-summed g c =
    let base = counted_rows (string_bytes c.args.control.now.reference) (map input_view c.args.inputs.items) in
    let first = rw (c.as_str.ensures.value, c.deref.ensures.value) at c.in_ok-base.ensures.first in
    record {
      base = base;
      common = rw (c.as_str.ensures.value, c.deref.ensures.value) at c.in_ok-base.ensures.common;
      parts = map part_view c.in_ok-parts.parts.items;
      are = c.in_ok-parts.ensures.parts base first;
      each = c.in_ok-parts.ensures.each base first;
      stacks = rw c.deref-2.ensures.value at c.in_ok-neq.ensures.stacked;
      whole = rw c.deref-2.ensures.value at c.in_ok-neq.ensures.whole;
    }
