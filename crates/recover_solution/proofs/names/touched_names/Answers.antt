use Rattle.std.proofs.Common.{◌≡◌, ◌∙◌, subst, sym, arith}
use Rattle.param_ids.specs.Order.{IsNames}
use Rattle.recover_solution.specs.Solutions.{is_touched, touched_names}
use Rattle.recover_solution.proofs.TouchedLaws.{kept_names, none_repeated, not_many, listed_same}
use Rattle.recover_solution.proofs.names.touched_names.Goals as goal

pub from_list-requires : goal.from_list-requires
from_list-requires c =
    let same : c.deref.result.now ≡ touched_names c.args.apriori.now c.args.cells.now c.args.names.now = c.deref.ensures.value ∙ c.in_ok-list.ensures in
    let ordered : IsNames c.deref.result.now = subst IsNames (sym same) (kept_names (is_touched c.args.apriori.now c.args.cells.now) c.args.names.now c.requires) in
    omega (arith, ordered.1)

pub returns-in-Ok : goal.returns-in-Ok
returns-in-Ok c =
    let same : c.deref.result.now ≡ touched_names c.args.apriori.now c.args.cells.now c.args.names.now = c.deref.ensures.value ∙ c.in_ok-list.ensures in
    listed_same c.deref.result.now c.in-Ok.part (subst IsNames (sym same) (kept_names (is_touched c.args.apriori.now c.args.cells.now) c.args.names.now c.requires)) c.in-Ok.ensures ∙ same

pub unreachable-requires : goal.unreachable-requires
unreachable-requires c =
    let same : c.deref.result.now ≡ touched_names c.args.apriori.now c.args.cells.now c.args.names.now = c.deref.ensures.value ∙ c.in_ok-list.ensures in
    none_repeated c.deref.result.now c.in-Err-Repeated.field-0 c.in-Err-Repeated.field-0-0 (subst IsNames (sym same) (kept_names (is_touched c.args.apriori.now c.args.cells.now) c.args.names.now c.requires)) c.in-Err-Repeated.field-0-is c.in-Err-Repeated.ensures

pub unreachable-requires-in-Err-TooMany : goal.unreachable-requires-in-Err-TooMany
unreachable-requires-in-Err-TooMany c =
    let same : c.deref.result.now ≡ touched_names c.args.apriori.now c.args.cells.now c.args.names.now = c.deref.ensures.value ∙ c.in_ok-list.ensures in
    not_many c.deref.result.now c.in-Err-TooMany.field-0 c.in-Err-TooMany.field-0-0 (subst IsNames (sym same) (kept_names (is_touched c.args.apriori.now c.args.cells.now) c.args.names.now c.requires)) c.in-Err-TooMany.field-0-is c.in-Err-TooMany.ensures
