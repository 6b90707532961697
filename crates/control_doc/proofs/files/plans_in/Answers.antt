use Rattle.std.proofs.Common.{◌≡◌, ◌++◌, ◌∷◌, ◌+◌, ◌∙◌, ◌<◌, map, take, length, get_or, List, [], Result, Ok, Err, codes, Bor, BTreeMap, String, Vec, Global, arith, sym, ap, subst}
use Rattle.std.proofs.lemmas.Grind.{common_steps}
use Rattle.std.proofs.lemmas.Result.{err_from_is_err_and}
use Rattle.stated_order.specs.Steps.{InTurn}
use Rattle.toml.specs.View.{table_view}
use Rattle.toml.specs.declared.value.Value.{Value}
use Rattle.control_doc.specs.Control.{IsPlan}
use Rattle.control_doc.specs.Faults.{entry_path}
use Rattle.control_doc.specs.Tables.{Entry, entries}
use Rattle.control_doc.specs.Views.{Answers, plan_view}
use Rattle.control_doc.specs.declared.faults.ControlError.{ControlError}
use Rattle.control_doc.specs.declared.plans.FilePlan.{FilePlan}
use Rattle.control_doc.proofs.Turns.{turn_more, turn_stops, all_taken, map_last}
use Rattle.control_doc.proofs.files.plans_in.Goals as goal

pub loop-k-preserved : goal.loop-k-preserved
loop-k-preserved c =
    let ts = c.args.tables.now in
    let k = c.loop-k.k in
    let here = c.index-tables-k.result in
    let lt : k < length ts = grind (arith, common_steps) in
    let at : get_or ts k here ≡ here = grind (arith, common_steps) in
    let seen : c.deref.result.now ≡ c.loop-k.plans.items = grind (arith, common_steps) in
    let entry : Entry = record { path = c.as_str.result.now; members = table_view c.index-tables-k.result.now } in
    let named : c.as_str.result.now ≡ entry_path (codes "file") k = grind (arith, common_steps) in
    let grown : c.push.new.self.items ≡ c.loop-k.plans.items ++ (c.in_ok-plan.plan ∷ []) = c.in_ok-push.ensures.items in
    let turned = turn_more (codes "file") (λ (table : Bor (BTreeMap (String Global) Value)). table_view table.now) IsPlan ts k here here c.as_str.result.now (map plan_view c.loop-k.plans.items) (plan_view c.in_ok-plan.plan) lt at named c.loop-k.invariant
    (subst (λ (ps : List FilePlan). IsPlan (map plan_view ps) entry (Ok (plan_view c.in_ok-plan.plan))) seen c.in_ok-plan.ensures) in
    subst (λ ps. InTurn IsPlan [] (entries (codes "file") (map (λ (table : Bor (BTreeMap (String Global) Value)). table_view table.now) (take (k + 1) ts))) (Ok ps))
    (sym (ap (map plan_view) grown ∙ map_last plan_view c.loop-k.plans.items c.in_ok-plan.plan)) turned

pub returns-in_err-plan : goal.returns-in_err-plan
returns-in_err-plan c =
    let ts = c.args.tables.now in
    let k = c.loop-k.k in
    let here = c.index-tables-k.result in
    let lt : k < length ts = grind (arith, common_steps) in
    let at : get_or ts k here ≡ here = grind (arith, common_steps) in
    let seen : c.deref.result.now ≡ c.loop-k.plans.items = grind (arith, common_steps) in
    let entry : Entry = record { path = c.as_str.result.now; members = table_view c.index-tables-k.result.now } in
    let named : c.as_str.result.now ≡ entry_path (codes "file") k = grind (arith, common_steps) in
    let from = err_from_is_err_and c.from_residual-in_err-plan.result c.from_residual-in_err-plan.ensures.1 in
    rw (from.1, from.2) (turn_stops (codes "file") (λ (table : Bor (BTreeMap (String Global) Value)). table_view table.now) IsPlan ts k here here c.as_str.result.now (map plan_view c.loop-k.plans.items) plan_view (λ (plans : Vec FilePlan Global). map plan_view plans.items) c.in_err-plan.field-0.0 lt at named c.loop-k.invariant
    (subst (λ (ps : List FilePlan). Answers plan_view (IsPlan (map plan_view ps) entry) (let r : Result FilePlan ControlError = Err c.in_err-plan.field-0.0 in r)) seen c.in_err-plan.ensures))

pub returns : goal.returns
returns c =
    let ts = c.args.tables.now in
    let all : take c.loop-k.k ts ≡ ts = all_taken ts c.loop-k.k (grind (arith, common_steps)) in
    subst (λ l. InTurn IsPlan [] (entries (codes "file") (map (λ (table : Bor (BTreeMap (String Global) Value)). table_view table.now) l)) (Ok (map plan_view c.loop-k.plans.items))) all c.loop-k.invariant
