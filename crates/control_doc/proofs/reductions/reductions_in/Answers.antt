use Rattle.std.proofs.Common.{◌≡◌, ◌++◌, ◌∷◌, ◌+◌, ◌∙◌, ◌<◌, map, take, length, get_or, List, [], Result, Ok, Err, codes, Bor, BTreeMap, String, Vec, Global, arith, sym, ap, subst}
use Rattle.std.proofs.lemmas.Grind.{common_steps}
use Rattle.std.proofs.lemmas.Result.{err_from_is_err_and}
use Rattle.stated_order.specs.Steps.{InTurn}
use Rattle.toml.specs.View.{table_view}
use Rattle.toml.specs.declared.value.Value.{Value}
use Rattle.control_doc.specs.Control.{Is, reduction_in}
use Rattle.control_doc.specs.Faults.{PlainFault, entry_path}
use Rattle.control_doc.specs.Plain.{PlainReduction}
use Rattle.control_doc.specs.Tables.{Entry, entries}
use Rattle.control_doc.specs.Views.{Answers, reduction_view}
use Rattle.control_doc.specs.declared.faults.ControlError.{ControlError}
use Rattle.control_doc.specs.declared.plans.Reduction.{Reduction}
use Rattle.control_doc.proofs.Turns.{turn_more, turn_stops, all_taken, map_last}
use Rattle.control_doc.proofs.reductions.reductions_in.Goals as goal

abbrev Step : List PlainReduction → Entry → Result PlainReduction PlainFault → Type 0
Step before entry = Is (reduction_in before entry)

pub loop-k-preserved : goal.loop-k-preserved
loop-k-preserved c =
    let ts = c.args.tables.now in
    let k = c.loop-k.k in
    let here = c.index-tables-k.result in
    let lt : k < length ts = grind (arith, common_steps) in
    let at : get_or ts k here ≡ here = grind (arith, common_steps) in
    let seen : c.deref.result.now ≡ c.loop-k.reductions.items = grind (arith, common_steps) in
    let entry : Entry = record { path = c.as_str.result.now; members = table_view c.index-tables-k.result.now } in
    let named : c.as_str.result.now ≡ entry_path (codes "reduce") k = grind (arith, common_steps) in
    let grown : c.push.new.self.items ≡ c.loop-k.reductions.items ++ (c.in_ok-reduction.reduction ∷ []) = c.in_ok-push.ensures.items in
    let turned = turn_more (codes "reduce") (λ (table : Bor (BTreeMap (String Global) Value)). table_view table.now) Step ts k here here c.as_str.result.now (map reduction_view c.loop-k.reductions.items) (reduction_view c.in_ok-reduction.reduction) lt at named c.loop-k.invariant
    (subst (λ (ps : List Reduction). Step (map reduction_view ps) entry (Ok (reduction_view c.in_ok-reduction.reduction))) seen c.in_ok-reduction.ensures) in
    subst (λ ps. InTurn Step [] (entries (codes "reduce") (map (λ (table : Bor (BTreeMap (String Global) Value)). table_view table.now) (take (k + 1) ts))) (Ok ps))
    (sym (ap (map reduction_view) grown ∙ map_last reduction_view c.loop-k.reductions.items c.in_ok-reduction.reduction)) turned

pub returns-in_err-reduction : goal.returns-in_err-reduction
returns-in_err-reduction c =
    let ts = c.args.tables.now in
    let k = c.loop-k.k in
    let here = c.index-tables-k.result in
    let lt : k < length ts = grind (arith, common_steps) in
    let at : get_or ts k here ≡ here = grind (arith, common_steps) in
    let seen : c.deref.result.now ≡ c.loop-k.reductions.items = grind (arith, common_steps) in
    let entry : Entry = record { path = c.as_str.result.now; members = table_view c.index-tables-k.result.now } in
    let named : c.as_str.result.now ≡ entry_path (codes "reduce") k = grind (arith, common_steps) in
    let from = err_from_is_err_and c.from_residual-in_err-reduction.result c.from_residual-in_err-reduction.ensures.1 in
    rw (from.1, from.2) (turn_stops (codes "reduce") (λ (table : Bor (BTreeMap (String Global) Value)). table_view table.now) Step ts k here here c.as_str.result.now (map reduction_view c.loop-k.reductions.items) reduction_view (λ (reductions : Vec Reduction Global). map reduction_view reductions.items) c.in_err-reduction.field-0.0 lt at named c.loop-k.invariant
    (subst (λ (ps : List Reduction). Answers reduction_view (Step (map reduction_view ps) entry) (let r : Result Reduction ControlError = Err c.in_err-reduction.field-0.0 in r)) seen c.in_err-reduction.ensures))

pub returns : goal.returns
returns c =
    let ts = c.args.tables.now in
    let all : take c.loop-k.k ts ≡ ts = all_taken ts c.loop-k.k (grind (arith, common_steps)) in
    subst (λ l. InTurn Step [] (entries (codes "reduce") (map (λ (table : Bor (BTreeMap (String Global) Value)). table_view table.now) l)) (Ok (map reduction_view c.loop-k.reductions.items))) all c.loop-k.invariant
