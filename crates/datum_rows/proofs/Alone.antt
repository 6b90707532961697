-- A datum is added in one way or has one first fault.
use Rattle.std.proofs.Common.{◌≡◌, ◌∙◌, ℕ, pos, ◌*ℤ◌, List, [], ◌∷◌, Ok, Err, length, sym, ap}
use Rattle.std.proofs.Math.IntN.{◌-ℤ◌}
use Rattle.stated_order.specs.Steps.{IsOne, Through}
use Rattle.stated_order.proofs.FirstLaws.{first_lower_failure_fails, first_lower_failure_is_one}
use Rattle.stated_order.proofs.StepLaws.{then_is_one}
use Rattle.whole_numbers.specs.Intervals.{interval_add}
use Rattle.whole_numbers.specs.Lists.{at}
use Rattle.sym_blocks.specs.Tables.{before, entry_at}
use Rattle.sym_blocks.proofs.EqualTables.{equal_symmetric}
use Rattle.inverse_squares.proofs.Alone.{one_over_square}
use Rattle.control_doc.specs.declared.plans.Site.{Site}
use Rattle.neq_stack.specs.Neqs.{PlainNeq}
use Rattle.datum_rows.specs.Conditions.{Condition, conditions, reach}
use Rattle.datum_rows.specs.Additions.{Unmatched, Range, matched, coefficient_at, IsRowInterval, RowFits, IsWithRow, AddsRow, OneAddition}

-- one interval of a condition at a pair
pub one_row_interval : (sites : List Site) (neq : PlainNeq) (condition : Condition) (i j : ℕ) → IsOne (IsRowInterval sites neq condition i j)
one_row_interval sites neq condition i j =
    one_over_square (coefficient_at sites neq condition i *ℤ coefficient_at sites neq condition j) condition.sigma (pos 18 -ℤ pos (reach condition.motion) -ℤ at neq.scales i -ℤ at neq.scales j)

-- one set of normal equations with a condition
pub one_with_row : (sites : List Site) (neq : PlainNeq) (condition : Condition) → neq.table.size ≡ length neq.names → IsOne (IsWithRow sites neq condition)
one_with_row sites neq condition rows a b one other =
    let n = length neq.names in
    let first : a.table.size ≡ n = one.rows ∙ rows in
    let second : b.table.size ≡ n = other.rows ∙ rows in
    let table : a.table ≡ b.table = equal_symmetric n a.table b.table first second (one.whole ∙ ap before first) (other.whole ∙ ap before second) (λ i j li lj.
    let here = one.entries i j li lj in
    let there = other.entries i j li lj in
    here.2 ∙ ap (interval_add (entry_at neq.table i j)) (one_row_interval sites neq condition i j here.0 there.0 here.1 there.1) ∙ sym there.2) in
    let names : a.names ≡ b.names = one.names ∙ sym other.names in
    let right : a.right ≡ b.right = one.right ∙ sym other.right in
    let apriori : a.apriori ≡ b.apriori = one.apriori ∙ sym other.apriori in
    let units : a.units ≡ b.units = one.units ∙ sym other.units in
    let scales : a.scales ≡ b.scales = one.scales ∙ sym other.scales in
    λ i. record { names = names i; table = table i; right = right i; apriori = apriori i; units = units i; scales = scales i }

-- one result of a condition
pub one_adds : (sites : List Site) (neq : PlainNeq) (condition : Condition) → neq.table.size ≡ length neq.names → IsOne (AddsRow sites neq condition)
one_adds sites neq condition rows (Ok a) (Ok b) one other = ap (λ x. Ok x) (one_with_row sites neq condition rows a b one.1 other.1)
one_adds sites neq condition rows (Ok a) (Err (Unmatched site)) one other = absurd other
one_adds sites neq condition rows (Ok a) (Err (Range row col)) one other = absurd (first_lower_failure_fails (length neq.names) (RowFits sites neq condition) row col one.0 other)
one_adds sites neq condition rows (Err (Unmatched site)) b one other = absurd one
one_adds sites neq condition rows (Err (Range row col)) (Ok b) one other = absurd (first_lower_failure_fails (length neq.names) (RowFits sites neq condition) row col other.0 one)
one_adds sites neq condition rows (Err (Range row col)) (Err (Unmatched site)) one other = absurd other
one_adds sites neq condition rows (Err (Range row col)) (Err (Range k l)) one other =
    let same = first_lower_failure_is_one (length neq.names) (RowFits sites neq condition) row col k l one other in
    ap (λ x. Err (Range x col)) same.0 ∙ ap (λ x. Err (Range k x)) same.1

one_through : (sites : List Site) (neq : PlainNeq) (list : List Condition) → neq.table.size ≡ length neq.names → IsOne (Through (AddsRow sites) neq list)
one_through sites neq [] rows = λ r s a b. a ∙ sym b
one_through sites neq (c ∷ rest) rows =
    then_is_one (AddsRow sites neq c) (λ after. Through (AddsRow sites) after rest) (one_adds sites neq c rows) (λ after given. one_through sites after rest (given.1.rows ∙ rows ∙ ap length (sym given.1.names)))

pub one_addition : OneAddition
one_addition datum neq rows =
    then_is_one (λ r. r ≡ matched datum.sites neq.names) (λ all_matched. Through (AddsRow datum.sites) neq (conditions datum)) (λ r s a b. a ∙ sym b) (λ all_matched given. one_through datum.sites neq (conditions datum) rows)
