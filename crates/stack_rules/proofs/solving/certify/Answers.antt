use Rattle.std.proofs.Common.{refl, arith}
use Rattle.std.proofs.lemmas.Result.{err_from_is_err_and}
use Rattle.whole_numbers.specs.Lists.{at}
use Rattle.equil.specs.Tables.{table_of, exponent_of}
use Rattle.bounds_report.specs.Printing.{decimal_at}
use Rattle.enclosures.specs.Radii.{radius_at}
use Rattle.enclosure_check.specs.Enclosures.{enclosure_of}
use Rattle.enclosure_check.specs.Steps.{Worked}
use Rattle.enclosure_check.proofs.StepCalls.{is_worked}
use Rattle.stack_rules.specs.Stacks.{Stack, stack_of}
use Rattle.stack_rules.proofs.Answering.{enclosure_refused, print_refused, answered, certified_by}
use Rattle.stack_rules.proofs.solving.certify.Goals as goal

pub returns-in_err-e-clause-refused : goal.returns-in_err-e-clause-refused
returns-in_err-e-clause-refused g c =
    let w = c.in_ok-w.w in
    let s : Stack = stack_of c.args.table.now c.args.right.now c.args.apriori.now c.args.scales.now in
    let x : Worked = record { table = w.a; right = w.d.items; exponents = w.e.items } in
    let is = is_worked s.rows s.table x c.in_ok-w.ensures.size c.in_ok-w.ensures.list (omega (arith, w.rows, w.d.ok.0)) (omega (arith, w.powers, w.e.ok.0)) w.entries_small w.right_small c.in_ok-w.ensures.working in
    let from = err_from_is_err_and c.from_residual-in_err-e.result c.from_residual-in_err-e.ensures.1 in
    rw (from.1, from.2) (enclosure_refused s x is c.in_err-e.field-0.0 c.in_err-e.ensures.refused)

pub returns-in_err-rows-clause-refused : goal.returns-in_err-rows-clause-refused
returns-in_err-rows-clause-refused g c =
    let w = c.in_ok-w.w in
    let s : Stack = stack_of c.args.table.now c.args.right.now c.args.apriori.now c.args.scales.now in
    let x : Worked = record { table = w.a; right = w.d.items; exponents = w.e.items } in
    let is = is_worked s.rows s.table x c.in_ok-w.ensures.size c.in_ok-w.ensures.list (omega (arith, w.rows, w.d.ok.0)) (omega (arith, w.powers, w.e.ok.0)) w.entries_small w.right_small c.in_ok-w.ensures.working in
    let from = err_from_is_err_and c.from_residual-in_err-rows.result c.from_residual-in_err-rows.ensures.1 in
    rw (from.1, from.2) (print_refused s x is (enclosure_of c.in_ok-e.e) c.in_ok-e.ensures.enclosed c.in_err-rows.field-0.0 c.in_err-rows.ensures.refused)

pub returns-clause-answer : goal.returns-clause-answer
returns-clause-answer g c =
    let w = c.in_ok-w.w in
    let s : Stack = stack_of c.args.table.now c.args.right.now c.args.apriori.now c.args.scales.now in
    let x : Worked = record { table = w.a; right = w.d.items; exponents = w.e.items } in
    let is = is_worked s.rows s.table x c.in_ok-w.ensures.size c.in_ok-w.ensures.list (omega (arith, w.rows, w.d.ok.0)) (omega (arith, w.powers, w.e.ok.0)) w.entries_small w.right_small c.in_ok-w.ensures.working in
    answered s x is (enclosure_of c.in_ok-e.e) c.in_ok-e.ensures.enclosed c.in_ok-rows.rows.items c.in_ok-rows.ensures.printed c.g.result c.g.ensures.value

pub returns-clause-certified : goal.returns-clause-certified
returns-clause-certified g c =
    let w = c.in_ok-w.w in
    let e = c.in_ok-e.e in
    certified_by c.args.table.now.size w.a.size (table_of c.args.table.now c.args.right.now) (table_of w.a w.d.items) (exponent_of w.e.items) (at c.args.scales.now) e.pilot (decimal_at c.args.apriori.now) e.y.items e.y.items (radius_at e.radius) c.in_ok-rows.rows.items
    c.in_ok-w.ensures.size refl c.in_ok-w.ensures.systems c.in_ok-e.ensures.encloses c.in_ok-rows.ensures.printed
