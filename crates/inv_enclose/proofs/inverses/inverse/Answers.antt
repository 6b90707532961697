use Rattle.std.proofs.Common.{inr, replicate, subst, arith}
use Rattle.std.proofs.lemmas.Int.{ints}
use Rattle.std.proofs.lemmas.Result.{err_from_is_err_and}
use Rattle.sym_blocks.specs.Tables.{zero_interval}
use Rattle.equil.specs.Tables.{table_of, exponent_of}
use Rattle.enclosure_check.specs.Steps.{Worked, IsWorkedOf}
use Rattle.inv_enclose.specs.Parts.{IsShownInverse}
use Rattle.inv_enclose.proofs.InverseLaws.{each_modest, worked_of, pilot_refuses, column_refuses, past_refuses, inverted, holds, have}
use Rattle.inv_enclose.proofs.PlaceLaws.{small_kept}
use Rattle.inv_enclose.proofs.inverses.inverse.Goals as goal

pub returns-in_err-pilot-clause-refused : goal.returns-in_err-pilot-clause-refused
returns-in_err-pilot-clause-refused g c =
    let table = c.args.table.now in
    let w = c.in_ok-w.w in
    let x : Worked = record { table = w.a; right = w.d.items; exponents = w.e.items } in
    let is : IsWorkedOf table.size (table_of table (replicate table.size zero_interval)) x = worked_of table x c.size.result c.in_ok-zeros.zeros.items c.deref.result.now c.size.ensures.value c.in_ok-zeros.ensures c.deref.ensures.value c.in_ok-w.ensures.size c.in_ok-w.ensures.list (omega (arith, w.rows, w.d.ok.0)) (omega (arith, w.powers, w.e.ok.0)) w.entries_small w.right_small c.in_ok-w.ensures.working in
    let from = err_from_is_err_and c.from_residual-in_err-pilot.result c.from_residual-in_err-pilot.ensures.1 in
    rw (from.1, from.2) (pilot_refuses table c.args.kappa x is c.in_err-pilot.field-0.0 c.in_err-pilot.ensures.refused)

pub returns-in_err-shown-clause-refused : goal.returns-in_err-shown-clause-refused
returns-in_err-shown-clause-refused g c =
    let table = c.args.table.now in
    let w = c.in_ok-w.w in
    let p = c.in_ok-pilot.pilot in
    let x : Worked = record { table = w.a; right = w.d.items; exponents = w.e.items } in
    let is : IsWorkedOf table.size (table_of table (replicate table.size zero_interval)) x = worked_of table x c.size.result c.in_ok-zeros.zeros.items c.deref.result.now c.size.ensures.value c.in_ok-zeros.ensures c.deref.ensures.value c.in_ok-w.ensures.size c.in_ok-w.ensures.list (omega (arith, w.rows, w.d.ok.0)) (omega (arith, w.powers, w.e.ok.0)) w.entries_small w.right_small c.in_ok-w.ensures.working in
    let from = err_from_is_err_and c.from_residual-in_err-shown.result c.from_residual-in_err-shown.ensures.1 in
    rw (from.1, from.2) (column_refuses table c.args.kappa x is p c.in_ok-pilot.ensures.value c.in_ok-pilot.ensures.square c.in_err-shown.field-0.0 c.in_err-shown.ensures.refused)

pub returns-in-Some-clause-refused : goal.returns-in-Some-clause-refused
returns-in-Some-clause-refused g c =
    let table = c.args.table.now in
    let w = c.in_ok-w.w in
    let p = c.in_ok-pilot.pilot in
    let x : Worked = record { table = w.a; right = w.d.items; exponents = w.e.items } in
    let is : IsWorkedOf table.size (table_of table (replicate table.size zero_interval)) x = worked_of table x c.size.result c.in_ok-zeros.zeros.items c.deref.result.now c.size.ensures.value c.in_ok-zeros.ensures c.deref.ensures.value c.in_ok-w.ensures.size c.in_ok-w.ensures.list (omega (arith, w.rows, w.d.ok.0)) (omega (arith, w.powers, w.e.ok.0)) w.entries_small w.right_small c.in_ok-w.ensures.working in
    let kappa = small_kept c.args.kappa (omega (arith, ints)) (omega (arith, ints)) in
    let shown = subst (λ k. IsShownInverse w.a.size k w.a (exponent_of w.e.items) p c.in_ok-shown.shown) kappa c.in_ok-shown.ensures.shown in
    inr (past_refuses table c.args.kappa x is p c.in_ok-pilot.ensures.value c.in_ok-pilot.ensures.square c.in_ok-shown.shown shown c.in-Some.row c.in-Some.col c.in_ok-shown.ensures.size c.in-Some.ensures)

pub returns-clause-inverse : goal.returns-clause-inverse
returns-clause-inverse g c =
    let table = c.args.table.now in
    let w = c.in_ok-w.w in
    let p = c.in_ok-pilot.pilot in
    let x : Worked = record { table = w.a; right = w.d.items; exponents = w.e.items } in
    let is : IsWorkedOf table.size (table_of table (replicate table.size zero_interval)) x = worked_of table x c.size.result c.in_ok-zeros.zeros.items c.deref.result.now c.size.ensures.value c.in_ok-zeros.ensures c.deref.ensures.value c.in_ok-w.ensures.size c.in_ok-w.ensures.list (omega (arith, w.rows, w.d.ok.0)) (omega (arith, w.powers, w.e.ok.0)) w.entries_small w.right_small c.in_ok-w.ensures.working in
    let kappa = small_kept c.args.kappa (omega (arith, ints)) (omega (arith, ints)) in
    let shown = subst (λ k. IsShownInverse w.a.size k w.a (exponent_of w.e.items) p c.in_ok-shown.shown) kappa c.in_ok-shown.ensures.shown in
    inverted table c.args.kappa x is p c.in_ok-pilot.ensures.value c.in_ok-pilot.ensures.square c.in_ok-shown.shown shown c.in_ok-shown.ensures.size c.in_ok-shown.ensures.whole c.in-None.ensures

pub returns-clause-holds : goal.returns-clause-holds
returns-clause-holds g c =
    let table = c.args.table.now in
    let w = c.in_ok-w.w in
    let p = c.in_ok-pilot.pilot in
    let x : Worked = record { table = w.a; right = w.d.items; exponents = w.e.items } in
    let is : IsWorkedOf table.size (table_of table (replicate table.size zero_interval)) x = worked_of table x c.size.result c.in_ok-zeros.zeros.items c.deref.result.now c.size.ensures.value c.in_ok-zeros.ensures c.deref.ensures.value c.in_ok-w.ensures.size c.in_ok-w.ensures.list (omega (arith, w.rows, w.d.ok.0)) (omega (arith, w.powers, w.e.ok.0)) w.entries_small w.right_small c.in_ok-w.ensures.working in
    let kappa = small_kept c.args.kappa (omega (arith, ints)) (omega (arith, ints)) in
    let shown = subst (λ k. IsShownInverse w.a.size k w.a (exponent_of w.e.items) p c.in_ok-shown.shown) kappa c.in_ok-shown.ensures.shown in
    holds table c.args.kappa x is p c.in_ok-pilot.ensures.value c.in_ok-pilot.ensures.square c.in_ok-shown.shown shown c.in_ok-shown.ensures.size c.in_ok-shown.ensures.whole c.in-None.ensures

pub returns-clause-exists : goal.returns-clause-exists
returns-clause-exists g c =
    let table = c.args.table.now in
    let w = c.in_ok-w.w in
    let p = c.in_ok-pilot.pilot in
    let x : Worked = record { table = w.a; right = w.d.items; exponents = w.e.items } in
    let is : IsWorkedOf table.size (table_of table (replicate table.size zero_interval)) x = worked_of table x c.size.result c.in_ok-zeros.zeros.items c.deref.result.now c.size.ensures.value c.in_ok-zeros.ensures c.deref.ensures.value c.in_ok-w.ensures.size c.in_ok-w.ensures.list (omega (arith, w.rows, w.d.ok.0)) (omega (arith, w.powers, w.e.ok.0)) w.entries_small w.right_small c.in_ok-w.ensures.working in
    let kappa = small_kept c.args.kappa (omega (arith, ints)) (omega (arith, ints)) in
    let shown = subst (λ k. IsShownInverse w.a.size k w.a (exponent_of w.e.items) p c.in_ok-shown.shown) kappa c.in_ok-shown.ensures.shown in
    have table c.args.kappa x is p c.in_ok-pilot.ensures.value c.in_ok-pilot.ensures.square c.in_ok-shown.shown shown c.in_ok-shown.ensures.size c.in_ok-shown.ensures.whole c.in-None.ensures

pub returns-clause-modest : goal.returns-clause-modest
returns-clause-modest g c = each_modest c.in_ok-shown.shown c.in-None.ensures
