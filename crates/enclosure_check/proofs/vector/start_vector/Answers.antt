use Rattle.std.proofs.Common.{◌∙◌, arith, ap, replicate, pos}
use Rattle.std.proofs.lemmas.Result.{err_from_is_err_and}
use Rattle.equil.specs.Tables.{table_of}
use Rattle.enclosure_check.proofs.VectorLaws.{zeros_after, refined_after, start_after, refused_after}
use Rattle.enclosure_check.proofs.vector.start_vector.Goals as goal

pub loop-k-init : goal.loop-k-init
loop-k-init g c =
    let a = c.args.rows.now.table.now in
    zeros_after a.size (table_of a c.args.d.now) c.args.p.now c.in_ok-y.y.items (c.in_ok-y.ensures ∙ ap (λ n. replicate n (pos 0)) c.size.ensures.value)

pub loop-k-preserved : goal.loop-k-preserved
loop-k-preserved g c =
    let a = c.args.rows.now.table.now in
    let turned = rw c.deref.ensures.value at c.in_ok-y-2.ensures in
    refined_after a.size (table_of a c.args.d.now) c.args.p.now c.loop-k.k c.loop-k.y.items c.in_ok-y-2.y.items c.loop-k.invariant turned

pub returns-in_err-y-2-clause-refused : goal.returns-in_err-y-2-clause-refused
returns-in_err-y-2-clause-refused g c =
    let a = c.args.rows.now.table.now in
    let refused = rw c.deref.ensures.value at c.in_err-y-2.ensures in
    let same = err_from_is_err_and c.from_residual-in_err-y-2.result c.from_residual-in_err-y-2.ensures.1 in
    rw (same.1, same.2)
    (refused_after a.size (table_of a c.args.d.now) c.args.p.now c.loop-k.k c.loop-k.y.items (omega arith) c.loop-k.invariant c.in_err-y-2.field-0.0 refused)

pub returns-clause-vector : goal.returns-clause-vector
returns-clause-vector g c =
    let a = c.args.rows.now.table.now in
    start_after a.size (table_of a c.args.d.now) c.args.p.now c.loop-k.k c.loop-k.y.items (omega arith) c.loop-k.invariant
