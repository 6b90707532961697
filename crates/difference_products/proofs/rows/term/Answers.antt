use Rattle.std.proofs.Common.{arith, ◌≤◌, ◌^◌}
use Rattle.std.proofs.lemmas.List.{get_or_read}
use Rattle.whole_numbers.specs.Intervals.{size}
use Rattle.sym_blocks.specs.Tables.{zero_interval}
use Rattle.difference_products.proofs.SumLaws.{term_fits, term_bound}
use Rattle.difference_products.proofs.rows.term.Goals as goal

pub interval_product-requires : goal.interval_product-requires
interval_product-requires g c =
    let q = c.requires in
    let small : size c.get.result ≤ 2 ^ 61 = rw c.get.ensures (c.args.w.now.entries_small c.args.i c.args.j q.row q.column) in
    let read = get_or_read c.args.zs.now c.args.j c.index-zs-j.result (omega (arith, q.small.len)) c.index-zs-j.is zero_interval in
    term_fits c.args.w.now.a.size c.args.j c.args.zs.now c.get.result c.index-zs-j.result q.small q.column small read

pub returns-clause-bound : goal.returns-clause-bound
returns-clause-bound g c =
    let q = c.requires in
    let small : size c.get.result ≤ 2 ^ 61 = rw c.get.ensures (c.args.w.now.entries_small c.args.i c.args.j q.row q.column) in
    let read = get_or_read c.args.zs.now c.args.j c.index-zs-j.result (omega (arith, q.small.len)) c.index-zs-j.is zero_interval in
    rw read at (term_bound c.interval_product.result c.get.result c.index-zs-j.result small c.interval_product.ensures.bound)
