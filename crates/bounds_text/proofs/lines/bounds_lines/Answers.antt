use Rattle.bounds_text.proofs.Texts.{one_more}
use Rattle.bounds_text.proofs.lines.bounds_lines.Goals as goal

pub loop-k-preserved : goal.loop-k-preserved
loop-k-preserved c =
    let names = c.args.names.now in
    let units = c.args.units.now in
    let numbers = c.args.numbers.now in
    rw (c.in_ok-extend_from_slice.ensures.items, c.deref.ensures.value)
    (one_more c.loop-k.text.items c.in_ok-line.line.items c.loop-k.k names units numbers c.at.result.now c.unit_of-unit.result.now c.printed_of-printed.result.now _ c.at.ensures c.unit_of-unit.ensures
    c.printed_of-printed.ensures c.in_ok-line.ensures c.loop-k.invariant)
