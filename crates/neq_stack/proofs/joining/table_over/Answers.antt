use Rattle.std.proofs.Common.{◌∙◌, sym, arith}
use Rattle.neq_stack.specs.Neqs.{neq_view}
use Rattle.neq_stack.proofs.PlaceLaws.{length_by, within_by, entry_small_by}
use Rattle.neq_stack.proofs.joining.table_over.Goals as goal

pub table_of_both-requires : goal.table_of_both-requires
table_of_both-requires g c =
    let names = c.args.layout.now.names in
    let one = neq_view c.args.one.now in
    let other = neq_view c.args.other.now in
    let ones = c.deref.result.now in
    let others = c.deref-2.result.now in
    let first = c.deref.ensures.value ∙ c.requires.laid.first in
    let second = c.deref-2.ensures.value ∙ c.requires.laid.second in
    let rows = length_by one names ones first in
    let fit = c.requires.fit in (
      omega arith,
      (
        omega (arith, rows, c.requires.laid.few),
        (
          length_by other names others second ∙ sym rows,
          (
            within_by one names ones first c.args.one.now.table.size c.requires.one,
            (within_by other names others second c.args.other.now.table.size c.requires.other, (fit.0, fit.1, entry_small_by one names ones first fit.0 fit.2, λ i j li lj. entry_small_by other names others second fit.1 fit.3 i j (omega (arith, rows, length_by other names others second)) (omega (arith, rows, length_by other names others second)), fit.4)),
          ),
        ),
      ),
    )
