use Rattle.std.proofs.Common.{◌≡◌, ◌<◌, length, ◌∙◌, sym, arith}
use Rattle.sym_blocks.specs.Tables.{entry_at}
use Rattle.neq_stack.specs.Joining.{entry_by}
use Rattle.neq_stack.proofs.SumLaws.{fits_on_zero, both_on_zero}
use Rattle.neq_stack.proofs.joining.table_of_both.Goals as goal

pub add_table-requires-2 : goal.add_table-requires-2
add_table-requires-2 g c =
    let size : c.add_table.new.into.size ≡ length c.args.ones.now = c.add_table.ensures.size ∙ c.in_ok-table.ensures.size in (
      omega arith,
      (
        c.requires.lengths ∙ sym size,
        (
          c.requires.other,
          (
            c.add_table.ensures.whole,
            λ i j li h.
                let row : i < length c.args.ones.now = omega arith in
                let col : j < length c.args.ones.now = omega arith in
                fits_on_zero (entry_at c.in_ok-table.table i j) (entry_at c.add_table.new.into i j) (entry_by c.args.one.now c.args.ones.now i j) (entry_by c.args.other.now c.args.others.now i j) c.requires.fit.0 c.requires.fit.1
                (c.in_ok-table.ensures.entries i j row col) (c.add_table.ensures.added i j (omega (arith, c.in_ok-table.ensures.size)) h) (c.requires.fit.2 i j row col) (c.requires.fit.3 i j row col) c.requires.fit.4,
          ),
        ),
      ),
    )

pub returns-clause-sums : goal.returns-clause-sums
returns-clause-sums g c = λ i j row h.
    let size = c.in_ok-table.ensures.size in
    let more = c.add_table.ensures.size in
    let col : j < length c.args.ones.now = omega arith in
    both_on_zero (entry_at c.in_ok-table.table i j) (entry_at c.add_table.new.into i j) (entry_at c.add_table-2.new.into i j) (entry_by c.args.one.now c.args.ones.now i j) (entry_by c.args.other.now c.args.others.now i j)
    (c.in_ok-table.ensures.entries i j row col) (c.add_table.ensures.added i j (omega (arith, size)) h) (c.add_table-2.ensures.added i j (omega (arith, size, more)) h)
