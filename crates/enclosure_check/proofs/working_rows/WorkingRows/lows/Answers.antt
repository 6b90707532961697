use Rattle.std.proofs.Common.{◌∙◌, ◌+◌, ◌*◌, ◌^◌, ap, arith}
use Rattle.whole_numbers.specs.Lists.{at}
use Rattle.enclosure_check.proofs.working_rows.WorkingRows.lows.Goals as goal

pub returns-clause-ends : goal.returns-clause-ends
returns-clause-ends g c = λ k within.
    let s = c.args.self.now in
    let n = s.table.now.size in
    c.row.ensures.numbers k (omega (arith, s.low_size)) ∙ ap (λ m. at s.low.numbers (c.args.i * m + k)) s.low_size ∙ ap (λ w. w.lo) (s.entries c.args.i k c.requires within)

pub returns-clause-small : goal.returns-clause-small
returns-clause-small g c = c.row.ensures.small (2 ^ 61) c.args.self.now.low_ends
