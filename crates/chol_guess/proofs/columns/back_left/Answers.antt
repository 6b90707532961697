use Rattle.std.proofs.Common.{◌+◌, ◌-◌, ◌∙◌, arith}
use Rattle.std.proofs.lemmas.Int.{ints}
use Rattle.whole_numbers.specs.Squares.{square_at}
use Rattle.chol_guess.proofs.Steps.{later_is}
use Rattle.chol_guess.proofs.columns.back_left.Goals as goal

pub returns : goal.returns
returns c =
    let n = c.size-n.result in
    let i = c.args.i in
    let t = c.requires.start.transposed in
    let row = c.requires.after.row in
    let sum = later_is c.args.f.now.size i (square_at c.args.f.now) c.row.result.now c.args.x.now c.fixed_products.result (i + 1) (n - (i + 1)) (c.row.ensures.len ∙ t.size) (λ k l. c.row.ensures.numbers k (omega (arith, t.size)) ∙ t.turned i k row l) row (omega arith) (omega arith) c.fixed_products.ensures.value in
    let small = c.requires.start.small i (omega arith) in
    omega (arith, ints, sum, small)
