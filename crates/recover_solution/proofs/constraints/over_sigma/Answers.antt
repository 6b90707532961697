use Rattle.std.proofs.Common.{pos, subst, arith}
use Rattle.std.proofs.lemmas.Int.{ints}
use Rattle.inverse_squares.specs.Quotients.{IsOverSquare}
use Rattle.named_tables.proofs.ColumnLaws.{small_kept}
use Rattle.recover_solution.proofs.SigmaLaws.{past_over, sigma_refused}
use Rattle.recover_solution.proofs.constraints.over_sigma.Goals as goal

pub returns-in_default-clause-none : goal.returns-in_default-clause-none
returns-in_default-clause-none c =
    let none = c.in_default.ensures in
    let same = small_kept c.args.k (omega (arith, ints)) (omega (arith, ints)) in
    past_over c.args.weight.now c.args.dev.now c.args.k none.0 (subst (λ k. IsOverSquare (pos 1) c.args.dev.now k none.0) same none.1) c.requires.weight none.2

pub returns-clause-none : goal.returns-clause-none
returns-clause-none c =
    let over = c.in-Some.ensures in
    let same = small_kept c.args.k (omega (arith, ints)) (omega (arith, ints)) in
    sigma_refused c.args.weight.now c.args.dev.now c.args.k over.0 (subst (λ k. IsOverSquare (pos 1) c.args.dev.now k over.0) same over.1) c.in-Some.interval c.weighted.result over.2.1 c.weighted.ensures
