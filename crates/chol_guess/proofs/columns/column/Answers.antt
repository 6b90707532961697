use Rattle.std.proofs.Common.{arith}
use Rattle.std.proofs.lemmas.Bool.{OnFalse_at, OnFalse_from}
use Rattle.whole_numbers.specs.Squares.{square_at}
use Rattle.whole_numbers.specs.Lists.{at}
use Rattle.chol_guess.proofs.Alone.{column_stops}
use Rattle.chol_guess.proofs.columns.column.Goals as goal

pub back_substitute-requires-clause-start : goal.back_substitute-requires-clause-start
back_substitute-requires-clause-start c = record {
  transposed = c.requires.transposed;
  len = omega arith;
  small = λ k within. c.if-forward_substitute.ensures.up.fits k (omega arith);
}

pub returns-then-forward_substitute-clause-none : goal.returns-then-forward_substitute-clause-none
returns-then-forward_substitute-clause-none c =
    OnFalse_from c.back_substitute.result _ (λ stopped y. column_stops c.args.f.now.size (square_at c.args.f.now) c.args.g c.args.c (at c.forward_substitute.new.u) y c.if-forward_substitute.ensures.up (OnFalse_at stopped c.back_substitute.ensures.none))
