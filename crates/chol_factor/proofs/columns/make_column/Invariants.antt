use Rattle.std.proofs.Common.{◌≡◌, ◌+◌, ◌^◌}
use Rattle.whole_numbers.specs.Lists.{AllAtMost}
use Rattle.whole_numbers.specs.Squares.{square_at}
use Rattle.chol_factor.specs.Factor.{IsColumn}
use Rattle.chol_factor.specs.Making.{AgreeBefore, IsWaiting}
use Rattle.chol_factor.proofs.ColumnLaws.{IsRest}
use Rattle.chol_factor.proofs.columns.make_column.Given as goal

abbrev pub invariant-loop-i : goal.invariant-loop-i
invariant-loop-i l = record {
  same : l.f.size ≡ l.fn.f.size;
  small : AllAtMost (2 ^ 61) l.f.numbers;
  kept : AgreeBefore l.fn.f.size (square_at l.fn.f) (square_at l.f) l.j;
  waiting : IsWaiting l.fn.f.size (square_at l.fn.f) (square_at l.f) (l.j + 1);
  rest : IsRest l.fn.f.size (square_at l.fn.f) (square_at l.f) l.j l.i;
  root : square_at l.f l.j l.j ≡ l.root;
  made : IsColumn l.i (square_at l.fn.f) (square_at l.f) l.j;
}
