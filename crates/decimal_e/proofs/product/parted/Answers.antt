use Rattle.decimal_e.proofs.Factors.{Parts, parts_value, parts_end}
use Rattle.decimal_e.proofs.product.parted.Goals as goal

parts : (c : goal.After-matched-right) → Parts c.args.left c.args.right c.matched-left.result.0 c.matched-left.result.1 c.matched-left.result.2 c.matched-right.result.1 c.matched-right.result.0 c.matched-right.result.2
parts c = record {
  twos_left = c.matched-left.ensures.first;
  fives_right = c.matched-left.ensures.second;
  end = c.matched-left.ensures.end;
  twos_right = c.matched-right.ensures.first;
  fives_left = c.matched-right.ensures.second;
  end_again = c.matched-right.ensures.end;
}

pub returns-clause-value : goal.returns-clause-value
returns-clause-value c = parts_value _ _ _ _ _ _ _ _ (parts c)

pub returns-clause-end : goal.returns-clause-end
returns-clause-end c = parts_end _ _ _ _ _ _ _ _ (parts c) c.requires.left.1 c.requires.right.1
