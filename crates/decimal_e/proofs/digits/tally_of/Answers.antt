use Rattle.decimal_e.proofs.Tallied.{none_tallied}
use Rattle.decimal_e.proofs.digits.tally_of.Goals as goal

pub returns : goal.returns
returns c = c.tally_more-2.ensures.tallies _ (c.tally_more.ensures.tallies _ none_tallied)
