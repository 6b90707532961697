use Rattle.whole_numbers.proofs.Powers.{ten_fits}
use Rattle.whole_numbers.proofs.scaling.ten_to.Goals as goal

pub pow-requires : goal.pow-requires
pow-requires c = ten_fits c.args.k c.requires
