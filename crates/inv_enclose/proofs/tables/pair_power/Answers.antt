use Rattle.inv_enclose.proofs.PlaceLaws.{power_kept}
use Rattle.equil.specs.Tables.{exponent_of}
use Rattle.inv_enclose.proofs.tables.pair_power.Goals as goal

pub returns : goal.returns
returns c =
    let row = c.requires.range c.args.row c.requires.row in
    let col = c.requires.range c.args.col c.requires.col in
    power_kept c.args.shift (exponent_of c.args.exponents.now c.args.row) (exponent_of c.args.exponents.now c.args.col) c.requires.low c.requires.high row.least row.most col.least col.most
