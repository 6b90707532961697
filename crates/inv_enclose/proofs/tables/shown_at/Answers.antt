use Rattle.std.proofs.Common.{◌^◌, ◌≤◌, ◌∙◌, ap, sym, subst, arith, unsigned_abs}
use Rattle.std.proofs.Math.IntN.{◌-ℤ◌}
use Rattle.std.proofs.lemmas.Int.{ints}
use Rattle.equil.specs.Tables.{exponent_of}
use Rattle.inv_enclose.specs.Parts.{column_of}
use Rattle.inv_enclose.proofs.ColumnLaws.{number_small}
use Rattle.inv_enclose.proofs.PlaceLaws.{small_kept, number_is, radius_is, shown_is}
use Rattle.inv_enclose.proofs.tables.shown_at.Goals as goal

pub near_at-requires-clause-middle : goal.near_at-requires-clause-middle
near_at-requires-clause-middle c =
    let column = column_of c.args.column.now in
    let is = number_is _ column c.args.row c.index.result.now c.requires.bounds c.requires.row c.index.ensures in
    subst (λ z. unsigned_abs z ≤ 2 ^ 64) (sym is) (number_small _ column.vector c.args.row c.requires.bounds.small c.requires.row)

pub returns : goal.returns
returns c =
    let column = column_of c.args.column.now in
    let e = exponent_of c.args.exponents.now in
    let row = c.requires.range c.args.row c.requires.row in
    let col = c.requires.range c.args.col c.requires.col in
    let shift = small_kept c.args.shift (omega (arith, ints)) (omega (arith, ints)) in
    let power = c.pair_power-power.ensures ∙ ap (λ s. s -ℤ e c.args.row -ℤ e c.args.col) shift in
    let kept = small_kept c.pair_power-power.result (omega (arith, ints, power, row, col)) (omega (arith, ints, power, row, col)) in
    shown_is c.args.shift e column c.args.row c.args.col _ _ _ c.near_at.result
    (number_is _ column c.args.row c.index.result.now c.requires.bounds c.requires.row c.index.ensures)
    (radius_is _ column c.args.row c.index-2.result.now c.requires.bounds c.requires.row c.index-2.ensures)
    (kept ∙ power) c.near_at.ensures
