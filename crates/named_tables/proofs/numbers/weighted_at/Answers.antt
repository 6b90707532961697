use Rattle.std.proofs.Common.{subst, arith}
use Rattle.std.proofs.lemmas.Int.{ints}
use Rattle.decimal_e.specs.Decimals.{product}
use Rattle.decimal_e.specs.Scales.{decimal_interval}
use Rattle.named_tables.specs.Parts.{IsKept}
use Rattle.named_tables.proofs.ColumnLaws.{small_kept}
use Rattle.named_tables.proofs.WeightLaws.{a_number}
use Rattle.named_tables.proofs.numbers.weighted_at.Goals as goal

pub returns-in-Some : goal.returns-in-Some
returns-in-Some c =
    a_number (product c.args.weight.now c.args.d.now) c.in-Some.number c.args.k c.shown_at.result c.in-Some.ensures
    (subst (λ k. IsKept (decimal_interval c.in-Some.number k) c.shown_at.result) (small_kept c.args.k (omega (arith, ints)) (omega (arith, ints))) c.shown_at.ensures)
