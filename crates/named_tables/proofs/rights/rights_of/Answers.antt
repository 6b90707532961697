use Rattle.std.proofs.Common.{subst, arith}
use Rattle.std.proofs.lemmas.Int.{ints}
use Rattle.decimal_e.specs.Decimals.{product}
use Rattle.named_tables.specs.Parts.{StandsFor}
use Rattle.named_tables.proofs.ColumnLaws.{small_kept}
use Rattle.named_tables.proofs.CellLaws.{right_more}
use Rattle.named_tables.proofs.rights.rights_of.Goals as goal

pub loop-place-preserved : goal.loop-place-preserved
loop-place-preserved c = record {
  len = omega (arith, c.in_ok-push.ensures.len, c.push.new.self.ok.0, c.loop-place.right.ok.0, c.loop-place.invariant.len);
  shown = right_more c.args.weight.now c.args.rows.now c.args.exponents.now c.loop-place.place c.index-rows-place.result c.value_or_zero-value.result c.row_scale.result c.weighted_at.result c.loop-place.right.items c.push.new.self.items
      c.loop-place.invariant.len (omega arith) c.index-rows-place.is c.value_or_zero-value.ensures c.row_scale.ensures.value (subst (λ k. StandsFor (product c.args.weight.now c.value_or_zero-value.result) k c.weighted_at.result) (small_kept c.row_scale.result (omega (arith, ints)) (omega (arith, ints))) c.weighted_at.ensures) c.in_ok-push.ensures.items c.loop-place.invariant.shown;
}
