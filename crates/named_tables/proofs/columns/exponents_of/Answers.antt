use Rattle.std.proofs.Common.{◌≡◌, ◌∙◌, ◌++◌, ◌∷◌, [], ap, arith}
use Rattle.std.proofs.lemmas.Int.{ints}
use Rattle.named_tables.proofs.ColumnLaws.{small_kept, exponent_more, scaled_more}
use Rattle.named_tables.proofs.columns.exponents_of.Goals as goal

pub loop-place-preserved : goal.loop-place-preserved
loop-place-preserved c =
    let same = small_kept c.scale_for.result (omega (arith, ints, c.scale_for.ensures.range)) (omega (arith, ints, c.scale_for.ensures.range)) in
    let pushed : c.push.new.self.items ≡ c.loop-place.exponents.items ++ c.scale_for.result ∷ [] = c.in_ok-push.ensures.items ∙ ap (λ t. c.loop-place.exponents.items ++ t ∷ []) same in
    record {
      values = exponent_more c.args.scales.now c.args.names.now c.loop-place.place c.at.result.now c.scale_for.result c.loop-place.exponents.items c.push.new.self.items c.at.ensures c.scale_for.ensures.value c.loop-place.invariant.values pushed;
      scaled = scaled_more c.scale_for.result c.loop-place.exponents.items c.push.new.self.items pushed c.scale_for.ensures.range c.loop-place.invariant.scaled;
    }
