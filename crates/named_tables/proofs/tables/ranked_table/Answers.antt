use Rattle.std.proofs.Common.{◌≡◌, ◌∙◌, length, drop, subst, arith}
use Rattle.std.proofs.lemmas.Int.{ints}
use Rattle.decimal_e.specs.Decimals.{product}
use Rattle.named_tables.specs.Parts.{StandsFor, ShowsEntries}
use Rattle.named_tables.proofs.ColumnLaws.{small_kept}
use Rattle.named_tables.proofs.CellLaws.{none_shown, one_shown}
use Rattle.named_tables.proofs.tables.ranked_table.Goals as goal

pub loop-place-init : goal.loop-place-init
loop-place-init g c = record {
  size = c.in_ok-table.ensures.size;
  whole = c.in_ok-table.ensures.whole;
  shown = none_shown c.args.content c.args.weight.now c.args.cells.now c.args.ranks.now c.args.exponents.now (length c.args.cells.now) c.in_ok-table.table (omega arith)
      (λ i j li lj. c.in_ok-table.ensures.entries i j (omega (arith, c.in_ok-table.ensures.size)) (omega (arith, c.in_ok-table.ensures.size)));
}

pub loop-place-preserved : goal.loop-place-preserved
loop-place-preserved g c = record {
  size = c.set.ensures.size ∙ c.loop-place.invariant.size;
  whole = c.set.ensures.whole;
  shown = one_shown c.args.content c.args.weight.now c.args.cells.now c.args.ranks.now c.args.exponents.now c.loop-place.place c.index-cells-place.result c.rank_at-row.result c.rank_at-col.result c.pair_scale.result c.weighted_at-interval.result c.loop-place.table c.set.new.self
      (omega arith) c.loop-place.auto.place c.index-cells-place.is c.rank_at-row.ensures c.rank_at-col.ensures c.pair_scale.ensures.value (subst (λ k. StandsFor (product c.args.weight.now c.index-cells-place.result.value) k c.weighted_at-interval.result) (small_kept c.pair_scale.result (omega (arith, ints)) (omega (arith, ints))) c.weighted_at-interval.ensures) c.loop-place.invariant.shown c.set.ensures.here
      (λ i j li lj. c.set.ensures.others i j (omega (arith, c.loop-place.invariant.size)) (omega (arith, c.loop-place.invariant.size)));
}

pub returns-clause-shown : goal.returns-clause-shown
returns-clause-shown g c =
    let done : c.loop-place.place ≡ 0 = omega arith in
    subst (λ k. ShowsEntries c.args.content c.args.weight.now (drop k c.args.cells.now) c.args.ranks.now c.args.exponents.now c.loop-place.table) done c.loop-place.invariant.shown
