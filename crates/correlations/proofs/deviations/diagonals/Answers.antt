use Rattle.std.proofs.Common.{◌<◌, ◌-◌, ◌∙◌, set, sym, ap, subst, arith}
use Rattle.std.proofs.lemmas.List.{length-set}
use Rattle.correlations.specs.Parts.{IsTyped}
use Rattle.snx_matrices.specs.declared.elements.Cell.{Cell}
use Rattle.correlations.proofs.DiagonalLaws.{off_diagonal, on_diagonal, typed_more}
use Rattle.correlations.proofs.deviations.diagonals.Goals as goal

pub loop-place-preserved-then-cell : goal.loop-place-preserved-then-cell
loop-place-preserved-then-cell c =
    let cell = c.index-cells-place.result in
    record {
      len = length-set c.loop-place.given.items cell.row c.value_of-value.result ∙ c.loop-place.invariant.len;
      values = on_diagonal c.args.cells.now c.loop-place.place cell c.loop-place.given.items (set c.loop-place.given.items cell.row c.value_of-value.result) c.args.count (omega (arith, c.loop-place-test.true)) c.loop-place.auto.place c.index-cells-place.is c.if-cell.true c.loop-place.invariant.len (subst (λ (x : Cell). x.row < c.args.count) (sym c.index-cells-place.is) (c.requires (c.loop-place.place - 1) cell (omega (arith, c.loop-place-test.true, c.loop-place.auto.place)))) (ap (set c.loop-place.given.items cell.row) c.value_of-value.ensures.value) c.loop-place.invariant.values;
      typed = typed_more c.args.cells.now c.loop-place.place cell (omega (arith, c.loop-place-test.true)) c.index-cells-place.is (subst IsTyped c.value_of-value.ensures.value c.value_of-value.ensures.typed) c.loop-place.invariant.typed;
    }

pub loop-place-preserved : goal.loop-place-preserved
loop-place-preserved c =
    let cell = c.index-cells-place.result in
    record {
      len = c.loop-place.invariant.len;
      values = off_diagonal c.args.cells.now c.loop-place.place cell c.loop-place.given.items c.args.count (omega (arith, c.loop-place-test.true)) c.loop-place.auto.place c.index-cells-place.is c.if-cell.false c.loop-place.invariant.values;
      typed = typed_more c.args.cells.now c.loop-place.place cell (omega (arith, c.loop-place-test.true)) c.index-cells-place.is (subst IsTyped c.value_of-value.ensures.value c.value_of-value.ensures.typed) c.loop-place.invariant.typed;
    }
