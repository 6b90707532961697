use Rattle.std.proofs.Common.{◌∙◌, sym, ap, arith}
use Rattle.std.proofs.lemmas.List.Sums.{position_or_len_is}
use Rattle.snx_rows.specs.Named.{is_row_of}
use Rattle.correlations.proofs.DiagonalLaws.{none_more, all_apart}
use Rattle.correlations.proofs.deviations.place_of.Goals as goal

pub returns-then-is_row_of-clause-value : goal.returns-then-is_row_of-clause-value
returns-then-is_row_of-clause-value c =
    let row = c.index-rows-place.result in
    sym (position_or_len_is (is_row_of c.args.id.now) c.args.rows.now c.loop-place.place row (omega arith) (λ k l. c.loop-place.invariant k row l)
    (λ _. ap (is_row_of c.args.id.now) (sym c.index-rows-place.is) ∙ sym c.is_row_of.ensures ∙ c.if-is_row_of.true))

pub loop-place-preserved : goal.loop-place-preserved
loop-place-preserved c = none_more (is_row_of c.args.id.now) c.args.rows.now c.loop-place.place c.index-rows-place.result c.loop-place-test.true c.index-rows-place.is (sym c.is_row_of.ensures ∙ c.if-is_row_of.false) c.loop-place.invariant

pub returns-clause-value : goal.returns-clause-value
returns-clause-value c = all_apart (is_row_of c.args.id.now) c.args.rows.now (λ j d l. c.loop-place.invariant j d (omega arith))
