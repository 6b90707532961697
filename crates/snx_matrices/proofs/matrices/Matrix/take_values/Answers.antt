use Rattle.std.proofs.lemmas.Result.{err_from_is_err_and}
use Rattle.snx_matrices.specs.Elements.{IsValueTaken, AreValuesTaken}
use Rattle.snx_matrices.proofs.PassLaws.{first_stops, second_stops, third, stop_passes, leaves_more}
use Rattle.snx_matrices.proofs.matrices.Matrix.take_values.Goals as goal

pub returns-in_err-take_given-clause-values : goal.returns-in_err-take_given-clause-values
returns-in_err-take_given-clause-values c =
    let triangle = c.args.self.now.triangle in
    let rows = c.args.self.now.places in
    let text = c.args.line.now.text.now in
    let before = c.args.elements.now.cells in
    let pair = c.in_ok-pair.pair in
    let from = err_from_is_err_and c.from_residual-in_err-take_given.result c.from_residual-in_err-take_given.ensures.1 in
    rw (from.1, from.2) (stop_passes c.take_given.new.elements.cells c.take_given.new.elements.cells (IsValueTaken triangle rows text pair before 0) (AreValuesTaken triangle rows before text) c.in_err-take_given.field-0.0
    (first_stops triangle rows text before pair c.in_ok-pair.ensures.pair) c.in_err-take_given.ensures.value)

pub returns-in_err-take_given-2-clause-values : goal.returns-in_err-take_given-2-clause-values
returns-in_err-take_given-2-clause-values c =
    let triangle = c.args.self.now.triangle in
    let rows = c.args.self.now.places in
    let text = c.args.line.now.text.now in
    let before = c.args.elements.now.cells in
    let pair = c.in_ok-pair.pair in
    let first = c.take_given.new.elements.cells in
    let from = err_from_is_err_and c.from_residual-in_err-take_given-2.result c.from_residual-in_err-take_given-2.ensures.1 in
    rw (from.1, from.2) (stop_passes c.take_given-2.new.elements.cells c.take_given-2.new.elements.cells (IsValueTaken triangle rows text pair first 1) (AreValuesTaken triangle rows before text) c.in_err-take_given-2.field-0.0
    (second_stops triangle rows text before pair c.in_ok-pair.ensures.pair first c.in_ok-take_given.ensures.value) c.in_err-take_given-2.ensures.value)

pub returns-clause-values : goal.returns-clause-values
returns-clause-values c =
    let triangle = c.args.self.now.triangle in
    let rows = c.args.self.now.places in
    let text = c.args.line.now.text.now in
    let before = c.args.elements.now.cells in
    let pair = c.in_ok-pair.pair in
    let first = c.take_given.new.elements.cells in
    let second = c.take_given-2.new.elements.cells in
    leaves_more c.take_given-3.new.elements.cells (IsValueTaken triangle rows text pair second 2) (AreValuesTaken triangle rows before text) c.take_given-3.result
    (third triangle rows text before pair c.in_ok-pair.ensures.pair first c.in_ok-take_given.ensures.value second c.in_ok-take_given-2.ensures.value) c.take_given-3.ensures.value
