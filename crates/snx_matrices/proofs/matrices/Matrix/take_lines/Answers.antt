use Rattle.std.proofs.Common.{◌∙◌, Ok}
use Rattle.std.proofs.lemmas.Result.{err_from_is_err_and}
use Rattle.snx_matrices.proofs.LineLaws.{lines_more, lines_stop}
use Rattle.snx_matrices.proofs.matrices.Matrix.take_lines.Goals as goal

pub returns-in_err-take_line : goal.returns-in_err-take_line
returns-in_err-take_line c =
    let from = err_from_is_err_and c.from_residual.result c.from_residual.ensures.1 in
    record {
      lines =
          rw (from.1, from.2) (lines_stop c.args.self.now.triangle c.args.self.now.places c.args.elements.now.cells c.loop-line.elements.cells c.args.body.now c.loop-line.line-index _ c.loop-line-test.true c.loop-line.invariant.lines
          c.take_line.new.elements.cells c.take_line.new.elements.cells c.in_err-take_line.field-0.0 c.in_err-take_line.ensures.line);
    }

pub loop-line-preserved : goal.loop-line-preserved
loop-line-preserved c = record {
  size = c.in_ok-take_line.ensures.size ∙ c.loop-line.invariant.size;
  lines = lines_more c.args.self.now.triangle c.args.self.now.places c.args.elements.now.cells c.loop-line.elements.cells c.args.body.now c.loop-line.line-index _ c.loop-line-test.true c.loop-line.invariant.lines (Ok c.take_line.new.elements.cells) c.in_ok-take_line.ensures.line;
}
