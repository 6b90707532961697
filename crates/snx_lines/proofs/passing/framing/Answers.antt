use Rattle.std.proofs.Common.{sym, ap, ◌∙◌, length, arith}
use Rattle.snx_lines.specs.Lines.{lines_in}
use Rattle.snx_lines.specs.Passing.{State, state_view}
use Rattle.snx_lines.proofs.Passed.{one_more_line, stopped_line, ended_text}
use Rattle.snx_lines.proofs.Alone.{framed_by, alone_by, ascend_by, below_stop_by}
use Rattle.snx_lines.proofs.passing.framing.Goals as goal

pub returns-in-Some-judge-clause-framed : goal.returns-in-Some-judge-clause-framed
returns-in-Some-judge-clause-framed c =
    framed_by c.finished.result (lines_in c.args.text.now) _ c.finished.ensures
    (stopped_line _ (state_view c.loop-line.framer) c.in-Some.line.now c.cut_at_80-line.result.now c.loop-line.line-iterator c.next.new.self c.in-Some-judge.cause c.loop-line.invariant.so_far c.in-Some.ensures.steps c.cut_at_80-line.ensures (sym c.judge.ensures ∙ c.in-Some-judge.is))

pub returns-in-Some-judge-clause-alone : goal.returns-in-Some-judge-clause-alone
returns-in-Some-judge-clause-alone c = alone_by c.finished.result (lines_in c.args.text.now) (returns-in-Some-judge-clause-framed c)

pub returns-in-Some-judge-clause-ascend : goal.returns-in-Some-judge-clause-ascend
returns-in-Some-judge-clause-ascend c = ascend_by c.finished.result c.args.text.now (returns-in-Some-judge-clause-framed c)

pub returns-in-Some-judge-clause-below : goal.returns-in-Some-judge-clause-below
returns-in-Some-judge-clause-below c = below_stop_by c.finished.result c.args.text.now (returns-in-Some-judge-clause-framed c)

pub loop-line-preserved : goal.loop-line-preserved
loop-line-preserved c = record {
  so_far = one_more_line _ (state_view c.loop-line.framer) (state_view c.keep.new.self) c.in-Some.line.now c.cut_at_80-line.result.now c.loop-line.line-iterator c.next.new.self c.loop-line.invariant.so_far c.in-Some.ensures.steps c.cut_at_80-line.ensures (sym c.judge.ensures ∙ c.in_default.is) c.in_ok-keep.ensures;
  number = omega (arith, c.loop-line.invariant.number, ap (λ (s : State). s.number) c.in_ok-keep.ensures, ap length c.in-Some.ensures.steps);
}

pub returns-clause-framed : goal.returns-clause-framed
returns-clause-framed c =
    framed_by c.finished-2.result (lines_in c.args.text.now) _ c.finished-2.ensures
    (ended_text _ (state_view c.loop-line.framer) c.loop-line.line-iterator c.judge_end_of_text-cause.result c.loop-line.invariant.so_far c.in-None.ensures.steps.0 c.judge_end_of_text-cause.ensures)

pub returns-clause-alone : goal.returns-clause-alone
returns-clause-alone c = alone_by c.finished-2.result (lines_in c.args.text.now) (returns-clause-framed c)

pub returns-clause-ascend : goal.returns-clause-ascend
returns-clause-ascend c = ascend_by c.finished-2.result c.args.text.now (returns-clause-framed c)

pub returns-clause-below : goal.returns-clause-below
returns-clause-below c = below_stop_by c.finished-2.result c.args.text.now (returns-clause-framed c)
