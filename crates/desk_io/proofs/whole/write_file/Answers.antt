use Rattle.std.proofs.Common.{◌≤◌, ◌+◌, arith, drop, length}
use Rattle.std.proofs.lemmas.Result.{err_from_is_err_and}
use Rattle.desk_io.proofs.WholeFiles.{written_to, cut_short, ended_at, three_parts}
use Rattle.desk_io.proofs.whole.write_file.Goals as goal

pub returns-in_err-write-clause-content : goal.returns-in_err-write-clause-content
returns-in_err-write-clause-content g c = λ tells.
    let p = err_from_is_err_and c.from_residual-in_err-write.result c.from_residual-in_err-write.ensures.1 in
    let end = c.loop-at.at + c.min.result in
    let le : c.loop-at.at ≤ end = omega arith in
    rw (p.1, p.2) (cut_short c.args.name.now _ _ (drop end c.args.text.now) c.args.text.now _ _ _ _ (c.loop-at.invariant.so_far tells) (three_parts c.args.text.now c.loop-at.at end le) (c.in_err-write.ensures.content tells))

pub loop-at-preserved : goal.loop-at-preserved
loop-at-preserved g c =
    let le : c.loop-at.at ≤ c.loop-at.at + c.min.result = omega arith in
    record {
      within = omega arith;
      facts = grind arith;
      unchanged = grind arith;
      so_far = λ tells. written_to c.args.name.now c.args.text.now c.loop-at.at _ _ _ _ _ le (c.loop-at.invariant.so_far tells) (c.in_ok-write.ensures.content tells);
    }

pub returns-clause-content : goal.returns-clause-content
returns-clause-content g c = λ tells.
    let at_end : length c.args.text.now ≤ c.loop-at.at = omega arith in
    ended_at c.args.name.now c.args.text.now c.loop-at.at _ _ _ _ at_end (c.loop-at.invariant.so_far tells) (c.finish.ensures.content tells)
