use Rattle.std.proofs.Common.{map, string_bytes}
use Rattle.desk_io.specs.Outputs.{named_text}
use Rattle.refusal_lines.specs.Refusals.{status_of}
use Rattle.combine_cli.proofs.RefuseLaws.{status_told, cause_told, done_told, cut_told}
use Rattle.combine_cli.proofs.RunLaws.{on_err, done_writing, planned_slice, planned_differ, certified_writing, cut_writing, untouched_by_writing, said_by_writing}
use Rattle.combine_cli.proofs.top.carry_out.Goals as goal

pub returns-in_err-write_outputs-in-Ok-clause-cut : goal.returns-in_err-write_outputs-in-Ok-clause-cut
returns-in_err-write_outputs-in-Ok-clause-cut g c = λ tells.
    let p = planned_slice (map string_bytes c.args.words.now) (g.D.Desk.content c.args.desk.now).files c.in-Ok.outputs.items c.deref.result.now c.deref.ensures.value (c.in-Ok.ensures.planned tells) in
    on_err c.from_residual.result (λ outcome verdict.
    cut_writing (map string_bytes c.args.words.now) outcome (map named_text c.deref.result.now) _ _ _ verdict p (c.in-Ok.ensures.keeps tells)
    (c.in_err-write_outputs-in-Ok.ensures.stands tells (planned_differ _ _ _ p)))

pub returns-in_err-write_outputs-in-Ok-clause-untouched : goal.returns-in_err-write_outputs-in-Ok-clause-untouched
returns-in_err-write_outputs-in-Ok-clause-untouched g c = λ tells name none.
    let p = planned_slice (map string_bytes c.args.words.now) (g.D.Desk.content c.args.desk.now).files c.in-Ok.outputs.items c.deref.result.now c.deref.ensures.value (c.in-Ok.ensures.planned tells) in
    untouched_by_writing (map string_bytes c.args.words.now) (map named_text c.deref.result.now) _ _ _ c.write_outputs.result name p (c.in-Ok.ensures.keeps tells) (c.write_outputs.ensures.content tells) none

pub returns-in_err-write_outputs-in-Ok-clause-said : goal.returns-in_err-write_outputs-in-Ok-clause-said
returns-in_err-write_outputs-in-Ok-clause-said g c = λ tells.
    said_by_writing (map named_text c.deref.result.now) _ _ _ c.write_outputs.result (c.in-Ok.ensures.keeps tells) (c.write_outputs.ensures.content tells)

pub returns-in_ok-write_outputs-in-Ok-clause-done : goal.returns-in_ok-write_outputs-in-Ok-clause-done
returns-in_ok-write_outputs-in-Ok-clause-done g c = λ tells.
    let p = planned_slice (map string_bytes c.args.words.now) (g.D.Desk.content c.args.desk.now).files c.in-Ok.outputs.items c.deref.result.now c.deref.ensures.value (c.in-Ok.ensures.planned tells) in
    done_writing (map string_bytes c.args.words.now) (map named_text c.deref.result.now) _ _ _ p (c.in-Ok.ensures.keeps tells)
    (c.in_ok-write_outputs-in-Ok.ensures.stands tells (planned_differ _ _ _ p))

pub returns-in_ok-write_outputs-in-Ok-clause-untouched : goal.returns-in_ok-write_outputs-in-Ok-clause-untouched
returns-in_ok-write_outputs-in-Ok-clause-untouched g c = λ tells name none.
    let p = planned_slice (map string_bytes c.args.words.now) (g.D.Desk.content c.args.desk.now).files c.in-Ok.outputs.items c.deref.result.now c.deref.ensures.value (c.in-Ok.ensures.planned tells) in
    untouched_by_writing (map string_bytes c.args.words.now) (map named_text c.deref.result.now) _ _ _ c.write_outputs.result name p (c.in-Ok.ensures.keeps tells) (c.write_outputs.ensures.content tells) none

pub returns-in_ok-write_outputs-in-Ok-clause-said : goal.returns-in_ok-write_outputs-in-Ok-clause-said
returns-in_ok-write_outputs-in-Ok-clause-said g c = λ tells.
    said_by_writing (map named_text c.deref.result.now) _ _ _ c.write_outputs.result (c.in-Ok.ensures.keeps tells) (c.write_outputs.ensures.content tells)

pub returns-in_ok-write_outputs-in-Ok-clause-certified : goal.returns-in_ok-write_outputs-in-Ok-clause-certified
returns-in_ok-write_outputs-in-Ok-clause-certified g c = λ tells _.
    let p = planned_slice (map string_bytes c.args.words.now) (g.D.Desk.content c.args.desk.now).files c.in-Ok.outputs.items c.deref.result.now c.deref.ensures.value (c.in-Ok.ensures.planned tells) in
    certified_writing (map string_bytes c.args.words.now) (map named_text c.deref.result.now) (g.D.Desk.content c.args.desk.now) _ _ p (c.in_ok-write_outputs-in-Ok.ensures.stands tells (planned_differ _ _ _ p))

pub returns-in-Err-clause-status : goal.returns-in-Err-clause-status
returns-in-Err-clause-status g c = status_told c.refuse.result (status_of c.in-Err.refusal) c.refuse.ensures.status

pub returns-in-Err-clause-cause : goal.returns-in-Err-clause-cause
returns-in-Err-clause-cause g c = cause_told c.refuse.result (status_of c.in-Err.refusal) _ _ _ c.in-Err.ensures.cause c.refuse.ensures.status c.refuse.ensures.cause c.refuse.ensures.fault

pub returns-in-Err-clause-done : goal.returns-in-Err-clause-done
returns-in-Err-clause-done g c = λ tells.
    done_told (map string_bytes c.args.words.now) c.in-Err.refusal _ _ _ (c.in-Err.ensures.keeps tells) (c.in-Err.ensures.refused tells) c.refuse.result c.refuse.ensures.status (c.refuse.ensures.done tells)

pub returns-in-Err-clause-cut : goal.returns-in-Err-clause-cut
returns-in-Err-clause-cut g c = λ tells.
    cut_told (map string_bytes c.args.words.now) c.in-Err.refusal _ _ _ (c.in-Err.ensures.keeps tells) (c.in-Err.ensures.refused tells) c.refuse.result (c.refuse.ensures.part tells) (c.refuse.ensures.silent tells)
