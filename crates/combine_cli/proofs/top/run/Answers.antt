use Rattle.std.proofs.Common.{◌∙◌, ℕ, List, Option, ap, inl, map, string_bytes}
use Rattle.desk_io.specs.Content.{File}
use Rattle.combine_cli.proofs.Verdicts.{one_verdict}
use Rattle.combine_cli.proofs.RunLaws.{writes_outputs, then_says, excuses_fault, excuses_files, reads_is_none}
use Rattle.combine_cli.proofs.top.run.Goals as goal

pub returns-in-Ok-clause-alone : goal.returns-in-Ok-clause-alone
returns-in-Ok-clause-alone g c = one_verdict (map string_bytes c.args.words.now) (g.D.Desk.content c.args.desk.now).files

pub returns-in-Ok-clause-complete : goal.returns-in-Ok-clause-complete
returns-in-Ok-clause-complete g c = λ tells outputs verdict none. inl (writes_outputs _ _ _ outputs _ _ verdict (c.in-Ok.ensures.done tells))

pub returns-in-Err-Fault-clause-alone : goal.returns-in-Err-Fault-clause-alone
returns-in-Err-Fault-clause-alone g c = one_verdict (map string_bytes c.args.words.now) (g.D.Desk.content c.args.desk.now).files

pub returns-in-Err-Fault-clause-stopped : goal.returns-in-Err-Fault-clause-stopped
returns-in-Err-Fault-clause-stopped g c = λ tells _ outcome verdict.
    rw c.say_fault.ensures.status (then_says outcome 5 _ _ _ (c.in-Err-Fault.ensures.cut tells outcome verdict) (excuses_fault _ _ (c.say_fault.ensures.content tells)))

pub returns-in-Err-Memory-clause-alone : goal.returns-in-Err-Memory-clause-alone
returns-in-Err-Memory-clause-alone g c = one_verdict (map string_bytes c.args.words.now) (g.D.Desk.content c.args.desk.now).files

pub returns-in-Err-Memory-clause-stopped : goal.returns-in-Err-Memory-clause-stopped
returns-in-Err-Memory-clause-stopped g c = λ tells _ outcome verdict.
    then_says outcome c.say_memory.result _ _ _ (c.in-Err-Memory.ensures.cut tells outcome verdict) (c.say_memory.ensures.content tells)

pub returns-in-Ok-clause-input : goal.returns-in-Ok-clause-input
returns-in-Ok-clause-input g c = λ tells name reads. c.carry_out.ensures.untouched tells name (reads_is_none _ _ name reads)

pub returns-in-Err-Fault-clause-input : goal.returns-in-Err-Fault-clause-input
returns-in-Err-Fault-clause-input g c = λ tells name reads.
    ap (λ (f : List ℕ → Option File). f name) (c.say_fault.ensures.content tells).files ∙ c.carry_out.ensures.untouched tells name (reads_is_none _ _ name reads)

pub returns-in-Err-Memory-clause-input : goal.returns-in-Err-Memory-clause-input
returns-in-Err-Memory-clause-input g c = λ tells name reads.
    ap (λ (f : List ℕ → Option File). f name) (excuses_files c.say_memory.result _ _ (c.say_memory.ensures.content tells)) ∙ c.carry_out.ensures.untouched tells name (reads_is_none _ _ name reads)
