use Rattle.std.proofs.Common.{sym, ◌∙◌}
use Rattle.snx_epoch.proofs.Times.{read_is}
use Rattle.snx_epoch.proofs.read_epoch.Goals as goal

pub returns-then-has_time-clause-value : goal.returns-then-has_time-clause-value
returns-then-has_time-clause-value c =
    read_is c.args.text.now c.trim_front-rest.result.now c.year_of.result c.place_of.result c.second_of.result c.moment_of.result
    c.trim_front-rest.ensures (sym c.has_time.ensures ∙ c.if-has_time.true) c.year_of.ensures.value c.place_of.ensures.value c.second_of.ensures.value c.moment_of.ensures.value
