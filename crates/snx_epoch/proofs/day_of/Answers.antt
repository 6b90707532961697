use Rattle.snx_epoch.proofs.YearDays.{ranged}
use Rattle.snx_epoch.proofs.day_of.Goals as goal

pub returns-clause-low : goal.returns-clause-low
returns-clause-low c = (ranged c.day_at.result c.args.year c.args.place c.requires.year c.requires.end c.day_at.ensures.value c.day_at.ensures.none).0

pub returns-clause-high : goal.returns-clause-high
returns-clause-high c = (ranged c.day_at.result c.args.year c.args.place c.requires.year c.requires.end c.day_at.ensures.value c.day_at.ensures.none).1

pub returns-clause-last : goal.returns-clause-last
returns-clause-last c = (ranged c.day_at.result c.args.year c.args.place c.requires.year c.requires.end c.day_at.ensures.value c.day_at.ensures.none).2
