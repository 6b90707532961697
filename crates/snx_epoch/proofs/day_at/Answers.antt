use Rattle.std.proofs.Common.{◌≡◌, pos, arith, FitsSigned, w32, ◌∙◌, ap, ◌+ℤ◌, ◌-ℤ◌}
use Rattle.std.proofs.lemmas.Int.{ints, to_z-of_z}
use Rattle.jiff_core.specs.Calendar.{days_from_civil}
use Rattle.jiff_core.specs.Date.{ordinal, epoch_day}
use Rattle.snx_epoch.specs.Moments.{day_number}
use Rattle.snx_epoch.proofs.YearDays.{from_new_year}
use Rattle.snx_epoch.proofs.day_at.Goals as goal

pub returns-in-Ok-clause-value : goal.returns-in-Ok-clause-value
returns-in-Ok-clause-value c =
    let year : c.in-Ok.date.year ≡ pos c.args.year = grind (arith, ints) in
    let day : ordinal c.in-Ok.date ≡ c.args.place = grind (arith, ints) in
    let number : epoch_day c.in-Ok.date ≡ day_number c.args.year c.args.place = from_new_year c.in-Ok.date.year c.in-Ok.date.month c.in-Ok.date.day c.args.place c.in-Ok.date.day_in.0 day ∙ ap (λ y. days_from_civil y 1 1 +ℤ (pos c.args.place -ℤ pos 1)) year in
    let fits : FitsSigned w32 c.to_unix_epoch_day.result = omega (arith, ints) in
    to_z-of_z w32 c.to_unix_epoch_day.result fits ∙ (c.to_unix_epoch_day.ensures.value ∙ number)
