use Rattle.std.proofs.Common.{◌∙◌, sym, FitsSigned, w32, w16, arith}
use Rattle.std.proofs.lemmas.Int.{ints, to_z-of_z}
use Rattle.snx_epoch.specs.declared.Epoch.TheVariants.{At}
use Rattle.snx_epoch.proofs.YearDays.{place_is}
use Rattle.snx_epoch.proofs.Printed.{text_is}
use Rattle.snx_epoch.proofs.text_of.Goals as goal

pub returns-clause-calendar : goal.returns-clause-calendar
returns-clause-calendar c =
    let date = c.date_of-date.result in
    let year = c.year_number-year.result in
    let place = c.day_of_year-place.result in
    let fits : FitsSigned w32 c.args.day = omega (arith, ints) in
    let year_fits : FitsSigned w16 c.date_of-date.result.year = omega (arith, ints) in (
      year,
      place,
      c.year_number-year.ensures.low,
      c.year_number-year.ensures.high,
      place_is date.year date.month date.day year place c.args.day (date.year_in, date.month_in, date.day_in) (sym (c.year_number-year.ensures.value ∙ to_z-of_z w16 c.date_of-date.result.year year_fits)) (sym c.day_of_year-place.ensures.value) (c.date_of-date.ensures.day ∙ to_z-of_z w32 c.args.day fits),
      c.time_bytes.ensures,
    )

pub returns-clause-text : goal.returns-clause-text
returns-clause-text c = text_is (At c.args.day c.args.second) c.time_bytes.result (returns-clause-calendar c)
