use Rattle.std.proofs.Common.{◌∙◌, sym, subst, ◌≤ℤ◌, negsuc, pos, FitsSigned, w32, arith}
use Rattle.std.proofs.lemmas.Int.{ints, to_z-of_z}
use Rattle.snx_epoch.proofs.YearDays.{low_year, high_year}
use Rattle.snx_epoch.proofs.date_of.Goals as goal

pub returns-clause-low : goal.returns-clause-low
returns-clause-low c =
    let date = c.date_at.result in
    let fits : FitsSigned w32 c.args.day = omega (arith, ints) in
    low_year date.year date.month date.day (date.year_in, date.month_in, date.day_in) (subst (λ z. negsuc 6939 ≤ℤ z) (sym (c.date_at.ensures ∙ to_z-of_z w32 c.args.day fits)) c.requires.low)

pub returns-clause-high : goal.returns-clause-high
returns-clause-high c =
    let date = c.date_at.result in
    let fits : FitsSigned w32 c.args.day = omega (arith, ints) in
    high_year date.year date.month date.day (date.year_in, date.month_in, date.day_in) (subst (λ z. z ≤ℤ pos 29584) (sym (c.date_at.ensures ∙ to_z-of_z w32 c.args.day fits)) c.requires.high)
