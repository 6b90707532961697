use Rattle.std.proofs.Common.{◌∙◌, ap, pos, ◌+ℤ◌, FitsSigned, w32, arith}
use Rattle.std.proofs.lemmas.Int.{ints, to_z-of_z}
use Rattle.snx_epoch.specs.Moments.{instant}
use Rattle.snx_epoch.proofs.Times.{middle_is}
use Rattle.snx_epoch.proofs.middle_from.Goals as goal

pub returns-in-At-clause-middle : goal.returns-in-At-clause-middle
returns-in-At-clause-middle c =
    let fits : FitsSigned w32 c.args.day = omega (arith, ints) in
    let last_fits : FitsSigned w32 c.in-At.last_day = omega (arith, ints) in
    middle_is c.args.other.now c.moment_from_1951.result c.args.day c.args.second c.in-At.last_day c.in-At.last_second c.seconds_from_1951-first.result c.seconds_from_1951-last.result
    c.in-At.is (c.seconds_from_1951-first.ensures.value ∙ ap (λ z. instant z c.args.second +ℤ pos 599616000) (to_z-of_z w32 c.args.day fits))
    (c.seconds_from_1951-last.ensures.value ∙ ap (λ z. instant z c.in-At.last_second +ℤ pos 599616000) (to_z-of_z w32 c.in-At.last_day last_fits)) c.moment_from_1951.ensures.moment
