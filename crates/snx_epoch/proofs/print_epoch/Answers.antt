use Rattle.std.proofs.Common.{◌∙◌, ap, sym, subst, Ok, FitsSigned, w32, arith}
use Rattle.std.proofs.lemmas.Int.{ints, to_z-of_z}
use Rattle.snx_epoch.specs.Moments.{IsMoment, IsTextOf}
use Rattle.snx_epoch.specs.declared.Epoch.TheVariants.{At}
use Rattle.snx_epoch.proofs.Times.{reads_text}
use Rattle.snx_epoch.proofs.print_epoch.Goals as goal

pub returns-in-At-clause-read_back : goal.returns-in-At-clause-read_back
returns-in-At-clause-read_back c =
    let fits : FitsSigned w32 c.in-At.day = omega (arith, ints) in
    reads_text c.in-At.day c.in-At.second c.text_of.result (subst IsMoment c.in-At.is c.requires) (subst (λ z. IsTextOf (At z c.in-At.second) c.text_of.result) (to_z-of_z w32 c.in-At.day fits) c.text_of.ensures.calendar) ∙ ap (λ e. Ok e) (sym c.in-At.is)
