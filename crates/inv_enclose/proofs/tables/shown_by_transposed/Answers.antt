use Rattle.std.proofs.Common.{inr, subst, arith}
use Rattle.std.proofs.lemmas.Int.{ints}
use Rattle.equil.specs.Tables.{exponent_of}
use Rattle.inv_enclose.specs.Parts.{AreShown}
use Rattle.inv_enclose.proofs.PlaceLaws.{small_kept}
use Rattle.inv_enclose.proofs.tables.shown_by_transposed.Goals as goal

pub returns-in-Ok-clause-shown : goal.returns-in-Ok-clause-shown
returns-in-Ok-clause-shown g c =
    let a = c.args.rows.now.table.now in
    let kept = small_kept c.args.shift (omega (arith, ints, c.requires.low)) (omega (arith, ints, c.requires.high)) in
    record {
      taken = c.in_ok-turned.turned;
      is_taken = inr (c.args.refusal, c.requires.refused, c.in_ok-turned.ensures);
      shown = subst (λ s. AreShown a.size a c.in_ok-turned.turned c.args.v s (exponent_of c.args.exponents.now) a.size c.in-Ok.shown) kept c.in-Ok.ensures.shown;
    }
