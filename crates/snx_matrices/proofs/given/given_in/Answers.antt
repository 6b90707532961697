use Rattle.std.proofs.Common.{◌≡◌, ◌∷◌, ◌==◌, ◌∙◌, ℕ, List, [], length, false, Option, Ok, Err, sym}
use Rattle.stated_order.proofs.StepLaws.{then_gives, then_stops}
use Rattle.decimal_e.specs.Decimals.{Decimal}
use Rattle.snx_rows.specs.Rows.{IsNumber}
use Rattle.snx_rows.specs.declared.causes.Cause.{Cause}
use Rattle.snx_matrices.specs.Elements.{unless_zero, IsGiven}
use Rattle.snx_matrices.proofs.given.given_in.Goals as goal

given : (text : List ℕ) (d : Decimal) (o : Option Decimal) → (length text == 0) ≡ false → IsNumber text (Ok d) → o ≡ unless_zero d → IsGiven text (Ok o)
given [] d o some h e = cc
given (b ∷ bs) d o some h e = then_gives (IsNumber (b ∷ bs)) (λ d r. r ≡ Ok (unless_zero d)) d (Ok o) h (cc)

refused : (text : List ℕ) (cause : Cause) → (length text == 0) ≡ false → IsNumber text (Err cause) → IsGiven text (Err cause)
refused [] cause some h = cc
refused (b ∷ bs) cause some h = then_stops (IsNumber (b ∷ bs)) (λ d r. r ≡ Ok (unless_zero d)) cause h

pub returns-in-Ok : goal.returns-in-Ok
returns-in-Ok c =
    given c.args.text.now c.in-Ok.value c.unless_zero.result (sym c.is_empty.ensures ∙ c.if-is_empty.false) c.in-Ok.ensures c.unless_zero.ensures

pub returns-in-Err : goal.returns-in-Err
returns-in-Err c = refused c.args.text.now c.in-Err.cause (sym c.is_empty.ensures ∙ c.if-is_empty.false) c.in-Err.ensures
