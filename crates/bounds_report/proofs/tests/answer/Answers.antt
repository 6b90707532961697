use Rattle.std.proofs.Common.{◌<◌, ◌^◌, ℕ, zero, suc, [], ◌∷◌, pos, to_z, of_z, slice_index_or, sym, ◌∙◌, arith}
use Rattle.std.specs.Int.{w32}
use Rattle.std.proofs.lemmas.Int.{ints}
use Rattle.decimal_e.specs.Fractions.{IsAtMost}
use Rattle.bounds_report.specs.Printing.{IsScaleExponent}
use Rattle.bounds_report.proofs.tests.answer.Goals as goal

each_of_two : {X : Type 0} (P : X → Type 0) (a b d : X) → P a → P b → (i : ℕ) → i < 2 → P (slice_index_or (a ∷ b ∷ []) i d)
each_of_two P a b d first second zero l = first
each_of_two P a b d first second (suc zero) l = second
each_of_two P a b d first second (suc (suc i)) l = absurd (omega (arith, l))

pub printed-requires : goal.printed-requires
printed-requires g c =
    let rows = c.in_ok-w.ensures in (
      omega arith,
      (
        c.in_ok-e.ensures ∙ sym rows,
        (
          sym rows,
          (
            λ i l. each_of_two IsScaleExponent (to_z w32 (of_z w32 c.scale.result)) (to_z w32 (of_z w32 c.scale-2.result)) (pos 0)
                (record { least = omega (arith, ints, c.scale.ensures.least); most = omega (arith, ints, c.scale.ensures.most) })
                (record { least = omega (arith, ints, c.scale-2.ensures.least); most = omega (arith, ints, c.scale-2.ensures.most) }) i l,
            (sym rows, λ i l. each_of_two (IsAtMost (10 ^ 12)) c.in_ok-apriori.field-0 c.in_ok-apriori-2.field-0 (record { mant = pos 0; exp = pos 0 }) c.in_ok-apriori.ensures c.in_ok-apriori-2.ensures i l),
          ),
        ),
      ),
    )
