-- The fields of a row, one after another.
use Rattle.std.proofs.Common.{◌≡◌, ◌∷◌, ◌==◌, ℕ, List, [], length, false, Option, Result, Ok, Err, refl}
use Rattle.stated_order.proofs.StepLaws.{then_gives, then_stops}
use Rattle.snx_lines.specs.Lines.{PlainLine}
use Rattle.param_ids.specs.Plain.{PlainId}
use Rattle.decimal_e.specs.Decimals.{Decimal}
use Rattle.snx_rows.specs.Rows.{IsIndexOn, IsNameOn, IsUnitOn, IsNumber, IsValueOn, IsSized, IsDeviation, IsDeviationOn, IsRead, not_negative}
use Rattle.snx_rows.specs.declared.causes.Cause.{Cause}
use Rattle.snx_rows.specs.declared.rows.Shape.{Shape}

-- ---- a deviation that is not blank
pub deviation_read : (text : List ℕ) (d : Decimal) (r : Result (Option Decimal) Cause) → (length text == 0) ≡ false → IsNumber text (Ok d) → r ≡ not_negative d → IsDeviation text r
deviation_read [] d r some h e = cc
deviation_read (b ∷ bs) d r some h e = then_gives (IsNumber (b ∷ bs)) (λ d other. other ≡ not_negative d) d r h e

pub deviation_unread : (text : List ℕ) (cause : Cause) → (length text == 0) ≡ false → IsNumber text (Err cause) → IsDeviation text (Err cause)
deviation_unread [] cause some h = cc
deviation_unread (b ∷ bs) cause some h = then_stops (IsNumber (b ∷ bs)) (λ d other. other ≡ not_negative d) cause h

-- ---- up to the first field that is refused, or to the row
module _ (shape : Shape) (line : PlainLine) (index : ℕ) (has_index : IsIndexOn line.text (Ok index)) where
  pub no_name : (cause : Cause) → IsNameOn line.text (Err cause) → IsRead shape line (Err cause)
  no_name cause refused = then_gives _ _ index _ has_index (then_stops _ _ cause refused)

  module _ (id : PlainId) (has_name : IsNameOn line.text (Ok id)) where
    pub no_unit : (cause : Cause) → IsUnitOn line.text (Err cause) → IsRead shape line (Err cause)
    no_unit cause refused = then_gives _ _ index _ has_index (then_gives _ _ id _ has_name (then_stops _ _ cause refused))

    module _ (unit : List ℕ) (has_unit : IsUnitOn line.text (Ok unit)) where
      pub no_value : (cause : Cause) → IsValueOn line.text (Err cause) → IsRead shape line (Err cause)
      no_value cause refused = then_gives _ _ index _ has_index (then_gives _ _ id _ has_name (then_gives _ _ unit _ has_unit (then_stops _ _ cause refused)))

      module _ (value : Decimal) (has_value : IsValueOn line.text (Ok value)) where
        pub no_size : (cause : Cause) → IsSized shape value (Err cause) → IsRead shape line (Err cause)
        no_size cause refused =
            then_gives _ _ index _ has_index (then_gives _ _ id _ has_name (then_gives _ _ unit _ has_unit (then_gives _ _ value _ has_value (then_stops _ _ cause refused))))

        module _ (sized : Decimal) (has_size : IsSized shape value (Ok sized)) where
          pub no_deviation : (cause : Cause) → IsDeviationOn shape line.text (Err cause) → IsRead shape line (Err cause)
          no_deviation cause refused =
              then_gives _ _ index _ has_index (then_gives _ _ id _ has_name (then_gives _ _ unit _ has_unit
              (then_gives _ _ value _ has_value (then_gives _ _ sized _ has_size (then_stops _ _ cause refused)))))

          pub whole_row : (dev : Option Decimal) → IsDeviationOn shape line.text (Ok dev)
              → IsRead shape line (Ok (record { index = index; id = id; unit = unit; value = sized; dev = dev; line = line.number }))
          whole_row dev has_deviation =
              then_gives _ _ index _ has_index (then_gives _ _ id _ has_name (then_gives _ _ unit _ has_unit
              (then_gives _ _ value _ has_value (then_gives _ _ sized _ has_size (then_gives _ _ dev _ has_deviation refl)))))
