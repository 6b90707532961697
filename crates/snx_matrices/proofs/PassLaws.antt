-- The steps of the pass.
use Rattle.std.proofs.Common.{◌≡◌, ◌∷◌, ◌++◌, ℕ, List, [], Some, Result, Ok, Err, if◌then◌else◌, refl, ap}
use Rattle.std.specs.Bool.{⊤}
use Rattle.std.specs.Option.{ok_or}
use Rattle.stated_order.specs.Steps.{Through}
use Rattle.stated_order.proofs.StepLaws.{then_gives, then_stops, through_more, through_stops}
use Rattle.snx_lines.specs.Lines.{columns}
use Rattle.decimal_e.specs.Decimals.{Decimal}
use Rattle.snx_rows.specs.declared.causes.Cause.{Cause}
use Rattle.snx_rows.specs.declared.causes.Cause.TheVariants as causes
use Rattle.snx_rows.specs.declared.rows.Row.{Row}
use Rattle.snx_matrices.specs.Elements.{called, called_by, is_within, IsPairOn, IsElement, WithValue, IsValueTaken, AreValuesTaken}
use Rattle.snx_matrices.specs.Passing.{Leaves, IsAdded}
use Rattle.snx_matrices.specs.declared.elements.Triangle.{Triangle}
use Rattle.snx_matrices.specs.declared.elements.Called.{Called}
use Rattle.snx_matrices.specs.declared.elements.Pair.{Pair}
use Rattle.snx_matrices.specs.declared.elements.Cell.{Cell}
use Rattle.snx_matrices.specs.declared.stops.Stop.{Stop}
use Rattle.snx_matrices.specs.declared.stops.Stop.TheVariants as stops

-- ---- what a step leaves, said of a longer step
pub stop_passes : {X : Type 0} (after last : X) (P Q : Result X Cause → Type 0) (stop : Stop) → ((cause : Cause) → P (Err cause) → Q (Err cause)) → Leaves after P (Err stop) → Leaves last Q (Err stop)
stop_passes after last P Q (stops.Cause cause) f h = f cause h
stop_passes after last P Q stops.Memory f h = tt

pub leaves_more : {X : Type 0} (after : X) (P Q : Result X Cause → Type 0) (r : Result ⊤ Stop) → ((s : Result X Cause) → P s → Q s) → Leaves after P r → Leaves after Q r
leaves_more after P Q (Ok done) f h = f (Ok after) h
leaves_more after P Q (Err (stops.Cause cause)) f h = f (Err cause) h
leaves_more after P Q (Err stops.Memory) f h = tt

-- ---- the two rows
pub no_column : (rows : List Row) (text : List ℕ) (row : Called) (cause : Cause) → Ok row ≡ ok_or (called_by rows (columns text 2 6)) causes.Index → Err cause ≡ ok_or (called_by rows (columns text 8 12)) causes.Index
    → IsPairOn rows text (Err cause)
no_column rows text row cause has refused = then_gives (λ r. r ≡ ok_or (called_by rows (columns text 2 6)) causes.Index) _ row (Err cause) has (then_stops (λ r. r ≡ ok_or (called_by rows (columns text 8 12)) causes.Index) _ cause refused)

-- ---- a value that is given
module _ (triangle : Triangle) (rows : List Row) (before : List Cell) (row : Called) (index : ℕ) (value : Decimal) (column : Called) (has_column : Ok column ≡ ok_or (called rows index) causes.Index) where
  pub outside : (cause : Cause) → Err cause ≡ (if is_within triangle row.index column.index then Ok column else Err causes.Triangle) → WithValue triangle rows row index before (Some value) (Err cause)
  outside cause refused =
      then_stops (IsElement triangle rows before row index value) _ cause
      (then_gives (λ r. r ≡ ok_or (called rows index) causes.Index) _ column (Err cause) has_column
      (then_stops (λ r. r ≡ (if is_within triangle row.index column.index then Ok column else Err causes.Triangle)) _ cause refused))

  module _ (within : Called) (stands : Ok within ≡ (if is_within triangle row.index column.index then Ok column else Err causes.Triangle)) where
    pub added : (s : Result (List Cell) Cause) → IsAdded before (record { row = row.place; col = within.place; value = value }) s → WithValue triangle rows row index before (Some value) s
    added (Ok after) h =
        let cell : Cell = record { row = row.place; col = within.place; value = value } in
        then_gives (IsElement triangle rows before row index value) (λ cell r. r ≡ Ok (before ++ (cell ∷ []))) cell (Ok after)
        (then_gives (λ r. r ≡ ok_or (called rows index) causes.Index) _ column (Ok cell) has_column
        (then_gives (λ r. r ≡ (if is_within triangle row.index column.index then Ok column else Err causes.Triangle)) _ within (Ok cell) stands (refl, h.1)))
        (ap Ok h.0)
    added (Err cause) h =
        then_stops (IsElement triangle rows before row index value) _ cause
        (then_gives (λ r. r ≡ ok_or (called rows index) causes.Index) _ column (Err cause) has_column
        (then_gives (λ r. r ≡ (if is_within triangle row.index column.index then Ok column else Err causes.Triangle)) _ within (Err cause) stands h))

-- ---- the three values of a line
module _ (triangle : Triangle) (rows : List Row) (text : List ℕ) (before : List Cell) (pair : Pair) (has_pair : IsPairOn rows text (Ok pair)) where
  on_line : (r : Result (List Cell) Cause) → Through (IsValueTaken triangle rows text pair) before (0 ∷ 1 ∷ 2 ∷ []) r → AreValuesTaken triangle rows before text r
  on_line r h = then_gives (IsPairOn rows text) (λ pair. Through (IsValueTaken triangle rows text pair) before (0 ∷ 1 ∷ 2 ∷ [])) pair r has_pair h

  pub first_stops : (cause : Cause) → IsValueTaken triangle rows text pair before 0 (Err cause) → AreValuesTaken triangle rows before text (Err cause)
  first_stops cause h = on_line (Err cause) (through_stops (IsValueTaken triangle rows text pair) before before [] (1 ∷ 2 ∷ []) 0 cause refl h)

  module _ (first : List Cell) (has_first : IsValueTaken triangle rows text pair before 0 (Ok first)) where
    one : Through (IsValueTaken triangle rows text pair) before (0 ∷ []) (Ok first)
    one = through_more (IsValueTaken triangle rows text pair) before before [] 0 (Ok first) refl has_first

    pub second_stops : (cause : Cause) → IsValueTaken triangle rows text pair first 1 (Err cause) → AreValuesTaken triangle rows before text (Err cause)
    second_stops cause h = on_line (Err cause) (through_stops (IsValueTaken triangle rows text pair) before first (0 ∷ []) (2 ∷ []) 1 cause one h)

    pub third : (second : List Cell) → IsValueTaken triangle rows text pair first 1 (Ok second) → (r : Result (List Cell) Cause) → IsValueTaken triangle rows text pair second 2 r → AreValuesTaken triangle rows before text r
    third second has_second r h =
        let two = through_more (IsValueTaken triangle rows text pair) before first (0 ∷ []) 1 (Ok second) one has_second in
        on_line r (through_more (IsValueTaken triangle rows text pair) before second (0 ∷ 1 ∷ []) 2 r two h)
