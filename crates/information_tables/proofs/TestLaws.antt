-- One row and one element, as the test has them.
use Rattle.std.proofs.Common.{◌≡◌, ◌<◌, ◌∙◌, ◌^◌, ◌∷◌, [], ℕ, zero, suc, pos, List, Some, All, slice_get, refl, sym, subst, arith}
use Rattle.std.proofs.lemmas.Int.{ints}
use Rattle.std.proofs.lemmas.Option.{slice_get_within}
use Rattle.decimal_e.specs.Decimals.{Decimal}
use Rattle.decimal_e.specs.Fractions.{IsAtMost}
use Rattle.param_ids.specs.Plain.{PlainId}
use Rattle.snx_rows.specs.Blocks.{AreSound, IsIndex, HasShortDeviation}
use Rattle.snx_rows.specs.declared.rows.Row.{Row}
use Rattle.snx_rows.specs.declared.rows.Shape.TheVariants.{Value}
use Rattle.snx_matrices.specs.Elements.{AreElementsOf, IsPlaced}
use Rattle.snx_matrices.specs.declared.elements.Cell.{Cell}
use Rattle.named_tables.specs.Weighted.{IsWeight}
use Rattle.information_tables.specs.Parts.{IsShort}

pub short_weight : (d : Decimal) → IsShort d → IsWeight d
short_weight d h = let some = h.some in let few = h.few in record { some = h.some; few = omega (arith, ints) }

all_one : {X : Type 0} (P : X → Type 0) (x : X) → P x → All P (x ∷ [])
all_one P x h zero d l = h
all_one P x h (suc k) d l = absurd (omega arith)

first_place : {X : Type 0} (x y : X) (i : ℕ) → (let xs : List X = x ∷ [] in slice_get xs i ≡ Some y) → i ≡ 0
first_place x y i h = let within : i < 1 = slice_get_within (x ∷ []) i y h in omega arith

one_sound : (row : Row) → row.index ≡ 1 → row.value ≡ record { mant = pos 0; exp = pos 0 } → HasShortDeviation row → AreSound Value (row ∷ [])
one_sound row index value short = record {
  few = omega arith;
  indexed = all_one (λ (r : Row). IsIndex r.index) row (omega arith, omega arith);
  indices = λ i j one other here there same. first_place row one i here ∙ sym (first_place row other j there);
  names = λ i j one other here there same. first_place row one i here ∙ sym (first_place row other j there);
  sized = all_one (λ (r : Row). IsAtMost (10 ^ 12) r.value) row (subst (IsAtMost (10 ^ 12)) (sym value) (omega arith));
  deviations = all_one HasShortDeviation row short;
}

pub one_element : (cell : Cell) → cell.row ≡ 0 → cell.col ≡ 0 → IsShort cell.value → AreElementsOf 1 (cell ∷ [])
one_element cell row col short = let some = short.some in record {
  placed = all_one (IsPlaced 1) cell (record { row = omega arith; col = omega arith; given = λ none. absurd (omega (arith, ints)) });
  apart = λ i j one other here there apart. absurd (apart (first_place cell one i here ∙ sym (first_place cell other j there)));
}

pub row_sound : (id : PlainId) (unit : List ℕ) (value dev : Decimal) → value ≡ record { mant = pos 0; exp = pos 0 } → IsShort dev → AreSound Value (record { index = 1; id = id; unit = unit; value = value; dev = Some dev; line = 1 } ∷ [])
row_sound id unit value dev zero_is short =
    let some = short.some in
    let few = short.few in
    one_sound (record { index = 1; id = id; unit = unit; value = value; dev = Some dev; line = 1 }) refl zero_is (omega (arith, ints))
