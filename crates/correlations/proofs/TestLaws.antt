-- Two rows, as the test has them.
use Rattle.std.proofs.Common.{◌≡◌, ◌<◌, ◌∙◌, ◌^◌, ◌∷◌, [], ℕ, false, zero, suc, Option, Some, None, All, IfSome, unsigned_abs, codes, refl, sym, ap, subst, arith}
use Rattle.std.proofs.lemmas.Int.{ints}
use Rattle.std.proofs.lemmas.Bool.{false≢true}
use Rattle.std.proofs.lemmas.Option.{same_Some, slice_get_within}
use Rattle.decimal_e.specs.Decimals.{Decimal}
use Rattle.decimal_e.specs.Fractions.{IsAtMost}
use Rattle.param_ids.specs.Plain.{PlainId}
use Rattle.param_ids.specs.Order.{is_same_id}
use Rattle.param_ids.proofs.SameIds.{itself}
use Rattle.snx_rows.specs.Blocks.{AreDistinct, AreSound, HasShortDeviation, IsIndex}
use Rattle.snx_rows.specs.Named.{zero_decimal}
use Rattle.snx_rows.specs.declared.rows.Row.{Row}
use Rattle.snx_rows.specs.declared.rows.Shape.TheVariants.{Value}
use Rattle.correlations.specs.Parts.{IsShort}

-- ---- lists of two
all_two : {X : Type 0} (P : X → Type 0) (x y : X) → P x → P y → All P (x ∷ y ∷ [])
all_two P x y h g zero d l = h
all_two P x y h g (suc zero) d l = g
all_two P x y h g (suc (suc k)) d l = absurd (omega arith)

distinct_two : {X : Type 0} (f : Row → X) (row next : Row) → (f row ≡ f next → ⊥) → AreDistinct f (row ∷ next ∷ [])
distinct_two f row next apart zero zero one other here there same = refl
distinct_two f row next apart zero (suc zero) one other here there same = absurd (apart (ap f (same_Some row one here) ∙ same ∙ ap f (sym (same_Some next other there))))
distinct_two f row next apart (suc zero) zero one other here there same = absurd (apart (ap f (same_Some row other there) ∙ sym same ∙ ap f (sym (same_Some next one here))))
distinct_two f row next apart (suc zero) (suc zero) one other here there same = refl
distinct_two f row next apart i (suc (suc j)) one other here there same = let w = slice_get_within (row ∷ next ∷ []) (suc (suc j)) other there in absurd (omega (arith, w))
distinct_two f row next apart (suc (suc i)) j one other here there same = let w = slice_get_within (row ∷ next ∷ []) (suc (suc i)) one here in absurd (omega (arith, w))

-- ---- rows
short_deviation : (row : Row) (dev : Option Decimal) → row.dev ≡ dev → IfSome dev IsShort → HasShortDeviation row
short_deviation row (Some d) is short = subst (λ o. IfSome o (λ d. unsigned_abs d.mant < 10 ^ 18)) (sym is) (let some = short.some in let few = short.few in omega (arith, ints))
short_deviation row None is short = subst (λ o. IfSome o (λ d. unsigned_abs d.mant < 10 ^ 18)) (sym is) tt

zero_modest : (row : Row) → row.value ≡ zero_decimal → IsAtMost (10 ^ 12) row.value
zero_modest row is = subst (IsAtMost (10 ^ 12)) (sym is) (omega arith)

same_rows : (row next : Row) (d : Decimal) → row.index ≡ 1 → next.index ≡ 2 → row.value ≡ zero_decimal → next.value ≡ zero_decimal → row.dev ≡ Some d → next.dev ≡ Some d → IsShort d → is_same_id row.id next.id ≡ false → AreSound Value (row ∷ next ∷ [])
same_rows row next d index index' value value' is is' short apart = record {
  few = omega arith;
  indexed = all_two (λ (r : Row). IsIndex r.index) row next (omega arith, omega arith) (omega arith, omega arith);
  indices = distinct_two (λ r. r.index) row next (λ e. absurd (omega arith));
  names = distinct_two (λ r. r.id) row next (λ e. false≢true (sym apart ∙ ap (is_same_id row.id) (sym e) ∙ itself row.id));
  sized = all_two (λ (r : Row). IsAtMost (10 ^ 12) r.value) row next (zero_modest row value) (zero_modest next value');
  deviations = all_two HasShortDeviation row next (short_deviation row (Some d) is short) (short_deviation next (Some d) is' short);
}

abbrev made : ℕ → PlainId → Decimal → Row
made index id d = record { index = index; id = id; unit = codes "m   "; value = zero_decimal; dev = Some d; line = 1 }

pub two_rows : (low high : PlainId) (d : Decimal) (row next : Row) → row ≡ made 1 low d → next ≡ made 2 high d → IsShort d → is_same_id low high ≡ false → AreSound Value (row ∷ next ∷ [])
two_rows low high d row next is is' short apart = subst (λ r. AreSound Value (r ∷ next ∷ [])) (sym is) (subst (λ n. AreSound Value (made 1 low d ∷ n ∷ [])) (sym is') (same_rows (made 1 low d) (made 2 high d) d refl refl refl refl refl refl short apart))
