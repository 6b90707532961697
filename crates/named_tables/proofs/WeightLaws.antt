-- Intervals in memory, and the numbers for which they stand.
use Rattle.std.proofs.Common.{◌≡◌, ◌∙◌, ℤ, pos, negsuc, ◌+ℤ◌, ◌*ℤ◌, None, Some, sym, ap, subst, arith}
use Rattle.std.proofs.lemmas.Int.{ints}
use Rattle.whole_numbers.specs.Intervals.{Interval}
use Rattle.whole_numbers.specs.Scaling.{floor_scaled, ceil_scaled}
use Rattle.decimal_e.specs.Decimals.{Decimal, IsBounded, IsDecOf, product}
use Rattle.decimal_e.specs.Scales.{decimal_interval}
use Rattle.decimal_e.proofs.SameValues.{same_interval, product_zero}
use Rattle.decimal_e.proofs.Values.{one_form, zero_bounded}
use Rattle.sym_blocks.specs.Tables.{zero_interval}
use Rattle.snx_rows.specs.Named.{zero_decimal}
use Rattle.named_tables.specs.Parts.{IsModest, IsKept, StandsFor}

-- ---- the interval of zero
floor_zero : (k : ℤ) → floor_scaled (pos 0) k ≡ pos 0
floor_zero (pos n) = omega (arith, ints)
floor_zero (negsuc n) = omega (arith, ints)

ceil_zero : (k : ℤ) → ceil_scaled (pos 0) k ≡ pos 0
ceil_zero (pos n) = omega (arith, ints)
ceil_zero (negsuc n) = omega (arith, ints)

interval_zero : (k : ℤ) → decimal_interval zero_decimal k ≡ zero_interval
interval_zero k = let made : ℤ → ℤ → Interval = λ lo hi. record { lo = lo; hi = hi } in ap (λ lo. made lo (ceil_scaled (pos 0) (pos 0 +ℤ k))) (floor_zero (pos 0 +ℤ k)) ∙ ap (λ hi. made (pos 0) hi) (ceil_zero (pos 0 +ℤ k))

times_zero : (weight : Decimal) → weight.mant *ℤ pos 0 ≡ pos 0
times_zero weight = omega (arith, ints)

pub weighted_zero : (weight : Decimal) (k : ℤ) → decimal_interval (product weight zero_decimal) k ≡ zero_interval
weighted_zero weight k = sym (same_interval zero_decimal (product weight zero_decimal) k (product_zero weight zero_decimal (times_zero weight)).same) ∙ interval_zero k

-- ---- a product, and one that is no decimal of the type
pub no_number : (number : Decimal) (k : ℤ) (w : Interval) → IsDecOf number None → ¬ (IsModest w) → StandsFor number k w
no_number number k w h far = record {
  here = λ fits. absurd (h.1.1 (fits.bounded h.0 h.1.0));
  fits = λ modest. absurd (far modest);
  back = λ modest. absurd (far modest);
}

pub a_number : (number d : Decimal) (k : ℤ) (w : Interval) → IsDecOf number (Some d) → IsKept (decimal_interval d k) w → StandsFor number k w
a_number number d k w h kept =
    let same : decimal_interval d k ≡ decimal_interval number k = same_interval d number k h.0.same in
    record {
      here = λ fits. kept.here (subst IsModest (sym same) fits.modest) ∙ same;
      fits = λ modest. record { bounded = λ c form. subst IsBounded (one_form d c number h.0 form) h.1; modest = subst IsModest (kept.back modest ∙ same) modest };
      back = λ modest. kept.back modest ∙ same;
    }

pub zero_stands : (weight : Decimal) (k : ℤ) (w : Interval) → w ≡ zero_interval → StandsFor (product weight zero_decimal) k w
zero_stands weight k w is =
    let same : w ≡ decimal_interval zero_decimal k = is ∙ sym (interval_zero k) in
    a_number (product weight zero_decimal) zero_decimal k w (product_zero weight zero_decimal (times_zero weight), zero_bounded) (record { here = λ _. same; back = λ _. same })
