-- Values and units that do not differ are equal.
use Rattle.std.proofs.Common.{◌≡◌, ◌≢◌, ℕ, Bool, true, false, List, refl, ap}
use Rattle.std.specs.Str.{bytes_eq}
use Rattle.std.proofs.Math.IntN.{ℤ_discrete}
use Rattle.std.proofs.lemmas.Slice.Eq.{bytes_eq-Decides}
use Rattle.decimal_e.specs.Decimals.{Decimal}

same_decimal : (a b : Decimal) → a.mant ≡ b.mant → a.exp ≡ b.exp → a ≡ b
same_decimal a b mant exp = λ i. record { mant = mant i; exp = exp i }

pub equal_value : (a b : Decimal) → ¬ (a ≢ b) → a ≡ b
equal_value a b none =
    elim (ℤ_discrete a.mant b.mant) [
      | yes p ↦ elim (ℤ_discrete a.exp b.exp) [ yes q ↦ same_decimal a b p q | no q ↦ absurd (none (λ e. q (ap (λ (d : Decimal). d.exp) e))) ]
      | no p ↦ absurd (none (λ e. p (ap (λ (d : Decimal). d.mant) e)))
    ]

pub equal_unit : (a b : List ℕ) → ¬ (a ≢ b) → a ≡ b
equal_unit a b none = by_test (bytes_eq a b) refl
  where
    by_test : (same : Bool) → bytes_eq a b ≡ same → a ≡ b
    by_test true e = (bytes_eq-Decides a b).0 e
    by_test false e = absurd (none (λ same. let f = (bytes_eq-Decides a b).1 same in absurd (cc)))
