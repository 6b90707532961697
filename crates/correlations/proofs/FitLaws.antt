-- Products that fit.
use Rattle.std.proofs.Common.{◌≡◌, ◌≤◌, ◌^◌, ◌∙◌, ℕ, ℤ, ◌+ℤ◌, Option, Some, None, SomeIff, sym, ap, subst}
use Rattle.std.specs.Option.{MatchOption}
use Rattle.whole_numbers.specs.Intervals.{Interval, size}
use Rattle.decimal_e.specs.Decimals.{Decimal}
use Rattle.correlations.specs.Correlations.{HasDigits}
use Rattle.correlations.specs.Parts.{IsFitting, IsFittingEntry, times_both}
use Rattle.correlations.proofs.DigitLaws.{digits_alone}

-- a product is that of the digits that its decimals have
pub fitting_is : (c : Interval) (s t : Decimal) (power : ℤ) (w : Interval) (m n : ℕ) (k l : ℤ) → HasDigits s m k → HasDigits t n l → IsFitting c s t power w → w ≡ times_both m n (k +ℤ l +ℤ power) c
fitting_is c s t power w m n k l one other fits =
    let a = digits_alone s fits.m m fits.k k fits.one one in
    let b = digits_alone t fits.n n fits.l l fits.other other in
    fits.is
    ∙ ap (λ x. times_both x fits.n (fits.k +ℤ fits.l +ℤ power) c) a.0
    ∙ ap (λ y. times_both m y (fits.k +ℤ fits.l +ℤ power) c) b.0
    ∙ ap (λ x. times_both m n (x +ℤ fits.l +ℤ power) c) a.1
    ∙ ap (λ y. times_both m n (k +ℤ y +ℤ power) c) b.1

pub product_answer : (r : Option Interval) (c : Interval) (s t : Decimal) (power p : ℤ) (m n : ℕ) (k l : ℤ) → size c ≤ 10 ^ 18 → HasDigits s m k → HasDigits t n l → p ≡ k +ℤ l +ℤ power
    → SomeIff r (size (times_both m n p c) ≤ 10 ^ 34) (times_both m n p c) → MatchOption r ((w : Interval) → IsFitting c s t power w → ⊥) (IsFitting c s t power)
product_answer (Some w) c s t power p m n k l small one other sum h =
    let is : w ≡ times_both m n (k +ℤ l +ℤ power) c = h.1 ∙ ap (λ x. times_both m n x c) sum in
    record { correlation = small; m = m; k = k; n = n; l = l; one = one; other = other; is = is; modest = subst (λ v. size v ≤ 10 ^ 34) (sym h.1) h.0 }
product_answer None c s t power p m n k l small one other sum h = λ w fits.
    h (subst (λ v. size v ≤ 10 ^ 34) (fitting_is c s t power w m n k l one other fits ∙ ap (λ x. times_both m n x c) (sym sum)) fits.modest)

same_decimal : (one : Option Decimal) (s x : Decimal) → one ≡ Some s → one ≡ Some x → x ≡ s
same_decimal one s x is at = let e : Some x ≡ Some s = sym at ∙ is in cc

pub entry_answer : (r : Option Interval) (c : Interval) (one other : Option Decimal) (s t : Decimal) (power p : ℤ) → one ≡ Some s → other ≡ Some t → p ≡ power
    → MatchOption r ((w : Interval) → IsFitting c s t p w → ⊥) (IsFitting c s t p) → MatchOption r ((w : Interval) → IsFittingEntry c one other power w → ⊥) (IsFittingEntry c one other power)
entry_answer (Some w) c one other s t power p s_is t_is same h = record { s = s; t = t; s_is = s_is; t_is = t_is; fits = subst (λ k. IsFitting c s t k w) same h }
entry_answer None c one other s t power p s_is t_is same h = λ w fits.
    h w (subst (λ k. IsFitting c s t k w) (sym same) (subst (λ y. IsFitting c s y power w) (same_decimal other t fits.t t_is fits.t_is) (subst (λ x. IsFitting c x fits.t power w) (same_decimal one s fits.s s_is fits.s_is) fits.fits)))
