-- What the calls answer, within the limit.
use Rattle.std.proofs.Common.{◌≡◌, ℕ, suc, ℤ, pos, negsuc, neg_ℤ, ◌*ℤ◌, ◌<ℤ◌, ◌-◌, ◌*◌, ◌≤◌, ◌<◌, ◌^◌, Option, Some, SomeIff, unsigned_abs, refl, sym, subst, arith}
use Rattle.std.proofs.lemmas.Int.{ints}
use Rattle.std.proofs.Math.Nat.{mul-pos}
use Rattle.whole_numbers.specs.Intervals.{Interval, size}
use Rattle.whole_numbers.specs.Scaling.{interval_scale10}
use Rattle.whole_numbers.proofs.Powers.{ten_pow_above}
use Rattle.whole_numbers.proofs.Sizes.{quotient_small}
use Rattle.inverse_squares.specs.Quotients.{quotient, AreTensFor, IsTimesTens}

-- a quotient is no greater than what is divided
pub size_quotient : (h : ℤ) (m : ℕ) → 0 < m → size (quotient h m) ≤ unsigned_abs h
size_quotient h m some =
    let f = quotient_small h m some in
    let c = quotient_small (neg_ℤ h) m some in
    omega (arith, ints, f, c)

-- the interval of h / den * 10^power, if it is within the limit
abbrev pub Answers : ℤ → ℤ → ℤ → Option Interval → Type 0
Answers h den power r = (w : Interval) × IsTimesTens h (unsigned_abs den) power w × SomeIff r (size w ≤ 10 ^ 37) w

pub answers_below : (h den power : ℤ) (tens : ℕ) (r : Option Interval) → pos 0 <ℤ den → unsigned_abs h ≤ 10 ^ 24 → power <ℤ pos 0
    → r ≡ Some (quotient h (unsigned_abs den * 10 ^ tens)) → tens ≡ unsigned_abs power → Answers h den power r
answers_below h den (pos k) tens r some few below e is = absurd (omega (arith, ints))
answers_below h den (negsuc k) tens r some few below e is =
    let d : 0 < unsigned_abs den = omega (arith, ints) in
    let q = quotient h (unsigned_abs den * 10 ^ suc k) in
    let s = size_quotient h (unsigned_abs den * 10 ^ suc k) (mul-pos d (ten_pow_above (suc k))) in
    let same : r ≡ Some q = rw is at e in
    (q, refl, subst (λ r. SomeIff r (size q ≤ 10 ^ 37) q) (sym same) (omega (arith, s), refl))

pub answers_above : (h den k x t : ℤ) (power tens : ℕ) (w : Interval) (r : Option Interval) → AreTensFor h power tens → t ≡ pos (10 ^ tens) → x ≡ h *ℤ t
    → w ≡ quotient x (unsigned_abs den) → SomeIff r (size (interval_scale10 w k) ≤ 10 ^ 37) (interval_scale10 w k) → k ≡ pos (power - tens) → Answers h den (pos power) r
answers_above h den k x t power tens w r are ten product next scaled rest = (interval_scale10 w k, (tens, are, rw (next, product, ten, rest) refl), scaled)
