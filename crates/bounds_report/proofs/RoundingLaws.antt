-- Rounding to 15 digits.
use Rattle.std.proofs.Common.{◌≡◌, ℕ, ℤ, pos, negsuc, neg_ℤ, ◌≤ℤ◌, ◌<ℤ◌, ◌+◌, ◌*◌, ◌/◌, ◌^◌, ◌≤◌, unsigned_abs, true, nat_lt, arith, ap, ◌∙◌}
use Rattle.std.proofs.Math.Nat.{div-mul-le_self}
use Rattle.std.proofs.lemmas.Int.{ints}
use Rattle.std.proofs.lemmas.Bool.Decides.{nat_tests}
use Rattle.whole_numbers.specs.Least.{least_below}
use Rattle.whole_numbers.proofs.Powers.{ten_le, ten_pow_above}
use Rattle.bounds_report.specs.Digits.{rounded_at, to_15_digits}

pub ruleset ten_rules = (ten_le, ten_pow_above)

-- a number of at most 38 digits has 15 before its last 23
pub digits_last : (n k : ℕ) → n ≤ 10 ^ 37 → 23 ≤ k → k ≤ 23 → nat_lt n (10 ^ (15 + k)) ≡ true
digits_last n k h l m = let e : k ≡ 23 = omega arith in rw e (grind (arith, nat_tests))

pub rounded_small : (n k : ℕ) → n ≤ 10 ^ 37 → k ≤ 23 → (n + 10 ^ k / 2) / 10 ^ k * 10 ^ k ≤ n + 10 ^ k / 2
rounded_small n k h l = div-mul-le_self (n + 10 ^ k / 2) (10 ^ k)

pub ten_small : (k : ℕ) → k ≤ 23 → 10 ^ k ≤ 10 ^ 23
ten_small k h = ten_le k 23 h

pub ruleset rounded_rules = (rounded_small, ten_small)

-- ---- the sign
pub rounded_up : (v : ℤ) (k n : ℕ) → pos 0 ≤ℤ v → k ≡ least_below 40 (λ j. nat_lt (unsigned_abs v) (10 ^ (15 + j))) → n ≡ (unsigned_abs v + 10 ^ k / 2) / 10 ^ k * 10 ^ k → pos n ≡ to_15_digits v
rounded_up (pos a) k n h e d = ap (λ x. pos x) d ∙ ap (λ j. rounded_at j (pos a)) e
rounded_up (negsuc a) k n h e d = absurd (omega (arith, ints))

pub rounded_down : (v : ℤ) (k n : ℕ) → v <ℤ pos 0 → k ≡ least_below 40 (λ j. nat_lt (unsigned_abs v) (10 ^ (15 + j))) → n ≡ (unsigned_abs v + 10 ^ k / 2) / 10 ^ k * 10 ^ k → neg_ℤ (pos n) ≡ to_15_digits v
rounded_down (pos a) k n h e d = absurd (omega (arith, ints))
rounded_down (negsuc a) k n h e d = ap (λ x. neg_ℤ (pos x)) d ∙ ap (λ j. rounded_at j (negsuc a)) e
