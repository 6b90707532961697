-- How large the terms of the estimate are.
use Rattle.std.proofs.Common.{ℕ, suc, ℤ, pos, negsuc, ◌*ℤ◌, ◌≤ℤ◌, ◌*◌, ◌^◌, ◌≤◌, unsigned_abs, arith}
use Rattle.std.proofs.Math.Nat.{mul-le-mul}
use Rattle.std.proofs.lemmas.Int.{ints, to_z-of_z, unsigned_abs-mul}
use Rattle.whole_numbers.specs.Scaling.{floor_scaled}
use Rattle.whole_numbers.proofs.Powers.{ten_le, ten_pow_above}
use Rattle.whole_numbers.proofs.Sizes.{quotient_small}
use Rattle.decimal_e.proofs.SizeLaws.{ends_ordered}
use Rattle.decimal_e.proofs.ValueSizes.{value_small}

-- ---- the estimate in units of 10^-16
raised_small : (y : ℤ) (k : ℕ) → unsigned_abs y ≤ 2 ^ 64 → k ≤ 17 → unsigned_abs (y *ℤ pos (10 ^ k)) ≤ 2 ^ 64 * 10 ^ 17
raised_small y k h l =
    let p = mul-le-mul h (ten_le k 17 l) in
    omega (arith, unsigned_abs-mul y (pos (10 ^ k)), p)

pub term_small : (y z : ℤ) → unsigned_abs y ≤ 2 ^ 64 → z ≤ℤ pos 17 → unsigned_abs (floor_scaled y z) ≤ 2 ^ 64 * 10 ^ 17
term_small y (pos k) h l = raised_small y k h (omega (arith, ints))
term_small y (negsuc k) h l = let t = quotient_small y (10 ^ suc k) (ten_pow_above (suc k)) in omega (arith, t)

pub ruleset interval_rules = (to_z-of_z, ends_ordered, value_small)

pub ruleset middle_rules = (to_z-of_z, term_small)
