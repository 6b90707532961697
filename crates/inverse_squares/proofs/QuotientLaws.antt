-- The whole numbers next to a quotient.
use Rattle.std.proofs.Common.{◌≡◌, ℕ, ℤ, pos, negsuc, ◌≤ℤ◌, ◌<ℤ◌, ◌*◌, ◌≤◌, ◌<◌, ◌^◌, unsigned_abs, refl, arith}
use Rattle.std.proofs.lemmas.Int.{ints, to_z-of_z, unsigned_abs-mul}
use Rattle.std.proofs.Math.Nat.{mul-pos}
use Rattle.whole_numbers.specs.Quotients.{floor_over, ceil_over}
use Rattle.whole_numbers.specs.Scaling.{floor_scaled}
use Rattle.whole_numbers.proofs.Division.{floor_le_ceil, floor_over_is, ceil_over_is}
use Rattle.whole_numbers.proofs.Powers.{ten_pow_above}
use Rattle.inverse_squares.specs.Quotients.{quotient}

pub quotient_ordered : (x den : ℤ) → pos 0 <ℤ den → floor_over x (unsigned_abs den) ≤ℤ ceil_over x (unsigned_abs den)
quotient_ordered x den some = floor_le_ceil x x (unsigned_abs den) (omega (arith, ints)) (omega (arith, ints))

pub ruleset next_rules = (to_z-of_z, quotient_ordered)

-- next to a fraction between -1 and 0, and between 0 and 1
pub quotient_below : (h : ℤ) (den : ℕ) → h <ℤ pos 0 → unsigned_abs h < den → record { lo = negsuc 0; hi = pos 0 } ≡ quotient h den
quotient_below h den below small =
    let f = floor_over_is h den (negsuc 0) (omega arith) (omega (arith, ints)) (omega (arith, ints)) in
    let c = ceil_over_is h den (pos 0) (omega arith) (omega (arith, ints)) (omega (arith, ints)) in
    rw (f, c) refl

pub quotient_above : (h : ℤ) (den : ℕ) → pos 0 <ℤ h → unsigned_abs h < den → record { lo = pos 0; hi = pos 1 } ≡ quotient h den
quotient_above h den above small =
    let f = floor_over_is h den (pos 0) (omega arith) (omega (arith, ints)) (omega (arith, ints)) in
    let c = ceil_over_is h den (pos 1) (omega arith) (omega (arith, ints)) (omega (arith, ints)) in
    rw (f, c) refl

-- a number above 0 times a power of ten
pub raised_some : (den k : ℤ) → pos 0 <ℤ den → pos 0 ≤ℤ k → pos 0 <ℤ floor_scaled den k
raised_some (pos d) (pos k) some up = let p = mul-pos {m = d} {n = 10 ^ k} (omega (arith, ints)) (ten_pow_above k) in omega (arith, ints, p)
raised_some (pos d) (negsuc k) some up = absurd (omega (arith, ints))
raised_some (negsuc d) k some up = absurd (omega (arith, ints))

pub raised_past : (den k : ℤ) → pos 0 ≤ℤ k → ¬ (unsigned_abs (floor_scaled den k) ≤ 10 ^ 37) → 10 ^ 37 < unsigned_abs den * 10 ^ unsigned_abs k
raised_past den (pos k) up past = omega (arith, unsigned_abs-mul den (pos (10 ^ k)), past)
raised_past den (negsuc k) up past = absurd (omega (arith, ints))
