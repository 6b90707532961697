-- When a value is below a power of ten in size.
use Rattle.std.proofs.Common.{◌≡◌, ◌<◌, ◌≤◌, ◌*◌, ◌^◌, ℕ, zero, suc, ℤ, pos, negsuc, ◌≤ℤ◌, true, nat_eq, nat_lt, lit<, arith}
use Rattle.std.proofs.Math.Nat.{pow-le-pow_right}
use Rattle.std.proofs.lemmas.Bool.Decides.{nat_tests}
use Rattle.whole_numbers.proofs.Powers.{ten_pow_above}
use Rattle.whole_numbers.specs.Scaling.{ten_above, ten_below}

-- what is below 10^36 is below each greater power
pub below_greater : (m k : ℕ) → m < 10 ^ 36 → 36 ≤ k → true ≡ nat_lt m (10 ^ k)
below_greater m k h above =
    let grows : 10 ^ 36 ≤ 10 ^ k = pow-le-pow_right (lit< tt) above in
    let lt : m < 10 ^ k = omega arith in
    grind (arith, nat_tests)

-- a whole number times a power of ten that is no fraction is below one where it is zero
pub below_one : (m : ℕ) (e : ℤ) → pos 0 ≤ℤ e → nat_eq m 0 ≡ nat_lt (m * ten_above e) (ten_below e)
below_one zero (pos k) h = grind (arith, nat_tests)
below_one (suc m) (pos k) h =
    let above : 0 < suc m * 10 ^ k = grind (arith, ten_pow_above k) in
    grind (arith, nat_tests)
below_one m (negsuc k) h = absurd (omega arith)
