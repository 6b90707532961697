-- The deviations: quotients by powers of two, and square roots.
use Rattle.std.proofs.Common.{◌≡◌, ℕ, zero, suc, ℤ, pos, negsuc, ◌+◌, ◌*◌, ◌/◌, ◌^◌, ◌≤◌, ◌<◌, unsigned_abs, true, false, nat_lt, arith, ap, sym, ◌∙◌}
use Rattle.std.specs.Int.{int_max}
use Rattle.std.proofs.Math.Nat.{zero-div, mul-le-mul, mul-le-mul_right}
use Rattle.std.proofs.lemmas.Bool.Decides.{nat_tests}
use Rattle.std.proofs.lemmas.Int.{ints, int_max_is, to_z-of_z}
use Rattle.std.proofs.lemmas.Nat.{shl-shr, shr-shr}
use Rattle.whole_numbers.proofs.LeastLaws.{least_below_is}
use Rattle.bounds_report.specs.Printing.{square_root, variance_of}

-- a quotient from which 2^18 was taken out above and below
shifted : (n g : ℕ) → n * 38146972656250000000000 / 2 ^ (42 + g) ≡ n * 10 ^ 28 / 2 ^ (60 + g)
shifted n g =
    let m = n * 38146972656250000000000 in
    let above : n * 10 ^ 28 ≡ m * 2 ^ 18 = omega arith in
    let below : 60 + g ≡ 18 + (42 + g) = omega arith in
    sym (ap (λ a. a / 2 ^ (60 + g)) above ∙ ap (λ k. m * 2 ^ 18 / 2 ^ k) below ∙ sym (shr-shr (m * 2 ^ 18) 18 (42 + g)) ∙ ap (λ a. a / 2 ^ (42 + g)) (shl-shr m 18))

pub variance_is : (g : ℕ) (z : ℤ) (n : ℕ) → n ≡ unsigned_abs (int_max z (pos 0)) → n * 38146972656250000000000 / 2 ^ (42 + g) ≡ variance_of g z
variance_is g (pos r) n e = let same : n ≡ r = omega (arith, ints, int_max_is (pos r) (pos 0)) in rw same (shifted r g)
variance_is g (negsuc r) n e = let none : n ≡ 0 = omega (arith, ints, int_max_is (negsuc r) (pos 0)) in rw none (zero-div (2 ^ (42 + g)))

-- ---- square roots
root_within : (n r : ℕ) → r * r ≤ n → r ≤ n
root_within n zero h = omega arith
root_within n (suc k) h =
    let one : 1 ≤ suc k = omega arith in
    omega (arith, mul-le-mul_right (suc k) one)

passes : (n r : ℕ) → n < (r + 1) * (r + 1) → nat_lt n (suc r * suc r) ≡ true
passes n r h = grind (arith, nat_tests)

fails : (n r j : ℕ) → r * r ≤ n → j < r → nat_lt n (suc j * suc j) ≡ false
fails n r j h l =
    let m : suc j * suc j ≤ r * r = mul-le-mul l l in
    grind (arith, nat_tests)

-- the number whose square is at most n, and whose next square is more
pub square_root_is : (n r : ℕ) → r * r ≤ n → n < (r + 1) * (r + 1) → r ≡ square_root n
square_root_is n r least next =
    sym (least_below_is (suc n) (λ k. nat_lt n (suc k * suc k)) r (omega (arith, root_within n r least)) (passes n r next) (λ j l. fails n r j least l))

pub ruleset variance_rules = (to_z-of_z, variance_is)
