-- Decimals of at most 1 in size, and their intervals at 10^18.
use Rattle.std.proofs.Common.{◌≡◌, ◌≤◌, ◌<◌, ◌*◌, ◌^◌, ℕ, suc, ℤ, pos, negsuc, ◌+ℤ◌, ◌*ℤ◌, unsigned_abs, max, ap, arith}
use Rattle.std.proofs.Math.Nat.{mul-le-mul_right, le_of_mul-le-mul_left}
use Rattle.std.proofs.lemmas.Int.{unsigned_abs-mul}
use Rattle.whole_numbers.specs.Intervals.{size}
use Rattle.whole_numbers.specs.Scaling.{floor_scaled, ceil_scaled, ten_above, ten_below}
use Rattle.whole_numbers.proofs.IntervalLaws.{holds_size}
use Rattle.whole_numbers.proofs.Powers.{ten_pow_above}
use Rattle.whole_numbers.proofs.Sizes.{floor_small, ceil_small}
use Rattle.decimal_e.specs.Decimals.{Decimal}
use Rattle.decimal_e.specs.Fractions.{IsAtMost}
use Rattle.decimal_e.specs.Scales.{decimal_interval}
use Rattle.decimal_e.proofs.Values.{holds_word}
use Rattle.sys_model.proofs.ScalingLaws.{ten_sum, ten_below_some}

-- an interval over a power of ten
lowered : (z : ℤ) (k n : ℕ) → unsigned_abs z ≤ n * 10 ^ suc k → max (unsigned_abs (floor_scaled z (negsuc k))) (unsigned_abs (ceil_scaled z (negsuc k))) ≤ n
lowered z k n h =
    let some = ten_pow_above (suc k) in
    let lo = floor_small z (10 ^ suc k) n some h in
    let hi = ceil_small z (10 ^ suc k) n some h in
    omega (arith, lo, hi)

raised : (z : ℤ) (k n : ℕ) → unsigned_abs z * 10 ^ k ≤ n → max (unsigned_abs (floor_scaled z (pos k))) (unsigned_abs (ceil_scaled z (pos k))) ≤ n
raised z k n h = let p = unsigned_abs-mul z (pos (10 ^ k)) in omega (arith, p)

-- both ends of z * 10^e are small where z * 10^e is
ends_small : (z e : ℤ) (n : ℕ) → unsigned_abs z * ten_above e ≤ n * ten_below e → max (unsigned_abs (floor_scaled z e)) (unsigned_abs (ceil_scaled z e)) ≤ n
ends_small z (pos k) n h = raised z k n (omega (arith, h))
ends_small z (negsuc k) n h = lowered z k n (omega (arith, h))

-- |m| * 10^e is at most 1 where |m| * 10^(e + 18) is at most 10^18, and back
crossed : (a A B C D : ℕ) → 0 < D → (A * 10 ^ 18) * D ≡ C * (B * 1) → a * C ≤ 10 ^ 18 * D → a * A ≤ 1 * B
crossed a A B C D some tens h =
    let p = mul-le-mul_right B h in
    let t = ap (λ x. a * x) tens in
    let left : (10 ^ 18 * D) * (a * A) ≤ (10 ^ 18 * D) * (1 * B) = omega (arith, p, t) in
    le_of_mul-le-mul_left {k = 10 ^ 18 * D} left (omega (arith, some))

back : (a A B C D : ℕ) → 0 < B → (A * 10 ^ 18) * D ≡ C * (B * 1) → a * A ≤ 1 * B → a * C ≤ 10 ^ 18 * D
back a A B C D some tens h =
    let p = mul-le-mul_right (10 ^ 18 * D) h in
    let t = ap (λ x. a * x) tens in
    le_of_mul-le-mul_left {k = B} (omega (arith, p, t)) some

-- a decimal is at most 1 in size exactly where its interval at 10^18 is at most 10^18
pub at_most_one : (r : Decimal) → size (decimal_interval r (pos 18)) ≤ 10 ^ 18 → IsAtMost 1 r
at_most_one r h =
    let e = r.exp +ℤ pos 18 in
    let held = holds_size (decimal_interval r (pos 18)) (r.mant *ℤ pos (ten_above e)) (ten_below e) (holds_word r (pos 18)) in
    let most = mul-le-mul_right (ten_below e) h in
    let parts = unsigned_abs-mul r.mant (pos (ten_above e)) in
    let all = crossed (unsigned_abs r.mant) (ten_above r.exp) (ten_below r.exp) (ten_above e) (ten_below e) (ten_below_some e) (ten_sum r.exp (pos 18)) (omega (arith, held, most, parts)) in
    let whole = unsigned_abs-mul r.mant (pos (ten_above r.exp)) in
    omega (arith, all, whole)

pub small_interval : (r : Decimal) → IsAtMost 1 r → size (decimal_interval r (pos 18)) ≤ 10 ^ 18
small_interval r h =
    let e = r.exp +ℤ pos 18 in
    let whole = unsigned_abs-mul r.mant (pos (ten_above r.exp)) in
    ends_small r.mant e (10 ^ 18) (back (unsigned_abs r.mant) (ten_above r.exp) (ten_below r.exp) (ten_above e) (ten_below e) (ten_below_some r.exp) (ten_sum r.exp (pos 18)) (omega (arith, h, whole)))
