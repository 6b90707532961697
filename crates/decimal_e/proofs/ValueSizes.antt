-- How large the interval of a decimal is: a number of at most m in size, times 10^k, is at most m * 10^k.
use Rattle.std.proofs.Common.{◌≡◌, ℕ, suc, ℤ, pos, negsuc, ◌+ℤ◌, ◌*ℤ◌, ◌≤ℤ◌, ◌+◌, ◌-◌, ◌*◌, ◌^◌, ◌≤◌, unsigned_abs, arith, sym, ap, ◌∙◌}
use Rattle.std.proofs.Math.Nat.{mul-le-mul_right}
use Rattle.std.proofs.Math.Decide.{dec_le}
use Rattle.std.proofs.lemmas.Nat.{pow-add}
use Rattle.std.proofs.lemmas.Int.{ints, unsigned_abs-mul}
use Rattle.whole_numbers.specs.Intervals.{size}
use Rattle.whole_numbers.specs.Scaling.{floor_scaled, ceil_scaled, ten_above, ten_below}
use Rattle.whole_numbers.proofs.Powers.{ten_le, ten_pow_above}
use Rattle.whole_numbers.proofs.Sizes.{floor_small, ceil_small}
use Rattle.decimal_e.specs.Decimals.{Decimal}
use Rattle.decimal_e.specs.Fractions.{IsAtMost}
use Rattle.decimal_e.specs.Scales.{decimal_interval}

-- ---- z * 10^e is at most m in size, so z * 10^(e + k) is at most m * 10^k
size_times : (z : ℤ) (m : ℕ) → unsigned_abs (z *ℤ pos m) ≡ unsigned_abs z * m
size_times z m = unsigned_abs-mul z (pos m)

scaled_up : (z : ℤ) (e k m : ℕ) → unsigned_abs (z *ℤ pos (10 ^ e)) ≤ m → unsigned_abs (z *ℤ pos (10 ^ (e + k))) ≤ m * 10 ^ k
scaled_up z e k m h =
    let p = mul-le-mul_right (10 ^ k) h in
    let q = rw (size_times z (10 ^ e)) at p in
    rw (size_times z (10 ^ (e + k)), pow-add 10 e k) (omega (arith, q))

scaled_over : (z : ℤ) (n j k m : ℕ) → j + n ≡ k → unsigned_abs z ≤ m * 10 ^ n → unsigned_abs (z *ℤ pos (10 ^ j)) ≤ m * 10 ^ k
scaled_over z n j k m e h =
    let p = mul-le-mul_right (10 ^ j) h in
    let s : 10 ^ k ≡ 10 ^ j * 10 ^ n = ap (λ i. 10 ^ i) (sym e) ∙ pow-add 10 j n in
    rw s (omega (arith, unsigned_abs-mul z (pos (10 ^ j)), p))

scaled_under : (z : ℤ) (n i k m : ℕ) → i + k ≡ n → unsigned_abs z ≤ m * 10 ^ n → unsigned_abs z ≤ (m * 10 ^ k) * 10 ^ i
scaled_under z n i k m e h =
    let s : 10 ^ n ≡ 10 ^ i * 10 ^ k = ap (λ j. 10 ^ j) (sym e) ∙ pow-add 10 i k in
    omega (arith, rw s at h)

floor_below : (z : ℤ) (n k m : ℕ) → unsigned_abs z ≤ m * 10 ^ suc n → unsigned_abs (floor_scaled z (negsuc n +ℤ pos k)) ≤ m * 10 ^ k
floor_below z n k m h =
    elim (dec_le (suc n) k) [
      | yes l ↦
          let e : negsuc n +ℤ pos k ≡ pos (k - suc n) = omega (arith, ints) in
          rw e (scaled_over z (suc n) (k - suc n) k m (omega arith) h)
      | no l ↦
          let e : negsuc n +ℤ pos k ≡ negsuc (n - k) = omega (arith, ints) in
          rw e (floor_small z (10 ^ suc (n - k)) (m * 10 ^ k) (ten_pow_above (suc (n - k))) (scaled_under z (suc n) (suc (n - k)) k m (omega arith) h))
    ]

ceil_below : (z : ℤ) (n k m : ℕ) → unsigned_abs z ≤ m * 10 ^ suc n → unsigned_abs (ceil_scaled z (negsuc n +ℤ pos k)) ≤ m * 10 ^ k
ceil_below z n k m h =
    elim (dec_le (suc n) k) [
      | yes l ↦
          let e : negsuc n +ℤ pos k ≡ pos (k - suc n) = omega (arith, ints) in
          rw e (scaled_over z (suc n) (k - suc n) k m (omega arith) h)
      | no l ↦
          let e : negsuc n +ℤ pos k ≡ negsuc (n - k) = omega (arith, ints) in
          rw e (ceil_small z (10 ^ suc (n - k)) (m * 10 ^ k) (ten_pow_above (suc (n - k))) (scaled_under z (suc n) (suc (n - k)) k m (omega arith) h))
    ]

floor_at_most : (z e : ℤ) (k m : ℕ) → unsigned_abs (z *ℤ pos (ten_above e)) ≤ m * ten_below e → unsigned_abs (floor_scaled z (e +ℤ pos k)) ≤ m * 10 ^ k
floor_at_most z (pos n) k m h = scaled_up z n k m (omega (arith, h))
floor_at_most z (negsuc n) k m h = floor_below z n k m (omega (arith, ints, h))

ceil_at_most : (z e : ℤ) (k m : ℕ) → unsigned_abs (z *ℤ pos (ten_above e)) ≤ m * ten_below e → unsigned_abs (ceil_scaled z (e +ℤ pos k)) ≤ m * 10 ^ k
ceil_at_most z (pos n) k m h = scaled_up z n k m (omega (arith, h))
ceil_at_most z (negsuc n) k m h = ceil_below z n k m (omega (arith, ints, h))

-- ---- a value of at most 10^12 in size, up to 10^20 times
pub value_small : (d : Decimal) (k : ℤ) → IsAtMost (10 ^ 12) d → pos 0 ≤ℤ k → k ≤ℤ pos 20 → size (decimal_interval d k) ≤ 10 ^ 32
value_small d (pos k) h l m =
    let t = ten_le k 20 (omega (arith, ints)) in
    let f = floor_at_most d.mant d.exp k (10 ^ 12) h in
    let c = ceil_at_most d.mant d.exp k (10 ^ 12) h in
    omega (arith, t, f, c)
value_small d (negsuc k) h l m = absurd (omega (arith, ints))
