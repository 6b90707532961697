-- Powers of 100 near a number.
use Rattle.std.proofs.Common.{◌≡◌, ◌≤◌, ◌<◌, ◌+◌, ◌*◌, ◌-◌, ◌/◌, ◌^◌, ℕ, zero, suc, ℤ, pos, negsuc, neg_ℤ, ◌≤ℤ◌, ◌<ℤ◌, arith, refl, sym, ap, ◌∙◌, unsigned_abs}
use Rattle.std.proofs.Math.Decide.{dec_lt}
use Rattle.std.proofs.Math.Nat.{pow-le-pow_right, mul-le-mul_left, mul-le-mul_right}
use Rattle.std.proofs.lemmas.Grind.{pow_more, div_ceil_times}
use Rattle.std.proofs.lemmas.Int.{ints}
use Rattle.whole_numbers.specs.Quotients.{up_over}
use Rattle.stated_order.proofs.FirstLaws.{neither_less}
use Rattle.equil.specs.Exponents.{IsNearTop, IsExponent}

hundred_le : (a b : ℕ) → a ≤ b → 100 ^ a ≤ 100 ^ b
hundred_le a b h = pow-le-pow_right {n = 100} (omega arith) h

-- what `divisions` keeps: `rest` is h / 100^k rounded up, and h is above 2^60 / 100 at that power
pub record Divided (h rest k : ℕ) : Type 0 where
  pub above : 2 ^ 60 * 100 ^ k < 100 * h
  pub most : h ≤ rest * 100 ^ k
  pub least : rest * 100 ^ k < h + 100 ^ k

pub divided_first : (h : ℕ) → 2 ^ 60 < 100 * h → Divided h h 0
divided_first h l = record { above = omega arith; most = omega arith; least = omega arith }

next_bounds : (h rest r k p : ℕ) → rest * p < h + p → h ≤ rest * p → rest ≤ r * 100 → r * 100 < rest + 100 → 2 ^ 60 < rest → 0 < p → (2 ^ 60 * (p * 100) < 100 * h) × (h ≤ r * (p * 100)) × (r * (p * 100) < h + p * 100)
next_bounds h rest r k p least most u v big some =
    let a = mul-le-mul_right p u in
    let b : r * 100 + 1 ≤ rest + 100 = omega arith in
    let c = mul-le-mul_right p b in
    let d : 2 ^ 60 + 1 ≤ rest = omega arith in
    let e = mul-le-mul_right p d in
    (omega (arith, e), omega (arith, a), omega (arith, c))

pub divided_next : (h rest r k : ℕ) → Divided h rest k → 2 ^ 60 < rest → r ≡ up_over rest 100 → Divided h r (k + 1)
divided_next h rest r k d big e =
    let u = div_ceil_times rest 100 (omega arith) in
    let p = hundred_le 0 k (omega arith) in
    let n = next_bounds h rest r k (100 ^ k) d.least d.most (omega (arith, u, e)) (omega (arith, u, e)) big (omega arith) in
    let m = pow_more 100 k in
    record { above = rw m n.0; most = rw m n.1; least = rw m n.2 }

pub divided_few : (h rest k : ℕ) → Divided h rest k → h < 2 ^ 127 → k ≤ 11
divided_few h rest k d few =
    elim (dec_lt 11 k) [
      | yes l ↦ let p = hundred_le 12 k l in let q = d.above in absurd (omega arith)
      | no l ↦ omega arith
    ]

-- what `products` keeps
pub record Multiplied (h rest k : ℕ) : Type 0 where
  pub is : rest ≡ h * 100 ^ k
  pub most : rest ≤ 2 ^ 60

pub multiplied_few : (h rest k : ℕ) → 0 < h → Multiplied h rest k → k ≤ 9
multiplied_few h rest k some d =
    elim (dec_lt 9 k) [
      | yes l ↦ let p = hundred_le 10 k l in let q = mul-le-mul_left h p in let t = mul-le-mul_right (100 ^ 10) some in absurd (omega (arith, d.is, d.most))
      | no l ↦ omega arith
    ]

pub multiplied_next : (h rest k : ℕ) → Multiplied h rest k → rest ≤ 2 ^ 60 / 100 → Multiplied h (rest * 100) (k + 1)
multiplied_next h rest k d small =
    let m = pow_more 100 k in
    let e : rest * 100 ≡ h * (100 ^ k * 100) = let t = ap (λ x. x * 100) d.is in omega (arith, t) in
    record { is = rw m e; most = omega arith }

pub multiplied_smaller : (h rest k : ℕ) → 0 < h → Multiplied h rest k → rest ≤ 2 ^ 60 / 100 → 2 ^ 60 - rest * 100 < 2 ^ 60 - rest
multiplied_smaller h rest k some d small =
    let p = hundred_le 0 k (omega arith) in
    let q = mul-le-mul_right (100 ^ k) some in
    omega (arith, d.is, q)

pub exponent_none : (hi : ℤ) → hi ≤ℤ pos 0 → IsExponent hi (pos 0)
exponent_none (pos zero) h = refl
exponent_none (pos (suc n)) h = absurd (omega (arith, ints))
exponent_none (negsuc n) h = refl

pub exponent_up : (hi : ℤ) (k : ℕ) → pos 0 <ℤ hi → 2 ^ 60 * 100 ^ k < 100 * unsigned_abs hi → unsigned_abs hi ≤ 2 ^ 60 * 100 ^ k → IsExponent hi (pos k)
exponent_up (pos zero) k some above below = absurd (omega (arith, ints))
exponent_up (pos (suc n)) k some above below = (above, below)
exponent_up (negsuc n) k some above below = absurd (omega (arith, ints))

pub exponent_down : (hi : ℤ) (k : ℕ) → pos 0 <ℤ hi → unsigned_abs hi ≤ 2 ^ 60 / 100 → 2 ^ 60 < 100 * (unsigned_abs hi * 100 ^ k) → unsigned_abs hi * 100 ^ k ≤ 2 ^ 60 → IsExponent hi (neg_ℤ (pos k))
exponent_down (pos zero) k some small above below = absurd (omega (arith, ints))
exponent_down (pos (suc n)) zero some small above below = absurd (omega arith)
exponent_down (pos (suc n)) (suc k) some small above below = (above, below)
exponent_down (negsuc n) k some small above below = absurd (omega (arith, ints))

-- ---- there is one exponent
apart_up : (h k l : ℕ) → k < l → 2 ^ 60 * 100 ^ l < 100 * h → h ≤ 2 ^ 60 * 100 ^ k → ⊥
apart_up h k l lt above below = let p = hundred_le (k + 1) l (omega arith) in let m = pow_more 100 k in omega (arith, p, m)

apart_down : (h k l : ℕ) → k < l → 2 ^ 60 < 100 * (h * 100 ^ k) → h * 100 ^ l ≤ 2 ^ 60 → ⊥
apart_down h k l lt above below =
    let p = mul-le-mul_left h (hundred_le (k + 1) l (omega arith)) in
    let m = ap (λ x. h * x) (pow_more 100 k) in
    omega (arith, p, m)

apart_sides : (h k l : ℕ) → 2 ^ 60 * 100 ^ k < 100 * h → h * 100 ^ suc l ≤ 2 ^ 60 → ⊥
apart_sides h k l above below =
    let p = hundred_le 0 k (omega arith) in
    let q = mul-le-mul_left h (hundred_le 1 (suc l) (omega arith)) in
    omega (arith, p, q)

near_top_one : (h : ℕ) (e f : ℤ) → IsNearTop h e → IsNearTop h f → e ≡ f
near_top_one h (pos k) (pos l) p q = ap pos (neither_less k l (λ lt. apart_up h k l lt q.0 p.1) (λ lt. apart_up h l k lt p.0 q.1))
near_top_one h (pos k) (negsuc l) p q = absurd (apart_sides h k l p.0 q.1)
near_top_one h (negsuc k) (pos l) p q = absurd (apart_sides h l k q.0 p.1)
near_top_one h (negsuc k) (negsuc l) p q = ap negsuc (neither_less k l (λ lt. apart_down h (suc k) (suc l) (omega arith) p.0 q.1) (λ lt. apart_down h (suc l) (suc k) (omega arith) q.0 p.1))

pub exponent_one : (hi e f : ℤ) → IsExponent hi e → IsExponent hi f → e ≡ f
exponent_one (pos zero) e f p q = p ∙ sym q
exponent_one (pos (suc n)) e f p q = near_top_one (suc n) e f p q
exponent_one (negsuc n) e f p q = p ∙ sym q
