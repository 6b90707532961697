-- Fractions times powers of ten: products, sums, and what intervals hold of them.
use Rattle.std.proofs.Common.{◌≡◌, ◌+◌, ◌*◌, ◌^◌, ◌≤◌, ◌<◌, ◌∙◌, ℕ, zero, suc, ℤ, pos, negsuc, neg_ℤ, ◌+ℤ◌, ◌*ℤ◌, unsigned_abs, arith, sym, ap, subst}
use Rattle.std.proofs.Math.IntN.{◌-ℤ◌, zero-*ℤ}
use Rattle.std.proofs.Math.Nat.{mul-pos}
use Rattle.std.proofs.lemmas.Int.{ints}
use Rattle.std.proofs.lemmas.Nat.{pow-add}
use Rattle.whole_numbers.specs.Sum.{sum_to}
use Rattle.whole_numbers.specs.Intervals.{Interval, Holds}
use Rattle.whole_numbers.specs.Scaling.{interval_scale10, ten_above, ten_below}
use Rattle.whole_numbers.proofs.EqualFractions.{products_apart, same_from_product, holds_same}
use Rattle.whole_numbers.proofs.Powers.{ten_pow_above}
use Rattle.whole_numbers.proofs.Ring.{ring, *ℤ_assoc, *ℤ_right_comm, +ℤ-*ℤ}
use Rattle.whole_numbers.proofs.Scaled.{holds_raised, holds_lowered}
use Rattle.sys_model.specs.Scaling.{TimesPower, HoldsTimes}

-- ---- powers of ten with a sign
pub ten_above_some : (k : ℤ) → 0 < ten_above k
ten_above_some (pos n) = ten_pow_above n
ten_above_some (negsuc n) = omega arith

pub ten_below_some : (k : ℤ) → 0 < ten_below k
ten_below_some (pos n) = omega arith
ten_below_some (negsuc n) = ten_pow_above (suc n)

-- 10^k = 10^u / 10^v where k = u - v
pub ten_apart : (k : ℤ) (u v : ℕ) → k ≡ pos u -ℤ pos v → ten_above k * 10 ^ v ≡ 10 ^ u * ten_below k
ten_apart (pos n) u v e = let s : u ≡ n + v = omega (arith, ints) in let p = ap (λ z. 10 ^ z) s ∙ pow-add 10 n v in omega (arith, p)
ten_apart (negsuc n) u v e = let s : v ≡ u + suc n = omega (arith, ints) in let p = ap (λ z. 10 ^ z) s ∙ pow-add 10 u (suc n) in omega (arith, p)

-- 10^u times 10^v is 10^(u + v)
pub ten_sum : (u v : ℤ) → (ten_above u * ten_above v) * ten_below (u +ℤ v) ≡ ten_above (u +ℤ v) * (ten_below u * ten_below v)
ten_sum (pos a) (pos b) = omega (arith, pow-add 10 a b)
ten_sum (pos a) (negsuc b) = omega (arith, ten_apart (pos a +ℤ negsuc b) a (suc b) (omega (arith, ints)))
ten_sum (negsuc a) (pos b) = omega (arith, ten_apart (negsuc a +ℤ pos b) b (suc a) (omega (arith, ints)))
ten_sum (negsuc a) (negsuc b) = omega (arith, ten_apart (negsuc a +ℤ negsuc b) 0 (suc a + suc b) (omega (arith, ints)), pow-add 10 (suc a) (suc b))

-- ---- fractions
-- two naturals after a number, taken together
gathered : (x : ℤ) (a b : ℕ) → (x *ℤ pos a) *ℤ pos b ≡ x *ℤ pos (a * b)
gathered x a b = *ℤ_assoc x (pos a) (pos b)

-- the product of two fractions, each times a power
pub times_product : (x y u v : ℤ) (q r p s : ℕ) (k l : ℤ) → TimesPower x q k y r → TimesPower u p l v s → TimesPower (x *ℤ u) (q * p) (k +ℤ l) (y *ℤ v) (r * s)
times_product x y u v q r p s k l h g =
    let A = ten_above (k +ℤ l) in
    let B = ten_below (k +ℤ l) in
    let t = ten_sum k l in
    let left : ((q * p) * B) * (ten_above k * ten_above l) ≡ ((q * ten_below k) * (p * ten_below l)) * A = let f = ap (λ z. (q * p) * z) t in omega (arith, f) in
    let right : ((r * ten_above k) * (s * ten_above l)) * A ≡ ((r * s) * A) * (ten_above k * ten_above l) = omega arith in
    let both : (y *ℤ v) *ℤ pos ((q * ten_below k) * (p * ten_below l)) ≡ (x *ℤ u) *ℤ pos ((r * ten_above k) * (s * ten_above l)) =
    sym (products_apart y v (q * ten_below k) (p * ten_below l)) ∙ ap (λ z. z *ℤ (v *ℤ pos (p * ten_below l))) h ∙ ap (λ z. (x *ℤ pos (r * ten_above k)) *ℤ z) g ∙ products_apart x u (r * ten_above k) (s * ten_above l) in
    same_from_product ((y *ℤ v) *ℤ pos ((q * p) * B)) ((x *ℤ u) *ℤ pos ((r * s) * A)) (ten_above k * ten_above l) (mul-pos (ten_above_some k) (ten_above_some l))
    (gathered (y *ℤ v) ((q * p) * B) (ten_above k * ten_above l)
    ∙ ap (λ z. (y *ℤ v) *ℤ pos z) left
    ∙ sym (gathered (y *ℤ v) ((q * ten_below k) * (p * ten_below l)) A)
    ∙ ap (λ z. z *ℤ pos A) both
    ∙ gathered (x *ℤ u) ((r * ten_above k) * (s * ten_above l)) A
    ∙ ap (λ z. (x *ℤ u) *ℤ pos z) right
    ∙ sym (gathered (x *ℤ u) ((r * s) * A) (ten_above k * ten_above l)))

-- one power after another
pub times_then : (x y z : ℤ) (q r s : ℕ) (k l : ℤ) → 0 < r → TimesPower x q k y r → TimesPower y r l z s → TimesPower x q (k +ℤ l) z s
times_then x y z q r s k l some h g =
    let A = ten_above (k +ℤ l) in
    let B = ten_below (k +ℤ l) in
    let tens = ten_above k * ten_above l in
    let left : (q * B) * (r * tens) ≡ ((r * ten_below l) * (q * ten_below k)) * A = let f = ap (λ z. (q * r) * z) (ten_sum k l) in omega (arith, f) in
    let right : ((r * ten_above k) * (s * ten_above l)) * A ≡ (s * A) * (r * tens) = omega arith in
    let both : z *ℤ pos ((r * ten_below l) * (q * ten_below k)) ≡ x *ℤ pos ((r * ten_above k) * (s * ten_above l)) =
    sym (gathered z (r * ten_below l) (q * ten_below k)) ∙ ap (λ w. w *ℤ pos (q * ten_below k)) g ∙ *ℤ_right_comm y (pos (s * ten_above l)) (pos (q * ten_below k)) ∙ ap (λ w. w *ℤ pos (s * ten_above l)) h ∙ gathered x (r * ten_above k) (s * ten_above l) in
    same_from_product (z *ℤ pos (q * B)) (x *ℤ pos (s * A)) (r * tens) (mul-pos some (mul-pos (ten_above_some k) (ten_above_some l)))
    (gathered z (q * B) (r * tens)
    ∙ ap (λ w. z *ℤ pos w) left
    ∙ sym (gathered z ((r * ten_below l) * (q * ten_below k)) A)
    ∙ ap (λ w. w *ℤ pos A) both
    ∙ gathered x ((r * ten_above k) * (s * ten_above l)) A
    ∙ ap (λ w. x *ℤ pos w) right
    ∙ sym (gathered x (s * A) (r * tens)))

-- back by the opposite power
pub times_back : (x y : ℤ) (q r : ℕ) (k : ℤ) → TimesPower x q k y r → TimesPower y r (neg_ℤ k) x q
times_back x y q r (pos zero) h = sym h
times_back x y q r (pos (suc n)) h = sym h
times_back x y q r (negsuc n) h = sym h

-- the same power, written in another way
pub times_same : (x y : ℤ) (q r : ℕ) (k l : ℤ) → k ≡ l → TimesPower x q k y r → TimesPower x q l y r
times_same x y q r k l e h = subst (λ p. TimesPower x q p y r) e h

-- a whole number over itself
pub times_whole : (s r : ℕ) → TimesPower (pos s) s (pos 0) (pos r) r
times_whole s r = let e : r * (s * 1) ≡ s * (r * 1) = omega arith in ap pos e

-- sums and differences over one denominator
pub times_sum : (n : ℕ) (f g : ℕ → ℤ) (q r : ℕ) (k : ℤ) → ((j : ℕ) → j < n → TimesPower (f j) q k (g j) r) → TimesPower (sum_to n f) q k (sum_to n g) r
times_sum zero f g q r k h = zero-*ℤ (pos (q * ten_below k)) ∙ sym (zero-*ℤ (pos (r * ten_above k)))
times_sum (suc n) f g q r k h =
    let last = h n (omega arith) in
    let before = times_sum n f g q r k (λ j l. h j (omega arith)) in
    +ℤ-*ℤ (sum_to n g) (g n) (pos (q * ten_below k)) ∙ ap (λ z. z +ℤ g n *ℤ pos (q * ten_below k)) before ∙ ap (λ z. sum_to n f *ℤ pos (r * ten_above k) +ℤ z) last ∙ sym (+ℤ-*ℤ (sum_to n f) (f n) (pos (r * ten_above k)))

pub times_difference : (x y u v : ℤ) (q r : ℕ) (k : ℤ) → TimesPower x q k y r → TimesPower u q k v r → TimesPower (x -ℤ u) q k (y -ℤ v) r
times_difference x y u v q r k h g = apart y v (pos (q * ten_below k)) ∙ ap (λ z. z -ℤ v *ℤ pos (q * ten_below k)) h ∙ ap (λ z. x *ℤ pos (r * ten_above k) -ℤ z) g ∙ sym (apart x u (pos (r * ten_above k)))
  where
    apart : (a b c : ℤ) → (a -ℤ b) *ℤ c ≡ a *ℤ c -ℤ b *ℤ c
    apart a b c = simp ring (omega (arith, ints))

-- equal fractions stay equal: from x / q and u / p the same power leads to y / r and v / s
pub times_equal : (x y u v : ℤ) (q r p s : ℕ) (k : ℤ) → 0 < r → 0 < s → TimesPower x q k y r → TimesPower u p k v s → y *ℤ pos s ≡ v *ℤ pos r → x *ℤ pos p ≡ u *ℤ pos q
times_equal x y u v q r p s k some any h g same =
    let one : (a : ℕ) → a ≡ a * 1 = λ a. omega arith in
    let middle : TimesPower y r (pos 0) v s = ap (λ a. v *ℤ pos a) (sym (one r)) ∙ sym same ∙ ap (λ a. y *ℤ pos a) (one s) in
    let there = times_then x y v q r s k (pos 0) some h middle in
    let all = times_then x v u q s p (k +ℤ pos 0) (neg_ℤ k) any there (times_back u v p s k g) in
    let none : (k +ℤ pos 0) +ℤ neg_ℤ k ≡ pos 0 = omega (arith, ints) in
    let end = times_same x u q p _ (pos 0) none all in
    ap (λ a. x *ℤ pos a) (one p) ∙ sym end ∙ ap (λ a. u *ℤ pos a) (sym (one q))

-- x times 10^b over the same denominator
pub times_raised : (x : ℤ) (q b : ℕ) → TimesPower x q (pos b) (x *ℤ pos (10 ^ b)) q
times_raised x q b = let e : 10 ^ b * (q * 1) ≡ q * 10 ^ b = omega arith in gathered x (10 ^ b) (q * 1) ∙ ap (λ z. x *ℤ pos z) e

-- ---- a power that a denominator takes up
-- x times 10^(K + k), over q times 10^K
pub times_over : (x : ℤ) (q K : ℕ) (k : ℤ) → unsigned_abs k ≤ K → TimesPower x q k (x *ℤ pos (10 ^ unsigned_abs (pos K +ℤ k))) (q * 10 ^ K)
times_over x q K k h =
    let u = unsigned_abs (pos K +ℤ k) in
    let t = ten_apart k u K (omega (arith, ints)) in
    let e : 10 ^ u * (q * ten_below k) ≡ (q * 10 ^ K) * ten_above k = let f = ap (λ z. q * z) t in omega (arith, f) in
    gathered x (10 ^ u) (q * ten_below k) ∙ ap (λ z. x *ℤ pos z) e

-- ---- intervals
-- the interval that holds a fraction, scaled, holds the fraction times the power
pub holds_power : (w : Interval) (x y : ℤ) (q r : ℕ) (k : ℤ) → 0 < q → TimesPower x q k y r → Holds w x q → Holds (interval_scale10 w k) y r
holds_power w x y q r (pos m) some t h =
    let one : q * 1 ≡ q = omega arith in
    let turned : r * 10 ^ m ≡ 10 ^ m * r = omega arith in
    holds_same (interval_scale10 w (pos m)) (x *ℤ pos (10 ^ m)) y q r some (gathered x (10 ^ m) r ∙ ap (λ z. x *ℤ pos z) (sym turned) ∙ sym t ∙ ap (λ z. y *ℤ pos z) one) (holds_raised m w x q h)
holds_power w x y q r (negsuc m) some t h =
    let one : r * 1 ≡ r = omega arith in
    let turned : q * 10 ^ suc m ≡ 10 ^ suc m * q = omega arith in
    holds_same (interval_scale10 w (negsuc m)) x y (10 ^ suc m * q) r (mul-pos (ten_pow_above (suc m)) some) (ap (λ z. x *ℤ pos z) (sym one) ∙ sym t ∙ ap (λ z. y *ℤ pos z) turned) (holds_lowered m w x q h)

-- the interval that holds x / q times 10^k holds each fraction equal to that
pub holds_named : (w : Interval) (x y : ℤ) (q r : ℕ) (k : ℤ) → 0 < q → TimesPower x q k y r → HoldsTimes w x q k → Holds w y r
holds_named w x y q r k some t h =
    let turned : ten_above k * r ≡ r * ten_above k = omega arith in
    holds_same w (x *ℤ pos (ten_above k)) y (q * ten_below k) r (mul-pos some (ten_below_some k)) (gathered x (ten_above k) r ∙ ap (λ z. x *ℤ pos z) turned ∙ sym t) h
