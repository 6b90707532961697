-- Sums from a place on, and rounded quotients.
use Rattle.std.proofs.Common.{◌≡◌, ℕ, zero, suc, pos, negsuc, ℤ, ◌*ℤ◌, arith, ap, ◌∙◌, ◌≤◌, ◌<◌, ◌*◌, ◌+◌, ◌-◌, ◌^◌, unsigned_abs}
use Rattle.std.specs.Prelude.{◌≤ℤ◌}
use Rattle.std.proofs.Math.Decide.{dec_lt}
use Rattle.std.proofs.Math.Nat.{mul-le-mul_right}
use Rattle.std.proofs.lemmas.Int.{ints, unsigned_abs-mul}
use Rattle.whole_numbers.specs.Sum.{sum_to, total_to}
use Rattle.whole_numbers.specs.Quotients.{floor_over}
use Rattle.chol_factor.specs.Factor.{fixed_product, fixed_quotient}
use Rattle.dominant_laws.proofs.Remainders.{tail}
use Rattle.whole_numbers.proofs.Sums.{total_to_le, total_to_same, total_to-*, le-total_to, total_to-bound, abs-sum_to}
use Rattle.whole_numbers.proofs.IntervalLaws.{floor_over_le, lt-floor_over}
use Rattle.whole_numbers.proofs.Ring.{*ℤ_comm}

-- ---- sums
total_first : (n : ℕ) (h : ℕ → ℕ) → total_to (suc n) h ≡ h 0 + total_to n (λ d. h (suc d))
total_first zero h = omega arith
total_first (suc n) h = omega (arith, total_first n h)

pub tail_first : (n k : ℕ) (h : ℕ → ℕ) → k < n → tail n k h ≡ h k + tail n (suc k) h
tail_first n k h l =
    let e : n - k ≡ suc (n - suc k) = omega arith in
    let z : k + 0 ≡ k = omega arith in
    let same = total_to_same (n - suc k) (λ d. h (k + suc d)) (λ d. h (suc k + d)) (λ d q. let p : k + suc d ≡ suc k + d = omega arith in ap h p) in
    omega (arith, ap (λ m. total_to m (λ d. h (k + d))) e, total_first (n - suc k) (λ d. h (k + d)), ap h z, same)

pub tail_whole : (n : ℕ) (h : ℕ → ℕ) → tail n 0 h ≡ total_to n h
tail_whole n h =
    let e : n - 0 ≡ n = omega arith in
    ap (λ m. total_to m (λ d. h (0 + d))) e ∙ total_to_same n (λ d. h (0 + d)) h (λ d l. let z : 0 + d ≡ d = omega arith in ap h z)

pub tail_le : (n k : ℕ) (f g : ℕ → ℕ) → ((j : ℕ) → k ≤ j → j < n → f j ≤ g j) → tail n k f ≤ tail n k g
tail_le n k f g h = total_to_le (n - k) (λ d. f (k + d)) (λ d. g (k + d)) (λ d l. h (k + d) (omega arith) (omega arith))

total_add : (n : ℕ) (f g : ℕ → ℕ) → total_to n (λ j. f j + g j) ≡ total_to n f + total_to n g
total_add zero f g = omega arith
total_add (suc n) f g = omega (arith, total_add n f g)

pub tail_add : (n k : ℕ) (f g : ℕ → ℕ) → tail n k (λ j. f j + g j) ≡ tail n k f + tail n k g
tail_add n k f g = total_add (n - k) (λ d. f (k + d)) (λ d. g (k + d))

pub tail_times : (n k : ℕ) (f : ℕ → ℕ) (a : ℕ) → tail n k (λ j. f j * a) ≡ tail n k f * a
tail_times n k f a = total_to-* (n - k) (λ d. f (k + d)) a

pub le_tail : (n k : ℕ) (f : ℕ → ℕ) (j : ℕ) → k ≤ j → j < n → f j ≤ tail n k f
le_tail n k f j from l =
    let e : k + (j - k) ≡ j = omega arith in
    omega (arith, le-total_to (n - k) (λ d. f (k + d)) (j - k) (omega arith), ap f e)

pub tail_bound : (n k : ℕ) (f : ℕ → ℕ) (a : ℕ) → ((j : ℕ) → k ≤ j → j < n → f j ≤ a) → tail n k f ≤ n * a
tail_bound n k f a h =
    let t = total_to-bound (n - k) (λ d. f (k + d)) a (λ d l. h (k + d) (omega arith) (omega arith)) in
    let m : (n - k) * a ≤ n * a = mul-le-mul_right a (omega arith) in
    omega (arith, t, m)

-- one term is at most the sum and the other sizes
pub one_term : (n : ℕ) (f : ℕ → ℤ) (i : ℕ) → i < n → 2 * unsigned_abs (f i) ≤ unsigned_abs (sum_to n f) + total_to n (λ j. unsigned_abs (f j))
one_term zero f i l = absurd (omega arith)
one_term (suc n) f i l =
    elim (dec_lt i n) [
      | yes p ↦ omega (arith, ints, one_term n f i p)
      | no p ↦ let e : i ≡ n = omega arith in omega (arith, ints, ap f e, abs-sum_to n f)
    ]

-- ---- quotients
pub floor_times : (z : ℤ) (d : ℕ) → 0 < d → unsigned_abs (floor_over z d) * d ≤ unsigned_abs z + d
floor_times z d some =
    let low = floor_over_le z d some in
    let high = lt-floor_over z d some in
    omega (arith, ints, low, high, unsigned_abs-mul (floor_over z d) (pos d))

pub product_times : (a b : ℤ) → unsigned_abs (fixed_product a b) * 2 ^ 60 ≤ unsigned_abs a * unsigned_abs b + 2 ^ 60
product_times a b = omega (arith, floor_times (a *ℤ b) (2 ^ 60) (omega arith), unsigned_abs-mul a b)

pub quotient_times : (a b : ℤ) → pos 1 ≤ℤ b → unsigned_abs (fixed_quotient a b) * unsigned_abs b ≤ unsigned_abs a * 2 ^ 60 + unsigned_abs b
quotient_times a b some = omega (arith, floor_times (a *ℤ pos (2 ^ 60)) (unsigned_abs b) (omega (arith, ints)), unsigned_abs-mul a (pos (2 ^ 60)))

pub product_comm : (a b : ℤ) → fixed_product a b ≡ fixed_product b a
product_comm a b = ap (λ z. floor_over z (2 ^ 60)) (*ℤ_comm a b)

pub product_square : (a : ℤ) → pos 0 ≤ℤ fixed_product a a
product_square (pos a) = omega (arith, ints)
product_square (negsuc a) = omega (arith, ints)
