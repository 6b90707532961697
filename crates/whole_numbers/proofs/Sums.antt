-- Finite sums of whole numbers and of naturals.
use Rattle.std.proofs.Common.{◌≡◌, ℕ, zero, suc, pos, ℤ, ◌+ℤ◌, ◌*ℤ◌, arith, refl, sym, ap, ◌∙◌, ◌≤◌, ◌<◌, ◌*◌, unsigned_abs, subst, ◌≢◌}
use Rattle.std.proofs.lemmas.Int.{ints, unsigned_abs-mul}
use Rattle.std.proofs.Math.Nat.{mul-le-mul}
use Rattle.std.proofs.lemmas.Bool.Decides.{nat_tests}
use Rattle.std.proofs.Math.Decide.{dec_le, dec_lt}
use Rattle.whole_numbers.specs.Sum.{sum_to, total_to, unit}
use Rattle.whole_numbers.proofs.Ring.{*ℤ-+ℤ}

pub sum_to_same : (n : ℕ) (f g : ℕ → ℤ) → ((k : ℕ) → k < n → f k ≡ g k) → sum_to n f ≡ sum_to n g
sum_to_same zero f g h = refl
sum_to_same (suc n) f g h =
    let here = h n (omega arith) in
    let below = sum_to_same n f g (λ k l. h k (omega arith)) in
    cc

pub sum_to-+ℤ : (n : ℕ) (f g : ℕ → ℤ) → sum_to n (λ k. f k +ℤ g k) ≡ sum_to n f +ℤ sum_to n g
sum_to-+ℤ zero f g = refl
sum_to-+ℤ (suc n) f g = omega (arith, ints, sum_to-+ℤ n f g)

pub sum_to-*ℤ : (n : ℕ) (a : ℤ) (f : ℕ → ℤ) → sum_to n (λ k. a *ℤ f k) ≡ a *ℤ sum_to n f
sum_to-*ℤ zero a f = omega (arith, ints)
sum_to-*ℤ (suc n) a f = ap (λ x. x +ℤ a *ℤ f n) (sum_to-*ℤ n a f) ∙ sym (*ℤ-+ℤ a (sum_to n f) (f n))

pub sum_to-zero : (n : ℕ) → sum_to n (λ k. pos 0) ≡ pos 0
sum_to-zero zero = refl
sum_to-zero (suc n) = omega (arith, ints, sum_to-zero n)

pub sum_to_swap : (n m : ℕ) (f : ℕ → ℕ → ℤ) → sum_to n (λ i. sum_to m (λ j. f i j)) ≡ sum_to m (λ j. sum_to n (λ i. f i j))
sum_to_swap zero m f = sym (sum_to-zero m)
sum_to_swap (suc n) m f = ap (λ x. x +ℤ sum_to m (f n)) (sum_to_swap n m f) ∙ sym (sum_to-+ℤ m (λ j. sum_to n (λ i. f i j)) (f n))

pub unit_here : (i : ℕ) (a : ℤ) → unit i a i ≡ a
unit_here i a = grind (arith, nat_tests)

pub unit_other : (i : ℕ) (a : ℤ) (j : ℕ) → j ≢ i → unit i a j ≡ pos 0
unit_other i a j ne = grind (arith, nat_tests)

pub sum_to_unit_none : (n i : ℕ) (a : ℤ) (f : ℕ → ℤ) → n ≤ i → sum_to n (λ j. unit i a j *ℤ f j) ≡ pos 0
sum_to_unit_none zero i a f h = refl
sum_to_unit_none (suc n) i a f h =
    let below = sum_to_unit_none n i a f (omega arith) in
    let other = unit_other i a n (omega arith) in
    rw other (omega (arith, ints, below))

pub sum_to_unit : (n i : ℕ) (a : ℤ) (f : ℕ → ℤ) → i < n → sum_to n (λ j. unit i a j *ℤ f j) ≡ a *ℤ f i
sum_to_unit zero i a f h = absurd (omega arith)
sum_to_unit (suc n) i a f h =
    elim (dec_lt i n) [
      | yes l ↦
          let below = sum_to_unit n i a f l in
          let other = unit_other i a n (omega arith) in rw other (omega (arith, ints, below))
      | no l ↦
          let e : n ≡ i = omega arith in
          subst (λ (k : ℕ). sum_to k (λ j. unit i a j *ℤ f j) +ℤ unit i a k *ℤ f k ≡ a *ℤ f i) (sym e) (rw (sum_to_unit_none i i a f (omega arith), unit_here i a) (omega (arith, ints)))
    ]

pub abs-sum_to : (n : ℕ) (f : ℕ → ℤ) → unsigned_abs (sum_to n f) ≤ total_to n (λ k. unsigned_abs (f k))
abs-sum_to zero f = omega arith
abs-sum_to (suc n) f = omega (arith, ints, abs-sum_to n f)

pub total_to_le : (n : ℕ) (f g : ℕ → ℕ) → ((k : ℕ) → k < n → f k ≤ g k) → total_to n f ≤ total_to n g
total_to_le zero f g h = omega arith
total_to_le (suc n) f g h = omega (arith, h n (omega arith), total_to_le n f g (λ k l. h k (omega arith)))

pub total_to_same : (n : ℕ) (f g : ℕ → ℕ) → ((k : ℕ) → k < n → f k ≡ g k) → total_to n f ≡ total_to n g
total_to_same zero f g h = refl
total_to_same (suc n) f g h =
    let here = h n (omega arith) in
    let below = total_to_same n f g (λ k l. h k (omega arith)) in
    cc

-- the total of the first k numbers is within that of all n
pub total_part : (n : ℕ) (f : ℕ → ℕ) (k : ℕ) → k ≤ n → total_to k f ≤ total_to n f
total_part zero f k h = let e : k ≡ 0 = omega arith in rw e (omega arith)
total_part (suc n) f k h =
    elim (dec_le k n) [
      | yes l ↦ omega (arith, total_part n f k l)
      | no l ↦ let e : k ≡ suc n = omega arith in rw e (omega arith)
    ]

pub total_to-* : (n : ℕ) (f : ℕ → ℕ) (m : ℕ) → total_to n (λ k. f k * m) ≡ total_to n f * m
total_to-* zero f m = omega arith
total_to-* (suc n) f m = omega (arith, total_to-* n f m)

pub le-total_to : (n : ℕ) (f : ℕ → ℕ) (k : ℕ) → k < n → f k ≤ total_to n f
le-total_to zero f k h = absurd (omega arith)
le-total_to (suc n) f k h =
    elim (dec_lt k n) [
      | yes l ↦ omega (arith, le-total_to n f k l)
      | no l ↦
          let e : k ≡ n = omega arith in
          omega (arith, ap f e)
    ]

pub total_to-bound : (n : ℕ) (f : ℕ → ℕ) (m : ℕ) → ((k : ℕ) → k < n → f k ≤ m) → total_to n f ≤ n * m
total_to-bound zero f m h = omega arith
total_to-bound (suc n) f m h = omega (arith, h n (omega arith), total_to-bound n f m (λ k l. h k (omega arith)))

pub abs-product : (x y : ℤ) (a b : ℕ) → unsigned_abs x ≤ a → unsigned_abs y ≤ b → unsigned_abs (x *ℤ y) ≤ a * b
abs-product x y a b p q = rw (unsigned_abs-mul x y) (mul-le-mul p q)

-- the sum of products of two rows
pub abs-dot : (n : ℕ) (x y : ℕ → ℤ) (a b : ℕ) → ((k : ℕ) → k < n → unsigned_abs (x k) ≤ a) → ((k : ℕ) → k < n → unsigned_abs (y k) ≤ b) → unsigned_abs (sum_to n (λ k. x k *ℤ y k)) ≤ n * (a * b)
abs-dot n x y a b p q =
    let s = abs-sum_to n (λ k. x k *ℤ y k) in
    let t = total_to-bound n (λ k. unsigned_abs (x k *ℤ y k)) (a * b) (λ k l. abs-product (x k) (y k) a b (p k l) (q k l)) in
    omega (arith, s, t)
