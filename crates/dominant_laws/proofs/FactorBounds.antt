-- The factor of a dominant table: what is left of each row stays dominant, so each column is small beside its root.
use Rattle.std.proofs.Common.{◌≡◌, ℕ, zero, suc, pos, negsuc, ℤ, ◌+ℤ◌, ◌*ℤ◌, arith, ap, ◌≤◌, ◌<◌, ◌*◌, ◌+◌, ◌^◌, unsigned_abs}
use Rattle.std.proofs.Math.IntN.{◌-ℤ◌}
use Rattle.std.specs.Prelude.{◌≤ℤ◌}
use Rattle.std.proofs.Math.Decide.{dec_lt}
use Rattle.std.proofs.Math.Nat.{mul-le-mul, mul-le-mul_right, le_of_mul-le-mul_left}
use Rattle.std.proofs.lemmas.Int.{ints}
use Rattle.whole_numbers.specs.Sum.{sum_to}
use Rattle.chol_factor.specs.Factor.{fixed_product, fixed_quotient, IsRoot, IsColumn, HasColumns}
use Rattle.dominant_laws.proofs.Remainders.{tail, remaining, rest}
use Rattle.dominant_laws.proofs.Conditions.{IsGreat}
use Rattle.whole_numbers.proofs.Sums.{sum_to_same}
use Rattle.dominant_laws.proofs.Tails.{tail_first, tail_whole, tail_le, tail_add, tail_times, le_tail, tail_bound, product_times, quotient_times, product_comm, product_square}

-- ---- what is left
pub remaining_sym : (n : ℕ) (m f : ℕ → ℕ → ℤ) (k i j : ℕ) → IsGreat n m → i < n → j < n → remaining m f k i j ≡ remaining m f k j i
remaining_sym n m f k i j g row column =
    let e = g.sym i j row column in
    let s = sum_to_same k (λ q. fixed_product (f i q) (f j q)) (λ q. fixed_product (f j q) (f i q)) (λ q l. product_comm (f i q) (f j q)) in
    omega (arith, ints, e, s)

sum_some : (k : ℕ) (h : ℕ → ℤ) → ((q : ℕ) → q < k → pos 0 ≤ℤ h q) → pos 0 ≤ℤ sum_to k h
sum_some zero h some = omega (arith, ints)
sum_some (suc k) h some = omega (arith, ints, some k (omega arith), sum_some k h (λ q l. some q (omega arith)))

remaining_most : (m f : ℕ → ℕ → ℤ) (k i : ℕ) → remaining m f k i i ≤ℤ m i i
remaining_most m f k i = let s = sum_some k (λ q. fixed_product (f i q) (f i q)) (λ q l. product_square (f i q)) in omega (arith, ints, s)

-- four times the others and three times the first diagonal are at most four times what is left of the diagonal, but for 4096 k
abbrev pub StaysGreat : ℕ → (ℕ → ℕ → ℤ) → (ℕ → ℕ → ℤ) → ℕ → Type 0
StaysGreat n m f k = (i : ℕ) → k ≤ i → i < n → (pos (4 * rest n m f k i) +ℤ pos 3 *ℤ m i i) ≤ℤ (pos 8 *ℤ remaining m f k i i +ℤ pos (4096 * k))

-- what is left of the pivot row past the pivot, in sizes
abbrev pub past_pivot : ℕ → (ℕ → ℕ → ℤ) → (ℕ → ℕ → ℤ) → ℕ → ℕ
past_pivot n m f k = tail n (suc k) (λ j. unsigned_abs (remaining m f k k j))

pub record IsPivotRow (n : ℕ) (m f : ℕ → ℕ → ℤ) (k : ℕ) : Type 0 where
  pub least : pos (2 ^ 52) ≤ℤ remaining m f k k k
  pub most : remaining m f k k k ≤ℤ pos (2 ^ 61)
  pub few : pos (4 * past_pivot n m f k) ≤ℤ (remaining m f k k k +ℤ pos (2 ^ 22))

pub pivot_row : (n : ℕ) (m f : ℕ → ℕ → ℤ) (k : ℕ) → IsGreat n m → k < n → StaysGreat n m f k → IsPivotRow n m f k
pivot_row n m f k g row stays =
    let inv = stays k (omega arith) row in
    let first = tail_first n k (λ j. unsigned_abs (remaining m f k k j)) row in
    let most = remaining_most m f k k in
    let great = g.great k row in
    let small = g.small k k row row in
    let few = g.few in
    record {
      least = omega (arith, ints, inv, first, most, great, few);
      most = omega (arith, ints, most, small);
      few = omega (arith, ints, inv, first, most, great, few);
    }

-- ---- one column
-- a number between two squares is one whose square is near
root_least : (p l : ℤ) → pos (2 ^ 52) ≤ℤ p → IsRoot p l → (2 ^ 56) ≤ unsigned_abs l
root_least p (pos l) h r =
    elim (dec_lt l (2 ^ 56)) [
      | yes q ↦ let s : suc l * suc l ≤ 2 ^ 56 * 2 ^ 56 = mul-le-mul q q in absurd (omega (arith, ints, h, s, r.next_square_gt))
      | no q ↦ omega (arith, ints)
    ]
root_least p (negsuc l) h r = absurd (omega (arith, ints, r.least))

pub root_most : (p l : ℤ) → p ≤ℤ pos (2 ^ 61) → IsRoot p l → unsigned_abs l ≤ 2 ^ 61
root_most p (pos l) h r =
    elim (dec_lt (2 ^ 61) l) [
      | yes q ↦ let t : 2 ^ 61 ≤ l = omega arith in let s = mul-le-mul t t in absurd (omega (arith, ints, h, s, q, r.square_le))
      | no q ↦ omega (arith, ints)
    ]
root_most p (negsuc l) h r = absurd (omega (arith, ints, r.least))

root_near : (p l : ℤ) → IsRoot p l → (p *ℤ pos (2 ^ 60)) ≤ℤ pos (unsigned_abs l * unsigned_abs l + 2 * unsigned_abs l)
root_near p (pos l) r = let s : suc l * suc l ≡ l * l + 2 * l + 1 = omega arith in omega (arith, ints, s, r.next_square_gt)
root_near p (negsuc l) r = absurd (omega (arith, ints, r.least))

-- the column below a root
pub record IsSmallColumn (n k : ℕ) (w : ℕ → ℤ) (l : ℤ) : Type 0 where
  pub some : pos 1 ≤ℤ l
  pub least : 2 ^ 56 ≤ unsigned_abs l
  pub most : unsigned_abs l ≤ 2 ^ 61
  pub third : 3 * tail n (suc k) (λ i. unsigned_abs (w i)) ≤ unsigned_abs l

-- 4 l s <= l^2 + 2^27 l gives 3 s <= l
third_of : (l s : ℕ) → 2 ^ 56 ≤ l → 4 * (s * l) ≤ l * l + 4002 * l + 2 ^ 82 → 3 * s ≤ l
third_of l s least h =
    let q : 2 ^ 56 * l ≤ l * l = mul-le-mul_right l least in
    let t : l * (4 * (3 * s)) ≤ l * (4 * l) = omega (arith, h, q, least) in
    let c = le_of_mul-le-mul_left t (omega (arith, least)) in
    omega (arith, c)

pub small_column : (n : ℕ) (m f : ℕ → ℕ → ℤ) (k : ℕ) (w : ℕ → ℤ) (l : ℤ) → IsGreat n m → k < n → IsPivotRow n m f k → IsRoot (remaining m f k k k) l
    → ((i : ℕ) → k < i → i < n → w i ≡ fixed_quotient (remaining m f k i k) l) → IsSmallColumn n k w l
small_column n m f k w l g row p r below =
    let least = root_least (remaining m f k k k) l p.least r in
    let most = root_most (remaining m f k k k) l p.most r in
    let near = root_near (remaining m f k k k) l r in
    let some : pos 1 ≤ℤ l = omega (arith, ints, least, r.least) in
    let each = tail_le n (suc k) (λ i. unsigned_abs (w i) * unsigned_abs l) (λ i. unsigned_abs (remaining m f k k i) * 2 ^ 60 + unsigned_abs l)
    (λ i from in_. let t = quotient_times (remaining m f k i k) l some in omega (arith, t, ap (λ z. unsigned_abs z * unsigned_abs l) (below i from in_), ap unsigned_abs (remaining_sym n m f k k i g row in_))) in
    let left = tail_times n (suc k) (λ i. unsigned_abs (w i)) (unsigned_abs l) in
    let right = tail_add n (suc k) (λ i. unsigned_abs (remaining m f k k i) * 2 ^ 60) (λ i. unsigned_abs l) in
    let scaled = tail_times n (suc k) (λ i. unsigned_abs (remaining m f k k i)) (2 ^ 60) in
    let count = tail_bound n (suc k) (λ i. unsigned_abs l) (unsigned_abs l) (λ i from in_. omega arith) in
    let few : n * unsigned_abs l ≤ 1000 * unsigned_abs l = mul-le-mul_right (unsigned_abs l) g.few in
    record {
      some = some;
      least = least;
      most = most;
      third = third_of (unsigned_abs l) (tail n (suc k) (λ i. unsigned_abs (w i))) least (omega (arith, ints, each, left, right, scaled, count, few, near, p.few));
    }

-- ---- one step
-- what column k takes of row i beyond the diagonal, and twice what it takes there, is no more than the number that goes, nearly
pub one_step : (n : ℕ) (m f : ℕ → ℕ → ℤ) (k i : ℕ) → IsGreat n m → IsColumn n m f k → IsSmallColumn n k (λ i. f i k) (f k k) → k < i → i < n
    → 4 * tail n (suc k) (λ j. unsigned_abs (fixed_product (f i k) (f j k))) + 8 * unsigned_abs (fixed_product (f i k) (f i k)) ≤ 4 * unsigned_abs (remaining m f k i k) + 4096
one_step n m f k i g c small below row =
    let a = unsigned_abs (f i k) in
    let l = unsigned_abs (f k k) in
    let lam = tail n (suc k) (λ j. unsigned_abs (f j k)) in
    let some = small.some in
    let each = tail_le n (suc k) (λ j. unsigned_abs (fixed_product (f i k) (f j k)) * 2 ^ 60) (λ j. unsigned_abs (f j k) * a + 2 ^ 60)
    (λ j from in_. omega (arith, product_times (f i k) (f j k))) in
    let left = tail_times n (suc k) (λ j. unsigned_abs (fixed_product (f i k) (f j k))) (2 ^ 60) in
    let right = tail_add n (suc k) (λ j. unsigned_abs (f j k) * a) (λ j. 2 ^ 60) in
    let scaled = tail_times n (suc k) (λ j. unsigned_abs (f j k)) a in
    let count = tail_bound n (suc k) (λ j. 2 ^ 60) (2 ^ 60) (λ j from in_. omega arith) in
    let own = product_times (f i k) (f i k) in
    let within = le_tail n (suc k) (λ j. unsigned_abs (f j k)) i below row in
    let square = mul-le-mul_right a within in
    let third = mul-le-mul_right a small.third in
    let number = quotient_times (remaining m f k i k) (f k k) some in
    let is = ap (λ z. unsigned_abs z * l) (c.below i below row) in
    let few = g.few in
    let most = small.most in
    omega (arith, each, left, right, scaled, count, own, square, third, number, is, few, most)

-- ---- all steps
step_left : (m f : ℕ → ℕ → ℤ) (k i j : ℕ) → remaining m f (suc k) i j ≡ remaining m f k i j -ℤ fixed_product (f i k) (f j k)
step_left m f k i j = omega (arith, ints)

next_great : (n : ℕ) (m f : ℕ → ℕ → ℤ) (k : ℕ) → IsGreat n m → k < n → IsColumn n m f k → StaysGreat n m f k → StaysGreat n m f (suc k)
next_great n m f k g row c stays i from in_ =
    let p = pivot_row n m f k g row stays in
    let small = small_column n m f k (λ i. f i k) (f k k) g row p c.root c.below in
    let step = one_step n m f k i g c small (omega arith) in_ in
    let inv = stays i (omega arith) in_ in
    let first = tail_first n k (λ j. unsigned_abs (remaining m f k i j)) row in
    let more = tail_le n (suc k) (λ j. unsigned_abs (remaining m f (suc k) i j)) (λ j. unsigned_abs (remaining m f k i j) + unsigned_abs (fixed_product (f i k) (f j k)))
    (λ j q l. omega (arith, ints, step_left m f k i j)) in
    let both = tail_add n (suc k) (λ j. unsigned_abs (remaining m f k i j)) (λ j. unsigned_abs (fixed_product (f i k) (f j k))) in
    omega (arith, ints, step, inv, first, more, both, step_left m f k i i)

first_great : (n : ℕ) (m f : ℕ → ℕ → ℤ) → IsGreat n m → StaysGreat n m f 0
first_great n m f g i from row =
    let same = tail_le n 0 (λ j. unsigned_abs (remaining m f 0 i j)) (λ j. unsigned_abs (m i j)) (λ j q l. omega (arith, ints)) in
    let whole = tail_whole n (λ j. unsigned_abs (m i j)) in
    omega (arith, ints, same, whole, g.rows i row)

pub all_great : (n : ℕ) (m f : ℕ → ℕ → ℤ) (c k : ℕ) → IsGreat n m → c ≤ n → HasColumns n m f c → k ≤ c → StaysGreat n m f k
all_great n m f c zero g few has le = first_great n m f g
all_great n m f c (suc k) g few has le = next_great n m f k g (omega arith) (has k (omega arith)) (all_great n m f c k g few has (omega arith))

-- each column of a factor is small beside its root
abbrev pub SmallColumns : ℕ → (ℕ → ℕ → ℤ) → Type 0
SmallColumns n f = (k : ℕ) → k < n → IsSmallColumn n k (λ i. f i k) (f k k)

pub small_columns : (n : ℕ) (m f : ℕ → ℕ → ℤ) → IsGreat n m → HasColumns n m f n → SmallColumns n f
small_columns n m f g has k row =
    let c = has k row in
    small_column n m f k (λ i. f i k) (f k k) g row (pivot_row n m f k g row (all_great n m f n k g (omega arith) has (omega arith))) c.root c.below
