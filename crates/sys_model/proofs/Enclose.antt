-- Systems within intervals, the certificate, and what it implies.
use Rattle.std.proofs.Common.{◌≡◌, ℕ, zero, suc, pos, ℤ, ◌+ℤ◌, ◌*ℤ◌, arith, refl, ap, ◌∙◌, ◌≤◌, ◌<◌, ◌*◌, ◌+◌, ◌-◌, ◌^◌, min, unsigned_abs}
use Rattle.std.proofs.Math.IntN.{◌-ℤ◌}
use Rattle.std.proofs.lemmas.Int.{ints, unsigned_abs-mul}
use Rattle.std.proofs.Math.Nat.{mul-le-mul_left, mul-le-mul_right, le_of_mul-le-mul_left}
use Rattle.std.proofs.lemmas.Nat.{pow-add}
use Rattle.std.proofs.Common.{cond, eqb, true, false}
use Rattle.std.proofs.Math.IntN.{zero-*ℤ, *ℤ-zero}
use Rattle.whole_numbers.specs.Sum.{sum_to, total_to, unit}
use Rattle.whole_numbers.specs.Intervals.{Holds, interval_scale, sum_intervals, size, interval_shift}
use Rattle.sys_model.specs.Systems.{row_by, System, Fractions, Table, LiesIn, Solves, defect_size, row_parts, residual_interval, row_error, Passes, rho, radius, around, test_of}
use Rattle.sys_model.proofs.Parts.{defect_at, left_at, distance}
use Rattle.whole_numbers.proofs.Sums.{sum_to_same, sum_to-*ℤ, sum_to-zero, abs-sum_to, total_to_le, total_to-*, le-total_to}
use Rattle.whole_numbers.proofs.IntervalLaws.{holds_sub, holds_point, holds_scale, holds_sum, holds_size, holds_shift, up_over_le, two_pow_above}
use Rattle.sys_model.proofs.Law.{split_row, contraction, vanishing}
use Rattle.whole_numbers.proofs.Ring.{ring, *ℤ_left_comm}

-- ---- the law
around_holds : (y : ℤ) (w : ℕ) (x : ℤ) (s : ℕ) → unsigned_abs (x -ℤ y *ℤ pos s) ≤ s * w → Holds (around y w) x s
around_holds y w x s h = record { above = simp ring (omega (arith, ints)); below = simp ring (omega (arith, ints)) }

-- where the clipped sum is small, nothing was clipped
unclipped : (n : ℕ) (c : ℕ → ℕ) (p : ℕ) → total_to n (λ j. min (c j) p) < p → total_to n c ≤ total_to n (λ j. min (c j) p)
unclipped n c p h = total_to_le n c (λ j. min (c j) p) (λ j l. omega (arith, le-total_to n (λ j. min (c j) p) j l))

pub pow_split : (g : ℕ) → 2 ^ (g + 60) ≡ 2 ^ 30 * 2 ^ (g + 30)
pow_split g = let e : g + 60 ≡ 30 + (g + 30) = omega arith in rw e (pow-add 2 30 (g + 30))

pub row_parts_cover : (n g : ℕ) (r : ℕ → ℕ → ℤ) (t : Table) (i : ℕ) → row_parts n g r t i < 2 ^ 30 → total_to n (defect_size n (2 ^ (g + 60)) r t i) ≤ row_parts n g r t i * 2 ^ (g + 30)
row_parts_cover n g r t i h =
    let p = 2 ^ (g + 60) in
    let T = 2 ^ (g + 30) in
    let clipped = total_to n (λ j. min (defect_size n p r t i j) p) in
    let a : clipped ≤ row_parts n g r t i * T = up_over_le clipped T (two_pow_above (g + 30)) in
    let m : suc (row_parts n g r t i) * T ≤ 2 ^ 30 * T = mul-le-mul_right T h in
    let z = two_pow_above (g + 30) in
    let u = unclipped n (defect_size n p r t i) p (omega (arith, a, m, z, pow_split g)) in
    omega (arith, a, u)

unit_scale : (i j : ℕ) (a b : ℤ) → unit i a j *ℤ b ≡ unit i (a *ℤ b) j
unit_scale i j a b = elim (eqb j i) as (λ t. cond t a (pos 0) *ℤ b ≡ cond t (a *ℤ b) (pos 0)) [ true ↦ refl | false ↦ zero-*ℤ b ]

pub defect_holds : (n p : ℕ) (r : ℕ → ℕ → ℤ) (t : Table) (S : System) (i j : ℕ) → LiesIn n t S → i < n → j < n → unsigned_abs (defect_at n (pos p *ℤ pos S.q) r S.a i j) ≤ defect_size n p r t i j * S.q
defect_holds n p r t S i j h li lj =
    let one = holds_point (unit i (pos p) j) S.q in
    let two = holds_sum n (λ k. interval_scale (r i k) (t.entry k j)) (λ k. r i k *ℤ S.a k j) S.q (λ k l. holds_scale (r i k) (t.entry k j) (S.a k j) S.q (h.entries k j l lj)) in
    let both = holds_sub _ _ _ _ S.q one two in
    let sized = holds_size _ _ S.q both in
    rw (← (unit_scale i j (pos p) (pos S.q))) sized

pub left_holds : (n : ℕ) (t : Table) (S : System) (y : ℕ → ℤ) (k : ℕ) → LiesIn n t S → k < n → Holds (residual_interval n t y k) (left_at n S y k) S.q
left_holds n t S y k h l =
    holds_sub (t.right k) _ (S.c k) _ S.q (h.rights k l)
    (holds_sum n (λ j. interval_scale (y j) (t.entry k j)) (λ j. y j *ℤ S.a k j) S.q (λ j m. holds_scale (y j) (t.entry k j) (S.a k j) S.q (h.entries k j l m)))

pub error_holds : (n g h : ℕ) (r : ℕ → ℕ → ℤ) (t : Table) (S : System) (y : ℕ → ℤ) (i : ℕ) → h ≤ 60 → LiesIn n t S
    → unsigned_abs (sum_to n (λ k. r i k *ℤ left_at n S y k)) ≤ row_error n g h r t y i * (2 ^ (g + 60) * S.q)
error_holds n g h r t S y i small lies =
    let w = λ (k : ℕ). interval_scale (r i k) (interval_shift h (residual_interval n t y k)) in
    let held = holds_sum n w (λ k. r i k *ℤ left_at n S y k) (2 ^ h * S.q) (λ k l. holds_scale (r i k) _ (left_at n S y k) (2 ^ h * S.q) (holds_shift h (residual_interval n t y k) (left_at n S y k) S.q (left_holds n t S y k lies l))) in
    let sized = holds_size (sum_intervals n w) _ (2 ^ h * S.q) held in
    let m = row_error n g h r t y i in
    let up = mul-le-mul_right (2 ^ h * S.q) (up_over_le (size (sum_intervals n w)) (2 ^ (g + 60 - h)) (two_pow_above (g + 60 - h))) in
    let e : g + 60 ≡ (g + 60 - h) + h = omega arith in
    let split : 2 ^ (g + 60) ≡ 2 ^ (g + 60 - h) * 2 ^ h = ap (λ z. 2 ^ z) e ∙ pow-add 2 (g + 60 - h) h in
    let scaled = ap (λ z. (m * z) * S.q) split in
    omega (arith, sized, up, scaled)

-- one row: P |e_i| is at most the defects by the sizes of e, and R by what A makes of e
pub row_step : (n p : ℕ) (r : ℕ → ℕ → ℤ) (t : Table) (S : System) (e f : ℕ → ℤ) (i : ℕ) → LiesIn n t S → i < n → ((k : ℕ) → k < n → row_by n S.a k e ≡ f k)
    → (p * S.q) * unsigned_abs (e i) ≤ total_to n (λ j. defect_size n p r t i j * unsigned_abs (e j)) * S.q + unsigned_abs (sum_to n (λ k. r i k *ℤ f k))
row_step n p r t S e f i lies l rows =
    let P = pos p *ℤ pos S.q in
    let split = split_row n P r S.a i e l in
    let same = sum_to_same n (λ k. r i k *ℤ row_by n S.a k e) (λ k. r i k *ℤ f k) (λ k m. ap (λ z. r i k *ℤ z) (rows k m)) in
    let sized = abs-sum_to n (λ j. defect_at n P r S.a i j *ℤ e j) in
    let each = total_to_le n (λ j. unsigned_abs (defect_at n P r S.a i j *ℤ e j)) (λ j. (defect_size n p r t i j * unsigned_abs (e j)) * S.q)
    (λ j m. rw (unsigned_abs-mul (defect_at n P r S.a i j) (e j)) (omega (arith, mul-le-mul_right (unsigned_abs (e j)) (defect_holds n p r t S i j lies l m)))) in
    let scaled = total_to-* n (λ j. defect_size n p r t i j * unsigned_abs (e j)) S.q in
    let left = unsigned_abs-mul P (e i) in
    let sides = ap unsigned_abs split in
    omega (arith, ints, sides, left, same, sized, each, scaled)

-- what a table makes of x - s y
difference_step : (u v a x y s : ℤ) → (u -ℤ s *ℤ v) +ℤ a *ℤ (x -ℤ y *ℤ s) ≡ (u +ℤ a *ℤ x) -ℤ s *ℤ (v +ℤ y *ℤ a)
difference_step u v a x y s = simp ring (omega (arith, ints))

row_by-difference : (n : ℕ) (a x y : ℕ → ℤ) (s : ℤ) → sum_to n (λ j. a j *ℤ (x j -ℤ y j *ℤ s)) ≡ sum_to n (λ j. a j *ℤ x j) -ℤ s *ℤ sum_to n (λ j. y j *ℤ a j)
row_by-difference zero a x y s = omega (arith, ints)
row_by-difference (suc n) a x y s = ap (λ z. z +ℤ a n *ℤ (x n -ℤ y n *ℤ s)) (row_by-difference n a x y s) ∙ difference_step (sum_to n (λ j. a j *ℤ x j)) (sum_to n (λ j. y j *ℤ a j)) (a n) (x n) (y n) s

left_step : (u c s v : ℤ) → u -ℤ c *ℤ s ≡ pos 0 → u -ℤ s *ℤ v ≡ s *ℤ (c -ℤ v)
left_step u c s v h = simp ring (omega (arith, ints))

-- of a solution, the table makes s times what y leaves
solution_left : (n : ℕ) (S : System) (v : Fractions) (y : ℕ → ℤ) (k : ℕ) → Solves n S v → k < n → row_by n S.a k (λ j. v.x j -ℤ y j *ℤ pos v.s) ≡ pos v.s *ℤ left_at n S y k
solution_left n S v y k sol l = row_by-difference n (S.a k) v.x y (pos v.s) ∙ left_step (row_by n S.a k v.x) (S.c k) (pos v.s) (sum_to n (λ j. y j *ℤ S.a k j)) (sol.rows k l)

solution_step : (n g h : ℕ) (r : ℕ → ℕ → ℤ) (t : Table) (y : ℕ → ℤ) (S : System) (v : Fractions) (i : ℕ) → h ≤ 60 → LiesIn n t S → Solves n S v → i < n
    → (2 ^ 30 * 2 ^ (g + 30)) * distance v y i ≤ total_to n (λ j. defect_size n (2 ^ (g + 60)) r t i j * distance v y j) + (2 ^ 30 * 2 ^ (g + 30)) * (v.s * row_error n g h r t y i)
solution_step n g h r t y S v i small lies sol l =
    let p = 2 ^ (g + 60) in
    let e = λ (j : ℕ). v.x j -ℤ y j *ℤ pos v.s in
    let f = λ (k : ℕ). pos v.s *ℤ left_at n S y k in
    let step = row_step n p r t S e f i lies l (λ k m. solution_left n S v y k sol m) in
    let out = sum_to_same n (λ k. r i k *ℤ f k) (λ k. pos v.s *ℤ (r i k *ℤ left_at n S y k)) (λ k m. *ℤ_left_comm (r i k) (pos v.s) (left_at n S y k)) ∙ sum_to-*ℤ n (pos v.s) (λ k. r i k *ℤ left_at n S y k) in
    let sized = ap unsigned_abs out ∙ unsigned_abs-mul (pos v.s) (sum_to n (λ k. r i k *ℤ left_at n S y k)) in
    let error = mul-le-mul_left v.s (error_holds n g h r t S y i small lies) in
    let split = ap (λ z. z * distance v y i) (pow_split g) in
    let split' = ap (λ z. z * (v.s * row_error n g h r t y i)) (pow_split g) in
    let scaled : S.q * (p * distance v y i) ≤ S.q * (total_to n (λ j. defect_size n p r t i j * distance v y j) + p * (v.s * row_error n g h r t y i)) = omega (arith, step, sized, error) in
    omega (arith, le_of_mul-le-mul_left scaled lies.some, split, split')

-- Each solution of each system in the intervals lies around y.
pub enclosed : (n g h : ℕ) (r : ℕ → ℕ → ℤ) (t : Table) (y : ℕ → ℤ) (B M : ℕ) (S : System) (v : Fractions) (i : ℕ)
    → Passes (test_of n g h r t y B M) → LiesIn n t S → Solves n S v → i < n → Holds (around (y i) (radius n g h r t y B M i)) (v.x i) v.s
enclosed n g h r t y B M S v i pass lies sol l =
    let D = 2 ^ 30 in
    let room = 2 ^ 30 - B in
    let below = pass.below in
    let b = row_parts n g r t in
    let big = up_over_le (M * D) room (omega arith) in
    let near = contraction n (defect_size n (2 ^ (g + 60)) r t) (distance v y) b (λ k. v.s * row_error n g h r t y k) D (2 ^ (g + 30)) B (v.s * M) (v.s * rho B M) room
    (two_pow_above (g + 30)) (omega arith) (omega arith)
    (λ k m. solution_step n g h r t y S v k pass.shift lies sol m)
    (λ k m. row_parts_cover n g r t k (omega (arith, pass.parts k m)))
    pass.parts
    (λ k m. mul-le-mul_left v.s (pass.errors k m))
    (omega (arith, mul-le-mul_left v.s big))
    i l in
    let up = mul-le-mul_left v.s (up_over_le (b i * rho B M) D (omega arith)) in
    let scaled : D * distance v y i ≤ D * (v.s * radius n g h r t y B M i) = omega (arith, near, up) in
    around_holds (y i) (radius n g h r t y B M i) (v.x i) v.s (le_of_mul-le-mul_left scaled (omega arith))

-- ---- two solutions
pair_step : (u v a x y s z : ℤ) → (z *ℤ u -ℤ s *ℤ v) +ℤ a *ℤ (x *ℤ z -ℤ y *ℤ s) ≡ z *ℤ (u +ℤ a *ℤ x) -ℤ s *ℤ (v +ℤ a *ℤ y)
pair_step u v a x y s z = simp ring (omega (arith, ints))

row_by_pair : (n : ℕ) (a x y : ℕ → ℤ) (s z : ℤ) → sum_to n (λ j. a j *ℤ (x j *ℤ z -ℤ y j *ℤ s)) ≡ z *ℤ sum_to n (λ j. a j *ℤ x j) -ℤ s *ℤ sum_to n (λ j. a j *ℤ y j)
row_by_pair zero a x y s z = simp *ℤ-zero (omega (arith, ints))
row_by_pair (suc n) a x y s z = ap (λ w. w +ℤ a n *ℤ (x n *ℤ z -ℤ y n *ℤ s)) (row_by_pair n a x y s z) ∙ pair_step (sum_to n (λ j. a j *ℤ x j)) (sum_to n (λ j. a j *ℤ y j)) (a n) (x n) (y n) s z

pair_left : (u v c s z : ℤ) → u -ℤ c *ℤ s ≡ pos 0 → v -ℤ c *ℤ z ≡ pos 0 → z *ℤ u -ℤ s *ℤ v ≡ pos 0
pair_left u v c s z h k =
    let a : u ≡ c *ℤ s = omega (arith, ints) in
    let b : v ≡ c *ℤ z = omega (arith, ints) in
    rw (a, b) (simp ring (omega (arith, ints)))

pub pair_row : (n g : ℕ) (r : ℕ → ℕ → ℤ) (t : Table) (S : System) (e : ℕ → ℤ) (i : ℕ) → LiesIn n t S → i < n → ((k : ℕ) → k < n → row_by n S.a k e ≡ pos 0)
    → (2 ^ 30 * 2 ^ (g + 30)) * unsigned_abs (e i) ≤ total_to n (λ j. defect_size n (2 ^ (g + 60)) r t i j * unsigned_abs (e j))
pair_row n g r t S e i lies l rows =
    let p = 2 ^ (g + 60) in
    let step = row_step n p r t S e (λ k. pos 0) i lies l rows in
    let nothing = sum_to_same n (λ k. r i k *ℤ pos 0) (λ k. pos 0) (λ k m. *ℤ-zero (r i k)) ∙ sum_to-zero n in
    let sized = ap unsigned_abs nothing in
    let scaled : S.q * (p * unsigned_abs (e i)) ≤ S.q * total_to n (λ j. defect_size n p r t i j * unsigned_abs (e j)) = omega (arith, step, sized) in
    omega (arith, le_of_mul-le-mul_left scaled lies.some, ap (λ z. z * unsigned_abs (e i)) (pow_split g))

-- Two solutions of one system in the intervals are equal, as fractions.
pub unique : (n g h : ℕ) (r : ℕ → ℕ → ℤ) (t : Table) (y : ℕ → ℤ) (B M : ℕ) (S : System) (v u : Fractions) (i : ℕ)
    → Passes (test_of n g h r t y B M) → LiesIn n t S → Solves n S v → Solves n S u → i < n → v.x i *ℤ pos u.s ≡ u.x i *ℤ pos v.s
unique n g h r t y B M S v u i pass lies one two l =
    let p = 2 ^ (g + 60) in
    let e = λ (j : ℕ). v.x j *ℤ pos u.s -ℤ u.x j *ℤ pos v.s in
    let below = pass.below in
    let small = vanishing n (defect_size n p r t) (λ j. unsigned_abs (e j)) (row_parts n g r t) (2 ^ 30) (2 ^ (g + 30)) B (2 ^ 30 - B)
    (two_pow_above (g + 30)) (omega arith) (omega arith)
    (λ k m. pair_row n g r t S e k lies m (λ j q. row_by_pair n (S.a j) v.x u.x (pos v.s) (pos u.s) ∙ pair_left _ _ (S.c j) (pos v.s) (pos u.s) (one.rows j q) (two.rows j q)))
    (λ k m. row_parts_cover n g r t k (omega (arith, pass.parts k m)))
    pass.parts i l in
    omega (arith, ints, small)
