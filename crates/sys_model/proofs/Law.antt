-- The law of the enclosure.
use Rattle.std.proofs.Common.{◌≡◌, ℕ, zero, suc, ℤ, ◌+ℤ◌, ◌*ℤ◌, arith, sym, ap, ◌∙◌, ◌≤◌, ◌<◌, ◌*◌, ◌+◌}
use Rattle.std.proofs.lemmas.Int.{ints}
use Rattle.std.proofs.Math.Nat.{mul-le-mul_left, mul-le-mul_right, le_of_mul-le-mul_left}
use Rattle.std.proofs.Math.Decide.{dec_lt, dec_le}
use Rattle.whole_numbers.specs.Sum.{sum_to, total_to, unit}
use Rattle.sys_model.specs.Systems.{row_by, rho}
use Rattle.sys_model.proofs.Parts.{product_at, defect_at}
use Rattle.whole_numbers.proofs.Sums.{sum_to_same, sum_to-+ℤ, sum_to-*ℤ, sum_to_swap, sum_to_unit, total_to_le, total_to-*}
use Rattle.whole_numbers.proofs.Ring.{ring, *ℤ_comm, *ℤ_assoc}

-- where e is greatest below n
pub greatest : (n : ℕ) (e : ℕ → ℕ) → 0 < n → (k : ℕ) × (k < n) × ((j : ℕ) → j < n → e j ≤ e k)
greatest zero e h = absurd (omega arith)
greatest (suc zero) e h = (0, omega arith, λ j l. let z : j ≡ 0 = omega arith in omega (arith, ap e z))
greatest (suc (suc n)) e h =
    let g = greatest (suc n) e (omega arith) in
    elim (dec_le (e (suc n)) (e g.0)) [
      | yes l ↦ (
        g.0,
        omega (arith, g.1),
        λ j m. elim (dec_lt j (suc n)) [
          | yes b ↦ g.2 j b
          | no b ↦ let z : j ≡ suc n = omega arith in omega (arith, ap e z)
        ],
      )
      | no l ↦ (
        suc n,
        omega arith,
        λ j m. elim (dec_lt j (suc n)) [
          | yes b ↦ omega (arith, g.2 j b)
          | no b ↦ let z : j ≡ suc n = omega arith in omega (arith, ap e z)
        ],
      )
    ]

-- a row's sum of products is at most its sum times the greatest
pub row_le : (n : ℕ) (c e : ℕ → ℕ) (top : ℕ) → ((j : ℕ) → j < n → e j ≤ top) → total_to n (λ j. c j * e j) ≤ total_to n c * top
row_le n c e top h =
    let a = total_to_le n (λ j. c j * e j) (λ j. c j * top) (λ j l. mul-le-mul_left (c j) (h j l)) in
    omega (arith, a, total_to-* n c top)

-- one row of the contraction: from `D T e ≤ sum of c e + D T m` and `sum of c ≤ b T` to `D e ≤ b top + D m`
pub row_contracts : (n : ℕ) (c e : ℕ → ℕ) (top D T b m i : ℕ) → 0 < T → ((j : ℕ) → j < n → e j ≤ top) → (D * T) * e i ≤ total_to n (λ j. c j * e j) + (D * T) * m → total_to n c ≤ b * T → D * e i ≤ b * top + D * m
row_contracts n c e top D T b m i t h step small =
    let r = row_le n c e top h in
    let s = mul-le-mul_right top small in
    let scaled : T * (D * e i) ≤ T * (b * top + D * m) = omega (arith, r, s, step) in
    le_of_mul-le-mul_left scaled t

-- If each row contracts, each size is below its bound.
pub contraction : (n : ℕ) (c : ℕ → ℕ → ℕ) (e b m : ℕ → ℕ) (D T B M rho room : ℕ) → 0 < T → B + room ≡ D → 0 < room
    → ((i : ℕ) → i < n → (D * T) * e i ≤ total_to n (λ j. c i j * e j) + (D * T) * m i)
    → ((i : ℕ) → i < n → total_to n (c i) ≤ b i * T)
    → ((i : ℕ) → i < n → b i ≤ B)
    → ((i : ℕ) → i < n → m i ≤ M)
    → D * M ≤ room * rho
    → (i : ℕ) → i < n → D * e i ≤ b i * rho + D * m i
contraction n c e b m D T B M rho room t less some step small bB mM r i l =
    let g = greatest n e (omega arith) in
    let k = g.0 in
    let at_k = row_contracts n (c k) e (e k) D T (b k) (m k) k t g.2 (step k g.1) (small k g.1) in
    let p = mul-le-mul_right (e k) (bB k g.1) in
    let q = mul-le-mul_left D (mM k g.1) in
    let gap = ap (λ x. x * e k) less in
    let top : room * e k ≤ room * rho = omega (arith, at_k, p, q, r, gap) in
    let below : e k ≤ rho = le_of_mul-le-mul_left top some in
    row_contracts n (c i) e rho D T (b i) (m i) i t (λ j l'. omega (arith, g.2 j l')) (step i l) (small i l)

-- Without a right side every size is 0.
pub vanishing : (n : ℕ) (c : ℕ → ℕ → ℕ) (e b : ℕ → ℕ) (D T B room : ℕ) → 0 < T → B + room ≡ D → 0 < room
    → ((i : ℕ) → i < n → (D * T) * e i ≤ total_to n (λ j. c i j * e j))
    → ((i : ℕ) → i < n → total_to n (c i) ≤ b i * T)
    → ((i : ℕ) → i < n → b i ≤ B)
    → (i : ℕ) → i < n → e i ≡ 0
vanishing n c e b D T B room t less some step small bB i l =
    let h = contraction n c e b (λ j. 0) D T B 0 0 room t less some (λ j m. omega (arith, step j m)) small bB (λ j m. omega arith) (omega arith) i l in
    let k : D * e i ≤ D * 0 = omega (arith, h) in
    let z : e i ≤ 0 = le_of_mul-le-mul_left k (omega arith) in
    omega arith

pub row_by-product : (n : ℕ) (r a : ℕ → ℕ → ℤ) (i : ℕ) (x : ℕ → ℤ) → sum_to n (λ k. r i k *ℤ row_by n a k x) ≡ sum_to n (λ j. product_at n r a i j *ℤ x j)
row_by-product n r a i x =
    sum_to_same n (λ k. r i k *ℤ row_by n a k x) (λ k. sum_to n (λ j. (r i k *ℤ a k j) *ℤ x j))
    (λ k l. sym (sum_to-*ℤ n (r i k) (λ j. a k j *ℤ x j)) ∙ sum_to_same n (λ j. r i k *ℤ (a k j *ℤ x j)) (λ j. (r i k *ℤ a k j) *ℤ x j) (λ j m. sym (*ℤ_assoc (r i k) (a k j) (x j))))
    ∙ sum_to_swap n n (λ k j. (r i k *ℤ a k j) *ℤ x j)
    ∙ sum_to_same n (λ j. sum_to n (λ k. (r i k *ℤ a k j) *ℤ x j)) (λ j. product_at n r a i j *ℤ x j)
    (λ j l. sum_to_same n (λ k. (r i k *ℤ a k j) *ℤ x j) (λ k. x j *ℤ (r i k *ℤ a k j)) (λ k m. *ℤ_comm (r i k *ℤ a k j) (x j)) ∙ sum_to-*ℤ n (x j) (λ k. r i k *ℤ a k j) ∙ *ℤ_comm (x j) (product_at n r a i j))

-- p x_i is the defect by x, and R by A x
pub split_row : (n : ℕ) (p : ℤ) (r a : ℕ → ℕ → ℤ) (i : ℕ) (x : ℕ → ℤ) → i < n → p *ℤ x i ≡ sum_to n (λ j. defect_at n p r a i j *ℤ x j) +ℤ sum_to n (λ k. r i k *ℤ row_by n a k x)
split_row n p r a i x l =
    rw (row_by-product n r a i x)
    (sym (sum_to_unit n i p x l)
    ∙ sum_to_same n (λ j. unit i p j *ℤ x j) (λ j. defect_at n p r a i j *ℤ x j +ℤ product_at n r a i j *ℤ x j) (λ j m. simp ring (omega (arith, ints)))
    ∙ sum_to-+ℤ n (λ j. defect_at n p r a i j *ℤ x j) (λ j. product_at n r a i j *ℤ x j))
