-- The columns of the approximate inverse R of a table, from its factor L: forward substitution solves L u = 2^(g + 10) e_c,
-- for the unit column e_c, and back substitution by the transpose of L solves for x from u. Products and quotients are
-- those of the factor, each rounded down.
use Rattle.std.specs.Prelude.{◌≡◌, ◌≤◌, ◌<◌, ◌+◌, ◌-◌, ◌^◌, ℕ, suc, ℤ, pos, ◌-ℤ◌, unsigned_abs}
use Rattle.whole_numbers.specs.Sum.{sum_to, unit}
use Rattle.chol_factor.specs.Factor.{fixed_product, fixed_quotient}

-- the sum of h k over the k past i and below n
abbrev pub sum_past : ℕ → ℕ → (ℕ → ℤ) → ℤ
sum_past n i h = sum_to (n - suc i) (λ d. h (suc i + d))

-- what the rows before row i leave of 2^(g + 10) times the unit column c
abbrev pub forward_left : (ℕ → ℕ → ℤ) → ℕ → ℕ → (ℕ → ℤ) → ℕ → ℤ
forward_left f g c u i = unit c (pos (2 ^ (g + 10))) i -ℤ sum_to i (λ k. fixed_product (f i k) (u k))

-- u is made by forward substitution of the unit column c, and all of it is in bounds
pub record IsForwardSolution (n : ℕ) (f : ℕ → ℕ → ℤ) (g c : ℕ) (u : ℕ → ℤ) : Type 0 where
  pub rows : (i : ℕ) → i < n → u i ≡ fixed_quotient (forward_left f g c u i) (f i i)
  pub left_fits : (i : ℕ) → i < n → unsigned_abs (forward_left f g c u i) ≤ 2 ^ 66
  pub fits : (i : ℕ) → i < n → unsigned_abs (u i) ≤ 2 ^ 64

-- what the rows past row i leave of u
abbrev pub back_left : ℕ → (ℕ → ℕ → ℤ) → (ℕ → ℤ) → (ℕ → ℤ) → ℕ → ℤ
back_left n f u x i = u i -ℤ sum_past n i (λ k. fixed_product (f k i) (x k))

-- x is made by back substitution of u, and all of it is in bounds
pub record IsBackSolution (n : ℕ) (f : ℕ → ℕ → ℤ) (u x : ℕ → ℤ) : Type 0 where
  pub rows : (i : ℕ) → i < n → x i ≡ fixed_quotient (back_left n f u x i) (f i i)
  pub left_fits : (i : ℕ) → i < n → unsigned_abs (back_left n f u x i) ≤ 2 ^ 66
  pub fits : (i : ℕ) → i < n → unsigned_abs (x i) ≤ 2 ^ 60

-- x is column c at the scale g, and all of it is in bounds
pub record IsInverseColumn (n : ℕ) (f : ℕ → ℕ → ℤ) (g c : ℕ) (x : ℕ → ℤ) : Type 0 where
  pub u : ℕ → ℤ
  pub up : IsForwardSolution n f g c u
  pub down : IsBackSolution n f u x

-- the columns before column c stay in their bounds at the scale g
abbrev pub StayInBounds : ℕ → (ℕ → ℕ → ℤ) → ℕ → ℕ → Type 0
StayInBounds n f g c = (k : ℕ) → k < c → (x : ℕ → ℤ) × IsInverseColumn n f g k x
