-- Tables with equal numbers in n rows and n columns have the same factors and pilots, and the same refusals where they have
-- none.
use Rattle.std.proofs.Common.{◌≡◌, ◌≤◌, ◌<◌, ◌^◌, ◌∙◌, ℕ, suc, ℤ, pos, ◌≤ℤ◌, arith, ap, subst, unsigned_abs}
use Rattle.std.proofs.Math.IntN.{◌-ℤ◌}
use Rattle.whole_numbers.specs.Sum.{sum_to}
use Rattle.chol_factor.specs.Factor.{fixed_product, fixed_quotient, left_of, IsRoot, IsColumn, HasColumns, IsPivot}
use Rattle.chol_guess.specs.Pilots.{IsPilot, IsCondition}
use Rattle.enclosures.specs.Pilots.{PilotTable}

-- the numbers of n rows and n columns are equal
abbrev pub SameSquare : ℕ → (ℕ → ℕ → ℤ) → (ℕ → ℕ → ℤ) → Type 0
SameSquare n m v = (i k : ℕ) → i < n → k < n → m i k ≡ v i k

-- ---- the same factors
left_carries : (n : ℕ) (m v f : ℕ → ℕ → ℤ) (i j : ℕ) → SameSquare n m v → i < n → j < n → left_of m f i j ≡ left_of v f i j
left_carries n m v f i j same row column = ap (λ a. a -ℤ sum_to j (λ k. fixed_product (f i k) (f j k))) (same i j row column)

column_carries : (n : ℕ) (m v f : ℕ → ℕ → ℤ) (j : ℕ) → SameSquare n m v → j < n → IsColumn n m f j → IsColumn n v f j
column_carries n m v f j same column c = record {
  pivot = subst (λ a. pos 1 ≤ℤ a) (left_carries n m v f j j same column column) c.pivot;
  root = subst (λ a. IsRoot a (f j j)) (left_carries n m v f j j same column column) c.root;
  below = λ i l row. c.below i l row ∙ ap (λ a. fixed_quotient a (f j j)) (left_carries n m v f i j same row column);
  left_fits = λ i l row. subst (λ a. unsigned_abs a ≤ 2 ^ 61) (left_carries n m v f i j same row column) (c.left_fits i l row);
  fits = c.fits;
}

pub columns_carry : (n : ℕ) (m v f : ℕ → ℕ → ℤ) (c : ℕ) → SameSquare n m v → c ≤ n → HasColumns n m f c → HasColumns n v f c
columns_carry n m v f c same le h j l = column_carries n m v f j same (omega arith) (h j l)

flipped : (n : ℕ) (m v : ℕ → ℕ → ℤ) → SameSquare n m v → SameSquare n v m
flipped n m v same i k row column = let e = same i k row column in cc

-- ---- the same pilots and refusals
pub pilot_carries : (n : ℕ) (m v : ℕ → ℕ → ℤ) (p : PilotTable) → SameSquare n m v → IsPilot n m p → IsPilot n v p
pilot_carries n m v p same a = record {
  size = a.size;
  scale = a.scale;
  f = a.f;
  factor = columns_carry n m v a.f n same (omega arith) a.factor;
  columns = a.columns;
  greatest = a.greatest;
}

pub pivot_carries : (n : ℕ) (m v : ℕ → ℕ → ℤ) (j : ℕ) → SameSquare n m v → IsPivot n m j → IsPivot n v j
pivot_carries n m v j same a = record {
  within = a.within;
  before = (a.before.0, columns_carry n m v a.before.0 j same (omega (arith, a.within)) a.before.1);
  none = λ f h. a.none f (columns_carry n v m f (suc j) (flipped n m v same) (omega (arith, a.within)) h);
}

pub condition_carries : (n : ℕ) (m v : ℕ → ℕ → ℤ) (c : ℕ) → SameSquare n m v → IsCondition n m c → IsCondition n v c
condition_carries n m v c same a = record {
  within = a.within;
  f = a.f;
  factor = columns_carry n m v a.f n same (omega arith) a.factor;
  greater = a.greater;
  before = a.before;
  here = a.here;
}
