-- The start vector: three steps of iterative refinement from 0, each of which adds what the approximate inverse R, the pilot,
-- makes of the residual. Source: Rump, Verification methods, 2010, where such an approximate solution is what the test is
-- made at. The scales, the roundings and the number of steps are this program's own; no law rests on how near the vector comes.
use Rattle.std.specs.Prelude.{◌≡◌, ◌≤◌, ◌<◌, ◌+◌, ◌-◌, ◌^◌, ℕ, zero, suc, ℤ, pos, ◌+ℤ◌, ◌-ℤ◌, ◌*ℤ◌, unsigned_abs}
use Rattle.whole_numbers.specs.Sum.{sum_to}
use Rattle.enclosures.specs.Vectors.{IsSmall}
use Rattle.whole_numbers.specs.Quotients.{floor_over}
use Rattle.sys_model.specs.Systems.{Table}
use Rattle.enclosures.specs.Pilots.{PilotTable, pilot_entry}
use Rattle.whole_numbers.specs.Intervals.{midpoint}
use Rattle.stated_order.specs.First.{IsLeast}

-- the residual of y in row i, by the midpoints of the table and the right side
abbrev pub midpoint_residual : ℕ → Table → (ℕ → ℤ) → ℕ → ℤ
midpoint_residual n t y i = midpoint (t.right i) -ℤ sum_to n (λ j. midpoint (t.entry i j) *ℤ y j)

-- each of the numbers q over 2^h is at most 2^66 in size
abbrev pub AllFitAfter : ℕ → (ℕ → ℤ) → ℕ → Type 0
AllFitAfter n q h = (i : ℕ) → i < n → unsigned_abs (floor_over (q i) (2 ^ h)) ≤ 2 ^ 66

-- y with its correction added, which is what the pilot makes of the numbers q over 2^h
abbrev pub corrected : ℕ → PilotTable → (ℕ → ℤ) → ℕ → (ℕ → ℤ) → ℕ → ℤ
corrected n p q h y i = y i +ℤ floor_over (sum_to n (λ k. pilot_entry p i k *ℤ floor_over (q k) (2 ^ h))) (2 ^ (p.g + 60 - h))

-- one step of iterative refinement leads from y to z
pub record IsRefinement (n : ℕ) (t : Table) (p : PilotTable) (y z : ℕ → ℤ) : Type 0 where
  pub h : ℕ
  pub shift : IsLeast (AllFitAfter n (midpoint_residual n t y)) h
  pub rows : (i : ℕ) → i < n → z i ≡ corrected n p (midpoint_residual n t y) h y i

-- this many refinements lead from 0 to z, and each began with a small vector
abbrev pub AfterRefinements : ℕ → Table → PilotTable → ℕ → (ℕ → ℤ) → Type 0
AfterRefinements n t p zero z = (i : ℕ) → i < n → z i ≡ pos 0
AfterRefinements n t p (suc k) z = (y : ℕ → ℤ) × (AfterRefinements n t p k y × (IsSmall n y × IsRefinement n t p y z))

-- y is the start vector of the pilot p
pub record IsStartVector (n : ℕ) (t : Table) (p : PilotTable) (y : ℕ → ℤ) : Type 0 where
  pub refinements : AfterRefinements n t p 3 y
  pub small : IsSmall n y

-- after one of the refinements the sizes pass 2^64, at this row first
pub record IsVectorRange (n : ℕ) (t : Table) (p : PilotTable) (row : ℕ) : Type 0 where
  pub refinement : ℕ
  pub some : 1 ≤ refinement
  pub few : refinement ≤ 3
  pub z : ℕ → ℤ
  pub refinements : AfterRefinements n t p refinement z
  pub within : row < n
  pub before : IsSmall row z
  pub past : ¬ (IsSmall (suc row) z)
