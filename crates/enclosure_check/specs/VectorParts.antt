-- For private functions alone: what a refinement of the start vector is made of, in lists.
use Rattle.std.specs.Prelude.{◌≡◌, ◌≤◌, ◌<◌, ◌+◌, ◌-◌, ◌^◌, ℕ, suc, ℤ, ◌+ℤ◌, ◌*ℤ◌, ⊤, List, length}
use Rattle.whole_numbers.specs.Quotients.{floor_over}
use Rattle.whole_numbers.specs.Sum.{sum_to}
use Rattle.sys_model.specs.Systems.{Table}
use Rattle.whole_numbers.specs.Lists.{at, AllAtMost}
use Rattle.enclosures.specs.Pilots.{PilotTable, pilot_entry}
use Rattle.enclosure_check.specs.ErrorParts.{IsVector}
use Rattle.enclosure_check.specs.Rows.{entry_between}
use Rattle.enclosure_check.specs.Vectors.{IsRefinement, midpoint_residual}
use Rattle.enclosures.specs.Vectors.{IsSmall}
use Rattle.enclosure_check.specs.declared.VectorError.{VectorError}
use Rattle.enclosure_check.specs.declared.VectorError.TheVariants.{Range, Memory}
use Rattle.whole_numbers.specs.Intervals.{midpoint}

-- the midpoint of interval j of a row times number j of the vector
abbrev pub taken_midpoint : List ℤ → List ℤ → List ℤ → ℕ → ℤ
taken_midpoint low high y j = midpoint (entry_between low high j) *ℤ at y j

-- the numbers are the residual of y, by the midpoints of the intervals
pub record AreMidpointResiduals (n : ℕ) (t : Table) (y : ℕ → ℤ) (qs : List ℤ) : Type 0 where
  pub len : length qs ≡ n
  pub each : (i : ℕ) → i < n → at qs i ≡ midpoint_residual n t y i
  pub small : AllAtMost (2 ^ 126) qs

-- the numbers vs are the numbers qs over 2^h
pub record AreFloors (h : ℕ) (qs vs : List ℤ) : Type 0 where
  pub len : length vs ≡ length qs
  pub each : (k : ℕ) → k < length qs → at vs k ≡ floor_over (at qs k) (2 ^ h)

-- a row of the pilot and as many numbers that it may be multiplied with
pub record IsRowByNumbers (r vs : List ℤ) : Type 0 where
  pub len : length r ≡ length vs
  pub few : length vs ≤ 1000
  pub row_small : AllAtMost (2 ^ 50) r
  pub numbers_small : AllAtMost (2 ^ 66) vs

-- the product of number k of a row and number k
abbrev pub part_number : List ℤ → List ℤ → ℕ → ℤ
part_number r vs k = at r k *ℤ at vs k

-- n numbers that the pilot may be multiplied with
pub record AreShiftedNumbers (n : ℕ) (vs : List ℤ) : Type 0 where
  pub len : length vs ≡ n
  pub few : n ≤ 1000
  pub small : AllAtMost (2 ^ 66) vs

-- the correction of row i: what the pilot makes of the numbers vs, which were shifted by h
abbrev pub correction_at : PilotTable → List ℤ → ℕ → ℕ → ℤ
correction_at p vs h i = floor_over (sum_to p.size (λ k. pilot_entry p i k *ℤ at vs k)) (2 ^ (p.g + 60 - h))

-- number i of y and its correction
abbrev pub corrected_at : PilotTable → List ℤ → List ℤ → ℕ → ℕ → ℤ
corrected_at p y vs h i = at y i +ℤ correction_at p vs h i

-- the numbers zs are those that f gives, and their sizes add up to at most 2^64
pub record AreSmallNumbers (n : ℕ) (f : ℕ → ℤ) (zs : List ℤ) : Type 0 where
  pub len : length zs ≡ n
  pub each : (i : ℕ) → i < n → at zs i ≡ f i
  pub small : IsSmall n f

-- the sizes of the first n numbers pass 2^64 in sum, at this row first
pub record PassesAt (n : ℕ) (f : ℕ → ℤ) (row : ℕ) : Type 0 where
  pub within : row < n
  pub before : IsSmall row f
  pub past : ¬ (IsSmall (suc row) f)

-- the refusal names the row at which the numbers pass 2^64
abbrev pub IsPassed : ℕ → (ℕ → ℤ) → VectorError → Type 0
IsPassed n f (Range row) = PassesAt n f row
IsPassed n f Memory = ⊤

-- the numbers zs are a vector, and one refinement leads to them from y
pub record IsRefined (n : ℕ) (t : Table) (p : PilotTable) (y : ℕ → ℤ) (zs : List ℤ) : Type 0 where
  pub vector : IsVector n zs
  pub refinement : IsRefinement n t p y (at zs)

-- after one refinement from y the numbers pass 2^64 at the row that the refusal names
abbrev pub IsRefinementRefused : ℕ → Table → PilotTable → (ℕ → ℤ) → VectorError → Type 0
IsRefinementRefused n t p y (Range row) = (z : ℕ → ℤ) × (IsRefinement n t p y z × PassesAt n z row)
IsRefinementRefused n t p y Memory = ⊤
