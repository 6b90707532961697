-- What the printed numbers mean.
--
-- A system, its solutions and its residuals are in the parameters' own units. Fractions are compared by cross-multiplication: no scale,
-- no interval and no rounding occurs in them. Printed numbers are in units of 10^-16, a printed residual in units of ten to its place.
-- Nothing is promised of a printed deviation.
-- Source: the normal equation N (x - x0) = b of Brockmann 1997, and the enclosure test of Rump 2010.
use Rattle.std.specs.Prelude.{◌≡◌, ◌≤◌, ◌<◌, ◌*◌, ◌^◌, ℕ, ℤ, pos, ◌+ℤ◌, ◌-ℤ◌, ◌*ℤ◌, ◌≤ℤ◌, unsigned_abs}
use Rattle.decimal_e.specs.Decimals.{Decimal}
use Rattle.decimal_e.specs.Fractions.{numerator, denominator}
use Rattle.sys_model.specs.Scaling.{LiesInStack}
use Rattle.sys_model.specs.Systems.{System, Fractions, Table, Solves, residual}
use Rattle.bounds_report.specs.declared.numbers.Printed.{Printed}
use Rattle.whole_numbers.specs.Scaling.{ten_above, ten_below}

-- 10^16 (x0 + x / s), over the denominator of x0 times s
abbrev pub printed_scale : Decimal → ℤ → ℕ → ℤ
printed_scale x0 x s = pos (10 ^ 16) *ℤ (numerator x0 *ℤ pos s +ℤ x *ℤ pos (denominator x0))

-- lower <= 10^16 (x0 + x / s) <= upper
pub record LiesBetween (p : Printed) (x0 : Decimal) (x : ℤ) (s : ℕ) : Type 0 where
  pub above : (p.lower *ℤ pos (denominator x0 * s)) ≤ℤ printed_scale x0 x s
  pub below : printed_scale x0 x s ≤ℤ (p.upper *ℤ pos (denominator x0 * s))

-- each fraction of v is the printed estimate minus the a priori value
pub record AreDifferences (n : ℕ) (x0 : ℕ → Decimal) (p : ℕ → Printed) (v : Fractions) : Type 0 where
  pub some : 0 < v.s
  pub rows : (i : ℕ) → i < n → v.x i *ℤ pos (denominator (x0 i) * 10 ^ 16) ≡ ((p i).estimate *ℤ pos (denominator (x0 i)) -ℤ numerator (x0 i) *ℤ pos (10 ^ 16)) *ℤ pos v.s

-- the size of the residual of v in row i is at most the printed one times ten to its place
abbrev pub LeavesAtMost : ℕ → System → Fractions → ℕ → Printed → Type 0
LeavesAtMost n S v i p = unsigned_abs (residual n S v i) * ten_below p.place ≤ (p.residual * ten_above p.place) * (S.q * v.s)

-- What the printed numbers p of n rows promise of each system in the stack with these scale exponents.
--
-- The system has a solution, all its solutions are equal, each lies between the printed bounds, and the printed estimates leave at
-- most the printed residual in every row.
pub record AreCertified (n : ℕ) (stack : Table) (scale : ℕ → ℤ) (x0 : ℕ → Decimal) (p : ℕ → Printed) : Type 0 where
  pub solvable : (S : System) → LiesInStack n stack scale S → (v : Fractions) × Solves n S v
  pub same : (S : System) (v u : Fractions) → LiesInStack n stack scale S → Solves n S v → Solves n S u → (i : ℕ) → i < n → v.x i *ℤ pos u.s ≡ u.x i *ℤ pos v.s
  pub between : (S : System) (v : Fractions) → LiesInStack n stack scale S → Solves n S v → (i : ℕ) → i < n → LiesBetween (p i) (x0 i) (v.x i) v.s
  pub differences : (v : Fractions) × AreDifferences n x0 p v
  pub residuals : (S : System) (v : Fractions) → LiesInStack n stack scale S → AreDifferences n x0 p v → (i : ℕ) → i < n → LeavesAtMost n S v i (p i)
