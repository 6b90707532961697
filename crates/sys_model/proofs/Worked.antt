-- Worked values of the definitions: each of them fails where a definition says less.
use Rattle.std.proofs.Common.{◌≡◌, ◌-◌, ◌*◌, ◌^◌, ℕ, suc, ℤ, pos, negsuc, refl, arith}
use Rattle.whole_numbers.specs.Sum.{unit}
use Rattle.whole_numbers.specs.Intervals.{point_interval}
use Rattle.sys_model.specs.Scaling.{TimesPower, HoldsTimes}
use Rattle.sys_model.specs.Systems.{System, Table, EnclosureTest, residual, row_parts, residual_interval, Passes, rho, radius_of}

-- ---- solutions
-- 3 x = 1
abbrev thrice : System
thrice = record { q = 1; a = λ i j. pos 3; c = λ i. pos 1 }

-- 1 / 3 leaves nothing, 1 / 2 leaves 3 / 2 - 1 = 1 / 2
pub third_leaves_nothing : residual 1 thrice (record { s = 3; x = λ i. pos 1 }) 0 ≡ pos 0
third_leaves_nothing = refl

pub half_leaves_a_half : residual 1 thrice (record { s = 2; x = λ i. pos 1 }) 0 ≡ pos 1
half_leaves_a_half = refl

-- ---- the test
-- one row with the element a, its approximate inverse 2^-60 and the vector 0
abbrev one_row : ℤ → ℕ → EnclosureTest
one_row a B = record {
  n = 1;
  scale = 0;
  shift = 0;
  inverse = λ i j. pos 1;
  table = record { entry = λ i j. point_interval a; right = λ i. point_interval (pos 0) };
  vector = λ i. pos 0;
  defect_bound = B;
  error_bound = 0;
}

-- 1 - 2^30 / 2^60 is 2^30 - 1 units of 2^-30
pub largest_defect : row_parts 1 0 (λ i j. pos 1) (one_row (pos (2 ^ 30)) 0).table 0 ≡ 2 ^ 30 - 1
largest_defect = refl

-- with one unit of 2^-60 more it is rounded up to 2^30
pub defect_of_one : row_parts 1 0 (λ i j. pos 1) (one_row (pos (2 ^ 30 - 1)) 0).table 0 ≡ 2 ^ 30
defect_of_one = refl

-- the test passes with a defect of 2^30 - 1
pub passes_below_one : Passes (one_row (pos (2 ^ 30)) (2 ^ 30 - 1))
passes_below_one = record {
  shift = omega arith;
  parts = λ i l. let z : i ≡ 0 = omega arith in rw z (omega arith);
  errors = λ i l. omega arith;
  below = omega arith;
}

-- and with no bound where the defect is 2^30
pub fails_at_one : (B : ℕ) → Passes (one_row (pos (2 ^ 30 - 1)) B) → ⊥
fails_at_one B p = omega (arith, p.parts 0 (omega arith), p.below)

-- what (1, 0) leaves of a zero right side where only the element in row 1 and column 0 is not 0: the sum goes along the row
abbrev below_diagonal : Table
below_diagonal = record { entry = λ i j. point_interval (unit (suc j) (pos 7) i); right = λ i. point_interval (pos 0) }

pub leaves_in_row_0 : residual_interval 2 below_diagonal (unit 0 (pos 1)) 0 ≡ point_interval (pos 0)
leaves_in_row_0 = refl

pub leaves_in_row_1 : residual_interval 2 below_diagonal (unit 0 (pos 1)) 1 ≡ point_interval (negsuc 6)
leaves_in_row_1 = refl

-- an error of at most 10 with a defect of a half is a distance of at most 20
pub distance_at_a_half : rho (2 ^ 29) 10 ≡ 20
distance_at_a_half = refl

-- with an error of its own of 10 the row's radius is 10 + 10
abbrev half_row : EnclosureTest
half_row = record (one_row (pos (2 ^ 59)) (2 ^ 29)) { table = record { entry = λ i j. point_interval (pos (2 ^ 59)); right = λ i. point_interval (pos (10 * 2 ^ 60)) }; error_bound = 10 }

pub radius_at_a_half : radius_of half_row 0 ≡ 20
radius_at_a_half = refl

-- ---- powers of ten
-- 1 times 10^-2 is 1 / 100, and times 10^2 it is 100
pub one_lowered : TimesPower (pos 1) 1 (negsuc 1) (pos 1) 100
one_lowered = refl

pub one_raised : TimesPower (pos 1) 1 (pos 2) (pos 100) 1
one_raised = refl

-- 10^-10 at the scale exponents -4 and -4 stands in the stack as 10^16
pub small_scale_in_stack : HoldsTimes (point_interval (pos (10 ^ 16))) (pos 1) (10 ^ 10) (pos 26)
small_scale_in_stack = record { above = omega arith; below = omega arith }
