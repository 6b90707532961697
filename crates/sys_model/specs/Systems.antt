-- Systems of linear equations over exact fractions, the intervals that hold them, and the test that encloses their solutions.
--
-- The test is the one of Rump 2010: where an approximate inverse R of a table A leaves of I - R A less than 1 in each row, each
-- system in the table has exactly one solution, and it lies near the approximate solution that was tested. The units, 2^-30 for
-- defects and 2^-(scale + 60) for R, are this program's own.
use Rattle.std.specs.Prelude.{ℕ, ℤ, pos, ◌+ℤ◌, ◌-ℤ◌, ◌*ℤ◌, ◌≡◌, ◌≤◌, ◌<◌, ◌*◌, ◌+◌, ◌-◌, ◌^◌, min}
use Rattle.whole_numbers.specs.Sum.{sum_to, total_to, unit}
use Rattle.whole_numbers.specs.Intervals.{Interval, Holds, point_interval, interval_sub, interval_scale, sum_intervals, size, interval_shift}
use Rattle.whole_numbers.specs.Quotients.{up_over}

-- ---- systems and solutions
-- A system of equations: the matrix a / q and the right side c / q. How many rows are meant is said where it is used.
pub record System : Type 0 where
  pub q : ℕ
  pub a : ℕ → ℕ → ℤ
  pub c : ℕ → ℤ

-- A list of fractions over one denominator: x_0 / s, x_1 / s, and so on.
pub record Fractions : Type 0 where
  pub s : ℕ
  pub x : ℕ → ℤ

-- The sum over the columns j below n of a_ij x_j.
abbrev pub row_by : ℕ → (ℕ → ℕ → ℤ) → ℕ → (ℕ → ℤ) → ℤ
row_by n a i x = sum_to n (λ j. a i j *ℤ x j)

-- The residual of the fractions v in row i: matrix times v minus the right side, over the denominator q s.
abbrev pub residual : ℕ → System → Fractions → ℕ → ℤ
residual n S v i = row_by n S.a i v.x -ℤ S.c i *ℤ pos v.s

-- The fractions solve the system: their residual is 0 in each of the n rows.
pub record Solves (n : ℕ) (S : System) (v : Fractions) : Type 0 where
  pub some : 0 < v.s
  pub rows : (i : ℕ) → i < n → residual n S v i ≡ pos 0

-- ---- intervals that hold systems
-- An interval for each element of a matrix and for each number of a right side.
pub record Table : Type 0 where
  pub entry : ℕ → ℕ → Interval
  pub right : ℕ → Interval

-- The system lies in the table: in the first n rows and columns, each interval holds its element a_ij / q, or c_i / q.
pub record LiesIn (n : ℕ) (t : Table) (S : System) : Type 0 where
  pub some : 0 < S.q
  pub entries : (i j : ℕ) → i < n → j < n → Holds (t.entry i j) (S.a i j) S.q
  pub rights : (i : ℕ) → i < n → Holds (t.right i) (S.c i) S.q

-- ---- the test
-- What is tested: the first n rows of a table, an approximate inverse, an approximate solution, and bounds on what they leave.
pub record EnclosureTest : Type 0 where
  -- the number of rows
  pub n : ℕ
  -- the unit of the approximate inverse is 2^-(scale + 60)
  pub scale : ℕ
  -- residuals are rounded outward to multiples of 2^shift before the approximate inverse is applied
  pub shift : ℕ
  pub inverse : ℕ → ℕ → ℤ
  pub table : Table
  -- the approximate solution
  pub vector : ℕ → ℤ
  -- the greatest defect of a row, in units of 2^-30
  pub defect_bound : ℕ
  -- the greatest error of a row, in the units of the vector
  pub error_bound : ℕ

-- The interval of (I - R A)_ij, where R is r / p and A is any matrix in the table; its ends are in units of 1 / p.
abbrev pub defect_interval : ℕ → ℕ → (ℕ → ℕ → ℤ) → Table → ℕ → ℕ → Interval
defect_interval n p r t i j = interval_sub (point_interval (unit i (pos p) j)) (sum_intervals n (λ k. interval_scale (r i k) (t.entry k j)))

abbrev pub defect_size : ℕ → ℕ → (ℕ → ℕ → ℤ) → Table → ℕ → ℕ → ℕ
defect_size n p r t i j = size (defect_interval n p r t i j)

-- The defect of row i: the sum over j of the sizes of (I - R A)_ij, each counted as at most 1, in units of 2^-30, rounded up. R is r in
-- units of 2^-(g + 60).
abbrev pub row_parts : ℕ → ℕ → (ℕ → ℕ → ℤ) → Table → ℕ → ℕ
row_parts n g r t i = up_over (total_to n (λ j. min (defect_size n (2 ^ (g + 60)) r t i j) (2 ^ (g + 60)))) (2 ^ (g + 30))

-- The interval of what y leaves of the right side in row i: the right side minus the table times y.
abbrev pub residual_interval : ℕ → Table → (ℕ → ℤ) → ℕ → Interval
residual_interval n t y i = interval_sub (t.right i) (sum_intervals n (λ j. interval_scale (y j) (t.entry i j)))

-- The error of row i: the size of row i of R times what y leaves of the right side, in the units of y, rounded up. R is r in units of
-- 2^-(g + 60), and what y leaves is first rounded outward to multiples of 2^h.
abbrev pub row_error : ℕ → ℕ → ℕ → (ℕ → ℕ → ℤ) → Table → (ℕ → ℤ) → ℕ → ℕ
row_error n g h r t y i = up_over (size (sum_intervals n (λ k. interval_scale (r i k) (interval_shift h (residual_interval n t y k))))) (2 ^ (g + 60 - h))

-- The test passes: no defect is above the defect bound, which is below 1 (2^30 units), and no error is above the error bound.
pub record Passes (c : EnclosureTest) : Type 0 where
  pub shift : c.shift ≤ 60
  pub parts : (i : ℕ) → i < c.n → row_parts c.n c.scale c.inverse c.table i ≤ c.defect_bound
  pub errors : (i : ℕ) → i < c.n → row_error c.n c.scale c.shift c.inverse c.table c.vector i ≤ c.error_bound
  pub below : c.defect_bound < 2 ^ 30

-- How far a solution can be from the vector in any row: the error bound over (1 - defect bound), rounded up. B is the defect bound in
-- units of 2^-30, M the error bound.
abbrev pub rho : ℕ → ℕ → ℕ
rho B M = up_over (M * 2 ^ 30) (2 ^ 30 - B)

-- The radius of row i, in the units of the vector: the row's error, and its defect times how far a solution can be in any row.
abbrev pub radius_of : EnclosureTest → ℕ → ℕ
radius_of c i = row_error c.n c.scale c.shift c.inverse c.table c.vector i + up_over (row_parts c.n c.scale c.inverse c.table i * rho c.defect_bound c.error_bound) (2 ^ 30)

-- The interval of the numbers at most w from y.
abbrev pub around : ℤ → ℕ → Interval
around y w = record { lo = y -ℤ pos w; hi = y +ℤ pos w }

-- What a test that passes shows: each system in the table has a solution, all its solutions are equal, and each lies within w of y.
pub record Encloses (n : ℕ) (t : Table) (y : ℕ → ℤ) (w : ℕ → ℕ) : Type 0 where
  pub contains : (S : System) (v : Fractions) → LiesIn n t S → Solves n S v → (i : ℕ) → i < n → Holds (around (y i) (w i)) (v.x i) v.s
  pub same : (S : System) (v u : Fractions) → LiesIn n t S → Solves n S v → Solves n S u → (i : ℕ) → i < n → v.x i *ℤ pos u.s ≡ u.x i *ℤ pos v.s
  pub solvable : (S : System) → LiesIn n t S → (v : Fractions) × Solves n S v

-- ---- the test by its parts
-- rows, scale, shift, approximate inverse, table, vector, defect bound and error bound
abbrev pub test_of : ℕ → ℕ → ℕ → (ℕ → ℕ → ℤ) → Table → (ℕ → ℤ) → ℕ → ℕ → EnclosureTest
test_of n g h r t y B M = record { n = n; scale = g; shift = h; inverse = r; table = t; vector = y; defect_bound = B; error_bound = M }

abbrev pub radius : ℕ → ℕ → ℕ → (ℕ → ℕ → ℤ) → Table → (ℕ → ℤ) → ℕ → ℕ → ℕ → ℕ
radius n g h r t y B M i = radius_of (test_of n g h r t y B M) i
