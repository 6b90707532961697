-- Systems, fractions and intervals times powers of ten.
--
-- A power 10^k is the fraction ten_above k / ten_below k, for each whole number k. Fractions are compared by cross-multiplication,
-- so nothing is rounded.
use Rattle.std.specs.Prelude.{◌≡◌, ◌<◌, ◌*◌, ℕ, ℤ, pos, ◌+ℤ◌, ◌-ℤ◌, ◌*ℤ◌}
use Rattle.whole_numbers.specs.Intervals.{Interval, Holds}
use Rattle.whole_numbers.specs.Scaling.{ten_above, ten_below}
use Rattle.sys_model.specs.Systems.{System, Fractions, Table}

-- The fraction y / r is x / q times 10^k.
abbrev pub TimesPower : ℤ → ℕ → ℤ → ℤ → ℕ → Type 0
TimesPower x q k y r = y *ℤ pos (q * ten_below k) ≡ x *ℤ pos (r * ten_above k)

-- The interval holds x / q times 10^k.
abbrev pub HoldsTimes : Interval → ℤ → ℕ → ℤ → Type 0
HoldsTimes w x q k = Holds w (x *ℤ pos (ten_above k)) (q * ten_below k)

-- T is the system S in other units: each element (i, j) of T is that of S times 10^(k - s_i - s_j), and each right side i of T is
-- that of S times 10^(k + m - s_i).
pub record IsRescaled (n : ℕ) (k m : ℤ) (s : ℕ → ℤ) (S T : System) : Type 0 where
  pub plain_some : 0 < S.q
  pub some : 0 < T.q
  pub entries : (i j : ℕ) → i < n → j < n → TimesPower (S.a i j) S.q (k -ℤ s i -ℤ s j) (T.a i j) T.q
  pub rights : (i : ℕ) → i < n → TimesPower (S.c i) S.q (k +ℤ m -ℤ s i) (T.c i) T.q

-- The fractions of y are those of v in other units: number i of y is that of v times 10^(m + s_i).
pub record AreRescaled (n : ℕ) (m : ℤ) (s : ℕ → ℤ) (v y : Fractions) : Type 0 where
  pub plain_some : 0 < v.s
  pub some : 0 < y.s
  pub rows : (i : ℕ) → i < n → TimesPower (v.x i) v.s (m +ℤ s i) (y.x i) y.s

-- The system S, in the parameters' own units, lies in the stack: the intervals of its n rows hold each element (i, j) of S times
-- 10^(18 - t_i - t_j), and each right side i times 10^(18 - t_i), where t_i is the scale exponent of parameter i.
pub record LiesInStack (n : ℕ) (stack : Table) (t : ℕ → ℤ) (S : System) : Type 0 where
  pub some : 0 < S.q
  pub entries : (i j : ℕ) → i < n → j < n → HoldsTimes (stack.entry i j) (S.a i j) S.q (pos 18 -ℤ t i -ℤ t j)
  pub rights : (i : ℕ) → i < n → HoldsTimes (stack.right i) (S.c i) S.q (pos 18 -ℤ t i)
