-- The systems that a working table stands for.
use Rattle.std.specs.Prelude.{ℕ, ℤ, pos, ◌↔◌}
use Rattle.sys_model.specs.Scaling.{IsRescaled, AreRescaled}
use Rattle.sys_model.specs.Systems.{System, Fractions, Table, LiesIn, Solves}

-- S in the units of the working table is T: each element (i, j) times 10^(-e_i - e_j), and each right side i times 10^(12 - e_i)
abbrev pub IsWorkingSystem : ℕ → (ℕ → ℤ) → System → System → Type 0
IsWorkingSystem n e S T = IsRescaled n (pos 0) (pos 12) e S T

-- the fractions v in the units of the working table are y: each v_i times 10^(12 + e_i)
abbrev pub AreWorkingNumbers : ℕ → (ℕ → ℤ) → Fractions → Fractions → Type 0
AreWorkingNumbers n e v y = AreRescaled n (pos 12) e v y

-- Each system in the intervals of t has a working system, each of its working systems lies in the intervals of w, and fractions solve
-- the system exactly where their working numbers solve the working system.
pub record CarriesSystems (n : ℕ) (t w : Table) (e : ℕ → ℤ) : Type 0 where
  pub some : (S : System) → LiesIn n t S → (T : System) × IsWorkingSystem n e S T
  pub lies : (S T : System) → LiesIn n t S → IsWorkingSystem n e S T → LiesIn n w T
  pub solutions : (S T : System) (v y : Fractions) → IsWorkingSystem n e S T → AreWorkingNumbers n e v y → Solves n S v ↔ Solves n T y
