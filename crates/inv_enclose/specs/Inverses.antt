-- Square tables of exact fractions and their inverses, and what an enclosed inverse promises of them. A table of fractions is the matrix
-- a / q of a system; the right sides of these systems do not count.
use Rattle.std.specs.Prelude.{ℕ, ℤ, pos, ◌+ℤ◌, ◌*ℤ◌, ◌≡◌, ◌<◌, ◌*◌}
use Rattle.stated_order.specs.Steps.{HasOne}
use Rattle.whole_numbers.specs.Sum.{sum_to, unit}
use Rattle.whole_numbers.specs.Intervals.{Interval, Holds}
use Rattle.sym_blocks.specs.Tables.{SymTable, entry_at}
use Rattle.sys_model.specs.Scaling.{HoldsTimes}
use Rattle.sys_model.specs.Systems.{System}

-- ---- tables of fractions
-- each element (i, j) of the first n rows and columns is the element (j, i)
abbrev pub IsSymmetric : ℕ → System → Type 0
IsSymmetric n Q = (i j : ℕ) → i < n → j < n → Q.a i j ≡ Q.a j i

-- Q times E is the identity, in the first n rows and columns: row i by column j is 1 where i = j, and else 0, over the denominator of both
pub record IsInverse (n : ℕ) (Q E : System) : Type 0 where
  pub plain_some : 0 < Q.q
  pub some : 0 < E.q
  pub products : (i j : ℕ) → i < n → j < n → sum_to n (λ k. Q.a i k *ℤ E.a k j) ≡ unit i (pos (Q.q * E.q)) j

-- each interval of the first n rows and columns holds the element of Q
pub record HoldsMatrix (n : ℕ) (t : ℕ → ℕ → Interval) (Q : System) : Type 0 where
  pub some : 0 < Q.q
  pub entries : (i j : ℕ) → i < n → j < n → Holds (t i j) (Q.a i j) Q.q

-- ---- what is promised
-- For each symmetric Q that the table holds, each E with Q E = 1 lies in the other table, times 10^(18 + kappa). (That E is symmetric
-- follows.)
abbrev pub HoldsInverses : SymTable → ℤ → SymTable → Type 0
HoldsInverses table kappa out = (Q E : System) → HoldsMatrix table.size (entry_at table) Q → IsSymmetric table.size Q → IsInverse table.size Q E
    → (i j : ℕ) → i < table.size → j < table.size → HoldsTimes (entry_at out i j) (E.a i j) E.q (kappa +ℤ pos 18)

-- each Q that the table holds has such an E
abbrev pub HaveInverses : SymTable → Type 0
HaveInverses table = (Q : System) → HoldsMatrix table.size (entry_at table) Q → HasOne (IsInverse table.size Q)
