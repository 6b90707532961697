-- Tables less tables, row by row.
use Rattle.std.proofs.Common.{◌≡◌, ◌≤◌, ◌<◌, ◌+◌, ◌∙◌, ℕ, ap, subst, arith}
use Rattle.std.proofs.Math.Decide.{dec_lt}
use Rattle.whole_numbers.specs.Intervals.{interval_sub}
use Rattle.sym_blocks.specs.Tables.{SymTable, entry_at}
use Rattle.sym_blocks.proofs.Rows.{entry_sym}
use Rattle.recover_solution.specs.Parts.{IsLessAt}

-- the rows before one are done, and the others are left
pub record RowsDone (removed old new : SymTable) (row : ℕ) : Type 0 where
  pub done : (i j : ℕ) → i < row → j ≤ i → IsLessAt removed old new i j
  pub left : (i j : ℕ) → row ≤ i → i < old.size → j ≤ i → entry_at new i j ≡ entry_at old i j

module _ (removed old part new : SymTable) (row : ℕ) (within : row < old.size) (done : (i j : ℕ) → i < row → j ≤ i → IsLessAt removed old part i j) (left : (i j : ℕ) → row ≤ i → i < old.size → j ≤ i → entry_at part i j ≡ entry_at old i j) (here : (j : ℕ) → j ≤ row → IsLessAt removed part new row j) (others : (i j : ℕ) → i < old.size → j ≤ i → (i ≡ row → ⊥) → entry_at new i j ≡ entry_at part i j) where
  row_done : (j : ℕ) → j ≤ row → IsLessAt removed old new row j
  row_done j low = here j low ∙ ap (λ w. interval_sub w (entry_at removed row j)) (left row j (omega arith) within low)

  done_next : (i j : ℕ) → i < row + 1 → j ≤ i → IsLessAt removed old new i j
  done_next i j l low =
      elim (dec_lt i row) [
        | yes above ↦ others i j (omega arith) low (λ same. absurd (omega arith)) ∙ done i j above low
        | no below ↦ let same : row ≡ i = omega arith in subst (λ k. IsLessAt removed old new k j) same (row_done j (omega arith))
      ]

  pub rows_next : RowsDone removed old new (row + 1)
  rows_next = record {
    done = done_next;
    left = λ i j l size low. others i j size low (λ same. absurd (omega arith)) ∙ left i j (omega arith) size low;
  }

-- what is less up to the diagonal is less everywhere
pub less_each : (removed old new : SymTable) → ((i j : ℕ) → i < old.size → j ≤ i → IsLessAt removed old new i j) → (i j : ℕ) → i < old.size → j < old.size → IsLessAt removed old new i j
less_each removed old new lower i j li lj =
    elim (dec_lt i j) [
      | yes above ↦ entry_sym new i j ∙ lower j i lj (omega arith) ∙ ap (λ w. interval_sub w (entry_at removed j i)) (entry_sym old j i) ∙ ap (λ w. interval_sub (entry_at old i j) w) (entry_sym removed j i)
      | no below ↦ lower i j li (omega arith)
    ]
