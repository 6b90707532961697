-- Rows of a table, added one after another.
use Rattle.std.proofs.Common.{◌≡◌, ◌≢◌, ◌≤◌, ◌<◌, ◌+◌, ◌∙◌, inl, inr, ℕ, ap, subst, arith}
use Rattle.std.proofs.lemmas.Bool.{cases_lt}
use Rattle.whole_numbers.specs.Intervals.{Interval, interval_add}
use Rattle.sym_blocks.specs.Tables.{SymTable, entry_at}

-- the sums stand in the rows below n, and the rows from n on are as they were
pub record AreAdded (n : ℕ) (old : SymTable) (more : ℕ → ℕ → Interval) (new : SymTable) : Type 0 where
  pub done : (i j : ℕ) → i < n → j ≤ i → entry_at new i j ≡ interval_add (entry_at old i j) (more i j)
  pub left : (i j : ℕ) → n ≤ i → i < old.size → j ≤ i → entry_at new i j ≡ entry_at old i j

pub one_more_row : (n : ℕ) (old mid new : SymTable) (more : ℕ → ℕ → Interval) → n < old.size
    → ((i j : ℕ) → i < n → j ≤ i → entry_at mid i j ≡ interval_add (entry_at old i j) (more i j)) → ((i j : ℕ) → n ≤ i → i < old.size → j ≤ i → entry_at mid i j ≡ entry_at old i j)
    → ((j : ℕ) → j ≤ n → entry_at new n j ≡ interval_add (entry_at mid n j) (more n j)) → ((i j : ℕ) → i < old.size → j ≤ i → i ≢ n → entry_at new i j ≡ entry_at mid i j)
    → AreAdded (n + 1) old more new
one_more_row n old mid new more within done left here others = record {
  done = λ i j l h. elim (cases_lt i n) [
    | inl before ↦ others i j (omega arith) h (omega arith) ∙ done i j before h
    | inr after ↦
        let same : n ≡ i = omega arith in
        subst (λ k. j ≤ k → entry_at new k j ≡ interval_add (entry_at old k j) (more k j)) same (λ low. here j low ∙ ap (λ w. interval_add w (more n j)) (left n j (omega arith) within low)) h
  ];
  left = λ i j l w h. others i j w h (omega arith) ∙ left i j (omega arith) w h;
}
