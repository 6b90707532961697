-- What a pilot is made of.
use Rattle.std.proofs.Common.{◌≡◌, ◌<◌, ◌+◌, ◌∙◌, inl, inr, ℕ, ℤ, List, arith, subst, sym}
use Rattle.sym_blocks.specs.Tables.{SymTable}
use Rattle.whole_numbers.specs.Squares.{SquareTable, square_at, SetsNumber}
use Rattle.whole_numbers.proofs.Cases.{last_or_before}
use Rattle.chol_factor.specs.Factor.{HasColumns, IsPivot}
use Rattle.chol_factor.specs.Refusals.{IsFactorRefused}
use Rattle.chol_factor.specs.declared.FactorError.{FactorError}
use Rattle.chol_factor.specs.declared.FactorError.TheVariants as factor
use Rattle.chol_guess.specs.Made.{IsPilotOf, IsRefusedOf}
use Rattle.chol_guess.specs.Pilots.{IsPilot, IsCondition, nearest}
use Rattle.enclosures.specs.Pilots.{PilotTable, pilot_entry}
use Rattle.chol_guess.specs.Columns.{IsInverseColumn}
use Rattle.chol_guess.specs.Midpoints.{midpoints, HasRows}
use Rattle.chol_guess.specs.Refusals.{IsRefused, of_factor}
use Rattle.chol_guess.proofs.Carried.{SameSquare, pilot_carries, pivot_carries, condition_carries}
use Rattle.chol_guess.specs.Rows.{IsGreatestScale, IsFailure, PlacesColumns}
use Rattle.chol_guess.specs.declared.PilotError.{PilotError}
use Rattle.chol_guess.specs.declared.PilotError.TheVariants.{Pivot, Condition, Memory}

pub pilot_made : (n : ℕ) (f : ℕ → ℕ → ℤ) (p : PilotTable) (g m : ℕ) (ws : List ℤ) (r : SquareTable) → p ≡ record { g = g; size = m; entries = ws } → m ≡ n → r.size ≡ n → ws ≡ r.numbers → IsGreatestScale n f g r → IsPilotOf n f p
pilot_made n f p g m ws r is size room same best = subst (IsPilotOf n f) (sym is) (record {
  size = size;
  scale = best.scale;
  columns = subst (λ k. PlacesColumns n f g (record { size = k; numbers = ws }) n) (room ∙ sym size) (subst (λ l. PlacesColumns n f g (record { size = r.size; numbers = l }) n) (sym same) best.columns);
  greatest = best.greatest;
})

-- ---- of a factor, and of the table that it is one of
columns_of_factor : (n : ℕ) (f : ℕ → ℕ → ℤ) (p : PilotTable) → IsPilotOf n f p → (c : ℕ) → c < n → (x : ℕ → ℤ) × (IsInverseColumn n f p.g c x × ((i : ℕ) → i < n → pilot_entry p i c ≡ nearest (x i)))
columns_of_factor n f p made c h =
    let placed = made.columns c h in
    (placed.0, (placed.1.0, λ i row. placed.1.1 i row))

pilot_of_factor : (n : ℕ) (m f : ℕ → ℕ → ℤ) (p : PilotTable) → HasColumns n m f n → IsPilotOf n f p → IsPilot n m p
pilot_of_factor n m f p factor made = record { size = made.size; scale = made.scale; f = f; factor = factor; columns = columns_of_factor n f p made; greatest = made.greatest }

pilot_of_table : (n k : ℕ) (m f : ℕ → ℕ → ℤ) (p : PilotTable) → k ≡ n → HasColumns n m f n → IsPilotOf k f p → IsPilot n m p
pilot_of_table n k m f p size factor made = pilot_of_factor n m f p factor (subst (λ l. IsPilotOf l f p) size made)

condition_of_factor : (n : ℕ) (m f : ℕ → ℕ → ℤ) (c : ℕ) → HasColumns n m f n → IsFailure n f c → IsCondition n m c
condition_of_factor n m f c factor failure = record { within = failure.first.within; f = f; factor = factor; greater = failure.greater; before = failure.first.before; here = failure.first.here }

refused_of_factor : (n : ℕ) (m f : ℕ → ℕ → ℤ) (e : PilotError) → HasColumns n m f n → IsRefusedOf n f e → IsRefused n m e
refused_of_factor n m f (Pivot row) factor none = absurd none
refused_of_factor n m f (Condition col) factor failure = condition_of_factor n m f col factor failure
refused_of_factor n m f Memory factor h = h

refused_of_table : (n k : ℕ) (m f : ℕ → ℕ → ℤ) (e : PilotError) → k ≡ n → HasColumns n m f n → IsRefusedOf k f e → IsRefused n m e
refused_of_table n k m f e size factor refused = refused_of_factor n m f e factor (subst (λ l. IsRefusedOf l f e) size refused)

-- ---- of a square that has the numbers of a table
pub pilot_of_square : (n k l : ℕ) (m v f : ℕ → ℕ → ℤ) (p : PilotTable) → k ≡ n → l ≡ k → SameSquare n v m → HasColumns k v f k → IsPilotOf l f p → IsPilot n m p
pilot_of_square n k l m v f p size_k size_l same factor made =
    pilot_carries n v m p same (pilot_of_table n l v f p (size_l ∙ size_k) (subst (λ j. HasColumns j v f j) size_k factor) made)

refused_carries : (n : ℕ) (m v : ℕ → ℕ → ℤ) (e : PilotError) → SameSquare n m v → IsRefused n m e → IsRefused n v e
refused_carries n m v (Pivot row) same h = pivot_carries n m v row same h
refused_carries n m v (Condition col) same h = condition_carries n m v col same h
refused_carries n m v Memory same h = h

pub refused_of_square : (n k l : ℕ) (m v f : ℕ → ℕ → ℤ) (e : PilotError) → k ≡ n → l ≡ k → SameSquare n v m → HasColumns k v f k → IsRefusedOf l f e → IsRefused n m e
refused_of_square n k l m v f e size_k size_l same factor refused =
    refused_carries n v m e same (refused_of_table n l v f e (size_l ∙ size_k) (subst (λ j. HasColumns j v f j) size_k factor) refused)

pub factor_refused : (n k : ℕ) (m v : ℕ → ℕ → ℤ) (e : FactorError) → k ≡ n → SameSquare n v m → IsFactorRefused k v e → IsRefused n m (of_factor e)
factor_refused n k m v (factor.Pivot row) size same h = pivot_carries n v m row same (subst (λ j. IsPivot j v row) size h)

-- ---- a row of midpoints, number by number
pub row_filled : (a : SymTable) (f g : SquareTable) (i k : ℕ) (v : ℤ) → f.size ≡ a.size → i < a.size → k < a.size → v ≡ midpoints a i k → HasRows i a f → ((c : ℕ) → c < k → square_at f i c ≡ midpoints a i c) → SetsNumber f g i k v → HasRows i a g × ((c : ℕ) → c < k + 1 → square_at g i c ≡ midpoints a i c)
row_filled a f g i k v size row column is before here s = (
  λ b c above inside. s.others b c (omega arith) (omega arith) (λ e. let p = e.0 in absurd (omega arith)) ∙ before b c above inside,
  λ c h. elim (last_or_before c k h) [
    | inl q ↦ s.others i c (omega arith) (omega arith) (λ e. let p = e.1 in absurd (omega arith)) ∙ here c q
    | inr q ↦ subst (λ x. square_at g i x ≡ midpoints a i x) (sym q) (s.here ∙ is)
  ],
)

pub rows_filled : (a : SymTable) (f : SquareTable) (i : ℕ) → HasRows i a f → ((c : ℕ) → c < a.size → square_at f i c ≡ midpoints a i c) → HasRows (i + 1) a f
rows_filled a f i before here b c row column = elim (last_or_before b i row) [
  | inl q ↦ before b c q column
  | inr q ↦ subst (λ x. square_at f x c ≡ midpoints a x c) (sym q) (here c column)
]
