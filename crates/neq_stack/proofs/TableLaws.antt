-- A symmetric table of the values of a function.
use Rattle.std.proofs.Common.{◌≡◌, ◌≤◌, ◌<◌, ◌-◌, ◌∙◌, ◌++◌, inl, inr, ℕ, zero, suc, List, [], length, map, get_or, refl, ap, subst, arith}
use Rattle.std.specs.List.{range_with_len}
use Rattle.std.proofs.lemmas.Bool.{cases_lt}
use Rattle.std.proofs.lemmas.List.{length-append, get_or_append_left, get_or-append_right}
use Rattle.std.proofs.lemmas.List.FromFn.{length-map-range_with_len, get_or-map-range_with_len}
use Rattle.whole_numbers.specs.Intervals.{Interval}
use Rattle.sym_blocks.specs.Tables.{SymTable, entry_at, before, lower_place, zero_interval}
use Rattle.sym_blocks.proofs.Rows.{lower_within, place_lower, entry_sym}

module _ (f : ℕ → ℕ → Interval) where
  -- row n, up to its diagonal
  abbrev lower_row : ℕ → List Interval
  lower_row n = map (f n) (range_with_len 0 (suc n))

  -- the rows below n, each up to its diagonal
  abbrev lower_rows : ℕ → List Interval
  lower_rows zero = []
  lower_rows (suc n) = lower_rows n ++ lower_row n

  abbrev pub table_of : ℕ → SymTable
  table_of n = record { size = n; entries = lower_rows n }

  pub rows_length : (n : ℕ) → length (lower_rows n) ≡ before n
  unfolding before
  rows_length zero = refl
  rows_length (suc n) = omega (arith, length-append (lower_rows n) (lower_row n), rows_length n, length-map-range_with_len (f n) 0 (suc n))

  last_row : (n j : ℕ) → j ≤ n → get_or (lower_rows n ++ lower_row n) (lower_place n j) zero_interval ≡ f n j
  last_row n j low =
      get_or-append_right (lower_rows n) (lower_row n) (before n) (lower_place n j) zero_interval (rows_length n) (omega arith)
      ∙ get_or-map-range_with_len (f n) 0 (suc n) (lower_place n j - before n) j zero_interval (omega arith) (omega arith)

  lower_read : (n i j : ℕ) → i < n → j ≤ i → get_or (lower_rows n) (lower_place i j) zero_interval ≡ f i j
  lower_read zero i j within low = absurd (omega arith)
  lower_read (suc n) i j within low =
      elim (cases_lt i n) [
        | inl earlier ↦ get_or_append_left (lower_rows n) (lower_row n) zero_interval (lower_place i j) (omega (arith, rows_length n, lower_within i j n earlier low)) ∙ lower_read n i j earlier low
        | inr late ↦
            let same : n ≡ i = omega arith in
            subst (λ k. j ≤ k → get_or (lower_rows n ++ lower_row n) (lower_place k j) zero_interval ≡ f k j) same (last_row n j) low
      ]

  below_read : (n i j : ℕ) → i < n → j ≤ i → entry_at (table_of n) i j ≡ f i j
  below_read n i j within low = ap (λ p. get_or (lower_rows n) p zero_interval) (place_lower i j low) ∙ lower_read n i j within low

  pub table_read : ((i j : ℕ) → f i j ≡ f j i) → (n i j : ℕ) → i < n → j < n → entry_at (table_of n) i j ≡ f i j
  table_read turned n i j row col =
      elim (cases_lt i j) [
        | inl above ↦ entry_sym (table_of n) i j ∙ below_read n j i col (omega arith) ∙ turned j i
        | inr low ↦ below_read n i j row low
      ]
