-- Rows of a table times a weight, one after another.
use Rattle.std.proofs.Common.{◌≡◌, ◌≤◌, ◌<◌, ◌+◌, ◌∙◌, inl, inr, ℕ, List, length, slice_get, Some, refl, sym, ap, subst, arith}
use Rattle.std.proofs.Math.Decide.{dec_lt}
use Rattle.stated_order.specs.First.{HoldsBelow, HoldsLower, IsFirstFailure}
use Rattle.whole_numbers.specs.Intervals.{Interval}
use Rattle.decimal_e.specs.Decimals.{Decimal}
use Rattle.sym_blocks.specs.Tables.{SymTable, entry_at, before, IsPair}
use Rattle.sym_blocks.proofs.Rows.{entry_sym}
use Rattle.param_ids.specs.Plain.{PlainId}
use Rattle.named_tables.specs.Weighted.{WeightFits, weighted_interval}
use Rattle.named_tables.specs.Tables.{IsUnfitEntry}
use Rattle.information_tables.specs.Tables.{IsWeightedTable}
use Rattle.information_tables.specs.Parts.{IsWeightedRow}

-- ---- one more interval of a row
-- the intervals of a row before a column are times the weight, and all others are as before
pub record PlacesDone (weight : Decimal) (row col : ℕ) (old new : SymTable) : Type 0 where
  pub fits : HoldsBelow col (λ j. WeightFits weight (entry_at old row j))
  pub done : (j : ℕ) → j < col → entry_at new row j ≡ weighted_interval weight (entry_at old row j)
  pub left : (j : ℕ) → col ≤ j → j ≤ row → entry_at new row j ≡ entry_at old row j
  pub others : (i j : ℕ) → i < old.size → j ≤ i → (i ≡ row → ⊥) → entry_at new i j ≡ entry_at old i j

-- two places up to the diagonal that are apart are no pair
apart_row : (row col i j : ℕ) → col ≤ row → j ≤ i → (i ≡ row → ⊥) → IsPair row col i j → ⊥
apart_row row col i j low lower apart (inl h) = apart h.0
apart_row row col i j low lower apart (inr h) = let one = h.0 in let other = h.1 in apart (omega arith)

apart_col : (row col j : ℕ) → col ≤ row → j ≤ row → (j ≡ col → ⊥) → IsPair row col row j → ⊥
apart_col row col j low lower apart (inl h) = apart h.1
apart_col row col j low lower apart (inr h) = let one = h.0 in let other = h.1 in apart (omega arith)

module _ (weight : Decimal) (row col : ℕ) (w v : Interval) (old part new : SymTable) (low : col ≤ row) (within : row < old.size) (before : PlacesDone weight row col old part) (read : v ≡ entry_at part row col) (fit : WeightFits weight v) (is : w ≡ weighted_interval weight v)
    (here : (i j : ℕ) → IsPair row col i j → entry_at new i j ≡ w) (others : (i j : ℕ) → i < old.size → j < old.size → (IsPair row col i j → ⊥) → entry_at new i j ≡ entry_at part i j) where
  old_there : v ≡ entry_at old row col
  old_there = read ∙ before.left col (omega arith) low

  fits_next : (j : ℕ) → j < col + 1 → WeightFits weight (entry_at old row j)
  fits_next j l =
      elim (dec_lt j col) [
        | yes above ↦ before.fits j above
        | no below ↦ let same : col ≡ j = omega arith in subst (λ k. WeightFits weight (entry_at old row k)) same (subst (WeightFits weight) old_there fit)
      ]

  done_next : (j : ℕ) → j < col + 1 → entry_at new row j ≡ weighted_interval weight (entry_at old row j)
  done_next j l =
      elim (dec_lt j col) [
        | yes above ↦ others row j within (omega arith) (apart_col row col j low (omega arith) (λ same. absurd (omega arith))) ∙ before.done j above
        | no below ↦
            let same : col ≡ j = omega arith in
            subst (λ k. entry_at new row k ≡ weighted_interval weight (entry_at old row k)) same (here row col (inl (refl, refl)) ∙ is ∙ ap (weighted_interval weight) old_there)
      ]

  pub place_next : PlacesDone weight row (col + 1) old new
  place_next = record {
    fits = fits_next;
    done = done_next;
    left = λ j l lower. others row j within (omega arith) (apart_col row col j low lower (λ same. absurd (omega arith))) ∙ before.left j (omega arith) lower;
    others = λ i j size lower apart. others i j size (omega arith) (apart_row row col i j low lower apart) ∙ before.others i j size lower apart;
  }

-- ---- one more row
pub record RowsDone (weight : Decimal) (row : ℕ) (old new : SymTable) : Type 0 where
  pub fits : HoldsLower row (λ i j. WeightFits weight (entry_at old i j))
  pub done : (i j : ℕ) → i < row → j ≤ i → entry_at new i j ≡ weighted_interval weight (entry_at old i j)
  pub left : (i j : ℕ) → row ≤ i → i < old.size → j ≤ i → entry_at new i j ≡ entry_at old i j

module _ (weight : Decimal) (row : ℕ) (old part new : SymTable) (within : row < old.size) (sizes : part.size ≡ old.size) (before : RowsDone weight row old part) where
  old_row : (j : ℕ) → j ≤ row → entry_at part row j ≡ entry_at old row j
  old_row j lower = before.left row j (omega arith) within lower

  module _ (step : IsWeightedRow weight row part new) where
    fits_row : (i j : ℕ) → i < row + 1 → j ≤ i → WeightFits weight (entry_at old i j)
    fits_row i j l lower =
        elim (dec_lt i row) [
          | yes above ↦ before.fits i j above lower
          | no below ↦
              let same : row ≡ i = omega arith in
              subst (λ k. WeightFits weight (entry_at old k j)) same (subst (WeightFits weight) (old_row j (omega arith)) (step.fits j (omega arith)))
        ]

    done_row : (i j : ℕ) → i < row + 1 → j ≤ i → entry_at new i j ≡ weighted_interval weight (entry_at old i j)
    done_row i j l lower =
        elim (dec_lt i row) [
          | yes above ↦ step.others i j (omega arith) lower (λ same. absurd (omega arith)) ∙ before.done i j above lower
          | no below ↦
              let same : row ≡ i = omega arith in
              subst (λ k. entry_at new k j ≡ weighted_interval weight (entry_at old k j)) same (step.here j (omega arith) ∙ ap (weighted_interval weight) (old_row j (omega arith)))
        ]

    pub row_next : RowsDone weight (row + 1) old new
    row_next = record {
      fits = fits_row;
      done = done_row;
      left = λ i j l size lower. step.others i j (omega arith) lower (λ same. absurd (omega arith)) ∙ before.left i j (omega arith) size lower;
    }

  -- the first interval of the next row that does not fit is the first of the table
  pub row_unfit : (names : List PlainId) (col : ℕ) (one other : PlainId) → old.size ≡ length names → IsFirstFailure (row + 1) (λ j. WeightFits weight (entry_at part row j)) col → slice_get names row ≡ Some one → slice_get names col ≡ Some other
      → IsUnfitEntry names (λ i j. WeightFits weight (entry_at old i j)) one other
  row_unfit names col one other many first one_is other_is =
      let inside = first.within in
      record {
        i = row;
        j = col;
        first = record {
          within = omega arith;
          lower = omega arith;
          rows = before.fits;
          left = λ j l. subst (WeightFits weight) (old_row j (omega arith)) (first.before j l);
          fails = λ fit. first.fails (subst (WeightFits weight) (sym (old_row col (omega arith))) fit);
        };
        row_is = one_is;
        col_is = other_is;
      }

-- a table whose intervals up to the diagonal are times the weight
pub weighted_whole : (weight : Decimal) (old new : SymTable) → new.size ≡ old.size → length new.entries ≡ before new.size → ((i j : ℕ) → i < old.size → j ≤ i → entry_at new i j ≡ weighted_interval weight (entry_at old i j)) → IsWeightedTable weight old new
weighted_whole weight old new sizes whole lower = record { size = sizes; lower = whole; entries = each }
  where
    each : (i j : ℕ) → i < old.size → j < old.size → entry_at new i j ≡ weighted_interval weight (entry_at old i j)
    each i j li lj =
        elim (dec_lt i j) [
          | yes above ↦ entry_sym new i j ∙ lower j i lj (omega arith) ∙ ap (weighted_interval weight) (entry_sym old j i)
          | no below ↦ lower i j li (omega arith)
        ]
