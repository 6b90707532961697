-- One interval more of a column in a table, and powers of ten in memory.
use Rattle.std.proofs.Common.{◌≡◌, ◌≤◌, ◌<◌, ◌+◌, ◌^◌, ◌∙◌, ◌⊎◌, inl, inr, ℕ, ℤ, pos, negsuc, ◌≤ℤ◌, to_z, of_z, w32, List, length, get_or, unsigned_abs, refl, sym, subst, arith}
use Rattle.std.specs.Int.{w128}
use Rattle.std.proofs.Math.IntN.{◌-ℤ◌}
use Rattle.std.proofs.lemmas.Int.{ints, to_z-of_z}
use Rattle.std.proofs.lemmas.Option.{get_or_from_slice_get, slice_get_read}
use Rattle.whole_numbers.specs.Intervals.{Interval}
use Rattle.whole_numbers.specs.Lists.{at}
use Rattle.whole_numbers.specs.Scaling.{interval_scale10}
use Rattle.whole_numbers.proofs.Cases.{last_or_before}
use Rattle.sym_blocks.specs.Tables.{SymTable, entry_at, IsPair}
use Rattle.sys_model.specs.Systems.{around}
use Rattle.enclosure_check.specs.Steps.{radius_in}
use Rattle.inv_enclose.specs.Columns.{Column}
use Rattle.inv_enclose.specs.Parts.{IsInBounds, IsKept, scaled_interval}
use Rattle.inv_enclose.proofs.ColumnLaws.{number_small}

-- ---- powers of ten
-- a small number is what it is in 32 bits
pub small_kept : (t : ℤ) → negsuc 299 ≤ℤ t → t ≤ℤ pos 300 → to_z w32 (of_z w32 t) ≡ t
small_kept t low high = to_z-of_z w32 t (omega (arith, ints))

pub power_kept : (s a b : ℤ) → negsuc 199 ≤ℤ s → s ≤ℤ pos 200 → negsuc 8 ≤ℤ a → a ≤ℤ pos 11 → negsuc 8 ≤ℤ b → b ≤ℤ pos 11
    → to_z w32 (of_z w32 (to_z w32 (of_z w32 (to_z w32 (of_z w32 s) -ℤ to_z w32 (of_z w32 a))) -ℤ to_z w32 (of_z w32 b))) ≡ s -ℤ a -ℤ b
power_kept s a b s_low s_high a_low a_high b_low b_high =
    let s_is = small_kept s (omega (arith, ints)) (omega (arith, ints)) in
    let a_is = small_kept a (omega (arith, ints)) (omega (arith, ints)) in
    let b_is = small_kept b (omega (arith, ints)) (omega (arith, ints)) in
    let one = small_kept (s -ℤ a) (omega (arith, ints)) (omega (arith, ints)) in
    let two = small_kept (s -ℤ a -ℤ b) (omega (arith, ints)) (omega (arith, ints)) in
    rw (s_is, a_is, b_is, one) two

-- ---- numbers of a column in memory
-- an element of a list, as it is read
pub element_is : {X : Type 0} (xs : List X) (i : ℕ) (x d : X) → i < length xs → x ≡ get_or xs i x → x ≡ get_or xs i d
element_is xs i x d within is = sym (get_or_from_slice_get xs i x d (slice_get_read xs (length xs) i x refl within is))

wide_kept : (y : ℤ) → unsigned_abs y ≤ 2 ^ 64 → to_z w128 (of_z w128 y) ≡ y
wide_kept y small = to_z-of_z w128 y (omega (arith, ints))

pub number_is : (n : ℕ) (column : Column) (row : ℕ) (y : ℤ) → IsInBounds n column → row < n → y ≡ get_or column.vector row y → to_z w128 (of_z w128 y) ≡ at column.vector row
number_is n column row y bounds within is =
    let len = bounds.numbers in
    let same = element_is column.vector row y (pos 0) (omega arith) is in
    wide_kept y (subst (λ z. unsigned_abs z ≤ 2 ^ 64) (sym same) (number_small n column.vector row bounds.small within)) ∙ same

pub radius_is : (n : ℕ) (column : Column) (row w : ℕ) → IsInBounds n column → row < n → w ≡ get_or column.certificate.radii row w → w ≡ radius_in column.certificate row
radius_is n column row w bounds within is = let len = bounds.radii in element_is column.certificate.radii row w 0 (omega arith) is

pub shown_is : (shift : ℤ) (e : ℕ → ℤ) (column : Column) (row col : ℕ) (y : ℤ) (w : ℕ) (k : ℤ) (shown : Interval) → y ≡ at column.vector row → w ≡ radius_in column.certificate row → k ≡ shift -ℤ e row -ℤ e col
    → IsKept (interval_scale10 (around y w) k) shown → IsKept (scaled_interval shift e column row col) shown
shown_is shift e column row col y w k shown y_is w_is k_is h =
    subst (λ z. IsKept (interval_scale10 (around (at column.vector row) (radius_in column.certificate row)) z) shown) k_is
    (subst (λ z. IsKept (interval_scale10 (around (at column.vector row) z) k) shown) w_is (subst (λ z. IsKept (interval_scale10 (around z w) k) shown) y_is h))

-- ---- one interval more
not_left : (row col i j : ℕ) → j < col → col ≤ row → IsPair row col i j → ⊥
not_left row col i j h g (inl p) = omega (arith, p)
not_left row col i j h g (inr p) = omega (arith, p)

not_above : (row col i : ℕ) → i < row → IsPair row col i col → ⊥
not_above row col i h (inl p) = omega (arith, p)
not_above row col i h (inr p) = omega (arith, p)

module _ (row col : ℕ) (table new : SymTable) (w : Interval) (within : row < table.size) (lower : col ≤ row)
    (here : (k l : ℕ) → IsPair row col k l → entry_at new k l ≡ w)
    (others : (k l : ℕ) → k < table.size → l < table.size → ¬ (IsPair row col k l) → entry_at new k l ≡ entry_at table k l) where
  pub left_stays : (i j : ℕ) → i < table.size → j < col → entry_at new i j ≡ entry_at table i j
  left_stays i j row_within left = others i j row_within (omega arith) (not_left row col i j left lower)

  module _ (shift : ℤ) (e : ℕ → ℤ) (column : Column) (kept : IsKept (scaled_interval shift e column row col) w)
      (before : (i : ℕ) → col ≤ i → i < row → IsKept (scaled_interval shift e column i col) (entry_at table i col)) where
    placed_by : (i : ℕ) → col ≤ i → (i < row) ⊎ (i ≡ row) → IsKept (scaled_interval shift e column i col) (entry_at new i col)
    placed_by i from (inl l) = subst (IsKept (scaled_interval shift e column i col)) (sym (others i col (omega arith) (omega arith) (not_above row col i l))) (before i from l)
    placed_by i from (inr is) = subst (λ k. IsKept (scaled_interval shift e column k col) (entry_at new k col)) (sym is) (subst (IsKept (scaled_interval shift e column row col)) (sym (here row col (inl (refl, refl)))) kept)

    pub placed : (i : ℕ) → col ≤ i → i < row + 1 → IsKept (scaled_interval shift e column i col) (entry_at new i col)
    placed i from l = placed_by i from (last_or_before i row l)
