-- Intervals of conditions at places.
use Rattle.std.proofs.Common.{◌≡◌, ◌≤◌, ◌<◌, ◌+◌, ◌*◌, ◌^◌, ◌∙◌, inl, inr, ℕ, ℤ, pos, negsuc, ◌*ℤ◌, ◌≤ℤ◌, to_z, of_z, w32, false, List, Option, Some, None, is_some, unsigned_abs, refl, sym, ap, subst, arith}
use Rattle.std.proofs.Math.IntN.{◌-ℤ◌}
use Rattle.std.proofs.Math.Nat.{mul-le-mul}
use Rattle.std.proofs.lemmas.Bool.{cases_lt}
use Rattle.std.proofs.lemmas.Int.{ints, to_z-of_z, unsigned_abs-mul, fits_signed_from_abs}
use Rattle.std.specs.Int.{w128}
use Rattle.stated_order.specs.First.{HoldsBelow, HoldsLower}
use Rattle.whole_numbers.specs.Intervals.{Interval, interval_add, size}
use Rattle.whole_numbers.specs.Lists.{at}
use Rattle.sym_blocks.specs.Tables.{SymTable, entry_at, zero_interval}
use Rattle.inverse_squares.specs.Quotients.{IsOverSquare}
use Rattle.decimal_e.specs.Decimals.{Decimal}
use Rattle.inverse_squares.proofs.Alone.{one_over_square}
use Rattle.neq_stack.proofs.SumLaws.{add_zero}
use Rattle.datum_rows.specs.declared.sites.Coordinate.{Coordinate}
use Rattle.datum_rows.specs.Conditions.{Condition, reach}
use Rattle.datum_rows.specs.Views.{coefficient_by, coordinate_at}
use Rattle.datum_rows.specs.Rows.{IsRowAt, FitsAt, IsAddedAt}
use Rattle.datum_rows.proofs.NamedRows.{product_zero_left, product_zero_right}
use Rattle.datum_rows.proofs.ZeroLaws.{zero_over_square}

-- ---- products
pub product_few : (a b : ℤ) → unsigned_abs a ≤ 10 ^ 12 → unsigned_abs b ≤ 10 ^ 12 → unsigned_abs (a *ℤ b) ≤ 10 ^ 24
product_few a b one other =
    let p : unsigned_abs a * unsigned_abs b ≤ 10 ^ 12 * 10 ^ 12 = mul-le-mul one other in
    let q = unsigned_abs-mul a b in
    omega arith

pub sizes_few : (a b : ℤ) → unsigned_abs a ≤ 10 ^ 12 → unsigned_abs b ≤ 10 ^ 12 → unsigned_abs a * unsigned_abs b ≤ 10 ^ 24
sizes_few a b one other = let p : unsigned_abs a * unsigned_abs b ≤ 10 ^ 12 * 10 ^ 12 = mul-le-mul one other in omega arith

pub ruleset product_rules = (to_z-of_z, product_few, sizes_few)

-- ---- numbers of 128 and of 32 bits
pub product_read : (x : ℤ) → unsigned_abs x ≤ 10 ^ 24 → to_z w128 (of_z w128 x) ≡ x
product_read x few = to_z-of_z w128 x (fits_signed_from_abs w128 x (omega arith))

pub power_read : (z : ℤ) → negsuc 99 ≤ℤ z → z ≤ℤ pos 100 → to_z w32 (of_z w32 z) ≡ z
power_read z low high = to_z-of_z w32 z (fits_signed_from_abs w32 z (omega (arith, ints)))

pub over_moved : (h k : ℤ) (s : Decimal) (z u : ℤ) (w : Interval) → h ≡ k → z ≡ u → IsOverSquare h s z w → IsOverSquare k s u w
over_moved h k s z u w same power is = subst (λ x. IsOverSquare x s u w) same (subst (λ p. IsOverSquare h s p w) power is)

-- ---- places that are no coordinate
pub none_is : {X : Type 0} (o : Option X) → is_some o ≡ false → o ≡ None
none_is None e = refl
none_is (Some x) e = cc

module _ (coordinates : List (Option Coordinate)) (scales : List ℤ) (condition : Condition) where
  none_zero : (k : ℕ) → coordinate_at coordinates k ≡ None → coefficient_by condition.motion (coordinate_at coordinates k) ≡ pos 0
  none_zero k none = ap (coefficient_by condition.motion) none

  pub zero_row : (i j : ℕ) → coordinate_at coordinates i ≡ None → IsRowAt coordinates scales condition i j zero_interval
  zero_row i j none =
      zero_over_square (coefficient_by condition.motion (coordinate_at coordinates i) *ℤ coefficient_by condition.motion (coordinate_at coordinates j)) condition.sigma (pos 18 -ℤ pos (reach condition.motion) -ℤ at scales i -ℤ at scales j)
      (product_zero_left (coefficient_by condition.motion (coordinate_at coordinates i)) (coefficient_by condition.motion (coordinate_at coordinates j)) (none_zero i none))

  pub zero_column : (i j : ℕ) → coordinate_at coordinates j ≡ None → IsRowAt coordinates scales condition i j zero_interval
  zero_column i j none =
      zero_over_square (coefficient_by condition.motion (coordinate_at coordinates i) *ℤ coefficient_by condition.motion (coordinate_at coordinates j)) condition.sigma (pos 18 -ℤ pos (reach condition.motion) -ℤ at scales i -ℤ at scales j)
      (product_zero_right (coefficient_by condition.motion (coordinate_at coordinates i)) (coefficient_by condition.motion (coordinate_at coordinates j)) (none_zero j none))

  pub row_fits : (i j : ℕ) → coordinate_at coordinates i ≡ None → FitsAt coordinates scales condition i j
  row_fits i j none = (zero_interval, zero_row i j none, omega arith)

  pub column_fits : (i j : ℕ) → coordinate_at coordinates j ≡ None → FitsAt coordinates scales condition i j
  column_fits i j none = (zero_interval, zero_column i j none, omega arith)

  pub nothing_in_row : (table : SymTable) (i j : ℕ) → coordinate_at coordinates i ≡ None → IsAddedAt coordinates scales condition table table i j
  nothing_in_row table i j none = (zero_interval, zero_row i j none, sym (add_zero (entry_at table i j)))

  pub nothing_in_column : (table : SymTable) (i j : ℕ) → coordinate_at coordinates j ≡ None → IsAddedAt coordinates scales condition table table i j
  nothing_in_column table i j none = (zero_interval, zero_column i j none, sym (add_zero (entry_at table i j)))

  -- ---- one interval at two places
  pub one_row_at : (i j : ℕ) (v w : Interval) → IsRowAt coordinates scales condition i j v → IsRowAt coordinates scales condition i j w → v ≡ w
  one_row_at i j v w a b =
      one_over_square (coefficient_by condition.motion (coordinate_at coordinates i) *ℤ coefficient_by condition.motion (coordinate_at coordinates j)) condition.sigma (pos 18 -ℤ pos (reach condition.motion) -ℤ at scales i -ℤ at scales j) v w a b

  pub does_not_fit : (i j : ℕ) (w : Interval) → IsRowAt coordinates scales condition i j w → (size w ≤ 10 ^ 34 → ⊥) → FitsAt coordinates scales condition i j → ⊥
  does_not_fit i j w is great fits = great (subst (λ v. size v ≤ 10 ^ 34) (one_row_at i j fits.0 w fits.1 is) fits.2)

  -- ---- what was added before stays added
  pub added_stays : (old mid new : SymTable) (i j : ℕ) → IsAddedAt coordinates scales condition old mid i j → entry_at new i j ≡ entry_at mid i j → IsAddedAt coordinates scales condition old new i j
  added_stays old mid new i j added same = (added.0, added.1, same ∙ added.2)

  -- what is added to what is as before is added
  pub added_now : (old mid new : SymTable) (i j : ℕ) → entry_at mid i j ≡ entry_at old i j → IsAddedAt coordinates scales condition mid new i j → IsAddedAt coordinates scales condition old new i j
  added_now old mid new i j same added = (added.0, added.1, added.2 ∙ ap (λ e. interval_add e added.0) same)

-- ---- one row more
pub below_next : (P : ℕ → Type 0) (n : ℕ) → HoldsBelow n P → P n → HoldsBelow (n + 1) P
below_next P n before here k lt =
    elim (cases_lt k n) [
      | inl l ↦ before k l
      | inr g ↦ let same : n ≡ k = omega arith in subst P same here
    ]

pub lower_next : (P : ℕ → ℕ → Type 0) (n : ℕ) → HoldsLower n P → HoldsBelow (n + 1) (P n) → HoldsLower (n + 1) P
lower_next P n before here i j lt low =
    elim (cases_lt i n) [
      | inl l ↦ before i j l low
      | inr g ↦ let same : n ≡ i = omega arith in subst (λ k. P k j) same (here j (omega arith))
    ]

-- ---- columns and rows that are added, one after another
module _ (coordinates : List (Option Coordinate)) (scales : List ℤ) (condition : Condition) (old mid new : SymTable) where
  pub record AreColumns (row n : ℕ) : Type 0 where
    pub done : (j : ℕ) → j < n → IsAddedAt coordinates scales condition old new row j
    pub left : (j : ℕ) → n ≤ j → j ≤ row → entry_at new row j ≡ entry_at old row j
    pub others : (i j : ℕ) → i < old.size → j ≤ i → (i ≡ row → ⊥) → entry_at new i j ≡ entry_at old i j

  pub columns_next : (row n : ℕ) → row < old.size → n ≤ row
      → ((j : ℕ) → j < n → IsAddedAt coordinates scales condition old mid row j) → ((j : ℕ) → n ≤ j → j ≤ row → entry_at mid row j ≡ entry_at old row j)
      → ((i j : ℕ) → i < old.size → j ≤ i → (i ≡ row → ⊥) → entry_at mid i j ≡ entry_at old i j)
      → IsAddedAt coordinates scales condition mid new row n → ((i j : ℕ) → i < old.size → j ≤ i → ((i ≡ row) × (j ≡ n) → ⊥) → entry_at new i j ≡ entry_at mid i j) → AreColumns row (n + 1)
  columns_next row n within low done left others here kept = record {
    done = λ j l.
        elim (cases_lt j n) [
          | inl before ↦ added_stays coordinates scales condition old mid new row j (done j before) (kept row j within (omega arith) (λ both. omega (arith, both.1)))
          | inr after ↦
              let same : n ≡ j = omega arith in
              subst (IsAddedAt coordinates scales condition old new row) same (added_now coordinates scales condition old mid new row n (left n (omega arith) low) here)
        ];
    left = λ j l h. kept row j within h (λ both. omega (arith, both.1)) ∙ left j (omega arith) h;
    others = λ i j l h apart. kept i j l h (λ both. apart both.0) ∙ others i j l h apart;
  }

  pub record AreRows (n : ℕ) : Type 0 where
    pub done : (i j : ℕ) → i < n → j ≤ i → IsAddedAt coordinates scales condition old new i j
    pub left : (i j : ℕ) → n ≤ i → i < old.size → j ≤ i → entry_at new i j ≡ entry_at old i j

  pub rows_next : (n : ℕ) → n < old.size
      → ((i j : ℕ) → i < n → j ≤ i → IsAddedAt coordinates scales condition old mid i j) → ((i j : ℕ) → n ≤ i → i < old.size → j ≤ i → entry_at mid i j ≡ entry_at old i j)
      → ((j : ℕ) → j ≤ n → IsAddedAt coordinates scales condition mid new n j) → ((i j : ℕ) → i < old.size → j ≤ i → (i ≡ n → ⊥) → entry_at new i j ≡ entry_at mid i j) → AreRows (n + 1)
  rows_next n within done left here kept = record {
    done = λ i j l low.
        elim (cases_lt i n) [
          | inl before ↦ added_stays coordinates scales condition old mid new i j (done i j before low) (kept i j (omega arith) low (λ same. omega arith))
          | inr after ↦
              let same : n ≡ i = omega arith in
              subst (λ k. IsAddedAt coordinates scales condition old new k j) same (added_now coordinates scales condition old mid new n j (left n j (omega arith) within (omega arith)) (here j (omega arith)))
        ];
    left = λ i j l w h. kept i j w h (λ same. omega arith) ∙ left i j (omega arith) w h;
  }
