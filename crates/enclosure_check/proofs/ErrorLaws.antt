-- How large the intervals are that a vector leaves of the right side, and those that the pilot makes of them.
use Rattle.std.proofs.Common.{◌≡◌, ℕ, ℤ, ◌+ℤ◌, ◌+◌, ◌-◌, ◌*◌, ◌≤◌, ◌<◌, ◌^◌, unsigned_abs, FitsSigned, arith, add-one, List, length, ap, refl, sym, subst, ◌∙◌}
use Rattle.std.specs.Int.{w128}
use Rattle.std.proofs.Math.Decide.{dec_lt}
use Rattle.std.proofs.lemmas.Int.{fits_signed_from_abs}
use Rattle.whole_numbers.specs.Quotients.{up_over}
use Rattle.whole_numbers.specs.Intervals.{Interval, size, interval_add, interval_sub, interval_scale, interval_shift, sum_intervals}
use Rattle.whole_numbers.proofs.Sizes.{product_le, size_scale, size_sum_by}
use Rattle.whole_numbers.proofs.Sums.{total_part, total_to_le, total_to-*, total_to-bound, le-total_to}
use Rattle.whole_numbers.proofs.IntervalLaws.{sum_intervals_same}
use Rattle.sym_blocks.specs.Tables.{SymTable, entry_at}
use Rattle.whole_numbers.specs.Lists.{at, AllAtMost}
use Rattle.sys_model.specs.Systems.{Table, residual_interval}
use Rattle.equil.specs.Tables.{table_of}
use Rattle.enclosures.specs.Pilots.{PilotTable, pilot_entry}
use Rattle.enclosures.specs.Vectors.{IsSmall}
use Rattle.enclosure_check.specs.Certificates.{AreErrors, ResidualFitsAfter}
use Rattle.enclosure_check.specs.Rows.{entry_between, IsRowByVector}
use Rattle.enclosure_check.specs.ErrorParts.{IsVector, IsRowByEntries, AreResiduals, AreShifted, AreShiftedResiduals, AreShiftedErrors, FitAfter, taken_interval, part_interval, shifted_error, nth_entry}
use Rattle.stated_order.specs.First.{IsLeast}

-- ---- sums of intervals
pub ends_fit : (w : Interval) → size w ≤ 2 ^ 126 → FitsSigned w128 w.lo × FitsSigned w128 w.hi
ends_fit w h = (fits_signed_from_abs w128 w.lo (omega arith), fits_signed_from_abs w128 w.hi (omega arith))

sum_intervals_more : (k : ℕ) (f : ℕ → Interval) → sum_intervals (k + 1) f ≡ interval_add (sum_intervals k f) (f k)
sum_intervals_more k f = rw add-one refl

-- a sum with one more interval fits
pub step_fits : (k : ℕ) (f : ℕ → Interval) (w v : Interval) → w ≡ sum_intervals k f → v ≡ f k → size (sum_intervals (k + 1) f) ≤ 2 ^ 126 → FitsSigned w128 (w.lo +ℤ v.lo) × FitsSigned w128 (w.hi +ℤ v.hi)
step_fits k f w v e d h =
    let t : sum_intervals (k + 1) f ≡ interval_add w v = sum_intervals_more k f ∙ sym (rw (e, d) refl) in
    ends_fit (interval_add w v) (omega (arith, h, ap (λ u. size u) t))

-- ---- what the vector takes of a row
-- the interval between the ends of a row is the table's, where they are its ends
pub between_is : (low high : List ℤ) (k : ℕ) (w : Interval) → at low k ≡ w.lo → at high k ≡ w.hi → entry_between low high k ≡ w
between_is low high k w e d = rw (e, d) refl

pub between_small : (low high y : List ℤ) (j : ℕ) → IsRowByVector low high y → j < length y → size (entry_between low high j) ≤ 2 ^ 61
between_small low high y j s within = omega (arith, s.low_ends j (omega (arith, s.lows)), s.high_ends j (omega (arith, s.highs)))

-- each product fits
pub taken_small : (low high y : List ℤ) (j : ℕ) → IsRowByVector low high y → j < length y → unsigned_abs (at y j) * size (entry_between low high j) ≤ 2 ^ 126
taken_small low high y j s within =
    let t = le-total_to (length y) (λ k. unsigned_abs (at y k)) j within in
    omega (arith, product_le (unsigned_abs (at y j)) (2 ^ 64) (size (entry_between low high j)) (2 ^ 61) (omega (arith, s.small)) (between_small low high y j s within))

-- so does each part of their sum
pub row_small : (low high y : List ℤ) (m : ℕ) → IsRowByVector low high y → m ≤ length y → size (sum_intervals m (taken_interval low high y)) ≤ 2 ^ 125
row_small low high y m s most =
    let t = size_sum_by m (taken_interval low high y) in
    let b = total_to_le m (λ k. size (taken_interval low high y k)) (λ k. unsigned_abs (at y k) * 2 ^ 61) (λ k d. size_scale (at y k) (entry_between low high k) (unsigned_abs (at y k)) (2 ^ 61) (omega arith) (between_small low high y k s (omega arith))) in
    let c = total_to-* m (λ k. unsigned_abs (at y k)) (2 ^ 61) in
    let e = total_part (length y) (λ k. unsigned_abs (at y k)) m most in
    omega (arith, t, b, c, e, s.small)

-- a row of the table and a vector of as many numbers
pub row_by_vector : (n : ℕ) (low high y : List ℤ) → length low ≡ n → length high ≡ n → AllAtMost (2 ^ 61) low → AllAtMost (2 ^ 61) high → IsVector n y → IsRowByVector low high y
row_by_vector n low high y lows highs low_ends high_ends v = record {
  lows = lows ∙ sym v.len;
  highs = highs ∙ sym v.len;
  low_ends = low_ends;
  high_ends = high_ends;
  small = subst (λ m. IsSmall m (at y)) (sym v.len) v.small;
}

-- what it leaves of the right side is the residual of the row
pub residual_is : (a : SymTable) (d : List Interval) (low high y : List ℤ) (i : ℕ) (v w r : Interval) → length y ≡ a.size
    → ((k : ℕ) → k < a.size → at low k ≡ (entry_at a i k).lo) → ((k : ℕ) → k < a.size → at high k ≡ (entry_at a i k).hi)
    → v ≡ nth_entry d i → w ≡ sum_intervals (length y) (taken_interval low high y) → r ≡ interval_sub v w → r ≡ residual_interval a.size (table_of a d) (at y) i
residual_is a d low high y i v w r len lows highs right taken is =
    let same = sum_intervals_same a.size (taken_interval low high y) (λ j. interval_scale (at y j) (entry_at a i j)) (λ k l. ap (interval_scale (at y k)) (between_is low high k (entry_at a i k) (lows k l) (highs k l))) in
    let sum = taken ∙ ap (λ n. sum_intervals n (taken_interval low high y)) len ∙ same in
    is ∙ ap (λ x. interval_sub x w) right ∙ ap (interval_sub (nth_entry d i)) sum

-- ---- what the pilot makes of the intervals
-- each product fits
pub part_small : (r : List ℤ) (ws : List Interval) (k : ℕ) → IsRowByEntries r ws → k < length ws → unsigned_abs (at r k) * size (nth_entry ws k) ≤ 2 ^ 126
part_small r ws k s h =
    omega (arith, product_le (unsigned_abs (at r k)) (2 ^ 50) (size (nth_entry ws k)) (2 ^ 66) (s.row_small k (omega (arith, s.len))) (s.entries_small k h))

-- so does each part of their sum
pub parts_small : (r : List ℤ) (ws : List Interval) (m : ℕ) → IsRowByEntries r ws → m ≤ length ws → size (sum_intervals m (part_interval r ws)) ≤ 2 ^ 126
parts_small r ws m s most =
    let t = size_sum_by m (part_interval r ws) in
    let b = total_to-bound m (λ k. size (part_interval r ws k)) (2 ^ 50 * 2 ^ 66) (λ k d. size_scale (at r k) (nth_entry ws k) (2 ^ 50) (2 ^ 66) (s.row_small k (omega (arith, s.len))) (s.entries_small k (omega arith))) in
    omega (arith, t, b, s.few)

-- ---- the error of a row
-- what the code computes is the error
pub row_error_is : (p : PilotTable) (r : List ℤ) (ws : List Interval) (h i m t : ℕ) (b : Interval) → length ws ≡ p.size → ((k : ℕ) → k < p.size → at r k ≡ pilot_entry p i k)
    → b ≡ sum_intervals (length ws) (part_interval r ws) → m ≡ size b → t ≡ 2 ^ (p.g + 60 - h) → up_over m t ≡ shifted_error p ws h i
row_error_is p r ws h i m t b len row is em et =
    let by_size : b ≡ sum_intervals p.size (part_interval r ws) = is ∙ ap (λ n. sum_intervals n (part_interval r ws)) len in
    let same = by_size ∙ sum_intervals_same p.size (part_interval r ws) (λ k. interval_scale (pilot_entry p i k) (nth_entry ws k)) (λ k l. ap (λ x. interval_scale x (nth_entry ws k)) (row k l)) in
    ap (λ x. up_over x t) (em ∙ ap (λ w. size w) same) ∙ ap (λ x. up_over (size (sum_intervals p.size (λ k. interval_scale (pilot_entry p i k) (nth_entry ws k)))) x) et

-- ---- the errors of all rows
-- what is least of one kind is least of another that is the same
pub least_same : (P Q : ℕ → Type 0) (h : ℕ) → ((k : ℕ) → P k → Q k) → ((k : ℕ) → Q k → P k) → IsLeast P h → IsLeast Q h
least_same P Q h to back l = record { here = to h l.here; before = λ k s q. l.before k s (back k q) }

-- what comes before k lacks the property, and k has it below m: so k is the least, where m has it too
pub least_to : (P : ℕ → Type 0) (m k : ℕ) → k ≤ m → ((j : ℕ) → j < k → ¬ (P j)) → (k < m → P k) → P m → IsLeast P k
least_to P m k most before here last = record {
  here = elim (dec_lt k m) [ yes h ↦ here h | no h ↦ (let e : m ≡ k = omega arith in subst P e last) ];
  before = before;
}

-- the pilot may be multiplied with the shifted intervals
pub left_shifted : (n : ℕ) (t : Table) (y : ℕ → ℤ) (ws vs : List Interval) (h : ℕ) → n ≤ 1000 → AreResiduals n t y ws → IsLeast (FitAfter ws) h → AreShifted h ws vs → AreShiftedResiduals n vs
left_shifted n t y ws vs h few left least shifted = record {
  len = omega (arith, left.len, shifted.len);
  few = few;
  small = λ k l. let inside : k < length ws = omega (arith, left.len) in rw (shifted.each k inside) (least.here k inside);
}

-- what fits of the list fits of the definition, and the other way round
fits_left : (n : ℕ) (t : Table) (y : ℕ → ℤ) (ws : List Interval) → AreResiduals n t y ws → (h : ℕ) → FitAfter ws h → ResidualFitsAfter n t y h
fits_left n t y ws left h fits i row = subst (λ w. size (interval_shift h w) ≤ 2 ^ 66) (left.each i row) (fits i (omega (arith, left.len)))

fits_back : (n : ℕ) (t : Table) (y : ℕ → ℤ) (ws : List Interval) → AreResiduals n t y ws → (h : ℕ) → ResidualFitsAfter n t y h → FitAfter ws h
fits_back n t y ws left h fits k inside = let row : k < n = omega (arith, left.len) in subst (λ w. size (interval_shift h w) ≤ 2 ^ 66) (sym (left.each k row)) (fits k row)

-- the errors of the shifted intervals are those of the definition
pub errors_are : (n : ℕ) (t : Table) (y : ℕ → ℤ) (p : PilotTable) (ws vs : List Interval) (h : ℕ) → p.size ≡ n → h ≤ 60 → AreResiduals n t y ws → IsLeast (FitAfter ws) h → AreShifted h ws vs
    → (errors : List ℕ) → AreShiftedErrors p vs h errors → AreErrors n t p y errors
errors_are n t y p ws vs h size_is few left least shifted errors are = record {
  h = h;
  few = few;
  shift = least_same (FitAfter ws) (ResidualFitsAfter n t y) h (fits_left n t y ws left) (fits_back n t y ws left) least;
  len = omega (arith, are.len);
  each = λ i row.
      let same = sum_intervals_same n (λ k. interval_scale (pilot_entry p i k) (nth_entry vs k)) (λ k. interval_scale (pilot_entry p i k) (interval_shift h (residual_interval n t y k)))
      (λ k l. ap (λ w. interval_scale (pilot_entry p i k) w) (shifted.each k (omega (arith, left.len)) ∙ ap (λ w. interval_shift h w) (left.each k l))) in
      are.each i (omega arith)
      ∙ ap (λ m. up_over (size (sum_intervals m (λ k. interval_scale (pilot_entry p i k) (nth_entry vs k)))) (2 ^ (p.g + 60 - h))) size_is
      ∙ ap (λ w. up_over (size w) (2 ^ (p.g + 60 - h))) same;
}
