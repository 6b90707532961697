-- What a shift keeps and names, and the normal equations at the estimates.
use Rattle.std.proofs.Common.{◌≡◌, ◌≤◌, ◌<◌, ◌^◌, ◌∙◌, ◌∷◌, ◌⊎◌, inl, inr, ℕ, Bool, true, false, cond, List, [], Option, Some, Ok, Err, All, length, map, sym, ap, subst, arith}
use Rattle.std.specs.List.{find}
use Rattle.std.specs.Net.Reader.{map_or}
use Rattle.std.proofs.lemmas.Int.{ints}
use Rattle.std.proofs.lemmas.List.{length-map, length-replicate, get_or-replicate}
use Rattle.std.proofs.lemmas.List.Elements.{All-head, All-tail, All-map}
use Rattle.std.proofs.lemmas.Option.{slice_get_within}
use Rattle.stated_order.specs.Steps.{Renamed}
use Rattle.stated_order.proofs.StepLaws.{went_on, ok_same, err_same}
use Rattle.whole_numbers.specs.Intervals.{Interval, size}
use Rattle.decimal_e.specs.Decimals.{Decimal}
use Rattle.decimal_e.specs.Fractions.{IsAtMost}
use Rattle.sym_blocks.specs.Tables.{SymTable, before, zero_interval}
use Rattle.param_ids.specs.Plain.{PlainId}
use Rattle.param_ids.specs.Order.{IsNames}
use Rattle.param_ids.specs.Tables.{ScaleMap, IsScale}
use Rattle.snx_rows.specs.Blocks.{AreSound}
use Rattle.snx_rows.specs.Named.{zero_decimal, is_row_of, value_of, unit_of}
use Rattle.snx_rows.specs.declared.rows.Row.{Row}
use Rattle.snx_rows.specs.declared.rows.Shape.TheVariants.{Value}
use Rattle.neq_stack.specs.Neqs.{PlainNeq, IsSound}
use Rattle.neq_stack.specs.ByName.{AreAtMost, entry_in, right_in}
use Rattle.neq_stack.proofs.NameLaws.{place_cases}
use Rattle.neq_stack.proofs.PlacedLaws.{no_row, no_column, no_right, entry_there, right_there}
use Rattle.difference_products.specs.Products.{Place, IsProduct, IsUnfit}
use Rattle.apriori_shift.specs.Answers.{IfRange}
use Rattle.apriori_shift.specs.declared.shifting.ShiftError.{ShiftError}
use Rattle.apriori_shift.specs.declared.shifting.ShiftError.TheVariants as shifts
use Rattle.apriori_shift.specs.Shifts.{IsShift, IsLessBy, factors_in}
use Rattle.named_tables.specs.Weighted.{scale_of}
use Rattle.named_tables.specs.declared.faults.RecoverFault.{RecoverFault}
use Rattle.named_tables.specs.declared.faults.RecoverError.{RecoverError}
use Rattle.named_tables.specs.declared.faults.RecoverError.TheVariants.{Memory, Fault}
use Rattle.recover_solution.specs.Solutions.{PlainSolution}
use Rattle.recover_solution.specs.Recovery.{IsModestTable, at_estimates, range_at}

-- ---- what a shift keeps
pub record Keeps (values : List Decimal) (neq after : PlainNeq) : Type 0 where
  pub names : after.names ≡ neq.names
  pub table : after.table ≡ neq.table
  pub values_are : after.apriori ≡ values
  pub units : after.units ≡ neq.units
  pub scales : after.scales ≡ neq.scales

pub shift_keeps : (values : List Decimal) (neq after : PlainNeq) → IsShift values neq (Ok after) → Keeps values neq after
shift_keeps values neq after (inl h) =
    let same = ok_same after neq h.1 in record {
      names = ap (λ (n : PlainNeq). n.names) same;
      table = ap (λ (n : PlainNeq). n.table) same;
      values_are = ap (λ (n : PlainNeq). n.apriori) same ∙ sym h.0;
      units = ap (λ (n : PlainNeq). n.units) same;
      scales = ap (λ (n : PlainNeq). n.scales) same;
    }
shift_keeps values neq after (inr h) =
    let moved = (went_on (IsProduct (factors_in neq h.1.0)) (IsLessBy values neq) after h.1.2).onward.1 in record {
      names = ap (λ (n : PlainNeq). n.names) moved;
      table = ap (λ (n : PlainNeq). n.table) moved;
      values_are = ap (λ (n : PlainNeq). n.apriori) moved;
      units = ap (λ (n : PlainNeq). n.units) moved;
      scales = ap (λ (n : PlainNeq). n.scales) moved;
    }

-- ---- the place that it refuses is one of the table
abbrev pub IsPlaceIn : List PlainId → Place → Type 0
IsPlaceIn names p = (p.row < length names) × (p.col < length names)

unfit_within : (neq : PlainNeq) (differences : List Interval) (p : Place) → neq.table.size ≡ length neq.names → IsUnfit (factors_in neq differences) p → IsPlaceIn neq.names p
unfit_within neq differences p rows u =
    elim u.first [
      | inl h ↦ let within = h.within in let lower = h.lower in (omega arith, omega arith)
      | inr g ↦ elim g [
        | inl h ↦ let same = h.0 in let within = h.2.within in (omega arith, omega arith)
        | inr h ↦ let same = h.0 in let within = h.3.within in (omega arith, omega arith)
      ]
    ]

pub shift_within : (values : List Decimal) (neq : PlainNeq) (p : Place) → neq.table.size ≡ length neq.names → IsShift values neq (Err p) → IsPlaceIn neq.names p
shift_within values neq p rows (inl h) = let e = h.1 in absurd (cc)
shift_within values neq p rows (inr h) =
    elim h.1.2 [
      | inl f ↦ let same = f.onward.0 in let within = f.onward.1.within in (omega arith, omega arith)
      | inr f ↦ subst (IsPlaceIn neq.names) (sym (err_same p f.cause f.is_cause)) (unfit_within neq h.1.0 f.cause rows f.refused.1)
    ]

-- ---- the values of rows are modest
picked : (P : Decimal → Type 0) (b : Bool) (row : Row) (o : Option Row) → P row.value → P (map_or o zero_decimal (λ (r : Row). r.value)) → P (map_or (cond b (Some row) o) zero_decimal (λ (r : Row). r.value))
picked P true row o here there = here
picked P false row o here there = there

modest_value : (rows : List Row) (id : PlainId) → All (λ (row : Row). IsAtMost (10 ^ 12) row.value) rows → IsAtMost (10 ^ 12) (value_of rows id)
modest_value [] id all = omega (arith, ints)
modest_value (row ∷ rows) id all =
    picked (IsAtMost (10 ^ 12)) (is_row_of id row) row (find (is_row_of id) rows) (All-head (λ (r : Row). IsAtMost (10 ^ 12) r.value) row rows all) (modest_value rows id (All-tail (λ (r : Row). IsAtMost (10 ^ 12) r.value) row rows all))

pub modest_values : (rows : List Row) (names : List PlainId) → AreSound Value rows → All (IsAtMost (10 ^ 12)) (map (value_of rows) names)
modest_values rows names sound = All-map (IsAtMost (10 ^ 12)) (value_of rows) names (λ k d l. modest_value rows _ sound.sized)

-- ---- the normal equations at the estimates
module _ (solution : PlainSolution) (scales : ScaleMap) (names : List PlainId) (table : SymTable) (ordered : IsNames names) (rows : table.size ≡ length names) where
  pub estimates_sound : length table.entries ≡ before table.size → AreSound Value solution.estimates → All IsScale (map (scale_of scales) names) → IsSound (at_estimates solution scales names table)
  estimates_sound lower estimates scaled = record {
    names = ordered;
    rows = rows;
    entries = lower;
    rights = length-replicate (length names) zero_interval;
    values = length-map names (value_of solution.estimates);
    named_units = length-map names (unit_of solution.apriori);
    exponents = length-map names (scale_of scales);
    modest = modest_values solution.estimates names estimates;
    scaled = scaled;
  }

  -- the right side is zero
  pub zero_right : (id : PlainId) → right_in (at_estimates solution scales names table) id ≡ zero_interval
  zero_right id =
      elim (place_cases names id) [
        | inl h ↦ right_there (at_estimates solution scales names table) h.0 id h.2 ∙ get_or-replicate (length names) h.0 zero_interval zero_interval (slice_get_within names h.0 id h.1)
        | inr h ↦ no_right (at_estimates solution scales names table) id h.0
      ]

  entry_small : IsModestTable table → (one other : PlainId) → size (entry_in (at_estimates solution scales names table) one other) ≤ 10 ^ 34
  entry_small modest one other =
      let neq = at_estimates solution scales names table in
      let zero : size zero_interval ≤ 10 ^ 34 = omega arith in
      elim (place_cases names one) [
        | inl h ↦ elim (place_cases names other) [
          | inl g ↦
              let li = slice_get_within names h.0 one h.1 in
              let lj = slice_get_within names g.0 other g.1 in
              subst (λ w. size w ≤ 10 ^ 34) (sym (entry_there neq h.0 g.0 one other h.2 g.2)) (modest h.0 g.0 (omega arith) (omega arith))
          | inr g ↦ subst (λ w. size w ≤ 10 ^ 34) (sym (no_column neq one other g.0)) zero
        ]
        | inr h ↦ subst (λ w. size w ≤ 10 ^ 34) (sym (no_row neq one other h.0)) zero
      ]

  pub estimates_at_most : IsModestTable table → AreAtMost (10 ^ 34) (at_estimates solution scales names table)
  estimates_at_most modest = record {
    entries = entry_small modest;
    rights = λ id. subst (λ w. size w ≤ 10 ^ 34) (sym (zero_right id)) (omega arith);
  }

-- ---- what the calls answer
pub at_most_weaker : (most more : ℕ) (neq : PlainNeq) → most ≤ more → AreAtMost most neq → AreAtMost more neq
at_most_weaker most more neq le h = record { entries = λ one other. let s = h.entries one other in omega arith; rights = λ id. let s = h.rights id in omega arith }

pub range_told : (P : Place → Type 0) (e : ShiftError) (row col : ℕ) → e ≡ shifts.Range row col → IfRange P e → P (record { row = row; col = col })
range_told P e row col is h = subst (IfRange P) is h

-- a shift of normal equations that are others
pub moved_from : (value : PlainId → Decimal) (neq other after : PlainNeq) → neq ≡ other → IsShift (map value neq.names) neq (Ok after) → IsShift (map value other.names) other (Ok after)
moved_from value neq other after same h = subst (λ (n : PlainNeq). IsShift (map value n.names) n (Ok after)) same h

pub refused_from : (value : PlainId → Decimal) (neq other : PlainNeq) (cause : RecoverError) → neq ≡ other
    → (cause ≡ Memory) ⊎ ((fault : RecoverFault) × (cause ≡ Fault fault) × Renamed (range_at neq.names) (IsShift (map value neq.names) neq) (Err fault))
    → (cause ≡ Memory) ⊎ ((fault : RecoverFault) × (cause ≡ Fault fault) × Renamed (range_at other.names) (IsShift (map value other.names) other) (Err fault))
refused_from value neq other cause same h =
    subst (λ (n : PlainNeq). (cause ≡ Memory) ⊎ ((fault : RecoverFault) × (cause ≡ Fault fault) × Renamed (range_at n.names) (IsShift (map value n.names) n) (Err fault))) same h
