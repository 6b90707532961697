-- From intervals that stand for numbers to the table and the right side, or to the first number that does not fit.
use Rattle.std.proofs.Common.{◌≡◌, ◌≤◌, ◌<◌, ◌∙◌, ℕ, ℤ, List, Some, All, length, map, get_or, slice_get, unwrap_or, sym, ap, subst, arith, Result, Ok, Err, IfOk}
use Rattle.std.proofs.Math.Decide.{dec_lt}
use Rattle.std.proofs.lemmas.List.{get_or-map, length-map}
use Rattle.std.proofs.lemmas.Option.{slice_get-get_or, slice_get_within, get_or_from_slice_get}
use Rattle.stated_order.specs.First.{HoldsBelow, HoldsLower, IsFirstFailure, IsFirstLowerFailure}
use Rattle.stated_order.proofs.FirstLaws.{first_failure_moves, first_lower_failure_moves}
use Rattle.whole_numbers.specs.Intervals.{Interval}
use Rattle.whole_numbers.proofs.ListLaws.{equal_lists}
use Rattle.decimal_e.specs.Decimals.{Decimal}
use Rattle.sym_blocks.specs.Tables.{SymTable, entry_at, before, zero_interval}
use Rattle.sym_blocks.proofs.Rows.{entry_sym}
use Rattle.param_ids.specs.Plain.{PlainId}
use Rattle.param_ids.specs.Order.{IsNames}
use Rattle.param_ids.specs.Tables.{ScaleMap}
use Rattle.snx_rows.specs.Blocks.{AreDistinct}
use Rattle.snx_rows.specs.declared.rows.Row.{Row}
use Rattle.snx_matrices.specs.Elements.{IsPlaced}
use Rattle.snx_matrices.specs.declared.elements.Cell.{Cell}
use Rattle.snx_matrices.specs.declared.elements.Content.{Content}
use Rattle.neq_stack.specs.Systems.{name_at, no_name}
use Rattle.named_tables.specs.Weighted.{weighted_element, weighted_value, element_power, right_power, scale_of}
use Rattle.named_tables.specs.Tables.{HasNames, IsTableBy, IsTableOfContent, IsColumn, ElementFits, ValueFits, value_interval}
use Rattle.named_tables.specs.Parts.{AreRanks, IsModest, IsShownTable, IsShownColumn, ShowsEntries, StandsFor, ranked_number}
use Rattle.named_tables.specs.declared.faults.RecoverFault.TheVariants.{Range}
use Rattle.named_tables.proofs.RankLaws.{number_is, power_is}

-- a place below the length has its name
pub name_here : (names : List PlainId) (i : ℕ) → i < length names → slice_get names i ≡ Some (name_at names i)
name_here names i l =
    let here : slice_get names i ≡ Some (get_or names i no_name) = slice_get-get_or names i no_name l in
    here ∙ ap (λ id. Some id) (sym (ap (λ o. unwrap_or o no_name) here))

pub count_is : (scales : ScaleMap) (names : List PlainId) (exponents : List ℤ) → exponents ≡ map (scale_of scales) names → length exponents ≡ length names
count_is scales names exponents scaled = ap length scaled ∙ length-map names (scale_of scales)

-- ---- the table
-- all intervals of a table are modest where those up to the diagonal are
pub each_modest : (n : ℕ) (table : SymTable) → HoldsLower n (λ i j. IsModest (entry_at table i j)) → (i j : ℕ) → i < n → j < n → IsModest (entry_at table i j)
each_modest n table modest i j li lj =
    elim (dec_lt i j) [
      | yes above ↦ subst IsModest (entry_sym table j i) (modest j i lj (omega arith))
      | no below ↦ modest i j li (omega arith)
    ]

-- intervals by the places of names are those for the names
pub table_shown : (content : Content) (rows : List Row) (cells : List Cell) (weight : Decimal) (scales : ScaleMap) (names : List PlainId) (ranks : List ℕ) (exponents : List ℤ) (table : SymTable)
    → AreDistinct (λ row. row.id) rows → All (IsPlaced (length rows)) cells → IsNames names → All (HasNames names rows) cells → AreRanks names rows ranks → exponents ≡ map (scale_of scales) names
    → table.size ≡ length exponents → length table.entries ≡ before table.size → ShowsEntries content weight cells ranks exponents table → IsShownTable content rows cells weight scales names table
table_shown content rows cells weight scales names ranks exponents table apart placed in_order has are scaled size lower shows =
    let count = count_is scales names exponents scaled in
    record {
      size = size ∙ count;
      lower = lower;
      entries = λ i j one other here there.
          subst (λ d. StandsFor d (element_power content scales one other) (entry_at table i j)) (number_is names rows ranks apart in_order.0 are cells weight i j one other placed has here there)
          (subst (λ k. StandsFor (ranked_number weight cells ranks i j) k (entry_at table i j)) (power_is content scales names exponents i j one other scaled here there)
          (shows i j (let w = slice_get_within names i one here in omega arith) (let w = slice_get_within names j other there in omega arith)));
    }

pub if_shown : {E : Type 0} (content : Content) (rows : List Row) (cells : List Cell) (weight : Decimal) (scales : ScaleMap) (names : List PlainId) (ranks : List ℕ) (exponents : List ℤ) (result : Result SymTable E)
    → AreDistinct (λ row. row.id) rows → All (IsPlaced (length rows)) cells → IsNames names → All (HasNames names rows) cells → AreRanks names rows ranks → exponents ≡ map (scale_of scales) names
    → IfOk result (λ table. table.size ≡ length exponents) → IfOk result (λ table. length table.entries ≡ before table.size) → IfOk result (ShowsEntries content weight cells ranks exponents) → IfOk result (IsShownTable content rows cells weight scales names)
if_shown content rows cells weight scales names ranks exponents (Ok table) apart placed in_order has are scaled size lower shows = table_shown content rows cells weight scales names ranks exponents table apart placed in_order has are scaled size lower shows
if_shown content rows cells weight scales names ranks exponents (Err e) apart placed in_order has are scaled size lower shows = tt

module _ (content : Content) (rows : List Row) (cells : List Cell) (weight : Decimal) (scales : ScaleMap) (names : List PlainId) (table : SymTable) (shown : IsShownTable content rows cells weight scales names table) where
  entry_stands : (i j : ℕ) → i < length names → j < length names → StandsFor (weighted_element rows cells weight (name_at names i) (name_at names j)) (element_power content scales (name_at names i) (name_at names j)) (entry_at table i j)
  entry_stands i j li lj = shown.entries i j (name_at names i) (name_at names j) (name_here names i li) (name_here names j lj)

  -- from modest intervals to elements that fit, and back
  entry_to : (i j : ℕ) → i < length names → j ≤ i → IsModest (entry_at table i j) → ElementFits content rows cells weight scales names i j
  entry_to i j l h modest = (entry_stands i j l (omega arith)).fits modest

  entry_from : (i j : ℕ) → i < length names → j ≤ i → ElementFits content rows cells weight scales names i j → IsModest (entry_at table i j)
  entry_from i j l h fit = let s = entry_stands i j l (omega arith) in subst IsModest (sym (s.here fit)) fit.modest

  table_made : HoldsLower (length names) (λ i j. IsModest (entry_at table i j)) → IsTableOfContent content rows cells weight scales names table
  table_made modest = record {
    size = shown.size;
    lower = shown.lower;
    entries = λ i j one other here there. (shown.entries i j one other here there).back (each_modest (length names) table modest i j (slice_get_within names i one here) (slice_get_within names j other there));
  }

  -- where all intervals are modest, the table is that of the elements, all of which fit
  pub is_table : HoldsLower table.size (λ i j. IsModest (entry_at table i j)) → IsTableBy content rows cells weight scales names (Ok table)
  is_table all =
      let modest : HoldsLower (length names) (λ i j. IsModest (entry_at table i j)) = subst (λ n. HoldsLower n (λ i j. IsModest (entry_at table i j))) shown.size all in
      (table_made modest, λ i j l h. entry_to i j l h (modest i j l h))

  -- the first that is not, is that of the first element that does not fit
  pub no_table : (i j : ℕ) (row col : PlainId) → IsFirstLowerFailure table.size (λ i j. IsModest (entry_at table i j)) i j → slice_get names i ≡ Some row → slice_get names j ≡ Some col → IsTableBy content rows cells weight scales names (Err (Range row col))
  no_table i j row col first row_is col_is =
      let there : IsFirstLowerFailure (length names) (λ i j. IsModest (entry_at table i j)) i j = subst (λ n. IsFirstLowerFailure n (λ i j. IsModest (entry_at table i j)) i j) shown.size first in
      record {
        i = i;
        j = j;
        first = first_lower_failure_moves (length names) (λ i j. IsModest (entry_at table i j)) (ElementFits content rows cells weight scales names) i j entry_to entry_from there;
        row_is = row_is;
        col_is = col_is;
      }

-- ---- the right side
module _ (rows : List Row) (weight : Decimal) (scales : ScaleMap) (names : List PlainId) (right : List Interval) (shown : IsShownColumn rows weight scales names right) where
  value_stands : (i : ℕ) → i < length names → StandsFor (weighted_value rows weight (name_at names i)) (right_power scales (name_at names i)) (get_or right i zero_interval)
  value_stands i l = shown.values i (name_at names i) (name_here names i l)

  value_to : (i : ℕ) → i < length names → IsModest (get_or right i zero_interval) → ValueFits rows weight scales names i
  value_to i l modest = (value_stands i l).fits modest

  value_from : (i : ℕ) → i < length names → ValueFits rows weight scales names i → IsModest (get_or right i zero_interval)
  value_from i l fit = subst IsModest (sym ((value_stands i l).here fit)) fit.modest

  value_here : HoldsBelow (length names) (λ i. IsModest (get_or right i zero_interval)) → (k : ℕ) → k < length names → get_or right k zero_interval ≡ get_or (map (value_interval rows weight scales) names) k zero_interval
  value_here modest k l =
      (value_stands k l).back (modest k l)
      ∙ sym (get_or-map (value_interval rows weight scales) names k (name_at names k) zero_interval l ∙ ap (value_interval rows weight scales) (get_or_from_slice_get names k (name_at names k) (name_at names k) (name_here names k l)))

  -- where all intervals are modest, they are those of the values, all of which fit
  pub is_column : HoldsBelow (length right) (λ i. IsModest (get_or right i zero_interval)) → IsColumn rows weight scales names (Ok right)
  is_column all =
      let modest : HoldsBelow (length names) (λ i. IsModest (get_or right i zero_interval)) = subst (λ n. HoldsBelow n (λ i. IsModest (get_or right i zero_interval))) shown.len all in (
        equal_lists zero_interval (length names) right (map (value_interval rows weight scales) names) shown.len (length-map names (value_interval rows weight scales)) (value_here modest),
        λ i l. value_to i l (modest i l),
      )

  -- the first that is not, is that of the first value that does not fit
  pub no_column : (i : ℕ) (row col : PlainId) → IsFirstFailure (length right) (λ i. IsModest (get_or right i zero_interval)) i → slice_get names i ≡ Some row → slice_get names i ≡ Some col → IsColumn rows weight scales names (Err (Range row col))
  no_column i row col first row_is col_is =
      let there : IsFirstFailure (length names) (λ i. IsModest (get_or right i zero_interval)) i = subst (λ n. IsFirstFailure n (λ i. IsModest (get_or right i zero_interval)) i) shown.len first in
      record {
        i = i;
        first = first_failure_moves (length names) (λ i. IsModest (get_or right i zero_interval)) (ValueFits rows weight scales names) i value_to value_from there;
        row_is = row_is;
        twice = let same : Some col ≡ Some row = sym col_is ∙ row_is in cc;
      }
