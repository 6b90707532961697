-- Each step from a solution to its normal equations has one result at most.
use Rattle.std.proofs.Common.{◌≡◌, ◌∙◌, ℕ, ℤ, pos, List, Option, Some, None, Ok, Err, length, map, slice_get, refl, sym, ap}
use Rattle.std.proofs.lemmas.Option.{same_Some}
use Rattle.stated_order.specs.First.{HoldsLower}
use Rattle.stated_order.specs.Steps.{IsOne}
use Rattle.stated_order.proofs.StepLaws.{then_is_one, renamed_is_one}
use Rattle.stated_order.proofs.FirstLaws.{first_lower_failure_is_one, first_lower_failure_fails}
use Rattle.whole_numbers.specs.Intervals.{Interval}
use Rattle.decimal_e.specs.Decimals.{Decimal}
use Rattle.sym_blocks.specs.Tables.{SymTable, entry_at, before}
use Rattle.sym_blocks.proofs.EqualTables.{equal_symmetric}
use Rattle.inverse_squares.proofs.Alone.{one_over_square}
use Rattle.param_ids.specs.Plain.{PlainId}
use Rattle.param_ids.specs.Tables.{ScaleMap}
use Rattle.snx_rows.specs.Named.{value_of}
use Rattle.snx_rows.specs.declared.rows.Row.{Row}
use Rattle.neq_stack.specs.Neqs.{PlainNeq}
use Rattle.neq_stack.specs.Systems.{name_at}
use Rattle.apriori_shift.specs.Shifts.{IsShift}
use Rattle.apriori_shift.proofs.Alone.{one_shift}
use Rattle.named_tables.specs.Deviations.{sigma_at}
use Rattle.named_tables.specs.Naming.{matched, filled}
use Rattle.named_tables.specs.Tables.{IsUnfitEntry}
use Rattle.named_tables.specs.Weighted.{entry_power, weighted_interval}
use Rattle.named_tables.specs.declared.faults.RecoverFault.{RecoverFault}
use Rattle.named_tables.specs.declared.faults.RecoverFault.TheVariants.{Unmatched, NoWeight, Empty, Range, Pivot, Condition, Residual, Defect}
use Rattle.named_tables.proofs.Alone.{one_names}
use Rattle.named_tables.proofs.TableLaws.{name_here}
use Rattle.recover_solution.specs.Solutions.{PlainSolution}
use Rattle.recover_solution.specs.Recovery.{estimated, AreEstimated, OneParameters, IsSigmaInterval, EntrySigmaFits, IsSigmaTableOf, IsSigmaTable, OneSigmaTable, at_estimates, range_at, IsMoved, IsWithout, AreWithout, OneFreed}

one_value : {X : Type 0} (x : X) → IsOne (λ r. r ≡ x)
one_value x one other a b = a ∙ sym b

-- ---- names
names_are_one : (solution : PlainSolution) → IsOne (AreEstimated solution)
names_are_one solution (Ok names) (Ok more) a b = ap Ok (one_names solution.estimates names more a b)
names_are_one solution (Ok names) (Err fault) a b = absurd b
names_are_one solution (Err fault) other a b = absurd a

pub parameters_are_one : OneParameters
parameters_are_one solution =
    then_is_one _ _ (one_value (matched solution.apriori solution.estimates)) (λ all_matched given.
    then_is_one _ _ (one_value (estimated solution)) (λ all_estimated told.
    then_is_one _ _ (one_value (filled solution.estimates)) (λ some there. names_are_one solution)))

-- ---- the table of standard deviations
one_sigma : (weight : Decimal) (dev : Option Decimal) (k : ℤ) (w v : Interval) → IsSigmaInterval weight dev k w → IsSigmaInterval weight dev k v → w ≡ v
one_sigma weight None k w v a b = a ∙ sym b
one_sigma weight (Some s) k w v a b = a.2 ∙ ap (weighted_interval weight) (one_over_square (pos 1) s k a.0 b.0 a.1 b.1) ∙ sym b.2

one_table : (apriori : List Row) (weight : Decimal) (scales : ScaleMap) (names : List PlainId) (s t : SymTable) → IsSigmaTableOf apriori weight scales names s → IsSigmaTableOf apriori weight scales names t → s ≡ t
one_table apriori weight scales names s t a b =
    equal_symmetric (length names) s t a.size b.size (a.lower ∙ ap before a.size) (b.lower ∙ ap before b.size) (λ i j li lj.
    let here = name_here names i li in
    let there = name_here names j lj in
    one_sigma weight (sigma_at apriori (name_at names i) (name_at names j)) (entry_power scales (name_at names i) (name_at names j)) (entry_at s i j) (entry_at t i j) (a.entries i j (name_at names i) (name_at names j) here there) (b.entries i j (name_at names i) (name_at names j) here there))

one_entry : (names : List PlainId) (P : ℕ → ℕ → Type 0) (row col other_row other_col : PlainId) → IsUnfitEntry names P row col → IsUnfitEntry names P other_row other_col → Range row col ≡ Range other_row other_col
one_entry names P row col other_row other_col a b =
    let same = first_lower_failure_is_one (length names) P a.i a.j b.i b.j a.first b.first in
    let rows : row ≡ other_row = same_Some row other_row (sym a.row_is ∙ ap (slice_get names) same.0 ∙ b.row_is) in
    let cols : col ≡ other_col = same_Some col other_col (sym a.col_is ∙ ap (slice_get names) same.1 ∙ b.col_is) in
    ap (λ id. Range id col) rows ∙ ap (λ id. Range other_row id) cols

never_unfit : (names : List PlainId) (P : ℕ → ℕ → Type 0) (row col : PlainId) → HoldsLower (length names) P → IsUnfitEntry names P row col → ⊥
never_unfit names P row col fits a = first_lower_failure_fails (length names) P a.i a.j fits a.first

module _ (apriori : List Row) (weight : Decimal) (scales : ScaleMap) (names : List PlainId) where
  fit_or_not : (table : SymTable) (fault : RecoverFault) → IsSigmaTable apriori weight scales names (Ok table) → IsSigmaTable apriori weight scales names (Err fault) → ⊥
  fit_or_not table (Range row col) a b = never_unfit names (EntrySigmaFits apriori weight scales names) row col a.1 b
  fit_or_not table (Unmatched id) a b = b
  fit_or_not table (NoWeight id) a b = b
  fit_or_not table Empty a b = b
  fit_or_not table (Pivot id) a b = b
  fit_or_not table (Condition id) a b = b
  fit_or_not table (Residual id size) a b = b
  fit_or_not table (Defect id parts) a b = b

  -- a table that is refused names a range
  pub record IsUnfit (fault : RecoverFault) : Type 0 where
    pub row : PlainId
    pub col : PlainId
    pub is : fault ≡ Range row col
    pub entry : IsUnfitEntry names (EntrySigmaFits apriori weight scales names) row col

  unfit : (fault : RecoverFault) → IsSigmaTable apriori weight scales names (Err fault) → IsUnfit fault
  unfit (Range row col) a = record { row = row; col = col; is = refl; entry = a }
  unfit (Unmatched id) a = absurd a
  unfit (NoWeight id) a = absurd a
  unfit Empty a = absurd a
  unfit (Pivot id) a = absurd a
  unfit (Condition id) a = absurd a
  unfit (Residual id size) a = absurd a
  unfit (Defect id parts) a = absurd a

  one_fault : (fault other : RecoverFault) → IsSigmaTable apriori weight scales names (Err fault) → IsSigmaTable apriori weight scales names (Err other) → fault ≡ other
  one_fault fault other a b =
      let f = unfit fault a in
      let g = unfit other b in
      f.is ∙ one_entry names (EntrySigmaFits apriori weight scales names) f.row f.col g.row g.col f.entry g.entry ∙ sym g.is

  sigmas_are_one : IsOne (IsSigmaTable apriori weight scales names)
  sigmas_are_one (Ok s) (Ok t) a b = ap Ok (one_table apriori weight scales names s t a.0 b.0)
  sigmas_are_one (Ok s) (Err fault) a b = absurd (fit_or_not s fault a b)
  sigmas_are_one (Err fault) (Ok t) a b = absurd (fit_or_not t fault b a)
  sigmas_are_one (Err fault) (Err other) a b = ap Err (one_fault fault other a b)

pub one_sigma_table : OneSigmaTable
one_sigma_table apriori weight scales names = sigmas_are_one apriori weight scales names

-- ---- at the a priori values
module _ (solution : PlainSolution) (scales : ScaleMap) (names : List PlainId) where
  one_moved : (table : SymTable) → IsOne (IsMoved solution scales names table)
  one_moved table = renamed_is_one (range_at names) (IsShift (map (value_of solution.apriori) names) (at_estimates solution scales names table)) (one_shift (map (value_of solution.apriori) names) (at_estimates solution scales names table))

-- ---- without the constraints
equal_neqs : (n m : PlainNeq) → n.names ≡ m.names → n.table ≡ m.table → n.right ≡ m.right → n.apriori ≡ m.apriori → n.units ≡ m.units → n.scales ≡ m.scales → n ≡ m
equal_neqs n m names table right apriori units scales = λ i. record { names = names i; table = table i; right = right i; apriori = apriori i; units = units i; scales = scales i }

one_without : (removed : SymTable) (neq n m : PlainNeq) → IsWithout removed neq n → IsWithout removed neq m → n ≡ m
one_without removed neq n m a b =
    equal_neqs n m (a.names ∙ sym b.names)
    (equal_symmetric neq.table.size n.table m.table a.rows b.rows (a.lower ∙ ap before a.rows) (b.lower ∙ ap before b.rows) (λ i j li lj. a.entries i j li lj ∙ sym (b.entries i j li lj)))
    (a.right ∙ sym b.right) (a.apriori ∙ sym b.apriori) (a.units ∙ sym b.units) (a.scales ∙ sym b.scales)

one_rest : (removed : SymTable) (neq : PlainNeq) → IsOne (AreWithout removed neq)
one_rest removed neq (Ok n) (Ok m) a b = ap Ok (one_without removed neq n m a b)
one_rest removed neq (Ok n) (Err fault) a b = absurd b
one_rest removed neq (Err fault) other a b = absurd a

pub freed_is_one : OneFreed
freed_is_one solution scales names table removed = then_is_one _ _ (one_moved solution scales names table) (λ moved shifted. one_rest removed moved)
