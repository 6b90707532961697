-- The table of covariances, or the first cause, from the first place that does not fit.
use Rattle.std.proofs.Common.{◌≡◌, ◌≤◌, ◌<◌, ◌^◌, ◌∙◌, ℕ, ℤ, List, Option, Some, Err, All, length, map, slice_get, sym, ap, subst, arith}
use Rattle.std.proofs.lemmas.Option.{same_Some, slice_get_within}
use Rattle.std.proofs.Math.Decide.{dec_lt}
use Rattle.stated_order.specs.First.{HoldsBelow}
use Rattle.whole_numbers.specs.Intervals.{size}
use Rattle.decimal_e.specs.Decimals.{Decimal}
use Rattle.sym_blocks.specs.Tables.{SymTable, entry_at, before}
use Rattle.sym_blocks.proofs.Rows.{entry_sym}
use Rattle.param_ids.specs.Plain.{PlainId}
use Rattle.param_ids.specs.Order.{IsNames}
use Rattle.param_ids.specs.Tables.{ScaleMap}
use Rattle.snx_rows.specs.declared.rows.Row.{Row}
use Rattle.snx_matrices.specs.declared.elements.Cell.{Cell}
use Rattle.snx_matrices.specs.declared.elements.Content.TheVariants.{Corr}
use Rattle.neq_stack.specs.Systems.{name_at}
use Rattle.named_tables.specs.Weighted.{one_decimal, scale_of}
use Rattle.named_tables.specs.Parts.{IsShownTable}
use Rattle.named_tables.specs.declared.faults.RecoverFault.{RecoverFault}
use Rattle.named_tables.proofs.TableLaws.{name_here}
use Rattle.correlations.specs.Exact.{deviation_of}
use Rattle.correlations.specs.Correlations.{AreCovariances, CovarianceFits, HasDeviation, IsCovarianceTable, IsUnfitCovariance, IsUnweighted, RowFits}
use Rattle.correlations.specs.Parts.{AreFilled, EntryFitsAt, HasDeviationAt, IsBareRow, IsFaultAt, IsFirstUnfit, IsTyped, IsUnfitPlace, RowFitsAt}
use Rattle.correlations.specs.declared.triangles.Unfit.{Unfit}
use Rattle.correlations.specs.declared.triangles.Unfit.TheVariants.{Bare, Entry}
use Rattle.correlations.proofs.NameLaws.{covariance_fits, deviation_is, fits_back, fits_to}
use Rattle.correlations.proofs.PlaceLaws.{rows_fit}

-- a name is the one at its place
pub name_is : (names : List PlainId) (i : ℕ) (id : PlainId) → slice_get names i ≡ Some id → name_at names i ≡ id
name_is names i id at = same_Some (name_at names i) id (sym (name_here names i (slice_get_within names i id at)) ∙ at)

-- ---- sizes
pub all_modest : (given : SymTable) (deviations : List (Option Decimal)) (exponents : List ℤ) (n : ℕ) (table : SymTable) → AreFilled given deviations exponents n table → (i j : ℕ) → i < n → j < n → size (entry_at table i j) ≤ 10 ^ 34
all_modest given deviations exponents n table filled i j li lj =
    elim (dec_lt i j) [
      | yes above ↦ subst (λ v. size v ≤ 10 ^ 34) (entry_sym table j i) (filled j i lj (omega arith)).fits.modest
      | no below ↦ (filled i j li (omega arith)).fits.modest
    ]

module _ (rows : List Row) (cells : List Cell) (scales : ScaleMap) (names : List PlainId) (given : SymTable) (deviations : List (Option Decimal)) (exponents : List ℤ)
    (shown : IsShownTable Corr rows cells one_decimal scales names given) (devs : deviations ≡ map (deviation_of rows cells names) names) (exps : exponents ≡ map (scale_of scales) names)
    (typed : All (λ (cell : Cell). IsTyped cell.value) cells) (in_order : IsNames names) where
  named_deviation : (i : ℕ) → i < length names → HasDeviationAt given deviations exponents i → HasDeviation rows cells scales names i
  named_deviation i l has = record { s = has.s; is = sym (deviation_is rows cells scales names given deviations exponents shown devs exps typed in_order i l) ∙ has.is }

  named_fits : (i j : ℕ) → i < length names → j ≤ i → EntryFitsAt given deviations exponents i j → CovarianceFits rows cells scales names i j
  named_fits i j l lower fits = covariance_fits rows cells scales names given deviations exponents shown devs exps typed in_order i j fits.w l (omega arith) fits.is

  named_row : (i : ℕ) → i < length names → RowFitsAt given deviations exponents i → RowFits rows cells scales names i
  named_row i l row = record { deviation = named_deviation i l row.deviation; covariances = λ j low. named_fits i j l (omega arith) (row.entries j low) }

  named_rows : (i : ℕ) → i ≤ length names → HoldsBelow i (RowFitsAt given deviations exponents) → HoldsBelow i (RowFits rows cells scales names)
  named_rows i l before k low = named_row k (omega arith) (before k low)

  pub is_table : (n : ℕ) (table : SymTable) → n ≡ length names → table.size ≡ length names → length table.entries ≡ before table.size → AreFilled given deviations exponents n table → IsCovarianceTable rows cells scales names table × HoldsBelow (length names) (RowFits rows cells scales names)
  is_table n table count sized whole filled = (
    record {
      size = sized;
      lower = whole;
      entries = λ i j s t li lower s_is t_is. (fits_to rows cells scales names given deviations exponents shown devs exps typed in_order i j (entry_at table i j) s t li (omega arith) (filled i j (omega arith) lower) s_is t_is).0;
    },
    named_rows (length names) (omega arith) (λ k low. rows_fit given deviations exponents n table filled k (omega arith)),
  )

  unweighted : (n i : ℕ) (id : PlainId) → n ≡ length names → slice_get names i ≡ Some id → IsBareRow given deviations exponents n i → IsUnweighted rows cells scales names id
  unweighted n i id count at bare =
      let within = bare.within in
      record {
        i = i;
        id_is = at;
        rows_fit = named_rows i (omega arith) bare.rows;
        none = ap (deviation_of rows cells names) (sym (name_is names i id at)) ∙ sym (deviation_is rows cells scales names given deviations exponents shown devs exps typed in_order i (omega arith)) ∙ bare.none;
      }

  some_deviation : (i j : ℕ) → j ≤ i → HoldsBelow i (RowFitsAt given deviations exponents) → HasDeviationAt given deviations exponents i → HasDeviationAt given deviations exponents j
  some_deviation i j lower before own =
      elim (dec_lt j i) [
        | yes low ↦ (before j low).deviation
        | no high ↦ let e : i ≡ j = omega arith in subst (HasDeviationAt given deviations exponents) e own
      ]

  unfit_covariance : (n i j : ℕ) (one other : PlainId) → n ≡ length names → slice_get names i ≡ Some one → slice_get names j ≡ Some other → IsUnfitPlace given deviations exponents n i j → IsUnfitCovariance rows cells scales names one other
  unfit_covariance n i j one other count at there unfit =
      let within = unfit.within in
      let lower = unfit.lower in
      let li : i < length names = omega arith in
      let col = some_deviation i j lower unfit.rows unfit.deviation in
      record {
        i = i;
        j = j;
        row_is = at;
        col_is = there;
        lower = lower;
        rows_fit = named_rows i (omega arith) unfit.rows;
        deviation = named_deviation i li unfit.deviation;
        left = λ l low. named_fits i l li (omega arith) (unfit.left l low);
        fails = λ fits. unfit.fails (fits_back rows cells scales names given deviations exponents shown devs exps typed in_order i j unfit.deviation.s col.s li (omega arith) unfit.deviation.is col.is fits);
      }

  pub is_refusal : (n : ℕ) (unfit : Unfit) (fault : RecoverFault) → n ≡ length names → IsFirstUnfit given deviations exponents n unfit → IsFaultAt names unfit fault → AreCovariances rows cells scales names (Err fault)
  is_refusal n (Bare row) fault count first (id, at, is) = subst (λ f. AreCovariances rows cells scales names (Err f)) (sym is) (unweighted n row id count at first)
  is_refusal n (Entry row col) fault count first (one, other, at, there, is) = subst (λ f. AreCovariances rows cells scales names (Err f)) (sym is) (unfit_covariance n row col one other count at there first)
