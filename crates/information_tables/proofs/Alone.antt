-- There is one table times a weight, and one information matrix, or one first cause.
use Rattle.std.proofs.Common.{◌≡◌, ◌∙◌, ℕ, pos, List, Ok, Err, length, slice_get, sym, ap}
use Rattle.std.proofs.lemmas.Option.{same_Some}
use Rattle.stated_order.specs.Steps.{IsOne, Renamed}
use Rattle.stated_order.proofs.FirstLaws.{first_lower_failure_is_one, first_lower_failure_fails}
use Rattle.stated_order.proofs.StepLaws.{then_is_one, renamed_is_one}
use Rattle.decimal_e.specs.Decimals.{Decimal}
use Rattle.sym_blocks.specs.Tables.{SymTable, entry_at, before}
use Rattle.sym_blocks.proofs.EqualTables.{equal_symmetric}
use Rattle.param_ids.specs.Plain.{PlainId}
use Rattle.snx_matrices.specs.declared.elements.Content.TheVariants.{Cova, Corr, Info}
use Rattle.named_tables.specs.Tables.{IsUnfitEntry, OneTable}
use Rattle.named_tables.specs.Weighted.{one_decimal, WeightFits}
use Rattle.named_tables.specs.declared.faults.RecoverFault.TheVariants.{Range}
use Rattle.correlations.specs.Correlations.{OneCovariances}
use Rattle.inv_enclose.specs.Columns.{IsInverted, OneInverse}
use Rattle.information_tables.specs.Tables.{AreCovarianceIntervals, by_name, IsWeightedTable, AreWeighted, OneInformation}
use Rattle.information_tables.specs.Parts.{IsWeightedInverse}

-- ---- the first that does not fit
unfit_alone : (names : List PlainId) (P : ℕ → ℕ → Type 0) (row col row' col' : PlainId) → IsUnfitEntry names P row col → IsUnfitEntry names P row' col' → (row ≡ row') × (col ≡ col')
unfit_alone names P row col row' col' a b =
    let at = first_lower_failure_is_one (length names) P a.i a.j b.i b.j a.first b.first in (
      same_Some row row' (sym a.row_is ∙ ap (slice_get names) at.0 ∙ b.row_is),
      same_Some col col' (sym a.col_is ∙ ap (slice_get names) at.1 ∙ b.col_is),
    )

-- ---- the table times the weight
module _ (weight : Decimal) (names : List PlainId) (table : SymTable) where
  weighted_alone : (one other : SymTable) → IsWeightedTable weight table one → IsWeightedTable weight table other → one ≡ other
  weighted_alone one other a b = equal_symmetric table.size one other a.size b.size (a.lower ∙ ap before a.size) (b.lower ∙ ap before b.size) (λ i j li lj. a.entries i j li lj ∙ sym (b.entries i j li lj))

  one_weighted : IsOne (AreWeighted weight names table)
  one_weighted (Ok a) (Ok b) f g = ap Ok (weighted_alone a b f.0 g.0)
  one_weighted (Ok a) (Err (Range row col)) f g = absurd (first_lower_failure_fails (length names) (λ i j. WeightFits weight (entry_at table i j)) g.i g.j f.1 g.first)
  one_weighted (Ok a) (Err _) f g = absurd g
  one_weighted (Err (Range row col)) (Ok b) f g = absurd (first_lower_failure_fails (length names) (λ i j. WeightFits weight (entry_at table i j)) f.i f.j g.1 f.first)
  one_weighted (Err (Range row col)) (Err (Range row' col')) f g =
      let e = unfit_alone names (λ i j. WeightFits weight (entry_at table i j)) row col row' col' f g in let p : row ≡ row' = e.0 in let q : col ≡ col' = e.1 in cc
  one_weighted (Err (Range row col)) (Err _) f g = absurd g
  one_weighted (Err _) r f g = absurd f

-- ---- all together
module _ (tables : OneTable) (correlated : OneCovariances) (inverse : OneInverse) where
  one_weighted_inverse : (weight : Decimal) (names : List PlainId) (table : SymTable) → IsOne (IsWeightedInverse weight names table)
  one_weighted_inverse weight names table =
      then_is_one (Renamed (by_name names) (IsInverted table (pos 24))) (AreWeighted weight names) (renamed_is_one (by_name names) (IsInverted table (pos 24)) (inverse table (pos 24))) (λ out given. one_weighted weight names out)

  pub information_is_one : OneInformation
  information_is_one Info rows cells weight scales names = tables Info rows cells weight scales names
  information_is_one Cova rows cells weight scales names =
      then_is_one (AreCovarianceIntervals Cova rows cells scales names) (IsWeightedInverse weight names) (tables Cova rows cells one_decimal scales names) (λ table given. one_weighted_inverse weight names table)
  information_is_one Corr rows cells weight scales names =
      then_is_one (AreCovarianceIntervals Corr rows cells scales names) (IsWeightedInverse weight names) (correlated rows cells scales names) (λ table given. one_weighted_inverse weight names table)
