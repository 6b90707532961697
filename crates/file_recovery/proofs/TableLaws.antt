-- The table of constraints: what is known of it, by where they come from.
use Rattle.std.proofs.Common.{◌≡◌, ◌≤◌, ◌^◌, pos, List, Ok, Err, length, refl, sym, subst, arith}
use Rattle.stated_order.specs.Steps.{HasOne}
use Rattle.stated_order.proofs.StepLaws.{then_gives, then_stops}
use Rattle.decimal_e.specs.Decimals.{Decimal}
use Rattle.sym_blocks.specs.Tables.{SymTable}
use Rattle.sys_model.specs.Scaling.{HoldsTimes}
use Rattle.whole_numbers.specs.Intervals.{size}
use Rattle.param_ids.specs.Plain.{PlainId}
use Rattle.param_ids.specs.Tables.{ScaleMap}
use Rattle.snx_rows.specs.declared.rows.Row.{Row}
use Rattle.snx_matrices.specs.declared.elements.Cell.{Cell}
use Rattle.snx_matrices.specs.declared.elements.Content.{Content}
use Rattle.neq_stack.specs.Systems.{NamedSystem}
use Rattle.apriori_shift.proofs.FractionLaws.{zero_holds}
use Rattle.named_tables.specs.Tables.{LiesInTable}
use Rattle.named_tables.specs.Weighted.{entry_power}
use Rattle.named_tables.specs.declared.faults.RecoverFault.{RecoverFault}
use Rattle.information_tables.specs.Exact.{IsInformation}
use Rattle.information_tables.specs.Tables.{IsInformationTable}
use Rattle.recover_solution.specs.Exact.{AreSigmaConstraints}
use Rattle.recover_solution.specs.Recovery.{IsSigmaTable, IsModestTable}
use Rattle.recover_solution.specs.Solutions.{Free, Matrix, Sigmas, is_touched, touched_names}
use Rattle.recover_solution.proofs.ExactLaws.{everywhere, interval_in}
use Rattle.recover_solution.proofs.TouchedLaws.{among}
use Rattle.std.proofs.lemmas.Option.{slice_get_within}
use Rattle.file_recovery.specs.Solved.{IsZeroTable, IsSpread, AreSpread, IsConstraintTable, IsNothing}
use Rattle.file_recovery.specs.Parts.{IsConstraintTableOf}
use Rattle.file_recovery.proofs.SpreadLaws.{spread_lies, spread_modest}

-- ---- none
nothing : HasOne IsNothing
nothing = (record { q = 1; a = λ one other. pos 0; c = λ id. pos 0 }, record { some = omega arith; matrix = λ one other. refl; right = λ id. refl })

zero_lies : (names : List PlainId) (scales : ScaleMap) (table : SymTable) → IsZeroTable names table → (K : NamedSystem) → IsNothing K → LiesInTable scales names table K
zero_lies names scales table are K is one other =
    subst (λ z. HoldsTimes (interval_in names table one other) z K.q (entry_power scales one other)) (sym (is.matrix one other))
    (everywhere names table (λ one other w. HoldsTimes w (pos 0) K.q (entry_power scales one other))
    (λ i j one other here there. subst (λ w. HoldsTimes w (pos 0) K.q (entry_power scales one other)) (sym (are.entries i j (slice_get_within names i one here) (slice_get_within names j other there))) (zero_holds K.q (entry_power scales one other)))
    (λ one other none. zero_holds K.q (entry_power scales one other)) (λ one other none. zero_holds K.q (entry_power scales one other)) one other)

pub free_known : (names : List PlainId) (table : SymTable) → IsZeroTable names table → (apriori : List Row) (weight : Decimal) (scales : ScaleMap) → IsConstraintTableOf Free apriori weight scales names table
free_known names table are apriori weight scales = record {
  is = are;
  lies = zero_lies names scales table are;
  exists = nothing;
  size = are.size;
  modest = λ i j li lj. subst (λ w. size w ≤ 10 ^ 34) (sym (let many = are.size in are.entries i j (omega arith) (omega arith))) (omega arith);
}

-- ---- those of a matrix
module _ (content : Content) (apriori : List Row) (cells : List Cell) (weight : Decimal) (scales : ScaleMap) (names : List PlainId) where
  pub matrix_stops : (fault : RecoverFault) → IsInformationTable content apriori cells weight scales (touched_names apriori cells names) (Err fault) → IsConstraintTable (Matrix content cells) apriori weight scales names (Err fault)
  matrix_stops fault h = then_stops (IsInformationTable content apriori cells weight scales (touched_names apriori cells names)) (AreSpread names (touched_names apriori cells names)) fault h

  module _ (small table : SymTable) (made : IsInformationTable content apriori cells weight scales (touched_names apriori cells names) (Ok small)) (rows : small.size ≡ length (touched_names apriori cells names)) (spread : IsSpread names (touched_names apriori cells names) small table) where
    pub matrix_known : ((K : NamedSystem) → IsInformation content apriori cells (touched_names apriori cells names) weight K → LiesInTable scales (touched_names apriori cells names) small K)
        → HasOne (IsInformation content apriori cells (touched_names apriori cells names) weight) → IsModestTable small → IsConstraintTableOf (Matrix content cells) apriori weight scales names table
    matrix_known lies exists modest =
        let part = touched_names apriori cells names in
        record {
          is = then_gives (IsInformationTable content apriori cells weight scales part) (AreSpread names part) small (Ok table) made spread;
          lies = λ K is. spread_lies names part small table spread rows (among (is_touched apriori cells) names) scales K (lies K is);
          exists = exists;
          size = spread.size;
          modest = spread_modest names part small table spread rows modest;
        }

-- ---- those of standard deviations
pub sigmas_known : (apriori : List Row) (weight : Decimal) (scales : ScaleMap) (names : List PlainId) (table : SymTable) → IsSigmaTable apriori weight scales names (Ok table)
    → ((K : NamedSystem) → AreSigmaConstraints apriori weight K → LiesInTable scales names table K) → HasOne (AreSigmaConstraints apriori weight) → IsModestTable table → IsConstraintTableOf Sigmas apriori weight scales names table
sigmas_known apriori weight scales names table is lies exists modest = record { is = is; lies = lies; exists = exists; size = is.0.size; modest = modest }
