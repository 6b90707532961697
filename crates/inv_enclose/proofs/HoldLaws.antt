-- Where the columns of an inverse stand in a table, it holds each inverse of a table of fractions in the intervals, and there is one.
use Rattle.std.proofs.Common.{◌≡◌, ◌≤◌, ◌<◌, ◌*◌, ◌∙◌, ℕ, ℤ, pos, ◌+ℤ◌, ◌*ℤ◌, List, sym, ap, subst, arith}
use Rattle.std.proofs.Math.IntN.{◌-ℤ◌}
use Rattle.std.proofs.Math.Decide.{dec_le}
use Rattle.std.proofs.lemmas.Int.{ints}
use Rattle.stated_order.specs.First.{HoldsLower}
use Rattle.whole_numbers.specs.Intervals.{Interval}
use Rattle.whole_numbers.specs.Lists.{at}
use Rattle.whole_numbers.specs.Scaling.{ten_above, ten_below}
use Rattle.whole_numbers.proofs.Ring.{*ℤ_assoc}
use Rattle.sym_blocks.specs.Tables.{SymTable, entry_at}
use Rattle.sym_blocks.proofs.Rows.{entry_sym}
use Rattle.sys_model.specs.Scaling.{TimesPower, HoldsTimes}
use Rattle.sys_model.specs.Systems.{System}
use Rattle.sys_model.proofs.ScalingLaws.{times_same}
use Rattle.equil.specs.Tables.{table_of, IsWorking}
use Rattle.enclosures.specs.Pilots.{PilotTable}
use Rattle.enclosure_check.specs.Steps.{radius_in}
use Rattle.inv_enclose.specs.Columns.{column_at}
use Rattle.inv_enclose.specs.Inverses.{IsInverse, HoldsMatrix, HoldsInverses, HaveInverses}
use Rattle.inv_enclose.specs.Parts.{IsModest, AreShown}
use Rattle.inv_enclose.proofs.MatrixLaws.{inverse_symmetric, column_in, column_solves}
use Rattle.inv_enclose.proofs.UnitLaws.{column_solvable, column_within}
use Rattle.inv_enclose.proofs.ExistLaws.{inverse_exists}

-- a fraction times a power, written out
times_itself : (x : ℤ) (q : ℕ) (k : ℤ) → TimesPower x q k (x *ℤ pos (ten_above k)) (q * ten_below k)
times_itself x q k =
    let turned : ten_above k * (q * ten_below k) ≡ (q * ten_below k) * ten_above k = omega arith in
    *ℤ_assoc x (pos (ten_above k)) (pos (q * ten_below k)) ∙ ap (λ z. x *ℤ pos z) turned

module _ (table a : SymTable) (plain right : List Interval) (e : ℕ → ℤ) (work : IsWorking table.size (table_of table plain) (table_of a right) e)
    (p : PilotTable) (v : ℕ) (kappa : ℤ) (out : SymTable) (are : AreShown table.size a p v (kappa +ℤ pos 18 -ℤ pos v) e table.size out) where
  abbrev shift_in : ℤ
  shift_in = kappa +ℤ pos 18 -ℤ pos v

  lower_holds : HoldsLower table.size (λ i j. IsModest (entry_at out i j)) → (Q E : System) → HoldsMatrix table.size (entry_at table) Q → IsInverse table.size Q E → (i j : ℕ) → i < table.size → j ≤ i → HoldsTimes (entry_at out i j) (E.a i j) E.q (kappa +ℤ pos 18)
  lower_holds modest Q E holds inverse i j row lower =
      let column : j < table.size = omega arith in
      let c = column_at are.columns j in
      let x = are.each j column in
      let k = shift_in -ℤ e i -ℤ e j in
      let power : TimesPower (E.a i j) E.q (k +ℤ (pos v +ℤ e j) +ℤ e i) (E.a i j *ℤ pos (ten_above (kappa +ℤ pos 18))) (E.q * ten_below (kappa +ℤ pos 18)) =
      times_same (E.a i j) (E.a i j *ℤ pos (ten_above (kappa +ℤ pos 18))) E.q (E.q * ten_below (kappa +ℤ pos 18)) (kappa +ℤ pos 18) (k +ℤ (pos v +ℤ e j) +ℤ e i) (omega (arith, ints)) (times_itself (E.a i j) E.q (kappa +ℤ pos 18)) in
      subst (λ w. HoldsTimes w (E.a i j) E.q (kappa +ℤ pos 18)) (sym ((are.shown i j row lower column).back (modest i j row lower)))
      (column_within table.size table a plain right e work v j x.right x.is_unit Q holds (at c.vector) (radius_in c.certificate) x.encloses (column_in E j) (column_solves table.size Q E j column inverse) i row _ _ k power)

  pub holds_inverses : HoldsLower table.size (λ i j. IsModest (entry_at out i j)) → HoldsInverses table kappa out
  holds_inverses modest Q E holds symmetric inverse i j row column =
      elim (dec_le j i) [
        | yes l ↦ lower_holds modest Q E holds inverse i j row l
        | no l ↦
            subst (λ w. HoldsTimes w (E.a i j) E.q (kappa +ℤ pos 18)) (entry_sym out j i)
            (subst (λ x. HoldsTimes (entry_at out j i) x E.q (kappa +ℤ pos 18)) (inverse_symmetric table.size Q E symmetric inverse i j row column) (lower_holds modest Q E holds inverse j i column (omega arith)))
      ]

  pub have_inverses : HaveInverses table
  have_inverses Q holds =
      inverse_exists table.size Q holds.some (λ j column.
      let c = column_at are.columns j in
      let x = are.each j column in
      column_solvable table.size table a plain right e work v j x.right x.is_unit Q holds (at c.vector) (radius_in c.certificate) x.encloses)
