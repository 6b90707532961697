-- The systems whose right sides have a single one, in the units of a working table: they lie in it with the right side 10^v.
use Rattle.std.proofs.Common.{◌≡◌, ◌<◌, ◌*◌, ◌^◌, ◌∙◌, ℕ, ℤ, pos, neg_ℤ, ◌+ℤ◌, ◌*ℤ◌, List, sym, ap, subst, arith}
use Rattle.std.proofs.Math.IntN.{◌-ℤ◌, zero-*ℤ}
use Rattle.std.proofs.Math.Decide.{ℕ_discrete}
use Rattle.std.proofs.Math.Nat.{mul-pos}
use Rattle.std.proofs.lemmas.Int.{ints}
use Rattle.whole_numbers.specs.Sum.{unit}
use Rattle.whole_numbers.specs.Intervals.{Interval, Holds, point_interval}
use Rattle.whole_numbers.specs.Scaling.{ten_above, ten_below, interval_scale10}
use Rattle.whole_numbers.proofs.EqualFractions.{same_from_product}
use Rattle.whole_numbers.proofs.IntervalLaws.{holds_point}
use Rattle.whole_numbers.proofs.Sums.{unit_here, unit_other}
use Rattle.sym_blocks.specs.Tables.{SymTable, entry_at}
use Rattle.sys_model.specs.Scaling.{TimesPower, IsRescaled}
use Rattle.sys_model.specs.Systems.{System, Fractions, LiesIn, Solves, Encloses, around}
use Rattle.sys_model.proofs.RescaledLaws.{rescaled_system, rescaled_fractions, plain_fractions, solves_there, solves_back}
use Rattle.sys_model.proofs.ScalingLaws.{ten_below_some, times_same, times_then, times_back, holds_power}
use Rattle.equil.specs.Tables.{table_of, IsWorking}
use Rattle.inv_enclose.specs.Columns.{IsUnitSide}
use Rattle.inv_enclose.specs.Inverses.{HoldsMatrix}
use Rattle.inv_enclose.proofs.MatrixLaws.{unit_system}

-- ---- right sides
-- nothing times a power of ten
nothing_times : (y : ℤ) (q r : ℕ) (k : ℤ) → 0 < q → TimesPower (pos 0) q k y r → y ≡ pos 0
nothing_times y q r k some t = same_from_product y (pos 0) (q * ten_below k) (mul-pos some (ten_below_some k)) (t ∙ zero-*ℤ (pos (r * ten_above k)) ∙ sym (zero-*ℤ (pos (q * ten_below k))))

-- one times a power of ten
one_times : (y : ℤ) (q r v : ℕ) (k : ℤ) → 0 < q → k ≡ pos v → TimesPower (pos q) q k y r → y ≡ pos (10 ^ v) *ℤ pos r
one_times y q r v k some is t =
    let h : TimesPower (pos q) q (pos v) y r = times_same (pos q) y q r k (pos v) is t in
    let one : q * 1 ≡ q = omega arith in
    let turned : q * (r * 10 ^ v) ≡ (10 ^ v * r) * q = omega arith in
    same_from_product y (pos (10 ^ v * r)) q some (ap (λ z. y *ℤ pos z) (sym one) ∙ h ∙ ap pos turned)

-- the interval of a number holds it
point_holds : (k y : ℤ) (q : ℕ) → y ≡ k *ℤ pos q → Holds (point_interval k) y q
point_holds k y q is = subst (λ z. Holds (point_interval k) z q) (sym is) (holds_point k q)

right_holds : (Q T : System) (v c i : ℕ) (e : ℕ → ℤ) → 0 < Q.q → TimesPower (unit c (pos Q.q) i) Q.q (pos 0 +ℤ (pos v +ℤ e c) -ℤ e i) (T.c i) T.q → Holds (point_interval (unit c (pos (10 ^ v)) i)) (T.c i) T.q
right_holds Q T v c i e some t =
    elim (ℕ_discrete i c) [
      | yes is ↦
          let here = unit_here c (pos Q.q) in
          let s = subst (λ x. TimesPower (unit c (pos Q.q) x) Q.q (pos 0 +ℤ (pos v +ℤ e c) -ℤ e x) (T.c i) T.q) is t in
          let u = subst (λ x. TimesPower x Q.q (pos 0 +ℤ (pos v +ℤ e c) -ℤ e c) (T.c i) T.q) here s in
          let y = one_times (T.c i) Q.q T.q v (pos 0 +ℤ (pos v +ℤ e c) -ℤ e c) some (omega (arith, ints)) u in
          let unit_is : unit c (pos (10 ^ v)) i ≡ pos (10 ^ v) = ap (λ x. unit c (pos (10 ^ v)) x) is ∙ unit_here c (pos (10 ^ v)) in
          subst (λ k. Holds (point_interval k) (T.c i) T.q) (sym unit_is) (point_holds (pos (10 ^ v)) (T.c i) T.q y)
      | no other ↦
          let u = subst (λ x. TimesPower x Q.q (pos 0 +ℤ (pos v +ℤ e c) -ℤ e i) (T.c i) T.q) (unit_other c (pos Q.q) i other) t in
          let y = nothing_times (T.c i) Q.q T.q (pos 0 +ℤ (pos v +ℤ e c) -ℤ e i) some u in
          subst (λ k. Holds (point_interval k) (T.c i) T.q) (sym (unit_other c (pos (10 ^ v)) i other)) (point_holds (pos 0) (T.c i) T.q (y ∙ sym (zero-*ℤ (pos T.q))))
    ]

-- ---- the working table
module _ (n : ℕ) (table a : SymTable) (plain_right right : List Interval) (e : ℕ → ℤ) (work : IsWorking n (table_of table plain_right) (table_of a right) e) where
  entry_holds : (m : ℤ) (S T : System) → HoldsMatrix n (entry_at table) S → IsRescaled n (pos 0) m e S T → (i j : ℕ) → i < n → j < n → Holds (entry_at a i j) (T.a i j) T.q
  entry_holds m S T holds system i j row column =
      let power = neg_ℤ (e i) -ℤ e j in
      subst (λ w. Holds w (T.a i j) T.q) (sym (work.entries i j row column))
      (holds_power (entry_at table i j) (S.a i j) (T.a i j) S.q T.q power holds.some (times_same (S.a i j) (T.a i j) S.q T.q (pos 0 -ℤ e i -ℤ e j) power (omega (arith, ints)) (system.entries i j row column)) (holds.entries i j row column))

  module _ (v c : ℕ) (d : List Interval) (is_unit : IsUnitSide n v c d) (Q : System) (holds : HoldsMatrix n (entry_at table) Q) where
    -- the exponent of the solution
    abbrev shift_of : ℤ
    shift_of = pos v +ℤ e c

    unit_lies : (T : System) → IsRescaled n (pos 0) shift_of e (unit_system Q c) T → LiesIn n (table_of a d) T
    unit_lies T system = record {
      some = system.some;
      entries = λ i j row column. entry_holds shift_of (unit_system Q c) T (record { some = holds.some; entries = holds.entries }) system i j row column;
      rights = λ i row. subst (λ w. Holds w (T.c i) T.q) (sym (is_unit.each i row)) (right_holds Q T v c i e holds.some (system.rights i row));
    }

    module _ (y : ℕ → ℤ) (w : ℕ → ℕ) (encloses : Encloses n (table_of a d) y w) where
      -- the column has a solution
      pub column_solvable : (x : Fractions) × Solves n (unit_system Q c) x
      column_solvable =
          let r = rescaled_system n (pos 0) shift_of e (unit_system Q c) holds.some in
          let s = encloses.solvable r.0 (unit_lies r.0 r.1) in
          let p = plain_fractions n shift_of e s.0 s.1.some in
          (p.0, solves_back n (pos 0) shift_of e (unit_system Q c) r.0 p.0 s.0 r.1 p.1 s.1)

      -- each of its solutions lies in the intervals, in the units of the working table
      pub column_within : (x : Fractions) → Solves n (unit_system Q c) x → (i : ℕ) → i < n → (z : ℤ) (r : ℕ) (k : ℤ) → TimesPower (x.x i) x.s (k +ℤ shift_of +ℤ e i) z r → Holds (interval_scale10 (around (y i) (w i)) k) z r
      column_within x solves i row z r k times =
          let s = rescaled_system n (pos 0) shift_of e (unit_system Q c) holds.some in
          let u = rescaled_fractions n shift_of e x solves.some in
          let there = solves_there n (pos 0) shift_of e (unit_system Q c) s.0 x u.0 s.1 u.1 solves in
          let held = encloses.contains s.0 u.0 (unit_lies s.0 s.1) there i row in
          let back = times_back (x.x i) (u.0.x i) x.s u.0.s (shift_of +ℤ e i) (u.1.rows i row) in
          let all = times_then (u.0.x i) (x.x i) z u.0.s x.s r (neg_ℤ (shift_of +ℤ e i)) (k +ℤ shift_of +ℤ e i) solves.some back times in
          holds_power (around (y i) (w i)) (u.0.x i) z u.0.s r k u.1.some (times_same (u.0.x i) z u.0.s r (neg_ℤ (shift_of +ℤ e i) +ℤ (k +ℤ shift_of +ℤ e i)) k (omega (arith, ints)) all) held
