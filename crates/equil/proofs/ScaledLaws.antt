-- A system in the intervals of a table, in other units, lies in the intervals of its working table, and its solutions go with it.
use Rattle.std.proofs.Common.{ℕ, ℤ, pos, ◌+ℤ◌, neg_ℤ, arith, sym, subst}
use Rattle.std.proofs.Math.IntN.{◌-ℤ◌}
use Rattle.std.proofs.lemmas.Int.{ints}
use Rattle.whole_numbers.specs.Intervals.{Holds}
use Rattle.sys_model.specs.Systems.{System, Table, LiesIn}
use Rattle.sys_model.proofs.RescaledLaws.{solves_rescaled, rescaled_system}
use Rattle.sys_model.proofs.ScalingLaws.{times_same, holds_power}
use Rattle.equil.specs.Scaled.{IsWorkingSystem, CarriesSystems}
use Rattle.equil.specs.Tables.{IsWorking}

lies_scaled : (n : ℕ) (t w : Table) (e : ℕ → ℤ) (S T : System) → IsWorking n t w e → LiesIn n t S → IsWorkingSystem n e S T → LiesIn n w T
lies_scaled n t w e S T work lies system = record {
  some = system.some;
  entries = λ i j row column.
      let power = neg_ℤ (e i) -ℤ e j in
      subst (λ v. Holds v (T.a i j) T.q) (sym (work.entries i j row column)) (holds_power (t.entry i j) (S.a i j) (T.a i j) S.q T.q power lies.some (times_same (S.a i j) (T.a i j) S.q T.q (pos 0 -ℤ e i -ℤ e j) power (omega (arith, ints)) (system.entries i j row column)) (lies.entries i j row column));
  rights = λ i row.
      let power = pos 12 -ℤ e i in
      subst (λ v. Holds v (T.c i) T.q) (sym (work.rights i row)) (holds_power (t.right i) (S.c i) (T.c i) S.q T.q power lies.some (times_same (S.c i) (T.c i) S.q T.q (pos 0 +ℤ pos 12 -ℤ e i) power (omega (arith, ints)) (system.rights i row)) (lies.rights i row));
}

pub carries : (n : ℕ) (t w : Table) (e : ℕ → ℤ) → IsWorking n t w e → CarriesSystems n t w e
carries n t w e work = record {
  some = λ S lies. rescaled_system n (pos 0) (pos 12) e S lies.some;
  lies = λ S T lies system. lies_scaled n t w e S T work lies system;
  solutions = λ S T v y system numbers. solves_rescaled n (pos 0) (pos 12) e S T v y system numbers;
}
