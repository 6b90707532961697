-- What is printed is certified.
use Rattle.std.proofs.Common.{◌≡◌, ◌<◌, ℕ, ℤ, pos, ◌+ℤ◌, ◌*ℤ◌, List, refl, sym, ap, subst, ◌∙◌}
use Rattle.decimal_e.specs.Decimals.{Decimal}
use Rattle.sys_model.specs.Scaling.{IsRescaled, LiesInStack}
use Rattle.sys_model.specs.Systems.{System, Fractions, Table, LiesIn, Solves, Encloses}
use Rattle.sys_model.proofs.RescaledLaws.{solves_there, solves_back, rescaled_twice, rescaled_system, rescaled_fractions, plain_fractions, stack_lies}
use Rattle.sys_model.proofs.ScalingLaws.{times_equal}
use Rattle.enclosures.specs.Pilots.{PilotTable}
use Rattle.equil.specs.Scaled.{CarriesSystems}
use Rattle.bounds_report.specs.declared.numbers.Printed.{Printed}
use Rattle.bounds_report.specs.Bounds.{LiesBetween, AreDifferences, LeavesAtMost, AreCertified}
use Rattle.bounds_report.specs.Printing.{working_difference, numbers_of, numbers_at, ArePrinted}
use Rattle.bounds_report.proofs.LawBetween.{lies_between}
use Rattle.bounds_report.proofs.LawDifferences.{away, working_holds, differences_exist}
use Rattle.bounds_report.proofs.LawResidual.{leaves_at_most}

-- the powers of the rows: exponents of the working table plus scale exponents
abbrev powers : (ℕ → ℤ) → (ℕ → ℤ) → ℕ → ℤ
powers e t i = e i +ℤ t i

-- a system in the stack, in the units of the working table, lies in its intervals
record HasWorking (n : ℕ) (w : Table) (f : ℕ → ℤ) (S : System) : Type 0 where
  pub system : System
  pub rescaled : IsRescaled n (pos 18) (pos 12) f S system
  pub lies : LiesIn n w system

-- ---- the law at one working table: w is that of the stack with the exponents e, t are the scale exponents
module _ (n : ℕ) (stack w : Table) (e t : ℕ → ℤ) (p : PilotTable) (y : ℕ → ℤ) (r : ℕ → ℕ) (carries : CarriesSystems n stack w e) (encloses : Encloses n w y r) where
  has_working : (S : System) → LiesInStack n stack t S → HasWorking n w (powers e t) S
  has_working S lies =
      let T = rescaled_system n (pos 18) (pos 0) t S lies.some in
      let inside = stack_lies n stack t S T.0 lies T.1 in
      let W = carries.some T.0 inside in
      record { system = W.0; rescaled = rescaled_twice n (pos 18) (pos 0) (pos 0) (pos 12) t e S T.0 W.0 T.1 W.1; lies = carries.lies T.0 W.0 inside W.1 }

  -- each system has a solution
  solvable_of : (S : System) → LiesInStack n stack t S → (v : Fractions) × Solves n S v
  solvable_of S lies =
      let W = has_working S lies in
      let Y = encloses.solvable W.system W.lies in
      let V = plain_fractions n (pos 12) (powers e t) Y.0 Y.1.some in
      (V.0, solves_back n (pos 18) (pos 12) (powers e t) S W.system V.0 Y.0 W.rescaled V.1 Y.1)

  -- each solution lies between the printed bounds
  between_of : (x0 : ℕ → Decimal) (S : System) (v : Fractions) → LiesInStack n stack t S → Solves n S v → (i : ℕ) → i < n → LiesBetween (numbers_of n w p (powers e t) x0 y r i) (x0 i) (v.x i) v.s
  between_of x0 S v lies sol i row =
      let f = powers e t in
      let W = has_working S lies in
      let Y = rescaled_fractions n (pos 12) f v sol.some in
      let near = encloses.contains W.system Y.0 W.lies (solves_there n (pos 18) (pos 12) f S W.system v Y.0 W.rescaled Y.1 sol) i row in
      lies_between (x0 i) (f i) (y i) (r i) (v.x i) (Y.0.x i) v.s Y.0.s (numbers_of n w p f x0 y r i) sol.some Y.1.some refl refl (Y.1.rows i row) near

  -- two solutions are equal
  same_of : (S : System) (v u : Fractions) → LiesInStack n stack t S → Solves n S v → Solves n S u → (i : ℕ) → i < n → v.x i *ℤ pos u.s ≡ u.x i *ℤ pos v.s
  same_of S v u lies one two i row =
      let f = powers e t in
      let W = has_working S lies in
      let V = rescaled_fractions n (pos 12) f v one.some in
      let U = rescaled_fractions n (pos 12) f u two.some in
      let same = encloses.same W.system V.0 U.0 W.lies (solves_there n (pos 18) (pos 12) f S W.system v V.0 W.rescaled V.1 one) (solves_there n (pos 18) (pos 12) f S W.system u U.0 W.rescaled U.1 two) i row in
      times_equal (v.x i) (V.0.x i) (u.x i) (U.0.x i) v.s V.0.s u.s U.0.s (pos 12 +ℤ f i) V.1.some U.1.some (V.1.rows i row) (U.1.rows i row) same

  -- the estimates leave at most the printed residual
  residuals_of : (x0 : ℕ → Decimal) (S : System) (v : Fractions) → LiesInStack n stack t S → AreDifferences n x0 (numbers_of n w p (powers e t) x0 y r) v → (i : ℕ) → i < n → LeavesAtMost n S v i (numbers_of n w p (powers e t) x0 y r i)
  residuals_of x0 S v lies far i row =
      let f = powers e t in
      let W = has_working S lies in
      let Y = rescaled_fractions n (pos 12) f v far.some in
      leaves_at_most n w f S W.system v Y.0 (λ j. working_difference (x0 j) (f j) (y j)) i W.rescaled Y.1 W.lies
      (λ j l. working_holds (x0 j) (f j) (y j) (v.x j) (Y.0.x j) v.s Y.0.s far.some (far.rows j l) (Y.1.rows j l)) row

-- the differences of equal numbers
same_differences : (n : ℕ) (x0 : ℕ → Decimal) (p q : ℕ → Printed) (v : Fractions) → ((i : ℕ) → i < n → p i ≡ q i) → AreDifferences n x0 p v → AreDifferences n x0 q v
same_differences n x0 p q v same far = record { some = far.some; rows = λ i l. far.rows i l ∙ ap (λ z. away (x0 i) z.estimate *ℤ pos v.s) (same i l) }

-- The law: what is printed is certified.
pub certified : (n : ℕ) (stack w : Table) (e t : ℕ → ℤ) (p : PilotTable) (x0 : ℕ → Decimal) (y : ℕ → ℤ) (r : ℕ → ℕ) (ps : List Printed)
    → CarriesSystems n stack w e → Encloses n w y r → ArePrinted n w p (λ i. e i +ℤ t i) x0 y r ps → AreCertified n stack t x0 (numbers_at ps)
certified n stack w e t p x0 y r ps carries encloses printed = record {
  solvable = solvable_of n stack w e t p y r carries encloses;
  same = same_of n stack w e t p y r carries encloses;
  between = λ S v lies sol i row. subst (λ z. LiesBetween z (x0 i) (v.x i) v.s) (sym (printed.rows i row)) (between_of n stack w e t p y r carries encloses x0 S v lies sol i row);
  differences = differences_exist n x0 (numbers_at ps);
  residuals = λ S v lies far i row. subst (λ z. LeavesAtMost n S v i z) (sym (printed.rows i row))
      (residuals_of n stack w e t p y r carries encloses x0 S v lies (same_differences n x0 (numbers_at ps) (numbers_of n w p (powers e t) x0 y r) v printed.rows far) i row);
}
