-- The steps of an inverse, one after another.
use Rattle.std.proofs.Common.{◌≡◌, ◌≤◌, ◌<◌, ◌^◌, ◌⊎◌, ◌∙◌, inl, inr, ℕ, ℤ, List, Result, Ok, Err, length, ◌*◌, replicate, slice_index_or, refl, ap, subst, arith}
use Rattle.std.proofs.Math.Decide.{dec_le}
use Rattle.stated_order.specs.First.{HoldsLower, IsFirstLowerFailure}
use Rattle.stated_order.proofs.StepLaws.{then_gives, then_stops}
use Rattle.whole_numbers.specs.Intervals.{Interval, size}
use Rattle.sym_blocks.specs.Tables.{SymTable, entry_at, before, zero_interval}
use Rattle.sym_blocks.proofs.Rows.{entry_sym}
use Rattle.equil.specs.Refusals.{IfRange}
use Rattle.equil.specs.Tables.{table_of, exponent_of, IsWorking, IsFirstPast}
use Rattle.equil.specs.declared.EquilError.{EquilError}
use Rattle.equil.specs.declared.EquilError.TheVariants as equil
use Rattle.enclosures.specs.Pilots.{PilotTable}
use Rattle.chol_guess.specs.Pilots.{IsPilot}
use Rattle.chol_guess.specs.Refusals.{IsRefused}
use Rattle.chol_guess.specs.declared.PilotError.{PilotError}
use Rattle.chol_guess.specs.declared.PilotError.TheVariants as pilot
use Rattle.enclosure_check.specs.Steps.{Worked, midpoints_of, IsWorkedOf, IsWorkingStep, IsPilotOf, IsPilotStep}
use Rattle.enclosure_check.proofs.StepCalls.{is_worked, working_refused, is_pilot, pilot_refused}
use Rattle.inv_enclose.specs.Refusals.{of_working, of_pilot}
use Rattle.inv_enclose.specs.Columns.{IsInverseBy, IsInverted}
use Rattle.inv_enclose.specs.Inverses.{HoldsInverses, HaveInverses}
use Rattle.inv_enclose.specs.Parts.{IsModest, IsShownInverse, IsColumnRefused}
use Rattle.inv_enclose.specs.declared.InvError.{InvError}
use Rattle.inv_enclose.specs.declared.InvError.TheVariants.{Range, Memory}
use Rattle.inv_enclose.proofs.HoldLaws.{holds_inverses, have_inverses}
use Rattle.inv_enclose.proofs.StepLaws.{MemoryOr, renamed_or, stops_or, goes_or}
use Rattle.inv_enclose.proofs.TableLaws.{either_columns, joined, not_joined}

-- the table where it is modest row by row up to the diagonal, in each place
pub each_modest : (out : SymTable) → HoldsLower out.size (λ i j. IsModest (entry_at out i j)) → (i j : ℕ) → i < out.size → j < out.size → size (entry_at out i j) ≤ 10 ^ 34
each_modest out modest i j row column =
    elim (dec_le j i) [
      | yes l ↦ modest i j row l
      | no l ↦ subst IsModest (entry_sym out j i) (modest j i column (omega arith))
    ]

-- the working table with zeros on the right, as it is called for
pub worked_of : (table : SymTable) (w : Worked) (n : ℕ) (zeros passed : List Interval) → n ≡ table.size → zeros ≡ replicate n zero_interval → passed ≡ zeros
    → w.table.size ≡ table.size → length w.table.entries ≡ before w.table.size → length w.right ≡ w.table.size → length w.exponents ≡ w.table.size
    → ((i j : ℕ) → i < w.table.size → j < w.table.size → size (entry_at w.table i j) ≤ 2 ^ 61) → ((i : ℕ) → i < w.table.size → size (slice_index_or w.right i zero_interval) ≤ 10 ^ 37)
    → IsWorking table.size (table_of table passed) (table_of w.table w.right) (exponent_of w.exponents) → IsWorkedOf table.size (table_of table (replicate table.size zero_interval)) w
worked_of table w n zeros passed count are same rows entries rights exponents entries_small right_small working =
    let zeros_are = same ∙ are ∙ ap (λ m. replicate m zero_interval) count in
    is_worked table.size (table_of table (replicate table.size zero_interval)) w rows entries rights exponents entries_small right_small
    (subst (λ ds. IsWorking table.size (table_of table ds) (table_of w.table w.right) (exponent_of w.exponents)) zeros_are working)

module _ (table : SymTable) (kappa : ℤ) where
  pub working_refuses : (x : EquilError) → IfRange (IsFirstPast table.size (table_of table (replicate table.size zero_interval))) x → MemoryOr (IsInverted table kappa) (of_working x)
  working_refuses x refused = stops_or _ _ (of_working x) (renamed_or of_working equil.Memory (IsWorkingStep table.size (table_of table (replicate table.size zero_interval))) x refl (working_refused table.size (table_of table (replicate table.size zero_interval)) x refused))

  module _ (w : Worked) (is : IsWorkedOf table.size (table_of table (replicate table.size zero_interval)) w) where
    pub pilot_refuses : (x : PilotError) → IsRefused w.table.size (midpoints_of w) x → MemoryOr (IsInverted table kappa) (of_pilot x)
    pilot_refuses x refused = goes_or _ _ w (of_pilot x) is (stops_or _ _ (of_pilot x) (renamed_or of_pilot pilot.Memory (IsPilotStep table.size (midpoints_of w)) x refl (pilot_refused table.size w.table.size is.size (midpoints_of w) x refused)))

    module _ (p : PilotTable) (value : IsPilot w.table.size (midpoints_of w) p) (square : length p.entries ≡ p.size * p.size) where
      of_p : IsPilotOf table.size (midpoints_of w) p
      of_p = is_pilot table.size w.table.size is.size (midpoints_of w) p value square

      pub column_refuses : (x : InvError) → (x ≡ Memory) ⊎ IsColumnRefused w.table.size w.table p x → MemoryOr (IsInverted table kappa) x
      column_refuses x refused =
          elim refused [
            | inl e ↦ inl e
            | inr h ↦ let r = subst (λ n. IsColumnRefused n w.table p x) is.size h in inr (then_gives _ _ w _ is (then_gives _ _ p _ of_p (r.v, r.power, then_stops _ _ x r.both)))
          ]

      module _ (out : SymTable) (shown : IsShownInverse w.table.size kappa w.table (exponent_of w.exponents) p out) where
        of_out : IsShownInverse table.size kappa w.table (exponent_of w.exponents) p out
        of_out = subst (λ n. IsShownInverse n kappa w.table (exponent_of w.exponents) p out) is.size shown

        after_columns : (r : Result SymTable InvError) → IsInverseBy table.size kappa w p r → IsInverted table kappa r
        after_columns r h = then_gives _ _ w r is (then_gives _ _ p r of_p h)

        pub past_refuses : (row col : ℕ) → out.size ≡ w.table.size → IsFirstLowerFailure out.size (λ i j. IsModest (entry_at out i j)) row col → IsInverted table kappa (Err (Range row col))
        past_refuses row col rows first =
            after_columns _ (
              of_out.v,
              of_out.power,
              then_gives _ _ of_out.are.shown.columns _ (either_columns table.size w.table p of_out.v _ _ out of_out.are)
                  (not_joined table.size kappa of_out.v w.table (exponent_of w.exponents) of_out.are.taken out of_out.are.shown row col (subst (λ n. IsFirstLowerFailure n (λ i j. IsModest (entry_at out i j)) row col) (rows ∙ is.size) first)),
            )

        module _ (rows : out.size ≡ w.table.size) (whole : length out.entries ≡ before out.size) (modest : HoldsLower out.size (λ i j. IsModest (entry_at out i j))) where
          modest_here : HoldsLower table.size (λ i j. IsModest (entry_at out i j))
          modest_here = subst (λ n. HoldsLower n (λ i j. IsModest (entry_at out i j))) (rows ∙ is.size) modest

          pub inverted : IsInverted table kappa (Ok out)
          inverted =
              after_columns _ (
                of_out.v,
                of_out.power,
                then_gives _ _ of_out.are.shown.columns _ (either_columns table.size w.table p of_out.v _ _ out of_out.are)
                    (joined table.size kappa of_out.v w.table (exponent_of w.exponents) of_out.are.taken out of_out.are.shown (rows ∙ is.size) (whole ∙ subst (λ n. before out.size ≡ before n) (rows ∙ is.size) refl) modest_here),
              )

          pub holds : HoldsInverses table kappa out
          holds = holds_inverses table w.table (replicate table.size zero_interval) w.right (exponent_of w.exponents) is.working of_out.are.taken of_out.v kappa out of_out.are.shown modest_here

          pub have : HaveInverses table
          have = have_inverses table w.table (replicate table.size zero_interval) w.right (exponent_of w.exponents) is.working of_out.are.taken of_out.v kappa out of_out.are.shown
