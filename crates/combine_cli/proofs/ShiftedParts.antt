-- Normal equations that were recovered of a file, brought to the common values.
use Rattle.std.proofs.Common.{◌≡◌, ◌≤◌, ◌∙◌, ◌*◌, ◌^◌, ℕ, pos, List, [], map, get_or, Some, Ok, Err, sym, ap, subst, arith}
use Rattle.std.specs.Prelude.{All}
use Rattle.std.specs.Net.Reader.{map_or}
use Rattle.std.proofs.lemmas.List.Elements.{All-map}
use Rattle.stated_order.proofs.StepLaws.{then_gives, then_stops}
use Rattle.decimal_e.specs.Decimals.{Decimal}
use Rattle.decimal_e.specs.Fractions.{IsAtMost}
use Rattle.difference_products.specs.Products.{Place}
use Rattle.param_ids.specs.Plain.{PlainId}
use Rattle.param_ids.specs.Tables.{ScaleMap}
use Rattle.snx_rows.specs.Named.{zero_decimal, value_of}
use Rattle.snx_rows.specs.declared.rows.Row.{Row}
use Rattle.neq_stack.specs.ByName.{AreAtMost}
use Rattle.neq_stack.specs.Neqs.{PlainNeq, IsSound}
use Rattle.neq_stack.specs.Systems.{NamedSystem, LiesInNeq}
use Rattle.named_tables.specs.Weighted.{scale_of}
use Rattle.recover_solution.proofs.MovingLaws.{shift_keeps}
use Rattle.file_recovery.proofs.RecoveryLaws.{IsKnownAs, known_by, known_is_one, exact_some}
use Rattle.apriori_shift.specs.Answers.{RowMap, HasFirstRows, IfRange, common_value}
use Rattle.apriori_shift.specs.Moves.{Moves}
use Rattle.apriori_shift.specs.Shifts.{IsShift}
use Rattle.apriori_shift.specs.declared.shifting.ShiftError.{ShiftError}
use Rattle.apriori_shift.specs.declared.shifting.ShiftError.TheVariants.{Range}
use Rattle.apriori_shift.proofs.HoldLaws.{shift_holds}
use Rattle.apriori_shift.proofs.MoveLaws.{systems_move}
use Rattle.run_inputs.specs.Inputs.{PlainInput}
use Rattle.refusal_lines.specs.declared.refusal.Refusal.{Refusal}
use Rattle.combine_cli.specs.Combination.{Recovers, Shifts, Part, IsPart}
use Rattle.combine_cli.specs.Headline.{IsExactAt}
use Rattle.combine_cli.specs.Parts.{IsRecoveredOf, IsPartOf}

-- ---- common values
-- the values of names in a base are those of the first rows
pub first_values : (base : RowMap) (rows : List Row) (names : List PlainId) → HasFirstRows base rows → map (common_value base) names ≡ map (value_of rows) names
first_values base rows names first = λ i. map (λ id. map_or (first id i) zero_decimal (λ (row : Row). row.value)) names

pub common_small : (base : RowMap) (names : List PlainId) → ((id : PlainId) → IsAtMost (10 ^ 12) (common_value base id)) → All (IsAtMost (10 ^ 12)) (map (common_value base) names)
common_small base names small = All-map (IsAtMost (10 ^ 12)) (common_value base) names (λ k d l. small (get_or names k d))

-- the place that a shift answers
pub range_told : (P : Place → Type 0) (e : ShiftError) (row col : ℕ) → e ≡ Range row col → IfRange P e → P (record { row = row; col = col })
range_told P e row col is h = subst (IfRange P) is h

-- ---- one part
module _ (scales : ScaleMap) (base : List Row) (input : PlainInput) (recovered : PlainNeq) (recovers : Recovers input.plan scales input.doc (Ok recovered)) where
  pub part_given : (part : Part) → part.plan ≡ input.plan → IsShift (map (value_of base) recovered.names) recovered (Ok part.neq) → IsPart scales base [] input (Ok part)
  part_given part plan shifts =
      then_gives _ _ recovered (Ok part) recovers (then_gives _ _ part.neq (Ok part) shifts (λ i. Ok (record { plan = plan i; neq = part.neq })))

  pub part_not_shifted : (refusal : Refusal) → Shifts input.plan.name base recovered (Err refusal) → IsPart scales base [] input (Err refusal)
  part_not_shifted refusal h = then_gives _ _ recovered (Err refusal) recovers (then_stops _ _ refusal h)

pub part_not_recovered : (scales : ScaleMap) (base : List Row) (input : PlainInput) (refusal : Refusal) → Recovers input.plan scales input.doc (Err refusal) → IsPart scales base [] input (Err refusal)
part_not_recovered scales base input refusal h = then_stops _ _ refusal h

module _ (scales : ScaleMap) (base : List Row) (input : PlainInput) (recovered after : PlainNeq) (known : IsRecoveredOf scales input recovered)
    (shifts : IsShift (map (value_of base) recovered.names) recovered (Ok after)) where
  own : IsKnownAs input.plan input.doc scales recovered
  own = known_by input.plan input.doc scales recovered known.recovers

  -- an exact system of the file at the common values lies in the part
  exact_lies : (T : NamedSystem) → IsExactAt base input T → LiesInNeq (scale_of scales) after T
  exact_lies T at =
      let same = known_is_one input.plan input.doc at.names recovered.names at.apriori own.apriori at.known own.known in
      let values : recovered.apriori ≡ map (value_of at.apriori) recovered.names =
      subst (λ (rows : List Row). recovered.apriori ≡ map (value_of rows) recovered.names) (sym same.1) own.values in
      shift_holds (scale_of scales) (value_of at.apriori) (value_of base) recovered after at.S T known.sound known.exponents values (known.exact at.S at.exact) shifts
      (subst (λ (l : List PlainId). Moves l (value_of at.apriori) (value_of base) at.S T) same.0 at.moves)

  exact_there : (T : NamedSystem) × IsExactAt base input T
  exact_there =
      let S = known.exact_exists.0 in
      let exact = known.exact_exists.1 in
      let moved = systems_move recovered.names (value_of own.apriori) (value_of base) S (exact_some input.plan input.doc S exact) in
      (moved.0, record { names = recovered.names; apriori = own.apriori; known = own.known; S = S; exact = exact; moves = moved.1 })

  pub part_known : (part : Part) → part.plan ≡ input.plan → part.neq ≡ after → IsSound after → AreAtMost (3 * 10 ^ 34) after → IsPartOf scales base input part
  part_known part plan is sound modest =
      let keeps = shift_keeps (map (value_of base) recovered.names) recovered after shifts in
      let back : after ≡ part.neq = sym is in
      record {
        plan = plan;
        recovered = recovered;
        recovers = known.recovers;
        shifts = subst (λ (n : PlainNeq). IsShift (map (value_of base) recovered.names) recovered (Ok n)) back shifts;
        sound = subst IsSound back sound;
        modest = subst (AreAtMost (3 * 10 ^ 34)) back modest;
        exponents = subst (λ (n : PlainNeq). n.scales ≡ map (scale_of scales) n.names) back (keeps.scales ∙ known.exponents ∙ ap (map (scale_of scales)) (sym keeps.names));
        exact = subst (λ (n : PlainNeq). (T : NamedSystem) → IsExactAt base input T → LiesInNeq (scale_of scales) n T) back exact_lies;
        exact_exists = exact_there;
      }
