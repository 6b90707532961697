-- What the steps from a solution to its normal equations give together.
use Rattle.std.proofs.Common.{◌≡◌, ◌≤◌, ◌<◌, ◌*◌, ◌^◌, ◌∙◌, ◌⊎◌, inl, inr, ℕ, List, Result, Ok, Err, All, length, map, refl, sym, ap, subst, arith}
use Rattle.std.proofs.lemmas.Option.{slice_get_within}
use Rattle.stated_order.proofs.StepLaws.{then_gives, then_stops, went_on}
use Rattle.whole_numbers.specs.Intervals.{size}
use Rattle.whole_numbers.proofs.Sizes.{size_sub}
use Rattle.sym_blocks.specs.Tables.{SymTable, entry_at, before, zero_interval}
use Rattle.param_ids.specs.Plain.{PlainId}
use Rattle.param_ids.specs.Tables.{ScaleMap, IsScale}
use Rattle.snx_rows.specs.Named.{value_of, unit_of}
use Rattle.neq_stack.specs.Neqs.{PlainNeq, IsSound}
use Rattle.neq_stack.specs.ByName.{AreAtMost, entry_in}
use Rattle.neq_stack.proofs.NameLaws.{place_cases}
use Rattle.neq_stack.proofs.PlacedLaws.{no_row, no_column, entry_there}
use Rattle.named_tables.specs.Naming.{AreNamesOf, matched, filled}
use Rattle.named_tables.specs.Weighted.{scale_of}
use Rattle.named_tables.specs.declared.faults.RecoverFault.{RecoverFault}
use Rattle.named_tables.specs.declared.faults.RecoverError.{RecoverError}
use Rattle.named_tables.specs.declared.faults.RecoverError.TheVariants.{Memory, Fault}
use Rattle.recover_solution.specs.Solutions.{PlainSolution}
use Rattle.recover_solution.specs.Recovery.{AreParameters, estimated, IsModestTable, at_estimates, IsMoved, IsWithout, AreWithout, IsFreed}
use Rattle.recover_solution.specs.Parts.{IsLessAt}
use Rattle.recover_solution.proofs.MovingLaws.{Keeps, shift_keeps}

-- ---- refusals
abbrev pub IsRefused : (RecoverFault → Type 0) → RecoverError → Type 0
IsRefused P cause = (cause ≡ Memory) ⊎ ((fault : RecoverFault) × (cause ≡ Fault fault) × P fault)

pub refused_weaker : (P Q : RecoverFault → Type 0) → ((fault : RecoverFault) → P fault → Q fault) → (cause : RecoverError) → IsRefused P cause → IsRefused Q cause
refused_weaker P Q weaker cause (inl memory) = inl memory
refused_weaker P Q weaker cause (inr h) = inr (h.0, h.1, weaker h.0 h.2)

-- ---- names
module _ (solution : PlainSolution) where
  pub unmatched_stops : (fault : RecoverFault) → Err fault ≡ matched solution.apriori solution.estimates → AreParameters solution (Err fault)
  unmatched_stops fault h = then_stops _ _ fault h

  module _ (all_matched : Ok tt ≡ matched solution.apriori solution.estimates) where
    pub unestimated_stops : (fault : RecoverFault) → Err fault ≡ estimated solution → AreParameters solution (Err fault)
    unestimated_stops fault h = then_gives _ _ tt (Err fault) all_matched (then_stops _ _ fault h)

    module _ (all_estimated : Ok tt ≡ estimated solution) where
      pub empty_stops : (fault : RecoverFault) → Err fault ≡ filled solution.estimates → AreParameters solution (Err fault)
      empty_stops fault h = then_gives _ _ tt (Err fault) all_matched (then_gives _ _ tt (Err fault) all_estimated (then_stops _ _ fault h))

      pub parameters_there : Ok tt ≡ filled solution.estimates → (names : List PlainId) → AreNamesOf solution.estimates names → AreParameters solution (Ok names)
      parameters_there some names named = then_gives _ _ tt (Ok names) all_matched (then_gives _ _ tt (Ok names) all_estimated (then_gives _ _ tt (Ok names) some named))

-- what names of parameters keep
pub record ArePaired (solution : PlainSolution) (names : List PlainId) : Type 0 where
  pub all_matched : Ok tt ≡ matched solution.apriori solution.estimates
  pub all_estimated : Ok tt ≡ estimated solution
  pub named : AreNamesOf solution.estimates names

pub paired : (solution : PlainSolution) (names : List PlainId) → AreParameters solution (Ok names) → ArePaired solution names
paired solution names h =
    let a = went_on _ _ names h in
    let b = went_on _ _ names a.onward in
    let c = went_on _ _ names b.onward in
    record { all_matched = given_ok a.gives _ a.given; all_estimated = given_ok b.gives _ b.given; named = c.onward }
  where
    given_ok : (x : Unit {0}) (r : Result (Unit {0}) RecoverFault) → Ok x ≡ r → Ok tt ≡ r
    given_ok x r is = is

-- ---- the last step
-- normal equations with another table
abbrev pub with_table : PlainNeq → SymTable → PlainNeq
with_table neq table = record { names = neq.names; table = table; right = neq.right; apriori = neq.apriori; units = neq.units; scales = neq.scales }

module _ (neq : PlainNeq) (removed table : SymTable) (rows : table.size ≡ neq.table.size) (lower : length table.entries ≡ before table.size) (each : (i j : ℕ) → i < neq.table.size → j < neq.table.size → IsLessAt removed neq.table table i j) where
  pub is_without : IsWithout removed neq (with_table neq table)
  is_without = record { names = refl; right = refl; apriori = refl; units = refl; scales = refl; rows = rows; lower = lower; entries = each }

  pub after_sound : IsSound neq → IsSound (with_table neq table)
  after_sound sound = record {
    names = sound.names;
    rows = rows ∙ sound.rows;
    entries = lower;
    rights = sound.rights;
    values = sound.values;
    named_units = sound.named_units;
    exponents = sound.exponents;
    modest = sound.modest;
    scaled = sound.scaled;
  }

  module _ (size_is : neq.table.size ≡ length neq.names) (modest : IsModestTable neq.table) (size_same : removed.size ≡ neq.table.size) (small : IsModestTable removed) where
    less_small : (i j : ℕ) → i < neq.table.size → j < neq.table.size → size (entry_at table i j) ≤ 2 * 10 ^ 34
    less_small i j li lj =
        subst (λ w. size w ≤ 2 * 10 ^ 34) (sym (each i j li lj))
        (let s = size_sub (entry_at neq.table i j) (entry_at removed i j) (10 ^ 34) (10 ^ 34) (modest i j li lj) (small i j (omega arith) (omega arith)) in omega arith)

    entry_small : (one other : PlainId) → size (entry_in (with_table neq table) one other) ≤ 2 * 10 ^ 34
    entry_small one other =
        let after = with_table neq table in
        let zero : size zero_interval ≤ 2 * 10 ^ 34 = omega arith in
        elim (place_cases neq.names one) [
          | inl h ↦ elim (place_cases neq.names other) [
            | inl g ↦
                let li = slice_get_within neq.names h.0 one h.1 in
                let lj = slice_get_within neq.names g.0 other g.1 in
                subst (λ w. size w ≤ 2 * 10 ^ 34) (sym (entry_there after h.0 g.0 one other h.2 g.2)) (less_small h.0 g.0 (omega arith) (omega arith))
            | inr g ↦ subst (λ w. size w ≤ 2 * 10 ^ 34) (sym (no_column after one other g.0)) zero
          ]
          | inr h ↦ subst (λ w. size w ≤ 2 * 10 ^ 34) (sym (no_row after one other h.0)) zero
        ]

    pub after_modest : AreAtMost (2 * 10 ^ 34) neq → AreAtMost (2 * 10 ^ 34) (with_table neq table)
    after_modest most = record { entries = entry_small; rights = most.rights }

-- ---- normal equations at the a priori values
module _ (solution : PlainSolution) (scales : ScaleMap) (names : List PlainId) (table removed : SymTable) where
  pub moved_stops : (fault : RecoverFault) → IsMoved solution scales names table (Err fault) → IsFreed solution scales names table removed (Err fault)
  moved_stops fault h = then_stops (IsMoved solution scales names table) (AreWithout removed) fault h

  pub freed_there : (moved after : PlainNeq) → IsMoved solution scales names table (Ok moved) → IsWithout removed moved after → IsFreed solution scales names table removed (Ok after)
  freed_there moved after is_moved h = then_gives (IsMoved solution scales names table) (AreWithout removed) moved (Ok after) is_moved h

  pub moved_keeps : (moved : PlainNeq) → IsMoved solution scales names table (Ok moved) → Keeps (map (value_of solution.apriori) names) (at_estimates solution scales names table) moved
  moved_keeps moved h = shift_keeps (map (value_of solution.apriori) names) (at_estimates solution scales names table) moved h

  pub moved_scaled : (moved : PlainNeq) → IsMoved solution scales names table (Ok moved) → IsSound moved → All IsScale (map (scale_of scales) names)
  moved_scaled moved h sound = subst (All IsScale) (moved_keeps moved h).scales sound.scaled

  -- their names are these, and their parameters those of the a priori rows
  pub record HasParameters (neq : PlainNeq) : Type 0 where
    pub names_are : neq.names ≡ names
    pub values : neq.apriori ≡ map (value_of solution.apriori) neq.names
    pub units : neq.units ≡ map (unit_of solution.apriori) neq.names
    pub exponents : neq.scales ≡ map (scale_of scales) neq.names

  pub freed_parameters : (neq : PlainNeq) → IsFreed solution scales names table removed (Ok neq) → HasParameters neq
  freed_parameters neq h =
      let f = went_on (IsMoved solution scales names table) (AreWithout removed) neq h in
      let keeps = moved_keeps f.gives f.given in
      let same : neq.names ≡ names = f.onward.names ∙ keeps.names in
      let back = sym same in
      record {
        names_are = same;
        values = f.onward.apriori ∙ keeps.values_are ∙ ap (map (value_of solution.apriori)) back;
        units = f.onward.units ∙ keeps.units ∙ ap (map (unit_of solution.apriori)) back;
        exponents = f.onward.scales ∙ keeps.scales ∙ ap (map (scale_of scales)) back;
      }
