-- Constraints of standard deviations lie in their table, and systems without their constraints in the normal equations that are left.
use Rattle.std.proofs.Common.{◌≡◌, ◌<◌, ◌∙◌, inl, inr, ℕ, ℤ, pos, ◌+ℤ◌, List, Option, Some, None, Ok, Contains, map, length, slice_get, refl, sym, ap, subst, arith}
use Rattle.std.proofs.Math.IntN.{◌-ℤ◌}
use Rattle.std.proofs.lemmas.Int.{ints}
use Rattle.std.proofs.lemmas.Option.{slice_get_within}
use Rattle.whole_numbers.specs.Intervals.{Interval, interval_sub}
use Rattle.decimal_e.specs.Decimals.{Decimal}
use Rattle.sym_blocks.specs.Tables.{SymTable, entry_at, zero_interval}
use Rattle.sys_model.specs.Scaling.{HoldsTimes}
use Rattle.param_ids.specs.Plain.{PlainId}
use Rattle.param_ids.specs.Order.{IsNames}
use Rattle.param_ids.specs.Tables.{ScaleMap}
use Rattle.snx_rows.specs.Named.{value_of}
use Rattle.snx_rows.specs.declared.rows.Row.{Row}
use Rattle.neq_stack.specs.Neqs.{PlainNeq, IsSound}
use Rattle.neq_stack.specs.ByName.{entry_in, right_in, entry_at_places, right_at_place, place_in}
use Rattle.neq_stack.specs.Systems.{NamedSystem, LiesInNeq}
use Rattle.neq_stack.proofs.NameLaws.{place_cases}
use Rattle.apriori_shift.specs.Shifts.{IsShift}
use Rattle.apriori_shift.proofs.FractionLaws.{times_less, zero_holds}
use Rattle.apriori_shift.proofs.HoldLaws.{shift_holds}
use Rattle.named_tables.specs.Deviations.{sigma_of, sigma_at}
use Rattle.named_tables.specs.Tables.{LiesInTable}
use Rattle.named_tables.specs.Weighted.{entry_power, scale_of}
use Rattle.recover_solution.specs.Solutions.{PlainSolution}
use Rattle.recover_solution.specs.Exact.{HasNoRight, AreSigmaConstraints, IsFreedSystem}
use Rattle.recover_solution.specs.Recovery.{AreDeviationsNamed, IsSigmaInterval, IsSigmaTableOf, at_estimates, IsWithout}
use Rattle.recover_solution.proofs.EstimateLaws.{sigma_positive, sigma_none, sigma_none_other}
use Rattle.recover_solution.proofs.MovingLaws.{zero_right, shift_keeps}
use Rattle.recover_solution.proofs.SigmaLaws.{sigma_holds}

-- ---- tables at any names
-- the interval of a table over these names at two names
abbrev pub interval_in : List PlainId → SymTable → PlainId → PlainId → Interval
interval_in names table one other = entry_at_places table (place_in names one) (place_in names other)

-- a fact of two names of the table, and of names of which it lacks one
pub everywhere : (names : List PlainId) (table : SymTable) (P : PlainId → PlainId → Interval → Type 0)
    → ((i j : ℕ) (one other : PlainId) → slice_get names i ≡ Some one → slice_get names j ≡ Some other → P one other (entry_at table i j))
    → ((one other : PlainId) → (Contains names one → ⊥) → P one other zero_interval)
    → ((one other : PlainId) → (Contains names other → ⊥) → P one other zero_interval)
    → (one other : PlainId) → P one other (interval_in names table one other)
everywhere names table P there no_row no_column one other =
    elim (place_cases names one) [
      | inl h ↦ elim (place_cases names other) [
        | inl g ↦ subst (P one other) (sym (ap (λ p. entry_at_places table p (place_in names other)) h.2 ∙ ap (entry_at_places table (Some h.0)) g.2)) (there h.0 g.0 one other h.1 g.1)
        | inr g ↦ subst (P one other) (sym (ap (λ p. entry_at_places table p (place_in names other)) h.2 ∙ ap (entry_at_places table (Some h.0)) g.1)) (no_column one other g.0)
      ]
      | inr h ↦ subst (P one other) (sym (ap (λ p. entry_at_places table p (place_in names other)) h.1)) (no_row one other h.0)
    ]

-- ---- standard deviations
module _ (apriori : List Row) (weight : Decimal) (scales : ScaleMap) (names : List PlainId) (named : AreDeviationsNamed apriori names) where
  -- one that is not among the names is none
  unnamed_of : (id : PlainId) (o : Option Decimal) → (Contains names id → ⊥) → sigma_of apriori id ≡ o → o ≡ None
  unnamed_of id None none same = refl
  unnamed_of id (Some s) none same = absurd (none (named id s same))

  unnamed_row : (one other : PlainId) → (Contains names one → ⊥) → sigma_at apriori one other ≡ None
  unnamed_row one other none = sigma_none apriori one other (unnamed_of one (sigma_of apriori one) none refl)

  unnamed_column : (one other : PlainId) → (Contains names other → ⊥) → sigma_at apriori one other ≡ None
  unnamed_column one other none = sigma_none_other apriori one other (unnamed_of other (sigma_of apriori other) none refl)

  pub sigmas_lie : (table : SymTable) → IsSigmaTableOf apriori weight scales names table → (K : NamedSystem) → AreSigmaConstraints apriori weight K → LiesInTable scales names table K
  sigmas_lie table are K is one other =
      sigma_holds weight (sigma_at apriori one other) (entry_power scales one other) (interval_in names table one other) (K.a one other) K.q is.some (sigma_positive apriori one other)
      (everywhere names table (λ one other w. IsSigmaInterval weight (sigma_at apriori one other) (entry_power scales one other) w) are.entries
      (λ one other none. subst (λ o. IsSigmaInterval weight o (entry_power scales one other) zero_interval) (sym (unnamed_row one other none)) refl)
      (λ one other none. subst (λ o. IsSigmaInterval weight o (entry_power scales one other) zero_interval) (sym (unnamed_column one other none)) refl) one other)
      (is.matrix one other)

-- ---- a system at its estimates
-- what lies in the table and has no right side lies in the normal equations at the estimates
information_lies : (solution : PlainSolution) (scales : ScaleMap) (names : List PlainId) (table : SymTable) (E : NamedSystem) → 0 < E.q → IsNames names → table.size ≡ length names
    → HasNoRight E → LiesInTable scales names table E → LiesInNeq (scale_of scales) (at_estimates solution scales names table) E
information_lies solution scales names table E some ordered rows right lies = record {
  some = some;
  entries = lies;
  rights = λ id.
      subst (λ w. HoldsTimes w (E.c id) E.q (pos 18 -ℤ scale_of scales id)) (sym (zero_right solution scales names table ordered rows id))
      (subst (λ z. HoldsTimes zero_interval z E.q (pos 18 -ℤ scale_of scales id)) (sym (right id)) (zero_holds E.q (pos 18 -ℤ scale_of scales id)));
}

-- ---- a system less another
-- the interval of a table at two places is that of another less the one that is removed
abbrev IsLessThere : SymTable → SymTable → SymTable → Option ℕ → Option ℕ → Type 0
IsLessThere removed old new p q = entry_at_places new p q ≡ interval_sub (entry_at_places old p q) (entry_at_places removed p q)

module _ (removed old new : SymTable) (names : List PlainId) (rows : old.size ≡ length names) (each : (i j : ℕ) → i < old.size → j < old.size → entry_at new i j ≡ interval_sub (entry_at old i j) (entry_at removed i j)) where
  less_there : (one other : PlainId) → IsLessThere removed old new (place_in names one) (place_in names other)
  less_there one other =
      elim (place_cases names one) [
        | inl h ↦ subst (λ p. IsLessThere removed old new p (place_in names other)) (sym h.2)
            (elim (place_cases names other) [
              | inl g ↦
                  let li = slice_get_within names h.0 one h.1 in
                  let lj = slice_get_within names g.0 other g.1 in
                  subst (IsLessThere removed old new (Some h.0)) (sym g.2) (each h.0 g.0 (omega arith) (omega arith))
              | inr g ↦ subst (IsLessThere removed old new (Some h.0)) (sym g.1) refl
            ])
        | inr h ↦ subst (λ p. IsLessThere removed old new p (place_in names other)) (sym h.1) refl
      ]

-- the interval of a difference of tables at two names
less_everywhere : (removed : SymTable) (neq after : PlainNeq) → neq.table.size ≡ length neq.names → IsWithout removed neq after
    → (one other : PlainId) → entry_in after one other ≡ interval_sub (entry_in neq one other) (interval_in neq.names removed one other)
less_everywhere removed neq after rows is one other =
    ap (λ l. entry_at_places after.table (place_in l one) (place_in l other)) is.names ∙ less_there removed neq.table after.table neq.names rows is.entries one other

-- what is left of a sum of two
left_over : (x y z : ℤ) → z ≡ x +ℤ (y +ℤ pos 0) → x ≡ z -ℤ y
left_over x y z e = omega (arith, ints)

left_whole : (x y z : ℤ) → z ≡ x +ℤ (y +ℤ pos 0) → y ≡ pos 0 → z ≡ x
left_whole x y z e none = omega (arith, ints)

-- ---- all together
module _ (solution : PlainSolution) (scales : ScaleMap) (names : List PlainId) (table removed : SymTable) (moved after : PlainNeq) (ordered : IsNames names) (rows : table.size ≡ length names) (shift : IsShift (map (value_of solution.apriori) names) (at_estimates solution scales names table) (Ok moved)) (without : IsWithout removed moved after) (sound : IsSound (at_estimates solution scales names table)) where
  pub freed_lies : (E K S : NamedSystem) → HasNoRight E → HasNoRight K → LiesInTable scales names table E → LiesInTable scales names removed K → IsFreedSystem solution names E K S → LiesInNeq (scale_of scales) after S
  freed_lies E K S E_right K_right E_lies K_lies freed =
      let neq = at_estimates solution scales names table in
      let inner = information_lies solution scales names table E freed.moves.plain_some ordered rows E_right E_lies in
      let lies = shift_holds (scale_of scales) (value_of solution.estimates) (value_of solution.apriori) neq moved E freed.moved sound refl refl inner shift freed.moves in
      let keeps = shift_keeps (map (value_of solution.apriori) names) neq moved shift in
      let sum = freed.sum in
      let q_of_S : S.q ≡ freed.moved.q = sum.denominators 0 S (omega arith) in
      let q_of_K : K.q ≡ freed.moved.q = sum.denominators 1 K (omega arith) in
      let moved_rows : moved.table.size ≡ length moved.names = ap (λ (t : SymTable). t.size) keeps.table ∙ rows ∙ ap length (sym keeps.names) in
      record {
        some = subst (λ q. 0 < q) (sym q_of_S) sum.some;
        entries = λ one other.
            let power = entry_power scales one other in
            let K_there : HoldsTimes (interval_in moved.names removed one other) (K.a one other) freed.moved.q power =
            subst (λ l. HoldsTimes (interval_in l removed one other) (K.a one other) freed.moved.q power) (sym keeps.names) (subst (λ q. HoldsTimes (interval_in names removed one other) (K.a one other) q power) q_of_K (K_lies one other)) in
            let less = times_less (entry_in moved one other) (interval_in moved.names removed one other) (freed.moved.a one other) (K.a one other) freed.moved.q power (lies.entries one other) K_there in
            let left : S.a one other ≡ freed.moved.a one other -ℤ K.a one other = left_over (S.a one other) (K.a one other) (freed.moved.a one other) (sum.matrix one other) in
            subst (λ w. HoldsTimes w (S.a one other) S.q power) (sym (less_everywhere removed moved after moved_rows without one other))
            (subst (λ z. HoldsTimes (interval_sub (entry_in moved one other) (interval_in moved.names removed one other)) z S.q power) (sym left)
            (subst (λ q. HoldsTimes (interval_sub (entry_in moved one other) (interval_in moved.names removed one other)) (freed.moved.a one other -ℤ K.a one other) q power) (sym q_of_S) less));
        rights = λ id.
            let power = pos 18 -ℤ scale_of scales id in
            let left : freed.moved.c id ≡ S.c id = left_whole (S.c id) (K.c id) (freed.moved.c id) (sum.right id) (K_right id) in
            let there : right_in moved id ≡ right_in after id = sym (ap (λ l. right_at_place l (place_in after.names id)) without.right ∙ ap (λ l. right_at_place moved.right (place_in l id)) without.names) in
            subst (λ w. HoldsTimes w (S.c id) S.q power) there
            (subst (λ z. HoldsTimes (right_in moved id) z S.q power) left (subst (λ q. HoldsTimes (right_in moved id) (freed.moved.c id) q power) (sym q_of_S) (lies.rights id)));
      }
