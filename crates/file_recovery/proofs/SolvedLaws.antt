-- From a solution to its normal equations: what the steps give together, that there is one result at most, and exact systems.
use Rattle.std.proofs.Common.{◌≡◌, ◌<◌, ◌*◌, ◌∙◌, ℕ, ℤ, pos, ◌*ℤ◌, List, Some, Result, Ok, Err, Contains, map, length, sym, ap, subst}
use Rattle.std.proofs.Math.IntN.{zero-*ℤ}
use Rattle.std.proofs.Math.Nat.{mul-pos}
use Rattle.whole_numbers.proofs.Ring.{*ℤ_comm}
use Rattle.stated_order.specs.Steps.{HasOne, IsOne, Then}
use Rattle.stated_order.proofs.StepLaws.{then_is_one, then_gives, then_stops, went_on}
use Rattle.decimal_e.specs.Decimals.{Decimal}
use Rattle.sym_blocks.specs.Tables.{SymTable, before}
use Rattle.sym_blocks.proofs.EqualTables.{equal_symmetric}
use Rattle.param_ids.specs.Plain.{PlainId}
use Rattle.param_ids.specs.Tables.{ScaleMap}
use Rattle.snx_rows.specs.Named.{row_of, value_of, unit_of}
use Rattle.snx_rows.specs.declared.rows.Row.{Row}
use Rattle.neq_stack.specs.Neqs.{PlainNeq}
use Rattle.neq_stack.specs.Systems.{NamedSystem, multiple}
use Rattle.named_tables.specs.Naming.{AreNamesOf}
use Rattle.named_tables.specs.Weighted.{scale_of}
use Rattle.named_tables.specs.declared.faults.RecoverFault.{RecoverFault}
use Rattle.named_tables.proofs.Alone.{one_names}
use Rattle.named_tables.proofs.MatchLaws.{has_row}
use Rattle.information_tables.specs.Exact.{IsInformation}
use Rattle.information_tables.specs.Tables.{IsInformationTable}
use Rattle.correlations.proofs.Alone.{one_covariances}
use Rattle.information_tables.proofs.Alone.{information_is_one}
use Rattle.inv_enclose.proofs.Alone.{inverse_is_one}
use Rattle.named_tables.proofs.Alone.{one_table_by}
use Rattle.information_tables.proofs.ExistLaws.{multiples_are}
use Rattle.recover_solution.specs.Exact.{HasNoRight, IsFreedSystem}
use Rattle.recover_solution.specs.Recovery.{AreParameters, IsFreed}
use Rattle.recover_solution.specs.Solutions.{PlainConstraint, Free, Matrix, Sigmas, PlainSolution, touched_names}
use Rattle.recover_solution.proofs.Alone.{parameters_are_one, one_sigma_table, freed_is_one}
use Rattle.recover_solution.proofs.ExistLaws.{multiples_constrain, systems_are_freed, multiples_are_freed}
use Rattle.recover_solution.proofs.StepLaws.{ArePaired, paired, freed_parameters}
use Rattle.file_recovery.specs.Solved.{IsZeroTable, AreSpread, IsConstraintTable, IsSolved, IsNothing, AreConstraints, IsExactSolution}
use Rattle.file_recovery.proofs.InformationLaws.{information_some, information_right, information_rows}
use Rattle.file_recovery.proofs.SpreadLaws.{one_spread}

-- ---- one result
zeros_are_one : (names : List PlainId) (one other : SymTable) → IsZeroTable names one → IsZeroTable names other → one ≡ other
zeros_are_one names one other a b = equal_symmetric (length names) one other a.size b.size (a.lower ∙ ap before a.size) (b.lower ∙ ap before b.size) (λ i j li lj. a.entries i j li lj ∙ sym (b.entries i j li lj))

module _ (apriori : List Row) (weight : Decimal) (scales : ScaleMap) (names : List PlainId) where
  free_is_one : IsOne (IsConstraintTable Free apriori weight scales names)
  free_is_one (Ok one) (Ok other) a b = ap Ok (zeros_are_one names one other a b)
  free_is_one (Ok one) (Err fault) a b = absurd b
  free_is_one (Err fault) other a b = absurd a

  spread_is_one : (part : List PlainId) (small : SymTable) → IsOne (AreSpread names part small)
  spread_is_one part small (Ok one) (Ok other) a b = ap Ok (one_spread names part small one other a b)
  spread_is_one part small (Ok one) (Err fault) a b = absurd b
  spread_is_one part small (Err fault) other a b = absurd a

  constraint_is_one : (constraint : PlainConstraint) → IsOne (IsConstraintTable constraint apriori weight scales names)
  constraint_is_one Free = free_is_one
  constraint_is_one (Matrix content cells) =
      let part = touched_names apriori cells names in
      then_is_one (IsInformationTable content apriori cells weight scales part) (AreSpread names part) (information_is_one one_table_by one_covariances inverse_is_one content apriori cells weight scales part) (λ small given. spread_is_one part small)
  constraint_is_one Sigmas = one_sigma_table apriori weight scales names

pub solved_is_one : (solution : PlainSolution) (weight : Decimal) (scales : ScaleMap) → IsOne (IsSolved solution weight scales)
solved_is_one solution weight scales =
    then_is_one (AreParameters solution) _ (parameters_are_one solution) (λ names given.
    then_is_one (IsInformationTable solution.content solution.estimates solution.cells weight scales names) _ (information_is_one one_table_by one_covariances inverse_is_one solution.content solution.estimates solution.cells weight scales names) (λ table made.
    then_is_one (IsConstraintTable solution.constraint solution.apriori weight scales names) (λ removed. IsFreed solution scales names table removed) (constraint_is_one solution.apriori weight scales names solution.constraint) (λ removed told.
    freed_is_one solution scales names table removed)))

-- ---- steps
-- what follows an information matrix
abbrev IsSolvedFrom : PlainSolution → Decimal → ScaleMap → List PlainId → SymTable → Result PlainNeq RecoverFault → Type 0
IsSolvedFrom solution weight scales names table = Then (IsConstraintTable solution.constraint solution.apriori weight scales names) (λ removed. IsFreed solution scales names table removed)

module _ (solution : PlainSolution) (weight : Decimal) (scales : ScaleMap) where
  pub names_stop : (fault : RecoverFault) → AreParameters solution (Err fault) → IsSolved solution weight scales (Err fault)
  names_stop fault h = then_stops (AreParameters solution) _ fault h

  module _ (names : List PlainId) (named : AreParameters solution (Ok names)) where
    pub table_stops : (fault : RecoverFault) → IsInformationTable solution.content solution.estimates solution.cells weight scales names (Err fault) → IsSolved solution weight scales (Err fault)
    table_stops fault h = then_gives (AreParameters solution) _ names (Err fault) named (then_stops (IsInformationTable solution.content solution.estimates solution.cells weight scales names) _ fault h)

    module _ (table : SymTable) (made : IsInformationTable solution.content solution.estimates solution.cells weight scales names (Ok table)) where
      from_table : (result : Result PlainNeq RecoverFault) → IsSolvedFrom solution weight scales names table result → IsSolved solution weight scales result
      from_table result h = then_gives (AreParameters solution) _ names result named (then_gives (IsInformationTable solution.content solution.estimates solution.cells weight scales names) _ table result made h)

      pub constraints_stop : (fault : RecoverFault) → IsConstraintTable solution.constraint solution.apriori weight scales names (Err fault) → IsSolved solution weight scales (Err fault)
      constraints_stop fault h = from_table (Err fault) (then_stops (IsConstraintTable solution.constraint solution.apriori weight scales names) (λ removed. IsFreed solution scales names table removed) fault h)

      pub solved_by : (removed : SymTable) → IsConstraintTable solution.constraint solution.apriori weight scales names (Ok removed) → (result : Result PlainNeq RecoverFault) → IsFreed solution scales names table removed result → IsSolved solution weight scales result
      solved_by removed told result h = from_table result (then_gives (IsConstraintTable solution.constraint solution.apriori weight scales names) (λ removed. IsFreed solution scales names table removed) removed result told h)

-- what normal equations were made of
pub record SolvedParts (solution : PlainSolution) (weight : Decimal) (scales : ScaleMap) (neq : PlainNeq) : Type 0 where
  pub names : List PlainId
  pub table : SymTable
  pub removed : SymTable
  pub pairs : ArePaired solution names
  pub size : table.size ≡ length names
  pub lower : length table.entries ≡ before table.size
  pub freed : IsFreed solution scales names table removed (Ok neq)

pub solved_parts : (solution : PlainSolution) (weight : Decimal) (scales : ScaleMap) (neq : PlainNeq) → IsSolved solution weight scales (Ok neq) → SolvedParts solution weight scales neq
solved_parts solution weight scales neq h =
    let a = went_on (AreParameters solution) _ neq h in
    let b = went_on (IsInformationTable solution.content solution.estimates solution.cells weight scales a.gives) _ neq a.onward in
    let c = went_on (IsConstraintTable solution.constraint solution.apriori weight scales a.gives) (λ removed. IsFreed solution scales a.gives b.gives removed) neq b.onward in
    let rows = information_rows solution.content solution.estimates solution.cells weight scales a.gives b.gives b.given in
    record { names = a.gives; table = b.gives; removed = c.gives; pairs = paired solution a.gives a.given; size = rows.size; lower = rows.lower; freed = c.onward }

-- the parameters of the normal equations are those of the a priori rows of their names
pub names_of_solution : (solution : PlainSolution) (weight : Decimal) (scales : ScaleMap) (neq : PlainNeq) → IsSolved solution weight scales (Ok neq)
    → AreNamesOf solution.estimates neq.names × (neq.apriori ≡ map (value_of solution.apriori) neq.names) × (neq.units ≡ map (unit_of solution.apriori) neq.names) × (neq.scales ≡ map (scale_of scales) neq.names)
    × ((id : PlainId) → Contains neq.names id → (row : Row) × (row_of solution.apriori id ≡ Some row))
names_of_solution solution weight scales neq h =
    let p = solved_parts solution weight scales neq h in
    let has = freed_parameters solution scales p.names p.table p.removed neq p.freed in (
      subst (AreNamesOf solution.estimates) (sym has.names_are) p.pairs.named,
      has.values,
      has.units,
      has.exponents,
      λ id there. has_row solution.apriori solution.estimates p.names id p.pairs.all_matched p.pairs.named (subst (λ l. Contains l id) has.names_are there),
    )

-- ---- constraints
times_zero : (k : ℕ) (x : ℤ) → x ≡ pos 0 → pos k *ℤ x ≡ pos 0
times_zero k x none = ap (λ z. pos k *ℤ z) none ∙ *ℤ_comm (pos k) (pos 0) ∙ zero-*ℤ (pos k)

constraints_some : (constraint : PlainConstraint) (apriori : List Row) (weight : Decimal) (names : List PlainId) (K : NamedSystem) → AreConstraints constraint apriori weight names K → 0 < K.q
constraints_some Free apriori weight names K is = is.some
constraints_some (Matrix content cells) apriori weight names K is = information_some content apriori cells (touched_names apriori cells names) weight K is
constraints_some Sigmas apriori weight names K is = is.some

constraints_right : (constraint : PlainConstraint) (apriori : List Row) (weight : Decimal) (names : List PlainId) (K : NamedSystem) → AreConstraints constraint apriori weight names K → HasNoRight K
constraints_right Free apriori weight names K is = is.right
constraints_right (Matrix content cells) apriori weight names K is = information_right content apriori cells (touched_names apriori cells names) weight K is
constraints_right Sigmas apriori weight names K is = is.right

nothing_multiple : (K : NamedSystem) (k : ℕ) → 0 < k → IsNothing K → IsNothing (multiple k K)
nothing_multiple K k some is = record {
  some = mul-pos some is.some;
  matrix = λ one other. times_zero k (K.a one other) (is.matrix one other);
  right = λ id. times_zero k (K.c id) (is.right id);
}

constraints_multiple : (constraint : PlainConstraint) (apriori : List Row) (weight : Decimal) (names : List PlainId) (K : NamedSystem) (k : ℕ) → 0 < k → AreConstraints constraint apriori weight names K → AreConstraints constraint apriori weight names (multiple k K)
constraints_multiple Free apriori weight names K k some is = nothing_multiple K k some is
constraints_multiple (Matrix content cells) apriori weight names K k some is = multiples_are content apriori cells (touched_names apriori cells names) weight K k some is
constraints_multiple Sigmas apriori weight names K k some is = multiples_constrain apriori weight K k some is

-- ---- exact systems
pub multiples_of_solutions : (solution : PlainSolution) (weight : Decimal) (S : NamedSystem) (k : ℕ) → 0 < k → IsExactSolution solution weight S → IsExactSolution solution weight (multiple k S)
multiples_of_solutions solution weight S k some exact = record {
  names = exact.names;
  named = exact.named;
  E = exact.E;
  information = exact.information;
  K = multiple k exact.K;
  constraints = constraints_multiple solution.constraint solution.apriori weight exact.names exact.K k some exact.constraints;
  freed = multiples_are_freed solution exact.names exact.E exact.K S k some exact.freed;
}

-- there is one, where there is an information matrix and there are constraints
pub exact_solution_exists : (solution : PlainSolution) (weight : Decimal) (names : List PlainId) → AreNamesOf solution.estimates names → HasOne (IsInformation solution.content solution.estimates solution.cells names weight)
    → HasOne (AreConstraints solution.constraint solution.apriori weight names) → HasOne (IsExactSolution solution weight)
exact_solution_exists solution weight names named information constraints =
    let E = information.0 in
    let K = constraints.0 in
    let left = systems_are_freed solution names E K (information_some solution.content solution.estimates solution.cells names weight E information.1) (constraints_some solution.constraint solution.apriori weight names K constraints.1) in (
      left.2.0,
      record {
        names = names;
        named = named;
        E = E;
        information = information.1;
        K = multiple left.0 K;
        constraints = constraints_multiple solution.constraint solution.apriori weight names K left.0 left.1 constraints.1;
        freed = left.2.1;
      },
    )

-- what holds of systems over these names holds of every exact system
pub of_exact_solution : (P : NamedSystem → Type 0) (solution : PlainSolution) (weight : Decimal) (names : List PlainId) → AreNamesOf solution.estimates names
    → ((E K S : NamedSystem) → IsInformation solution.content solution.estimates solution.cells names weight E → HasNoRight E → AreConstraints solution.constraint solution.apriori weight names K → HasNoRight K → IsFreedSystem solution names E K S → P S)
    → (S : NamedSystem) → IsExactSolution solution weight S → P S
of_exact_solution P solution weight names named holds S exact =
    let same : exact.names ≡ names = one_names solution.estimates exact.names names exact.named named in
    let information = subst (λ l. IsInformation solution.content solution.estimates solution.cells l weight exact.E) same exact.information in
    let constraints = subst (λ l. AreConstraints solution.constraint solution.apriori weight l exact.K) same exact.constraints in
    holds exact.E exact.K S information (information_right solution.content solution.estimates solution.cells names weight exact.E information) constraints
    (constraints_right solution.constraint solution.apriori weight names exact.K constraints) (subst (λ l. IsFreedSystem solution l exact.E exact.K S) same exact.freed)
