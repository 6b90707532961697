-- The recovery of a file: there is one at most, multiples of an exact system are exact, and the parameters are those of the a priori rows.
use Rattle.std.proofs.Common.{◌≡◌, ◌∙◌, ◌∷◌, ◌<◌, ℕ, List, [], map, slice_get, Option, Some, Ok, refl, sym, ap, subst}
use Rattle.std.specs.Prelude.{Contains}
use Rattle.std.specs.Option.{option_map}
use Rattle.std.proofs.lemmas.List.Elements.{All-head}
use Rattle.std.proofs.lemmas.Option.{same_Some, slice_get_within, slice_get-map, get_or_from_slice_get}
use Rattle.stated_order.specs.Steps.{IsOne}
use Rattle.stated_order.proofs.StepLaws.{then_is_one, renamed_is_one, went_on}
use Rattle.decimal_e.specs.Decimals.{Decimal}
use Rattle.param_ids.specs.Plain.{PlainId}
use Rattle.param_ids.specs.Tables.{ScaleMap}
use Rattle.snx_rows.specs.Named.{row_of, value_of, unit_of}
use Rattle.snx_rows.specs.declared.rows.Row.{Row}
use Rattle.snx_blocks.specs.Documents.{PlainDoc}
use Rattle.control_doc.specs.Plain.{PlainPlan}
use Rattle.neq_stack.specs.ByName.{Parameter, HasParameter}
use Rattle.neq_stack.specs.Neqs.{PlainNeq}
use Rattle.neq_stack.specs.Systems.{NamedSystem, multiple}
use Rattle.named_tables.specs.Naming.{AreNamesOf}
use Rattle.named_tables.specs.Weighted.{scale_of}
use Rattle.named_tables.proofs.Alone.{one_names}
use Rattle.recover_neq.specs.Recovery as equations
use Rattle.recover_neq.proofs.Alone.{recovered_is_one as equations_are_one}
use Rattle.recover_neq.proofs.LawExact.{multiples_are_exact as multiples_of_equations}
use Rattle.recover_neq.proofs.NamedLaws.{recovered_names as names_of_equations}
use Rattle.file_recovery.specs.Solved.{IsSolved}
use Rattle.file_recovery.specs.Files.{Source, Equations, Estimated, rows_of, apriori_of, IsSource}
use Rattle.file_recovery.specs.Recovery.{IsRecoveredFrom, IsRecovered, OneRecovery, IsExactFrom, IsExact, MultiplesAreExact, IsKnownBy, IsParameterOf, RecoveredParameters}
use Rattle.file_recovery.specs.declared.faults.FileFault.TheVariants.{Recovery}
use Rattle.file_recovery.proofs.SolvedLaws.{solved_is_one, multiples_of_solutions, names_of_solution}
use Rattle.file_recovery.proofs.SourceLaws.{source_is_one, same_source, source_apriori}

-- ---- one recovery
recovered_from_is_one : (weight : Decimal) (scales : ScaleMap) (source : Source) → IsOne (IsRecoveredFrom weight scales source)
recovered_from_is_one weight scales (Equations blocks) = renamed_is_one Recovery (equations.IsRecovered blocks weight scales) (equations_are_one blocks weight scales)
recovered_from_is_one weight scales (Estimated solution) = renamed_is_one Recovery (IsSolved solution weight scales) (solved_is_one solution weight scales)

pub recovered_is_one : (plan : PlainPlan) (doc : PlainDoc) (scales : ScaleMap) → IsOne (IsRecovered plan doc scales)
recovered_is_one plan doc scales =
    then_is_one (IsSource plan doc) (IsRecoveredFrom plan.weight scales) (source_is_one plan doc) (λ source given. recovered_from_is_one plan.weight scales source)

-- ---- exact systems
multiples_from : (weight : Decimal) (source : Source) (S : NamedSystem) (k : ℕ) → 0 < k → IsExactFrom weight source S → IsExactFrom weight source (multiple k S)
multiples_from weight (Equations blocks) S k some exact = multiples_of_equations blocks weight S k some exact
multiples_from weight (Estimated solution) S k some exact = multiples_of_solutions solution weight S k some exact

pub multiples_are_exact : MultiplesAreExact
multiples_are_exact plan doc S k some exact = record { source = exact.source; has = exact.has; exact = multiples_from plan.weight exact.source S k some exact.exact }

exact_from_some : (weight : Decimal) (source : Source) (S : NamedSystem) → IsExactFrom weight source S → 0 < S.q
exact_from_some weight (Equations blocks) S exact = exact.some
exact_from_some weight (Estimated solution) S exact =
    subst (λ n. 0 < n) (sym (All-head (λ (part : NamedSystem). part.q ≡ exact.freed.moved.q) S (exact.K ∷ []) exact.freed.sum.denominators)) exact.freed.sum.some

pub exact_some : (plan : PlainPlan) (doc : PlainDoc) (S : NamedSystem) → IsExact plan doc S → 0 < S.q
exact_some plan doc S exact = exact_from_some plan.weight exact.source S exact.exact

-- ---- parameters
abbrev AreNamed : List Row → List Row → ScaleMap → PlainNeq → Type 0
AreNamed rows apriori scales neq =
    AreNamesOf rows neq.names × (neq.apriori ≡ map (value_of apriori) neq.names) × (neq.units ≡ map (unit_of apriori) neq.names) × (neq.scales ≡ map (scale_of scales) neq.names)
    × ((id : PlainId) → Contains neq.names id → (row : Row) × (row_of apriori id ≡ Some row))

named_from : (weight : Decimal) (scales : ScaleMap) (source : Source) (neq : PlainNeq) → IsRecoveredFrom weight scales source (Ok neq) → AreNamed (rows_of source) (apriori_of source) scales neq
named_from weight scales (Equations blocks) neq h = names_of_equations blocks weight scales neq h
named_from weight scales (Estimated solution) neq h = names_of_solution solution weight scales neq h

-- the names, the a priori values, the units and the exponents of recovered normal equations; each name has an a priori row
pub record IsKnownAs (plan : PlainPlan) (doc : PlainDoc) (scales : ScaleMap) (neq : PlainNeq) : Type 0 where
  pub apriori : List Row
  pub has : doc.apriori ≡ Some apriori
  pub known : IsKnownBy plan doc neq.names apriori
  pub values : neq.apriori ≡ map (value_of apriori) neq.names
  pub units : neq.units ≡ map (unit_of apriori) neq.names
  pub exponents : neq.scales ≡ map (scale_of scales) neq.names
  pub rows : (id : PlainId) → Contains neq.names id → (row : Row) × (row_of apriori id ≡ Some row)

pub known_by : (plan : PlainPlan) (doc : PlainDoc) (scales : ScaleMap) (neq : PlainNeq) → IsRecovered plan doc scales (Ok neq) → IsKnownAs plan doc scales neq
known_by plan doc scales neq h =
    let from = went_on (IsSource plan doc) (IsRecoveredFrom plan.weight scales) neq h in
    let named = named_from plan.weight scales from.gives neq from.onward in
    record {
      apriori = apriori_of from.gives;
      has = source_apriori plan doc from.gives from.given;
      known = record { source = from.gives; has = from.given; named = named.0; rows_are = refl };
      values = named.1;
      units = named.2;
      exponents = named.3;
      rows = named.4;
    }

-- a file has one list of names at most, and one of a priori rows
pub known_is_one : (plan : PlainPlan) (doc : PlainDoc) (names other : List PlainId) (apriori rows : List Row) → IsKnownBy plan doc names apriori → IsKnownBy plan doc other rows
    → (names ≡ other) × (apriori ≡ rows)
known_is_one plan doc names other apriori rows one two =
    let same = same_source plan doc one.source two.source one.has two.has in (
      one_names (rows_of two.source) names other (subst (λ source. AreNamesOf (rows_of source) names) same one.named) two.named,
      one.rows_are ∙ ap apriori_of same ∙ sym two.rows_are,
    )

-- what a list of values by name has at a place
value_there : {X : Type 0} (f : PlainId → X) (names : List PlainId) (xs : List X) (k : ℕ) (id : PlainId) (x : X) → xs ≡ map f names → slice_get names k ≡ Some id → slice_get xs k ≡ Some x → x ≡ f id
value_there f names xs k id x are name is = same_Some x (f id) (sym is ∙ ap (λ l. slice_get l k) are ∙ slice_get-map f names k ∙ ap (option_map f) name)

module _ (plan : PlainPlan) (doc : PlainDoc) (scales : ScaleMap) (neq : PlainNeq) (id : PlainId) (parameter : Parameter) (has : HasParameter neq id parameter) where
  parameter_known : (known : IsKnownAs plan doc scales neq) → IsParameterOf known.apriori scales id parameter
  parameter_known known =
      let row = known.rows id (has.place, slice_get_within neq.names has.place id has.name, get_or_from_slice_get neq.names has.place id id has.name) in
      record {
        row = row.0;
        known = row.1;
        value_is = value_there (value_of known.apriori) neq.names neq.apriori has.place id parameter.value known.values has.name has.value_is;
        unit_is = value_there (unit_of known.apriori) neq.names neq.units has.place id parameter.unit known.units has.name has.unit_is;
        exponent_is = value_there (scale_of scales) neq.names neq.scales has.place id parameter.exponent known.exponents has.name has.exponent_is;
      }

pub parameters_are : RecoveredParameters
parameters_are plan doc scales apriori neq id parameter given h has =
    let known = known_by plan doc scales neq h in
    subst (λ rows. IsParameterOf rows scales id parameter) (same_Some known.apriori apriori (sym known.has ∙ given)) (parameter_known plan doc scales neq id parameter has known)
