-- The exact systems of inputs with the datum's lie in the whole stack with its rows, and there is one.
use Rattle.std.proofs.Common.{◌≡◌, ◌∙◌, ◌∷◌, ◌<◌, ◌*◌, inl, inr, ℕ, ℤ, zero, suc, pos, ◌+ℤ◌, ◌*ℤ◌, List, [], length, map, slice_get, Option, Some, None, Result, Ok, All, refl, ap, sym, subst, arith}
use Rattle.std.specs.List.{Any}
use Rattle.std.specs.Option.{IfSome}
use Rattle.std.proofs.Math.Nat.{mul-pos}
use Rattle.std.proofs.lemmas.Int.{ints}
use Rattle.std.proofs.lemmas.List.Elements.{All-head, All-tail, All-nil, All-cons}
use Rattle.std.proofs.lemmas.Option.{same_Some, slice_get_within}
use Rattle.whole_numbers.proofs.Ring.{*ℤ-+ℤ}
use Rattle.stated_order.specs.Lists.{AreEach}
use Rattle.stated_order.specs.Steps.{Through}
use Rattle.sys_model.specs.Scaling.{LiesInStack}
use Rattle.param_ids.specs.Plain.{PlainId}
use Rattle.param_ids.specs.Tables.{ScaleMap}
use Rattle.snx_rows.specs.Named.{value_of}
use Rattle.snx_rows.specs.declared.rows.Row.{Row}
use Rattle.control_doc.specs.Plain.{PlainDatum, PlainControl}
use Rattle.control_doc.specs.Valid.{HasPositiveSigmas}
use Rattle.control_doc.specs.declared.plans.Site.{Site}
use Rattle.neq_stack.specs.Neqs.{PlainNeq, IsSound}
use Rattle.neq_stack.specs.ByName.{Parameter, HasParameter}
use Rattle.neq_stack.specs.Stacks.{IsStackOf}
use Rattle.neq_stack.specs.Systems.{NamedSystem, IsSumOf, LiesInNeq, multiple, over, sum_of}
use Rattle.neq_stack.proofs.Laws.{stack_holds, neq_lies_in_stack}
use Rattle.neq_stack.proofs.ParameterLaws.{has_there, some_stands}
use Rattle.named_tables.specs.Weighted.{scale_of}
use Rattle.apriori_shift.proofs.MoveLaws.{multiples_move}
use Rattle.datum_rows.specs.Additions.{AddsRow}
use Rattle.datum_rows.specs.Conditions.{Condition, conditions}
use Rattle.datum_rows.proofs.ExistLaws.{datum_exists, datum_multiples}
use Rattle.datum_rows.proofs.HoldLaws.{datum_holds_in}
use Rattle.run_inputs.specs.Inputs.{PlainInput}
use Rattle.combine_cli.specs.Combination.{HaveCommon, Part, AreParts, AddsDatum, stack_in}
use Rattle.combine_cli.specs.Headline.{IsExactAt, IsExactOf, IsWith, IsExactWith, AreCertifiedOf, IsCertifiedReport}
use Rattle.stack_rules.specs.Rules.{Numbers, IsAnswer}
use Rattle.bounds_text.specs.Report.{numbers_report}
use Rattle.combine_cli.specs.Parts.{IsPartOf, neqs_of}
use Rattle.combine_cli.proofs.Agreement.{value_there}
use Rattle.combine_cli.proofs.EachLaws.{any_cases, any_none, went_on}

-- ---- the scale exponents of a stack are those of its names
-- a list that has at each place what a function makes of another list there
mapped_at : {A B : Type 0} (f : A → B) (xs : List A) (ys : List B) → length ys ≡ length xs → ((k : ℕ) (x : A) (y : B) → slice_get xs k ≡ Some x → slice_get ys k ≡ Some y → y ≡ f x) → ys ≡ map f xs
mapped_at f [] [] long h = refl
mapped_at f [] (y ∷ ys) long h = absurd (omega arith)
mapped_at f (x ∷ xs) [] long h = absurd (omega arith)
mapped_at f (x ∷ xs) (y ∷ ys) long h =
    let head = h zero x y refl refl in
    let tail = mapped_at f xs ys (omega arith) (λ k a b. h (suc k) a b) in
    cc

exponent_in_part : (scales : ScaleMap) (neq : PlainNeq) (id : PlainId) (p : Parameter) → neq.scales ≡ map (scale_of scales) neq.names → HasParameter neq id p → p.exponent ≡ scale_of scales id
exponent_in_part scales neq id p are has = value_there (scale_of scales) neq.names neq.scales has.place id p.exponent are has.name has.exponent_is

module _ (scales : ScaleMap) (base : List Row) where
  exponent_in_parts : (inputs : List PlainInput) (parts : List Part) (id : PlainId) (p : Parameter) → AreEach (IsPartOf scales base) inputs parts
      → Any (λ part. HasParameter part id p) (neqs_of parts) → p.exponent ≡ scale_of scales id
  exponent_in_parts [] [] id p each h = absurd (any_none (λ (neq : PlainNeq). HasParameter neq id p) h)
  exponent_in_parts [] (part ∷ parts) id p each h = absurd each
  exponent_in_parts (input ∷ inputs) [] id p each h = absurd each
  exponent_in_parts (input ∷ inputs) (part ∷ parts) id p each h =
      elim (any_cases (λ (neq : PlainNeq). HasParameter neq id p) part.neq (neqs_of parts) h) [
        | inl here ↦ exponent_in_part scales part.neq id p each.0.exponents here
        | inr later ↦ exponent_in_parts inputs parts id p each.1 later
      ]

  -- ---- exact systems lie in the parts
  lie_in_parts : (inputs : List PlainInput) (parts : List Part) (systems : List NamedSystem) → AreEach (IsPartOf scales base) inputs parts → AreEach (IsExactAt base) inputs systems
      → AreEach (LiesInNeq (scale_of scales)) (neqs_of parts) systems
  lie_in_parts [] [] [] each exact = tt
  lie_in_parts [] [] (system ∷ systems) each exact = absurd exact
  lie_in_parts [] (part ∷ parts) systems each exact = absurd each
  lie_in_parts (input ∷ inputs) [] systems each exact = absurd each
  lie_in_parts (input ∷ inputs) (part ∷ parts) [] each exact = absurd exact
  lie_in_parts (input ∷ inputs) (part ∷ parts) (system ∷ systems) each exact = (each.0.exact system exact.0, lie_in_parts inputs parts systems each.1 exact.1)

-- there are no other common values
one_base : (reference : List ℕ) (inputs : List PlainInput) (base other : List Row) → HaveCommon reference inputs (Ok base) → HaveCommon reference inputs (Ok other) → other ≡ base
one_base reference inputs base other one two = two.0 ∙ sym one.0

module _ (scales : ScaleMap) (base : List Row) (inputs : List PlainInput) (parts : List Part) (free : PlainNeq) (each : AreEach (IsPartOf scales base) inputs parts) (stack : IsStackOf (neqs_of parts) free) where
  exponent_at : (k : ℕ) (id : PlainId) (t : ℤ) → slice_get free.names k ≡ Some id → slice_get free.scales k ≡ Some t → t ≡ scale_of scales id
  exponent_at k id t name is =
      let there = some_stands free k stack.sound (slice_get_within free.names k id name) in
      let in_parts = (stack.parameters id there.0).0 (has_there free k id there.0 name there.1) in
      same_Some t there.0.exponent (sym is ∙ there.1.exponent_is) ∙ exponent_in_parts scales base inputs parts id there.0 each in_parts

  stack_exponents : free.scales ≡ map (scale_of scales) free.names
  stack_exponents = mapped_at (scale_of scales) free.names free.scales stack.sound.exponents exponent_at

  -- ---- so does their sum in the whole stack
  exact_in_free : (reference : List ℕ) (S : NamedSystem) → HaveCommon reference inputs (Ok base) → IsExactOf reference inputs S → LiesInNeq (scale_of scales) free S
  exact_in_free reference S common exact =
      let same : exact.base ≡ base = one_base reference inputs base exact.base common exact.common in
      let systems = subst (λ (rows : List Row). AreEach (IsExactAt rows) inputs exact.systems) same exact.each in
      stack_holds (scale_of scales) (neqs_of parts) exact.systems free S (lie_in_parts scales base inputs parts exact.systems each systems) stack exact.sum

-- ---- the datum
same_ok : {X E : Type 0} (x y : X) → (let r : Result X E = Ok x in let s : Result X E = Ok y in r ≡ s) → x ≡ y
same_ok x y e = cc

-- normal equations with the rows of a datum have the names and the exponents that they had
pub record HasNamesOf (before after : PlainNeq) : Type 0 where
  pub names : after.names ≡ before.names
  pub scales : after.scales ≡ before.scales

same_names : (before after : PlainNeq) → after ≡ before → HasNamesOf before after
same_names before after e = record { names = ap (λ (n : PlainNeq). n.names) e; scales = ap (λ (n : PlainNeq). n.scales) e }

names_through : (sites : List Site) (neq after : PlainNeq) (list : List Condition) → Through (AddsRow sites) neq list (Ok after) → HasNamesOf neq after
names_through sites neq after [] is = same_names neq after (same_ok after neq is)
names_through sites neq after (condition ∷ rest) is =
    let f = went_on _ _ after is in
    let next = names_through sites f.gives after rest f.onward in
    record { names = next.names ∙ f.given.1.names; scales = next.scales ∙ f.given.1.scales }

pub names_added : (datum : Option PlainDatum) (free neq : PlainNeq) → AddsDatum datum free (Ok neq) → HasNamesOf free neq
names_added None free neq added = same_names free neq (same_ok neq free added)
names_added (Some datum) free neq added = let f = went_on _ _ neq added in names_through datum.sites free neq (conditions datum) f.onward

-- what lies in the stack lies, with the datum's system, in the stack with the datum's rows
lies_with : (exponent : PlainId → ℤ) (datum : Option PlainDatum) (free neq : PlainNeq) (S T : NamedSystem) → IsSound free → free.scales ≡ map exponent free.names → IfSome datum HasPositiveSigmas
    → AddsDatum datum free (Ok neq) → LiesInNeq exponent free S → IsWith datum free S T → LiesInNeq exponent neq T
lies_with exponent None free neq S T sound scales positive added lies with_datum =
    subst (LiesInNeq exponent neq) (sym with_datum) (subst (λ (n : PlainNeq). LiesInNeq exponent n S) (sym (same_ok neq free added)) lies)
lies_with exponent (Some datum) free neq S T sound scales positive added lies (D, is, sum) = datum_holds_in exponent datum free neq S D T sound scales positive lies added is sum

-- ---- some exact system: systems over one denominator, added
-- the sum of multiples is the multiple of the sum
sum_of_multiples : (element : NamedSystem → ℤ) (k : ℕ) → ((S : NamedSystem) → element (multiple k S) ≡ pos k *ℤ element S) → (systems : List NamedSystem)
    → sum_of (map element (map (multiple k) systems)) ≡ pos k *ℤ sum_of (map element systems)
sum_of_multiples element k times [] = omega (arith, ints)
sum_of_multiples element k times (S ∷ systems) =
    let first = times S in
    let rest = sum_of_multiples element k times systems in
    let whole = *ℤ-+ℤ (pos k) (element S) (sum_of (map element systems)) in
    omega (arith, ints)

multiples_over : (k q : ℕ) (systems : List NamedSystem) → All (λ (part : NamedSystem). part.q ≡ q) systems → All (λ (part : NamedSystem). part.q ≡ k * q) (map (multiple k) systems)
multiples_over k q [] all = All-nil (λ (part : NamedSystem). part.q ≡ k * q)
multiples_over k q (S ∷ systems) all =
    All-cons (λ (part : NamedSystem). part.q ≡ k * q) (multiple k S) (map (multiple k) systems) (ap (λ n. k * n) (All-head (λ (part : NamedSystem). part.q ≡ q) S systems all))
    (multiples_over k q systems (All-tail (λ (part : NamedSystem). part.q ≡ q) S systems all))

multiple_at : (k : ℕ) (base : List Row) (input : PlainInput) (T : NamedSystem) → 0 < k → IsExactAt base input T → IsExactAt base input (multiple k T)
multiple_at k base input T some is = record {
  names = is.names;
  apriori = is.apriori;
  known = is.known;
  S = is.S;
  exact = is.exact;
  moves = multiples_move is.names (value_of is.apriori) (value_of base) is.S T k some is.moves;
}

multiples_each : (k : ℕ) (base : List Row) (inputs : List PlainInput) (systems : List NamedSystem) → 0 < k → AreEach (IsExactAt base) inputs systems → AreEach (IsExactAt base) inputs (map (multiple k) systems)
multiples_each k base [] [] some each = tt
multiples_each k base [] (S ∷ systems) some each = absurd each
multiples_each k base (input ∷ inputs) [] some each = absurd each
multiples_each k base (input ∷ inputs) (S ∷ systems) some each = (multiple_at k base input S some each.0, multiples_each k base inputs systems some each.1)

-- one exact system of each file at the common values, and their sum
record AreAdded (base : List Row) (inputs : List PlainInput) (S : NamedSystem) : Type 0 where
  systems : List NamedSystem
  each : AreEach (IsExactAt base) inputs systems
  sum : IsSumOf systems S

abbrev no_system : NamedSystem
no_system = record { q = 1; a = λ one other. pos 0; c = λ id. pos 0 }

none_added : (base : List Row) → AreAdded base [] no_system
none_added base = record {
  systems = [];
  each = tt;
  sum = record { some = omega arith; denominators = All-nil (λ (part : NamedSystem). part.q ≡ 1); matrix = λ one other. refl; right = λ id. refl };
}

-- the sum of two systems, each times the denominator of the other
abbrev both : NamedSystem → NamedSystem → NamedSystem
both S T = record { q = S.q * T.q; a = λ one other. pos T.q *ℤ S.a one other +ℤ pos S.q *ℤ T.a one other; c = λ id. pos T.q *ℤ S.c id +ℤ pos S.q *ℤ T.c id }

module _ (base : List Row) (input : PlainInput) (inputs : List PlainInput) (S T : NamedSystem) (first : IsExactAt base input S) (rest : AreAdded base inputs T) where
  systems_of_both : List NamedSystem
  systems_of_both = multiple T.q S ∷ map (multiple S.q) rest.systems

  both_sum : IsSumOf systems_of_both (both S T)
  unfolding systems_of_both
  both_sum = record {
    some = mul-pos first.moves.some rest.sum.some;
    denominators =
        All-cons (λ (part : NamedSystem). part.q ≡ S.q * T.q) (multiple T.q S) (map (multiple S.q) rest.systems) (omega arith) (multiples_over S.q T.q rest.systems rest.sum.denominators);
    matrix = λ one other.
        ap (λ n. pos T.q *ℤ S.a one other +ℤ n) (ap (λ n. pos S.q *ℤ n) (rest.sum.matrix one other) ∙ sym (sum_of_multiples (λ part. part.a one other) S.q (λ part. refl) rest.systems));
    right = λ id. ap (λ n. pos T.q *ℤ S.c id +ℤ n) (ap (λ n. pos S.q *ℤ n) (rest.sum.right id) ∙ sym (sum_of_multiples (λ part. part.c id) S.q (λ part. refl) rest.systems));
  }

  both_added : AreAdded base (input ∷ inputs) (both S T)
  unfolding systems_of_both
  both_added = record {
    systems = systems_of_both;
    each = (multiple_at T.q base input S rest.sum.some first, multiples_each S.q base inputs rest.systems first.moves.some rest.each);
    sum = both_sum;
  }

some_added : (scales : ScaleMap) (base : List Row) (inputs : List PlainInput) (parts : List Part) → AreEach (IsPartOf scales base) inputs parts → (S : NamedSystem) × AreAdded base inputs S
some_added scales base [] [] each = (no_system, none_added base)
some_added scales base [] (part ∷ parts) each = absurd each
some_added scales base (input ∷ inputs) [] each = absurd each
some_added scales base (input ∷ inputs) (part ∷ parts) each =
    let first = each.0.exact_exists in
    let rest = some_added scales base inputs parts each.1 in
    (both first.0 rest.0, both_added base input inputs first.0 rest.0 first.1 rest.1)

-- ---- with the datum's
-- with an exact system also each multiple of it
multiple_of_exact : (k : ℕ) (reference : List ℕ) (inputs : List PlainInput) (S : NamedSystem) → 0 < k → IsExactOf reference inputs S → IsExactOf reference inputs (multiple k S)
multiple_of_exact k reference inputs S some exact = record {
  base = exact.base;
  common = exact.common;
  systems = map (multiple k) exact.systems;
  each = multiples_each k exact.base inputs exact.systems some exact.each;
  sum = record {
    some = mul-pos some exact.sum.some;
    denominators = multiples_over k S.q exact.systems exact.sum.denominators;
    matrix = λ one other. ap (λ n. pos k *ℤ n) (exact.sum.matrix one other) ∙ sym (sum_of_multiples (λ part. part.a one other) k (λ part. refl) exact.systems);
    right = λ id. ap (λ n. pos k *ℤ n) (exact.sum.right id) ∙ sym (sum_of_multiples (λ part. part.c id) k (λ part. refl) exact.systems);
  };
}

two_added : (x y : ℤ) → x +ℤ y ≡ x +ℤ (y +ℤ pos 0)
two_added x y = omega (arith, ints)

pair_sum : (S D : NamedSystem) → 0 < S.q → 0 < D.q → IsSumOf (multiple D.q S ∷ multiple S.q D ∷ []) (both S D)
pair_sum S D some also = record {
  some = mul-pos some also;
  denominators =
      All-cons (λ (part : NamedSystem). part.q ≡ S.q * D.q) (multiple D.q S) (multiple S.q D ∷ []) (omega arith)
      (All-cons (λ (part : NamedSystem). part.q ≡ S.q * D.q) (multiple S.q D) [] refl (All-nil (λ (part : NamedSystem). part.q ≡ S.q * D.q)));
  matrix = λ one other. two_added (pos D.q *ℤ S.a one other) (pos S.q *ℤ D.a one other);
  right = λ id. two_added (pos D.q *ℤ S.c id) (pos S.q *ℤ D.c id);
}

-- an exact system that has one with the datum's
record HasWith (datum : Option PlainDatum) (free : PlainNeq) (reference : List ℕ) (inputs : List PlainInput) : Type 0 where
  S : NamedSystem
  T : NamedSystem
  exact : IsExactOf reference inputs S
  is_with : IsWith datum free S T

some_with : (datum : Option PlainDatum) (free : PlainNeq) (reference : List ℕ) (inputs : List PlainInput) (S : NamedSystem) → IfSome datum HasPositiveSigmas → IsExactOf reference inputs S
    → HasWith datum free reference inputs
some_with None free reference inputs S positive exact = record { S = S; T = S; exact = exact; is_with = refl }
some_with (Some datum) free reference inputs S positive exact =
    let found = datum_exists datum free positive in
    let D = found.0 in
    let is = found.1 in
    record {
      S = multiple D.q S;
      T = both S D;
      exact = multiple_of_exact D.q reference inputs S is.sum.some exact;
      is_with = (multiple S.q D, datum_multiples datum free D S.q exact.sum.some is, pair_sum S D exact.sum.some is.sum.some);
    }

-- ---- the report
module _ (control : PlainControl) (inputs : List PlainInput) (base : List Row) (parts : List Part) (free neq : PlainNeq) (common : HaveCommon control.run.reference inputs (Ok base))
    (each : AreEach (IsPartOf control.scales base) inputs parts) (stack : IsStackOf (neqs_of parts) free) (positive : IfSome control.datum HasPositiveSigmas) where
  some_exact : (T : NamedSystem) × IsExactWith control inputs free T
  some_exact =
      let added = some_added control.scales base inputs parts each in
      let of : IsExactOf control.run.reference inputs added.0 = record { base = base; common = common; systems = added.1.systems; each = added.1.each; sum = added.1.sum } in
      let found = some_with control.datum free control.run.reference inputs added.0 positive of in
      (found.T, record { S = found.S; exact = found.exact; datum = found.is_with })

  module _ (sound : IsSound neq) (added : AddsDatum control.datum free (Ok neq)) where
    exact_in_stack : (T : NamedSystem) → IsExactWith control inputs free T → LiesInStack (length neq.names) (stack_in neq).table (stack_in neq).scales (over neq.names T)
    exact_in_stack T exact =
        let exponent = scale_of control.scales in
        let in_free = exact_in_free control.scales base inputs parts free each stack control.run.reference exact.S common exact.exact in
        let exponents = stack_exponents control.scales base inputs parts free each stack in
        let lies = lies_with exponent control.datum free neq exact.S T stack.sound exponents positive added in_free exact.datum in
        let kept = names_added control.datum free neq added in
        neq_lies_in_stack exponent neq T sound (kept.scales ∙ exponents ∙ ap (map exponent) (sym kept.names)) lies

    pub is_certified_report : (numbers : Numbers) (report : List ℕ) → AreParts control.scales base inputs (Ok parts) → IsAnswer (stack_in neq) (Ok numbers) → AreCertifiedOf neq numbers → report ≡ numbers_report neq.names neq.units numbers → IsCertifiedReport control inputs report
    is_certified_report numbers report recovers answers certified tells = record {
      base = base;
      parts = parts;
      free = free;
      neq = neq;
      numbers = numbers;
      common = common;
      recovers = recovers;
      stack = stack;
      datum = added;
      answers = answers;
      tells = tells;
      exact_exists = some_exact;
      exact = exact_in_stack;
      certified = certified;
    }
