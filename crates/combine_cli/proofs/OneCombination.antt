-- Files that were read have one combination at most: texts, or one first refusal.
use Rattle.std.proofs.Common.{◌≡◌, ◌∙◌, ℕ, List, [], map, Bool, true, false, Option, Some, None, Ok, Err, length, refl, ap, sym, subst}
use Rattle.std.specs.Prelude.{Contains, IsTrue, ◌↔◌}
use Rattle.std.specs.Cmp.{IsTotalOrder}
use Rattle.std.specs.declared.cmp.Ordering.{Ordering}
use Rattle.std.specs.declared.cmp.Ordering.TheVariants.{Less, Equal, Greater}
use Rattle.std.specs.Ordering.{ordering_then}
use Rattle.std.specs.BTreeSet.{BTreeSet, contains}
use Rattle.std.proofs.lemmas.Cmp.{nat_cmp_total, nat_list_cmp_total, on_total, then_total}
use Rattle.std.proofs.lemmas.Map.Lookups.{exact_bytes, exact_unsigned, btree_set_from_contains}
use Rattle.std.proofs.lemmas.Map.Views.{btree_set_contains_iff}
use Rattle.stated_order.specs.Steps.{IsOne, Then}
use Rattle.stated_order.proofs.StepLaws.{then_is_one, in_turn_is_one, renamed_is_one}
use Rattle.param_ids.specs.Tables.{ScaleMap}
use Rattle.snx_rows.specs.Named.{value_of}
use Rattle.snx_rows.specs.declared.rows.Row.{Row}
use Rattle.snx_blocks.specs.Documents.{PlainDoc}
use Rattle.control_doc.specs.Plain.{PlainPlan, PlainDatum, PlainControl}
use Rattle.neq_stack.specs.Neqs.{PlainNeq}
use Rattle.neq_stack.specs.Stacks.{IsStacked}
use Rattle.file_recovery.specs.Recovery.{IsRecovered}
use Rattle.file_recovery.proofs.RecoveryLaws.{recovered_is_one}
use Rattle.apriori_shift.specs.Common.{IsCommon}
use Rattle.apriori_shift.specs.Shifts.{IsShift}
use Rattle.apriori_shift.proofs.Alone.{one_shift}
use Rattle.apriori_shift.proofs.CommonLaws.{one_common}
use Rattle.datum_rows.specs.Additions.{IsAddition}
use Rattle.datum_rows.proofs.Alone.{one_addition}
use Rattle.stack_rules.specs.Rules.{Numbers, IsAnswer}
use Rattle.stack_rules.proofs.Alone.{answer_is_one}
use Rattle.run_inputs.specs.Inputs.{PlainInput}
use Rattle.refusal_lines.specs.declared.refusal.Refusal.TheVariants.{UnitClash}
use Rattle.combine_cli.specs.Causes.{refusal_of_recovery, refusal_of_shift, refusal_of_datum, refusal_of_rules}
use Rattle.combine_cli.specs.Combination.{counted_rows, HaveCommon, Recovers, Shifts, Part, IsPart, AreParts, Group, place_of, group_cmp, AreGroups, IsGroupStack, AreGroupStacks, IsWholeStack, StacksParts, AddsDatum, stack_in, Solves, IsOut, IsOutIf, AreTexts, IsCombined}
use Rattle.combine_cli.specs.Parts.{names_in, docs_in}
use Rattle.site_merge.specs.Merged.{PlainSites}
use Rattle.site_merge.proofs.Alone.{one_merge}
use Rattle.snx_write.specs.Combined.{combined_text}
use Rattle.combine_cli.proofs.EachLaws.{went_on}
use Rattle.neq_stack.proofs.Laws.{stack_is_one}

-- ---- common a priori values and units
common_is_one : (reference : List ℕ) (inputs : List PlainInput) → IsOne (HaveCommon reference inputs)
common_is_one reference inputs = renamed_is_one UnitClash (IsCommon (counted_rows reference inputs)) (one_common (counted_rows reference inputs))

-- ---- the normal equations of each file
recovers_is_one : (plan : PlainPlan) (scales : ScaleMap) (doc : PlainDoc) → IsOne (Recovers plan scales doc)
recovers_is_one plan scales doc = renamed_is_one (refusal_of_recovery plan.name) (IsRecovered plan doc scales) (recovered_is_one plan doc scales)

shifts_is_one : (name : List ℕ) (base : List Row) (neq : PlainNeq) → IsOne (Shifts name base neq)
shifts_is_one name base neq = renamed_is_one (refusal_of_shift name neq.names) (IsShift (map (value_of base) neq.names) neq) (one_shift (map (value_of base) neq.names) neq)

part_is_one : (scales : ScaleMap) (base : List Row) (before : List Part) (input : PlainInput) → IsOne (IsPart scales base before input)
part_is_one scales base before input =
    then_is_one (Recovers input.plan scales input.doc) _ (recovers_is_one input.plan scales input.doc) (λ recovered given.
    then_is_one (Shifts input.plan.name base recovered) _ (shifts_is_one input.plan.name base recovered) (λ neq moved r s a b. a ∙ sym b))

parts_are_one : (scales : ScaleMap) (base : List Row) (inputs : List PlainInput) → IsOne (AreParts scales base inputs)
parts_are_one scales base inputs = in_turn_is_one (IsPart scales base) (part_is_one scales base) [] inputs

-- ---- groups
pub group_total : IsTotalOrder group_cmp
group_total = then_total (on_total (λ (group : Group). group.name) nat_list_cmp_total) (on_total (λ (group : Group). place_of group.alone) nat_cmp_total)

first_equal : (o p : Ordering) → ordering_then o p ≡ Equal → o ≡ Equal
first_equal Less p e = e
first_equal Equal p e = refl
first_equal Greater p e = e

second_equal : (o p : Ordering) → ordering_then o p ≡ Equal → p ≡ Equal
second_equal Less p e = let f : Less ≡ Equal = e in cc
second_equal Equal p e = e
second_equal Greater p e = let f : Greater ≡ Equal = e in cc

same_place : (a b : Bool) → place_of a ≡ place_of b → a ≡ b
same_place true true e = refl
same_place false false e = refl
same_place true false e = absurd (cc)
same_place false true e = absurd (cc)

pub group_exact : (a b : Group) → group_cmp a b ≡ Equal → a ≡ b
group_exact a b e =
    let name = exact_bytes a.name b.name (first_equal _ _ e) in
    let alone = same_place a.alone b.alone (exact_unsigned _ _ (second_equal _ _ e)) in
    λ i. record { name = name i; alone = alone i }

abbrev set_of : List Group → BTreeSet Group
set_of groups = record { keys = groups }

-- the groups of some files, in their order, are one list
pub groups_are_one : (plans : List PlainPlan) (one other : List Group) → AreGroups plans one → AreGroups plans other → one ≡ other
groups_are_one plans one other first second =
    btree_set_from_contains group_total (set_of one) (set_of other) first.rising second.rising (λ group.
    same_test _ _
    (λ there. (has other group).1 ((second.same group).1 ((first.same group).0 ((has one group).0 there))))
    (λ there. (has one group).1 ((first.same group).1 ((second.same group).0 ((has other group).0 there))))) group_exact
  where
    has : (groups : List Group) (group : Group) → IsTrue (contains group_cmp (set_of groups) group) ↔ Contains groups group
    has groups group = btree_set_contains_iff group_total group_exact (set_of groups) group

    same_test : (a b : Bool) → (IsTrue a → IsTrue b) → (IsTrue b → IsTrue a) → a ≡ b
    same_test true true there back = refl
    same_test false false there back = refl
    same_test true false there back = sym (there refl)
    same_test false true there back = back refl

-- ---- stacks
group_stack_is_one : (parts : List Part) (before : List PlainNeq) (group : Group) → IsOne (IsGroupStack parts before group)
group_stack_is_one parts before group = renamed_is_one _ (IsStacked _) (stack_is_one _)

then_stack_is_one : (parts : List Part) (groups : List Group) → IsOne (Then (AreGroupStacks parts groups) IsWholeStack)
then_stack_is_one parts groups =
    then_is_one (AreGroupStacks parts groups) IsWholeStack (in_turn_is_one (IsGroupStack parts) (group_stack_is_one parts) [] groups) (λ stacks given.
    renamed_is_one _ (IsStacked stacks) (stack_is_one stacks))

stacks_parts_is_one : (parts : List Part) → IsOne (StacksParts parts)
stacks_parts_is_one parts one other h k =
    let same : h.0 ≡ k.0 = groups_are_one (map (λ (part : Part). part.plan) parts) h.0 k.0 h.1 k.1 in
    then_stack_is_one parts k.0 one other (subst (λ groups. Then (AreGroupStacks parts groups) IsWholeStack one) same h.2) k.2

-- a stack of parts has as many rows as names
pub stacked_rows : (parts : List Part) (free : PlainNeq) → StacksParts parts (Ok free) → free.table.size ≡ length free.names
stacked_rows parts free h = (went_on (AreGroupStacks parts h.0) IsWholeStack free h.2).onward.sound.rows

-- ---- the datum
adds_datum_is_one : (datum : Option PlainDatum) (free : PlainNeq) → free.table.size ≡ length free.names → IsOne (AddsDatum datum free)
adds_datum_is_one None free rows = λ r s a b. a ∙ sym b
adds_datum_is_one (Some datum) free rows = renamed_is_one (refusal_of_datum free.names) (IsAddition datum free) (one_addition datum free rows)

-- ---- the rules
solves_is_one : (neq : PlainNeq) → IsOne (Solves neq)
solves_is_one neq = renamed_is_one (refusal_of_rules neq.names) (IsAnswer (stack_in neq)) (answer_is_one (stack_in neq))

-- ---- the texts
module _ (control : PlainControl) (inputs : List PlainInput) (free : PlainNeq) (numbers : Numbers) where
  out_is_one : (one other : List ℕ) → IsOut control inputs free numbers one → IsOut control inputs free numbers other → one ≡ other
  out_is_one one other a b =
      let sites = one_merge (docs_in inputs) a.sites b.sites a.merged b.merged in
      a.tells ∙ ap (λ (sites : PlainSites). combined_text control (names_in inputs) sites free numbers.rows) sites ∙ sym b.tells

  out_if_is_one : (whole : Bool) (one other : List ℕ) → IsOutIf whole control inputs free numbers one → IsOutIf whole control inputs free numbers other → one ≡ other
  out_if_is_one false one other a b = a ∙ sym b
  out_if_is_one true one other a b = out_is_one one other a b

  texts_are_one : (whole : Bool) (neq : PlainNeq) → IsOne (AreTexts whole control inputs free neq numbers)
  texts_are_one whole neq (Ok one) (Ok other) a b =
      let out = out_if_is_one whole one.out other.out a.0 b.0 in
      let report = a.1 ∙ sym b.1 in
      ap Ok (λ i. record { out = out i; report = report i })
  texts_are_one whole neq (Ok one) (Err fault) a b = absurd b
  texts_are_one whole neq (Err fault) other a b = absurd a

-- ---- all steps
pub combined_is_one : (whole : Bool) (control : PlainControl) (inputs : List PlainInput) → IsOne (IsCombined whole control inputs)
combined_is_one whole control inputs =
    then_is_one (HaveCommon control.run.reference inputs) _ (common_is_one control.run.reference inputs) (λ base common.
    then_is_one (AreParts control.scales base inputs) _ (parts_are_one control.scales base inputs) (λ parts found.
    then_is_one (StacksParts parts) _ (stacks_parts_is_one parts) (λ free stacked.
    then_is_one (AddsDatum control.datum free) _ (adds_datum_is_one control.datum free (stacked_rows parts free stacked)) (λ neq added.
    then_is_one (Solves neq) (AreTexts whole control inputs free neq) (solves_is_one neq) (λ numbers told. texts_are_one control inputs free numbers whole neq)))))
