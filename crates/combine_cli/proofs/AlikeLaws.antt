-- Alike controls are admitted together, and give the same texts.
use Rattle.std.proofs.Common.{◌≡◌, ◌∙◌, ◌++◌, ◌∷◌, ℕ, Bool, true, false, cond, List, [], map, append-nil, append_assoc, Option, Some, None, Result, Ok, Err, refl, ap, sym, subst}
use Rattle.std.specs.Prelude.{All}
use Rattle.std.specs.List.{AllByRecursion, filter, find, flat_map}
use Rattle.std.specs.Str.{bytes_eq}
use Rattle.std.proofs.lemmas.List.Elements.{All-from_recursion, recursion_from_All}
use Rattle.std.proofs.lemmas.List.Sorted.{IsPermutation-sym, All-permutation}
use Rattle.stated_order.specs.Lists.{AreEach}
use Rattle.stated_order.specs.Steps.{InTurn, Then}
use Rattle.stated_order.proofs.StepLaws.{then_gives}
use Rattle.decimal_e.specs.Decimals.{Decimal}
use Rattle.param_ids.specs.Tables.{ScaleMap}
use Rattle.snx_rows.specs.declared.rows.Row.{Row}
use Rattle.snx_blocks.specs.Documents.{PlainDoc}
use Rattle.control_doc.specs.Plain.{PlainPlan, PlainOutput, PlainDatum, PlainReduction, PlainControl}
use Rattle.neq_stack.specs.Neqs.{PlainNeq, IsSound}
use Rattle.neq_stack.specs.Stacks.{IsStackOf}
use Rattle.file_recovery.specs.Recovery.{IsRecovered}
use Rattle.apriori_shift.specs.Common.{IsCommon}
use Rattle.bounds_report.specs.declared.numbers.Printed.{Printed}
use Rattle.stack_rules.specs.Rules.{Numbers}
use Rattle.site_merge.specs.Merged.{PlainSites, IsMerge}
use Rattle.snx_write.specs.Combined.{combined_text}
use Rattle.refusal_lines.specs.declared.refusal.Refusal.{Refusal}
use Rattle.run_inputs.specs.Words.{CombinedFiles}
use Rattle.run_inputs.specs.Controls.{is_named, apart_from, apart, built_of, built}
use Rattle.run_inputs.specs.Inputs.{PlainInput, ReadsInputs}
use Rattle.combine_cli.specs.Alike.{ungrouped, AreAlike, AlikeAreAdmitted, AlikeCombine}
use Rattle.combine_cli.specs.Combination.{apriori_rows, is_reference, counted_rows, HaveCommon, Recovers, Shifts, Part, IsPart, AreParts, Group, members, IsGroupStack, AreGroupStacks, IsWholeStack, StacksParts, AddsDatum, Solves, Texts, IsOut, IsOutIf, AreTexts, IsCombined}
use Rattle.combine_cli.specs.Parts.{neqs_of, names_in, docs_in}
use Rattle.neq_stack.proofs.Laws.{stacks_regroup, stacks_move, some_have_stack}
use Rattle.combine_cli.proofs.EachLaws.{maps_from_each, went_on, in_turn_alike}
use Rattle.combine_cli.proofs.GroupLaws.{plans_in, all_members, members_among, groups_part, groups_exist}
use Rattle.combine_cli.proofs.SoundParts.{parts_made, parts_sound}
use Rattle.combine_cli.proofs.RunLaws.{not_found}
use Rattle.combine_cli.proofs.UngroupLaws.{stacks_ungroup}
use Rattle.combine_cli.proofs.AlikeInputs.{SamePlan, SameInput, same_name, inputs_alike}

-- ---- common a priori values and units
each_append : {A B : Type 0} (R : A → B → Type 0) (xs more : List A) (ys others : List B) → AreEach R xs ys → AreEach R more others → AreEach R (xs ++ more) (ys ++ others)
each_append R [] more [] others each rest = rest
each_append R [] more (y ∷ ys) others each rest = absurd each
each_append R (x ∷ xs) more [] others each rest = absurd each
each_append R (x ∷ xs) more (y ∷ ys) others each rest = (each.0, each_append R xs more ys others each.1 rest)

rows_kept : (inputs others : List PlainInput) → AreEach SameInput inputs others → flat_map (λ (input : PlainInput). apriori_rows input.doc.apriori) inputs ≡ flat_map (λ (input : PlainInput). apriori_rows input.doc.apriori) others
rows_kept [] [] each = refl
rows_kept [] (other ∷ others) each = absurd each
rows_kept (one ∷ inputs) [] each = absurd each
rows_kept (one ∷ inputs) (other ∷ others) each =
    let head : apriori_rows one.doc.apriori ≡ apriori_rows other.doc.apriori = ap (λ (doc : PlainDoc). apriori_rows doc.apriori) each.0.doc in
    let tail = rows_kept inputs others each.1 in
    λ i. head i ++ tail i

module _ (reference : List ℕ) where
  reference_kept : (inputs others : List PlainInput) → AreEach SameInput inputs others → AreEach SameInput (filter (is_reference reference) inputs) (filter (is_reference reference) others)
  reference_kept [] [] each = tt
  reference_kept [] (other ∷ others) each = absurd each
  reference_kept (one ∷ inputs) [] each = absurd each
  reference_kept (one ∷ inputs) (other ∷ others) each =
      let mine = filter (is_reference reference) inputs in
      let theirs = filter (is_reference reference) others in
      subst (λ (passes : Bool). AreEach SameInput (cond (is_reference reference one) (one ∷ mine) mine) (cond passes (other ∷ theirs) theirs))
      (ap (λ (name : List ℕ). bytes_eq name reference) (same_name one.plan other.plan each.0.plan)) (by_test (is_reference reference one) mine theirs (reference_kept inputs others each.1))
    where
      by_test : (passes : Bool) (mine theirs : List PlainInput) → AreEach SameInput mine theirs → AreEach SameInput (cond passes (one ∷ mine) mine) (cond passes (other ∷ theirs) theirs)
      by_test true mine theirs rest = (each.0, rest)
      by_test false mine theirs rest = rest

  counted_kept : (inputs others : List PlainInput) → AreEach SameInput inputs others → counted_rows reference inputs ≡ counted_rows reference others
  counted_kept inputs others each =
      rows_kept (filter (is_reference reference) inputs ++ inputs) (filter (is_reference reference) others ++ others)
      (each_append SameInput (filter (is_reference reference) inputs) inputs (filter (is_reference reference) others) others (reference_kept inputs others each) each)

  common_kept : (inputs others : List PlainInput) (base : List Row) → AreEach SameInput inputs others → HaveCommon reference inputs (Ok base) → HaveCommon reference others (Ok base)
  common_kept inputs others base each h = subst (λ (rows : List Row). IsCommon rows (Ok base)) (counted_kept inputs others each) h

-- ---- the normal equations of each file
record SamePart (one other : Part) : Type 0 where
  pub plan : SamePlan one.plan other.plan
  pub neq : one.neq ≡ other.neq

recovers_kept : (one other : PlainPlan) (scales : ScaleMap) (doc : PlainDoc) (neq : PlainNeq) → SamePlan one other → IsRecovered one doc scales (Ok neq) → IsRecovered other doc scales (Ok neq)
recovers_kept one other scales doc neq same h = subst (λ (plan : PlainPlan). IsRecovered plan doc scales (Ok neq)) same h

module _ (scales : ScaleMap) (base : List Row) where
  part_kept : (before others : List Part) (one other : PlainInput) (part : Part) → AreEach SamePart before others → SameInput one other → IsPart scales base before one (Ok part)
      → (kept : Part) × IsPart scales base others other (Ok kept) × SamePart part kept
  part_kept before others one other part each same h =
      let f = went_on (Recovers one.plan scales one.doc) _ part h in
      let g = went_on (Shifts one.plan.name base f.gives) _ part f.onward in
      let is : part ≡ record { plan = one.plan; neq = g.gives } = let e = g.onward in cc in
      let kept : Part = record { plan = other.plan; neq = g.gives } in
      let given : Recovers other.plan scales other.doc (Ok f.gives) =
      subst (λ (doc : PlainDoc). Recovers other.plan scales doc (Ok f.gives)) same.doc (recovers_kept one.plan other.plan scales one.doc f.gives same.plan f.given) in (
        kept,
        then_gives (Recovers other.plan scales other.doc) _ f.gives (Ok kept) given (then_gives (Shifts other.plan.name base f.gives) _ g.gives (Ok kept) g.given refl),
        subst (λ (p : Part). SamePart p kept) (sym is) (record { plan = same.plan; neq = refl }),
      )

-- ---- stacks
group_stacks_each : (parts : List Part) (before : List PlainNeq) (groups : List Group) (stacks : List PlainNeq) → InTurn (IsGroupStack parts) before groups (Ok stacks)
    → (rest : List PlainNeq) × (stacks ≡ before ++ rest) × AreEach IsStackOf (map (members parts) groups) rest
group_stacks_each parts before [] stacks h = ([], (let same : stacks ≡ before = cc in same ∙ sym (append-nil before)), tt)
group_stacks_each parts before (group ∷ groups) stacks h =
    let f = went_on (IsGroupStack parts before group) (λ stack. InTurn (IsGroupStack parts) (before ++ stack ∷ []) groups) stacks h in
    let rest = group_stacks_each parts (before ++ f.gives ∷ []) groups stacks f.onward in
    (f.gives ∷ rest.0, rest.1 ∙ append_assoc before (f.gives ∷ []) rest.0, (f.given, rest.2))

each_group_stacks : (parts : List Part) (before : List PlainNeq) (groups : List Group) (rest : List PlainNeq) → AreEach IsStackOf (map (members parts) groups) rest
    → InTurn (IsGroupStack parts) before groups (Ok (before ++ rest))
each_group_stacks parts before [] [] each = ap Ok (append-nil before)
each_group_stacks parts before [] (stack ∷ rest) each = absurd each
each_group_stacks parts before (group ∷ groups) [] each = absurd each
each_group_stacks parts before (group ∷ groups) (stack ∷ rest) each =
    then_gives (IsGroupStack parts before group) (λ stack. InTurn (IsGroupStack parts) (before ++ stack ∷ []) groups) stack (Ok (before ++ stack ∷ rest)) each.0
    (subst (λ (all : List PlainNeq). InTurn (IsGroupStack parts) (before ++ stack ∷ []) groups (Ok all)) (append_assoc before (stack ∷ []) rest) (each_group_stacks parts (before ++ stack ∷ []) groups rest each.1))

-- the whole stack is the stack of all parts
pub whole_is_of_parts : (parts : List Part) (neq : PlainNeq) → StacksParts parts (Ok neq) → IsStackOf (neqs_of parts) neq
whole_is_of_parts parts neq h =
    let f = went_on (AreGroupStacks parts h.0) IsWholeStack neq h.2 in
    let each = group_stacks_each parts [] h.0 f.gives f.given in
    let all : IsStackOf (all_members parts h.0) neq = stacks_regroup (map (members parts) h.0) f.gives neq (subst (λ (stacks : List PlainNeq). AreEach IsStackOf (map (members parts) h.0) stacks) (sym each.1) each.2) f.onward in
    stacks_move (all_members parts h.0) (neqs_of parts) neq (IsPermutation-sym (neqs_of parts) (all_members parts h.0) (groups_part parts h.0 h.1)) all

-- a list of parts, put into groups, has the stack that it has as a whole
module _ (parts : List Part) (neq : PlainNeq) (sound : All IsSound (neqs_of parts)) (stack : IsStackOf (neqs_of parts) neq) where
  groups_stacked : (groups : List Group) → (stacks : List PlainNeq) × AreEach IsStackOf (map (members parts) groups) stacks
  groups_stacked [] = ([], tt)
  groups_stacked (group ∷ groups) =
      let first = some_have_stack (neqs_of parts) (members parts group) neq sound stack (members_among parts group) in
      let rest = groups_stacked groups in
      (first.0 ∷ rest.0, (first.1, rest.1))

  parts_stacked : StacksParts parts (Ok neq)
  parts_stacked =
      let found = groups_exist (plans_in parts) in
      let stacks = groups_stacked found.0 in
      let all : IsStackOf (all_members parts found.0) neq = stacks_move (neqs_of parts) (all_members parts found.0) neq (groups_part parts found.0 found.1) stack in
      let whole : IsStackOf stacks.0 neq = stacks_ungroup (map (members parts) found.0) stacks.0 neq stacks.1 all in
      (found.0, found.1, then_gives (AreGroupStacks parts found.0) IsWholeStack stacks.0 (Ok neq) (each_group_stacks parts [] found.0 stacks.0 stacks.1) whole)

-- ---- all steps
-- a combination by the parts of its control
abbrev CombinedBy : Bool → PlainControl → List ℕ → ScaleMap → Option PlainDatum → List PlainInput → Texts → Type 0
CombinedBy whole control reference scales datum inputs texts =
    Then (HaveCommon reference inputs) (λ base.
    Then (AreParts scales base inputs) (λ parts.
    Then (StacksParts parts) (λ free.
    Then (AddsDatum datum free) (λ neq.
    Then (Solves neq) (λ numbers.
    AreTexts whole control inputs free neq numbers))))) (Ok texts)

-- the names of the files and what they say
names_kept : (inputs others : List PlainInput) → AreEach SameInput inputs others → names_in inputs ≡ names_in others
names_kept inputs others each = maps_from_each SameInput (λ (input : PlainInput). input.plan.name) (λ (input : PlainInput). input.plan.name) (λ one other same. same_name one.plan other.plan same.plan) inputs others each

docs_kept : (inputs others : List PlainInput) → AreEach SameInput inputs others → docs_in inputs ≡ docs_in others
docs_kept inputs others each = maps_from_each SameInput (λ (input : PlainInput). input.doc) (λ (input : PlainInput). input.doc) (λ one other same. same.doc) inputs others each

-- the texts of the same inputs
module _ (control : PlainControl) (inputs others : List PlainInput) (each : AreEach SameInput inputs others) (free : PlainNeq) (numbers : Numbers) where
  out_kept : (out : List ℕ) → IsOut control inputs free numbers out → IsOut control others free numbers out
  out_kept out is = record {
    sites = is.sites;
    merged = subst (λ (docs : List PlainDoc). IsMerge docs is.sites) (docs_kept inputs others each) is.merged;
    tells = is.tells ∙ ap (λ (names : List (List ℕ)). combined_text control names is.sites free numbers.rows) (names_kept inputs others each);
  }

  out_if_kept : (whole : Bool) (out : List ℕ) → IsOutIf whole control inputs free numbers out → IsOutIf whole control others free numbers out
  out_if_kept false out is = is
  out_if_kept true out is = out_kept out is

  texts_kept : (whole : Bool) (neq : PlainNeq) (r : Result Texts Refusal) → AreTexts whole control inputs free neq numbers r → AreTexts whole control others free neq numbers r
  texts_kept whole neq (Ok texts) is = (out_if_kept whole texts.out is.0, is.1)
  texts_kept whole neq (Err refusal) is = absurd is

-- the texts of a control with the same header and the same datum
text_of_parts : (one other : PlainControl) → one.header ≡ other.header → one.datum ≡ other.datum
    → (names : List (List ℕ)) (sites : PlainSites) (free : PlainNeq) (rows : List Printed) → combined_text one names sites free rows ≡ combined_text other names sites free rows
text_of_parts one other header datum names sites free rows =
    ap (λ (h : PlainOutput). combined_text (record one { header = h }) names sites free rows) header
    ∙ ap (λ (d : Option PlainDatum). combined_text (record one { header = other.header; datum = d }) names sites free rows) datum

module _ (one other : PlainControl) (header : one.header ≡ other.header) (datum : one.datum ≡ other.datum) (inputs : List PlainInput) (free neq : PlainNeq) (numbers : Numbers) where
  out_told : (whole : Bool) (out : List ℕ) → IsOutIf whole one inputs free numbers out → IsOutIf whole other inputs free numbers out
  out_told false out is = is
  out_told true out is = record { sites = is.sites; merged = is.merged; tells = is.tells ∙ text_of_parts one other header datum (names_in inputs) is.sites free numbers.rows }

  texts_told : (whole : Bool) (r : Result Texts Refusal) → AreTexts whole one inputs free neq numbers r → AreTexts whole other inputs free neq numbers r
  texts_told whole (Ok texts) is = (out_told whole texts.out is.0, is.1)
  texts_told whole (Err refusal) is = absurd is

-- what follows the stack
module _ (whole : Bool) (one other : PlainControl) (header : one.header ≡ other.header) (same : one.datum ≡ other.datum) (datum : Option PlainDatum) (inputs others : List PlainInput)
    (each : AreEach SameInput inputs others) (free : PlainNeq) (texts : Texts) where
  stack_kept : Then (AddsDatum datum free) (λ neq. Then (Solves neq) (AreTexts whole one inputs free neq)) (Ok texts)
      → Then (AddsDatum datum free) (λ neq. Then (Solves neq) (AreTexts whole other others free neq)) (Ok texts)
  stack_kept h =
      let d = went_on (AddsDatum datum free) _ texts h in
      let e = went_on (Solves d.gives) _ texts d.onward in
      let told = texts_told one other header same others free d.gives e.gives whole (Ok texts) (texts_kept one inputs others each free e.gives whole d.gives (Ok texts) e.onward) in
      then_gives (AddsDatum datum free) _ d.gives (Ok texts) d.given (then_gives (Solves d.gives) _ e.gives (Ok texts) e.given told)

combined_kept : (whole : Bool) (one other : PlainControl) → one.header ≡ other.header → one.datum ≡ other.datum → (reference : List ℕ) (scales : ScaleMap) (datum : Option PlainDatum) (inputs others : List PlainInput) (texts : Texts)
    → AreEach SameInput inputs others → CombinedBy whole one reference scales datum inputs texts → CombinedBy whole other reference scales datum others texts
combined_kept whole one other header same_datum reference scales datum inputs others texts each h =
    let a = went_on (HaveCommon reference inputs) _ texts h in
    let b = went_on (AreParts scales a.gives inputs) _ texts a.onward in
    let c = went_on (StacksParts b.gives) _ texts b.onward in
    let parts = in_turn_alike (IsPart scales a.gives) (IsPart scales a.gives) SameInput SamePart (part_kept scales a.gives) [] [] inputs others b.gives tt each b.given in
    let same : neqs_of b.gives ≡ neqs_of parts.0 = maps_from_each SamePart (λ (p : Part). p.neq) (λ (p : Part). p.neq) (λ one other r. r.neq) b.gives parts.0 parts.2 in
    let stack : IsStackOf (neqs_of parts.0) c.gives = subst (λ (neqs : List PlainNeq). IsStackOf neqs c.gives) same (whole_is_of_parts b.gives c.gives c.given) in
    let sound = parts_sound (neqs_of parts.0) c.gives (parts_made scales a.gives others parts.0 parts.1) stack in
    then_gives (HaveCommon reference others) _ a.gives (Ok texts) (common_kept reference inputs others a.gives each a.given)
    (then_gives (AreParts scales a.gives others) _ parts.0 (Ok texts) parts.1 (then_gives (StacksParts parts.0) _ c.gives (Ok texts) (parts_stacked parts.0 c.gives sound stack) (stack_kept whole one other header same_datum datum inputs others each c.gives texts c.onward)))

pub alike_combine : AlikeCombine
alike_combine whole files one other texts alike h =
    let f = went_on (ReadsInputs one.files files) _ texts h in
    let read = inputs_alike files one other f.gives alike f.given in
    let kept = combined_kept whole one other alike.header alike.datum one.run.reference one.scales one.datum f.gives read.0 texts read.2 f.onward in
    let referred = subst (λ (reference : List ℕ). CombinedBy whole other reference one.scales one.datum read.0 texts) alike.reference kept in
    let scaled = subst (λ (scales : ScaleMap). CombinedBy whole other other.run.reference scales one.datum read.0 texts) alike.scales referred in
    then_gives (ReadsInputs other.files files) (IsCombined whole other) read.0 (Ok texts) read.1
    (subst (λ (datum : Option PlainDatum). CombinedBy whole other other.run.reference other.scales datum read.0 texts) alike.datum scaled)

-- ---- admitted together
unnamed : (test : PlainPlan → Bool) (plans : List PlainPlan) → find test plans ≡ None → AllByRecursion (λ plan. test plan ≡ false) plans
unnamed test [] none = tt
unnamed test (plan ∷ plans) none = by_test (test plan) refl none (unnamed test plans)
  where
    by_test : (passes : Bool) → test plan ≡ passes → cond passes (Some plan) (find test plans) ≡ None → (find test plans ≡ None → AllByRecursion (λ plan. test plan ≡ false) plans) → AllByRecursion (λ plan. test plan ≡ false) (plan ∷ plans)
    by_test true e none later = absurd (cc)
    by_test false e none later = (e, later none)

none_named : (test : PlainPlan → Bool) (plans : List PlainPlan) → AllByRecursion (λ plan. test plan ≡ false) plans → find test plans ≡ None
none_named test [] all = refl
none_named test (plan ∷ plans) all = rw all.0 (none_named test plans all.1)

over_ungrouped : (P : PlainPlan → Type 0) → ((plan : PlainPlan) → P plan → P (ungrouped plan)) → (plans : List PlainPlan) → AllByRecursion P plans → AllByRecursion P (map ungrouped plans)
over_ungrouped P on [] all = tt
over_ungrouped P on (plan ∷ plans) all = (on plan all.0, over_ungrouped P on plans all.1)

from_ungrouped : (P : PlainPlan → Type 0) → ((plan : PlainPlan) → P (ungrouped plan) → P plan) → (plans : List PlainPlan) → AllByRecursion P (map ungrouped plans) → AllByRecursion P plans
from_ungrouped P off [] all = tt
from_ungrouped P off (plan ∷ plans) all = (off plan all.0, from_ungrouped P off plans all.1)

apart_kept : (names : CombinedFiles) (one other : PlainControl) → AreAlike one other → apart names one ≡ Ok tt → apart names other ≡ Ok tt
apart_kept names one other alike kept =
    let none = not_found (find (is_named names) one.files) tt (sym kept) in
    let Unnamed = λ (plan : PlainPlan). is_named names plan ≡ false in
    let all = over_ungrouped Unnamed (λ plan e. e) one.files (unnamed (is_named names) one.files none) in
    let moved = recursion_from_All Unnamed (map ungrouped other.files)
    (All-permutation Unnamed (map ungrouped one.files) (map ungrouped other.files) alike.files (All-from_recursion Unnamed (map ungrouped one.files) all)) in
    ap apart_from (none_named (is_named names) other.files (from_ungrouped Unnamed (λ plan e. e) other.files moved))

built_kept : (names : CombinedFiles) (one other : PlainControl) → AreAlike one other → built names one ≡ Ok tt → built names other ≡ Ok tt
built_kept names one other alike h = subst (λ (reductions : List PlainReduction). built_of names.control reductions ≡ Ok tt) alike.reductions h

pub alike_admitted : AlikeAreAdmitted
alike_admitted names one other alike kept done = (apart_kept names one other alike kept, built_kept names one other alike done)
