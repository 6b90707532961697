-- From files that were read to the texts of their combination, as steps in their order: one a priori value and one unit for each
-- name, the normal equations of each file brought to these values, the stacks of the groups, the whole stack, the rows of the datum, the
-- rules, the texts.
use Rattle.std.specs.Prelude.{◌≡◌, ◌↔◌, ◌++◌, ℕ, Bool, true, false, ◌&&◌, ◌==◌, List, [], ◌∷◌, map, Option, Some, None, Result, Ok, Err, Contains}
use Rattle.std.specs.List.{Any, filter, flat_map}
use Rattle.std.specs.List.Sorted.{IsStrictlySortedBy}
use Rattle.std.specs.Ordering.{nat_cmp, ordering_then}
use Rattle.std.specs.Cmp.Lexicographic.{slice_cmp}
use Rattle.std.specs.Str.{bytes_eq}
use Rattle.std.specs.declared.cmp.Ordering.{Ordering}
use Rattle.stated_order.specs.Steps.{Then, Renamed, InTurn}
use Rattle.param_ids.specs.Tables.{ScaleMap}
use Rattle.snx_rows.specs.Named.{value_of}
use Rattle.snx_rows.specs.declared.rows.Row.{Row}
use Rattle.snx_blocks.specs.Documents.{PlainDoc}
use Rattle.control_doc.specs.Plain.{PlainPlan, PlainDatum, PlainControl}
use Rattle.neq_stack.specs.Neqs.{PlainNeq}
use Rattle.neq_stack.specs.Stacks.{IsStacked}
use Rattle.file_recovery.specs.Recovery.{IsRecovered}
use Rattle.apriori_shift.specs.Common.{IsCommon}
use Rattle.apriori_shift.specs.Shifts.{IsShift}
use Rattle.datum_rows.specs.Additions.{IsAddition}
use Rattle.stack_rules.specs.Rules.{Numbers, IsAnswer}
use Rattle.stack_rules.specs.Stacks.{Stack, stack_of}
use Rattle.bounds_text.specs.Report.{numbers_report}
use Rattle.site_merge.specs.Merged.{PlainSites, IsMerge}
use Rattle.snx_write.specs.Combined.{combined_text}
use Rattle.refusal_lines.specs.declared.refusal.Scope.TheVariants as places
use Rattle.refusal_lines.specs.declared.refusal.Refusal.{Refusal}
use Rattle.refusal_lines.specs.declared.refusal.Refusal.TheVariants.{UnitClash, TooMany}
use Rattle.run_inputs.specs.Inputs.{PlainInput}
use Rattle.combine_cli.specs.Causes.{refusal_of_recovery, refusal_of_shift, refusal_of_datum, refusal_of_rules}

-- ---- common a priori values and units
-- the rows of a document's a priori values
abbrev pub apriori_rows : Option (List Row) → List Row
apriori_rows None = []
apriori_rows (Some rows) = rows

-- The a priori rows of all files: those of the reference file first, then those of the files in the order of their names. The first row
-- of a name is the one that counts.
abbrev pub is_reference : List ℕ → PlainInput → Bool
is_reference reference input = bytes_eq input.plan.name reference

abbrev pub counted_rows : List ℕ → List PlainInput → List Row
counted_rows reference inputs = flat_map (λ (input : PlainInput). apriori_rows input.doc.apriori) (filter (is_reference reference) inputs ++ inputs)

-- these rows, by which each name has a common value, or the refusal of the least name with two units
abbrev pub HaveCommon : List ℕ → List PlainInput → Result (List Row) Refusal → Type 0
HaveCommon reference inputs = Renamed UnitClash (IsCommon (counted_rows reference inputs))

-- ---- the normal equations of each file
-- the normal equations of a file by its plan, or why it has none
abbrev pub Recovers : PlainPlan → ScaleMap → PlainDoc → Result PlainNeq Refusal → Type 0
Recovers plan scales doc = Renamed (refusal_of_recovery plan.name) (IsRecovered plan doc scales)

-- normal equations of a file at the common values, or why they are not brought there
abbrev pub Shifts : List ℕ → List Row → PlainNeq → Result PlainNeq Refusal → Type 0
Shifts name base neq = Renamed (refusal_of_shift name neq.names) (IsShift (map (value_of base) neq.names) neq)

-- a part of the combination: a file and its normal equations at the common values
pub record Part : Type 0 where
  pub plan : PlainPlan
  pub neq : PlainNeq

abbrev pub IsPart : ScaleMap → List Row → List Part → PlainInput → Result Part Refusal → Type 0
IsPart scales base before input =
    Then (Recovers input.plan scales input.doc) (λ recovered.
    Then (Shifts input.plan.name base recovered) (λ neq r.
    r ≡ Ok (record { plan = input.plan; neq = neq })))

abbrev pub AreParts : ScaleMap → List Row → List PlainInput → Result (List Part) Refusal → Type 0
AreParts scales base inputs = InTurn (IsPart scales base) [] inputs

-- ---- groups
-- a group of files, by its name; or a file without a group, which is one of its own under the file's name
pub record Group : Type 0 where
  pub name : List ℕ
  pub alone : Bool

abbrev pub group_of : PlainPlan → Group
group_of plan = in_group plan.group
  where
    in_group : List ℕ → Group
    in_group [] = record { name = plan.name; alone = true }
    in_group (byte ∷ rest) = record { name = byte ∷ rest; alone = false }

-- groups go by the bytes of their names, and a file of its own after a group of the same name
abbrev pub place_of : Bool → ℕ
place_of false = 0
place_of true = 1

abbrev pub group_cmp : Group → Group → Ordering
group_cmp one other = ordering_then (slice_cmp nat_cmp one.name other.name) (nat_cmp (place_of one.alone) (place_of other.alone))

-- the groups of some files in their order, each once
pub record AreGroups (plans : List PlainPlan) (groups : List Group) : Type 0 where
  pub rising : IsStrictlySortedBy group_cmp groups
  pub same : (group : Group) → Contains groups group ↔ Any (λ plan. group_of plan ≡ group) plans

-- the normal equations of a group's files, in the order of the files' names
abbrev pub is_in_group : Group → Part → Bool
is_in_group group part = bytes_eq (group_of part.plan).name group.name && (place_of (group_of part.plan).alone == place_of group.alone)

abbrev pub members : List Part → Group → List PlainNeq
members parts group = map (λ (part : Part). part.neq) (filter (is_in_group group) parts)

-- ---- stacks
-- the stack of a group, where its files have at most 1,000 names together
abbrev pub IsGroupStack : List Part → List PlainNeq → Group → Result PlainNeq Refusal → Type 0
IsGroupStack parts before group = Renamed (λ count. TooMany (places.Group group.name) count) (IsStacked (members parts group))

abbrev pub AreGroupStacks : List Part → List Group → Result (List PlainNeq) Refusal → Type 0
AreGroupStacks parts groups = InTurn (IsGroupStack parts) [] groups

-- the stack of all groups, where these have at most 1,000 names together
abbrev pub IsWholeStack : List PlainNeq → Result PlainNeq Refusal → Type 0
IsWholeStack stacks = Renamed (λ count. TooMany places.Stack count) (IsStacked stacks)

-- the stack of all parts: first that of each group, and then that of the groups
abbrev pub StacksParts : List Part → Result PlainNeq Refusal → Type 0
StacksParts parts result =
    (groups : List Group) × AreGroups (map (λ (part : Part). part.plan) parts) groups × Then (AreGroupStacks parts groups) IsWholeStack result

-- ---- the datum
-- the stack with the rows of the datum, if there is one, or why they are not added
abbrev pub AddsDatum : Option PlainDatum → PlainNeq → Result PlainNeq Refusal → Type 0
AddsDatum None free result = result ≡ Ok free
AddsDatum (Some datum) free result = Renamed (refusal_of_datum free.names) (IsAddition datum free) result

-- ---- the rules
-- the numbers of the stack
abbrev pub stack_in : PlainNeq → Stack
stack_in neq = stack_of neq.table neq.right neq.apriori neq.scales

-- the numbers of the rules, or the refusal for their cause
abbrev pub Solves : PlainNeq → Result Numbers Refusal → Type 0
Solves neq = Renamed (refusal_of_rules neq.names) (IsAnswer (stack_in neq))

-- ---- the texts
-- The texts of a combination: the combined file, which is empty where it isn't asked for, and the report of bounds.
pub record Texts : Type 0 where
  pub out : List ℕ
  pub report : List ℕ

-- the combined file tells the control's header, the names of the files in order, their sites and moments, the stack without the rows of the
-- datum, and the numbers
pub record IsOut (control : PlainControl) (inputs : List PlainInput) (free : PlainNeq) (numbers : Numbers) (out : List ℕ) : Type 0 where
  pub sites : PlainSites
  pub merged : IsMerge (map (λ (input : PlainInput). input.doc) inputs) sites
  pub tells : out ≡ combined_text control (map (λ (input : PlainInput). input.plan.name) inputs) sites free numbers.rows

abbrev pub IsOutIf : Bool → PlainControl → List PlainInput → PlainNeq → Numbers → List ℕ → Type 0
IsOutIf false control inputs free numbers out = out ≡ []
IsOutIf true control inputs free numbers out = IsOut control inputs free numbers out

-- the texts of the stack without and with the rows of the datum
abbrev pub AreTexts : Bool → PlainControl → List PlainInput → PlainNeq → PlainNeq → Numbers → Result Texts Refusal → Type 0
AreTexts whole control inputs free neq numbers (Ok texts) =
    IsOutIf whole control inputs free numbers texts.out × (texts.report ≡ numbers_report neq.names neq.units numbers)
AreTexts whole control inputs free neq numbers (Err refusal) = ⊥

-- ---- all steps, in their order: the texts, with the combined file or without it, or the first refusal
abbrev pub IsCombined : Bool → PlainControl → List PlainInput → Result Texts Refusal → Type 0
IsCombined whole control inputs =
    Then (HaveCommon control.run.reference inputs) (λ base.
    Then (AreParts control.scales base inputs) (λ parts.
    Then (StacksParts parts) (λ free.
    Then (AddsDatum control.datum free) (λ neq.
    Then (Solves neq) (λ numbers.
    AreTexts whole control inputs free neq numbers)))))
