-- The groups of some files part them: each file is in one group.
use Rattle.std.proofs.Common.{◌≡◌, ◌≢◌, ◌∙◌, ◌++◌, ◌∷◌, ◌⊎◌, ◌&&◌, ◌==◌, zero, suc, List, [], map, Bool, true, false, not, cond, refl, ap, sym, subst, inl, inr, arith}
use Rattle.std.proofs.Math.ListN.{get_or-map}
use Rattle.std.proofs.lemmas.List.{length-map, map-append}
use Rattle.std.specs.Prelude.{Contains, All, ◌↔◌}
use Rattle.std.specs.List.{Any, filter, flat_map, AllByRecursion}
use Rattle.std.specs.List.Sorted.{IsPermutation, IsStrictlySortedBy}
use Rattle.std.specs.Str.{bytes_eq}
use Rattle.std.specs.declared.cmp.Ordering.{Ordering}
use Rattle.std.specs.declared.cmp.Ordering.TheVariants.{Less, Equal, Greater}
use Rattle.std.proofs.lemmas.Slice.Eq.{bytes_eq-Decides}
use Rattle.std.proofs.lemmas.Cmp.{tied_itself}
use Rattle.std.specs.Ordering.{ordering_reverse}
use Rattle.std.proofs.lemmas.List.Elements.{All-from_recursion, recursion_from_All, All-map, All-filter, All-contains, All-contains_itself, All-weaker}
use Rattle.std.proofs.lemmas.List.Sorted.{IsPermutation-refl, IsPermutation-trans, IsPermutation-map, IsPermutation-append_right, IsPermutation-filter_both}
use Rattle.control_doc.specs.Plain.{PlainPlan}
use Rattle.neq_stack.specs.Neqs.{PlainNeq}
use Rattle.combine_cli.specs.Combination.{Part, Group, group_of, place_of, group_cmp, AreGroups, is_in_group, members}
use Rattle.combine_cli.specs.Parts.{neqs_of}
use Rattle.combine_cli.proofs.EachLaws.{any_cases, any_here, any_later, any_none, any_map}
use Rattle.combine_cli.proofs.OneCombination.{group_total, group_exact}

-- ---- in a group
place_same : (a b : Bool) → (place_of a == place_of b) ≡ true → a ≡ b
place_same true true e = refl
place_same false false e = refl
place_same true false e = absurd (cc)
place_same false true e = absurd (cc)

place_itself : (a : Bool) → (place_of a == place_of a) ≡ true
place_itself true = refl
place_itself false = refl

both_true : (a b : Bool) → (a && b) ≡ true → (a ≡ true) × (b ≡ true)
both_true true b e = (refl, e)
both_true false b e = absurd (cc)

-- a part passes the test of a group exactly where it is in it
pub in_group : (group : Group) (part : Part) → is_in_group group part ≡ true → group_of part.plan ≡ group
in_group group part e =
    let own = group_of part.plan in
    let both = both_true (bytes_eq own.name group.name) (place_of own.alone == place_of group.alone) e in
    let name = (bytes_eq-Decides own.name group.name).0 both.0 in
    let alone = place_same own.alone group.alone both.1 in
    λ i. record { name = name i; alone = alone i }

pub has_group : (part : Part) → is_in_group (group_of part.plan) part ≡ true
has_group part =
    let own = group_of part.plan in
    let name = (bytes_eq-Decides own.name own.name).1 refl in
    let alone = place_itself own.alone in
    rw (name, alone) refl

-- ---- the parts of the groups are all parts
abbrev InSome : List Group → Part → Type 0
InSome groups part = Any (λ (group : Group). group_of part.plan ≡ group) groups

abbrev of_groups : List Part → List Group → List Part
of_groups parts groups = flat_map (λ group. filter (is_in_group group) parts) groups

-- a part of another group is not among those of this one
other_members : (group other : Group) (parts : List Part) → other ≢ group → filter (is_in_group other) (filter (λ part. not (is_in_group group part)) parts) ≡ filter (is_in_group other) parts
other_members group other [] differs = refl
other_members group other (part ∷ parts) differs = by_tests (is_in_group group part) (is_in_group other part) refl refl (other_members group other parts differs)
  where
    by_tests : (this that : Bool) → is_in_group group part ≡ this → is_in_group other part ≡ that
        → filter (is_in_group other) (filter (λ part. not (is_in_group group part)) parts) ≡ filter (is_in_group other) parts
        → filter (is_in_group other) (cond (not this) (part ∷ filter (λ part. not (is_in_group group part)) parts) (filter (λ part. not (is_in_group group part)) parts)) ≡ cond that (part ∷ filter (is_in_group other) parts) (filter (is_in_group other) parts)
    by_tests true true a b rest = absurd (differs (sym (in_group other part b) ∙ in_group group part a))
    by_tests true false a b rest = rest
    by_tests false true a b rest = rw b (ap (λ l. part ∷ l) rest)
    by_tests false false a b rest = rw b rest

differs_above : (group other : Group) → group_cmp group other ≡ Less → other ≢ group
differs_above group other below same =
    let equal : group_cmp group other ≡ Equal = ap (group_cmp group) same ∙ tied_itself group_total group in
    let e : Less ≡ Equal = sym below ∙ equal in
    cc

others_of : (group : Group) (parts : List Part) (groups : List Group) → AllByRecursion (λ other. group_cmp group other ≡ Less) groups
    → of_groups (filter (λ part. not (is_in_group group part)) parts) groups ≡ of_groups parts groups
others_of group parts [] below = refl
others_of group parts (other ∷ groups) below =
    let head = other_members group other parts (differs_above group other below.0) in
    let tail = others_of group parts groups below.1 in
    λ i. head i ++ tail i

-- a part that is not in the first group is in one of the others
still_in : (group : Group) (groups : List Group) (part : Part) → is_in_group group part ≡ false → InSome (group ∷ groups) part → InSome groups part
still_in group groups part out some =
    elim (any_cases (λ (g : Group). group_of part.plan ≡ g) group groups some) [
      | inl here ↦ let e : true ≡ false = sym (has_group part) ∙ ap (λ (g : Group). is_in_group g part) here ∙ out in absurd (cc)
      | inr later ↦ later
    ]

others_in : (group : Group) (groups : List Group) (parts : List Part) → AllByRecursion (InSome (group ∷ groups)) parts
    → AllByRecursion (InSome groups) (filter (λ part. not (is_in_group group part)) parts)
others_in group groups [] all = tt
others_in group groups (part ∷ parts) all = by_test (is_in_group group part) refl (others_in group groups parts all.1)
  where
    by_test : (test : Bool) → is_in_group group part ≡ test → AllByRecursion (InSome groups) (filter (λ part. not (is_in_group group part)) parts)
        → AllByRecursion (InSome groups) (cond (not test) (part ∷ filter (λ part. not (is_in_group group part)) parts) (filter (λ part. not (is_in_group group part)) parts))
    by_test true e rest = rest
    by_test false e rest = (still_in group groups part e all.0, rest)

parted : (groups : List Group) (parts : List Part) → IsStrictlySortedBy group_cmp groups → AllByRecursion (InSome groups) parts → IsPermutation parts (of_groups parts groups)
unfolding IsStrictlySortedBy
parted [] [] rising all = IsPermutation-refl []
parted [] (part ∷ parts) rising all = absurd (any_none (λ (group : Group). group_of part.plan ≡ group) all.0)
parted (group ∷ groups) parts rising all =
    let mine = filter (is_in_group group) parts in
    let rest = filter (λ part. not (is_in_group group part)) parts in
    let later = subst (IsPermutation rest) (others_of group parts groups rising.0) (parted groups rest rising.1 (others_in group groups parts all)) in
    IsPermutation-trans parts (mine ++ rest) (mine ++ of_groups parts groups) (IsPermutation-filter_both (is_in_group group) (λ part. not (is_in_group group part)) (λ part. refl) parts)
    (IsPermutation-append_right mine rest (of_groups parts groups) later)

-- ---- the normal equations of the groups' members are those of all parts
abbrev pub plans_in : List Part → List PlainPlan
plans_in parts = map (λ (part : Part). part.plan) parts

-- a list of parts holds the members of a group
contains_neq : (parts : List Part) (part : Part) → Contains parts part → Contains (neqs_of parts) part.neq
contains_neq parts part there =
    (there.0, rw (length-map parts (λ (p : Part). p.neq)) there.1, get_or-map (λ (p : Part). p.neq) parts there.0 part ∙ ap (λ (p : Part). p.neq) there.2)

pub members_among : (parts : List Part) (group : Group) → All (Contains (neqs_of parts)) (members parts group)
members_among parts group =
    All-map (Contains (neqs_of parts)) (λ (part : Part). part.neq) (filter (is_in_group group) parts)
    (All-filter (is_in_group group) (λ (part : Part). Contains (neqs_of parts) part.neq) parts
    (All-weaker (Contains parts) (λ (part : Part). Contains (neqs_of parts) part.neq) (contains_neq parts) parts (All-contains_itself parts)))

abbrev pub all_members : List Part → List Group → List PlainNeq
all_members parts groups = flat_map (λ (group : List PlainNeq). group) (map (members parts) groups)

members_of_groups : (parts : List Part) (groups : List Group) → neqs_of (of_groups parts groups) ≡ all_members parts groups
members_of_groups parts [] = refl
members_of_groups parts (group ∷ groups) =
    map-append (λ (part : Part). part.neq) (filter (is_in_group group) parts) (of_groups parts groups) ∙ ap (λ l. members parts group ++ l) (members_of_groups parts groups)

all_grouped : (parts : List Part) (groups : List Group) → AreGroups (plans_in parts) groups → All (InSome groups) parts
all_grouped parts groups are =
    All-weaker (Contains parts) (InSome groups) (λ part there.
    let plan = any_map (λ (part : Part). part.plan) (λ plan. group_of plan ≡ group_of part.plan) parts (there.0, part, there.1, there.2, refl) in
    let has = (are.same (group_of part.plan)).1 plan in
    (has.0, group_of part.plan, has.1, has.2, refl)) parts (All-contains_itself parts)

pub groups_part : (parts : List Part) (groups : List Group) → AreGroups (plans_in parts) groups → IsPermutation (neqs_of parts) (all_members parts groups)
groups_part parts groups are =
    subst (IsPermutation (neqs_of parts)) (members_of_groups parts groups)
    (IsPermutation-map (λ (part : Part). part.neq) parts (of_groups parts groups) (parted groups parts are.rising (recursion_from_All (InSome groups) parts (all_grouped parts groups are))))

-- ---- some files have groups
-- a list has one more member
abbrev HasAlso : Group → List Group → List Group → Type 0
HasAlso group groups more = (other : Group) → Contains more other ↔ ((group ≡ other) ⊎ Contains groups other)

contains_cases : (first : Group) (groups : List Group) (other : Group) → Contains (first ∷ groups) other → (first ≡ other) ⊎ Contains groups other
contains_cases first groups other (zero, lt, e) = inl e
contains_cases first groups other (suc k, lt, e) = inr (k, omega arith, e)

contains_here : (first : Group) (groups : List Group) (other : Group) → first ≡ other → Contains (first ∷ groups) other
contains_here first groups other e = (0, omega arith, e)

contains_later : (first : Group) (groups : List Group) (other : Group) → Contains groups other → Contains (first ∷ groups) other
contains_later first groups other (k, lt, e) = (suc k, omega arith, e)

contains_none : (other : Group) → Contains [] other → ⊥
contains_none other (k, lt, e) = absurd (omega arith)

also_first : (group : Group) (groups : List Group) → HasAlso group groups (group ∷ groups)
also_first group groups other = (
  contains_cases group groups other,
  λ either. elim either [ inl same ↦ contains_here group groups other same | inr later ↦ contains_later group groups other later ],
)

also_same : (group first : Group) (groups : List Group) → group ≡ first → HasAlso group (first ∷ groups) (first ∷ groups)
also_same group first groups same other = (
  λ there. inr there,
  λ either. elim either [ inl e ↦ contains_here first groups other (sym same ∙ e) | inr there ↦ there ],
)

also_later : (group first : Group) (groups more : List Group) → HasAlso group groups more → HasAlso group (first ∷ groups) (first ∷ more)
also_later group first groups more has other = (
  λ there.
      elim (contains_cases first more other there) [
        | inl e ↦ inr (contains_here first groups other e)
        | inr later ↦ elim ((has other).0 later) [ inl same ↦ inl same | inr old ↦ inr (contains_later first groups other old) ]
      ],
  λ either.
      elim either [
        | inl same ↦ contains_later first more other ((has other).1 (inl same))
        | inr there ↦
            elim (contains_cases first groups other there) [
              | inl e ↦ contains_here first more other e
              | inr old ↦ contains_later first more other ((has other).1 (inr old))
            ]
      ],
)

abbrev StandsBelow : Group → Group → Type 0
StandsBelow group other = group_cmp group other ≡ Less

below_all : (group first : Group) (groups : List Group) → StandsBelow group first → AllByRecursion (StandsBelow first) groups → AllByRecursion (StandsBelow group) groups
below_all group first [] below all = tt
below_all group first (other ∷ groups) below all = (group_total.trans group first other below all.0, below_all group first groups below all.1)

below_more : (first group : Group) (groups more : List Group) → HasAlso group groups more → StandsBelow first group → AllByRecursion (StandsBelow first) groups → AllByRecursion (StandsBelow first) more
below_more first group groups more has below all =
    recursion_from_All (StandsBelow first) more
    (All-weaker (Contains more) (StandsBelow first) (λ other there.
    elim ((has other).0 there) [
      | inl same ↦ subst (StandsBelow first) same below
      | inr old ↦ All-contains (StandsBelow first) groups other (All-from_recursion (StandsBelow first) groups all) old
    ]) more (All-contains_itself more))

abbrev Inserted : Group → List Group → Type 0
Inserted group groups = (more : List Group) × IsStrictlySortedBy group_cmp more × HasAlso group groups more

one_alone : (group : Group) → Inserted group []
unfolding IsStrictlySortedBy
one_alone group = (group ∷ [], (tt, tt), also_first group [])

put_first : (group first : Group) (groups : List Group) → StandsBelow group first → IsStrictlySortedBy group_cmp (first ∷ groups) → Inserted group (first ∷ groups)
unfolding IsStrictlySortedBy
put_first group first groups below rising = (group ∷ first ∷ groups, ((below, below_all group first groups below rising.0), rising), also_first group (first ∷ groups))

put_later : (group first : Group) (groups : List Group) → StandsBelow first group → IsStrictlySortedBy group_cmp (first ∷ groups) → Inserted group groups → Inserted group (first ∷ groups)
unfolding IsStrictlySortedBy
put_later group first groups below rising rest =
    (first ∷ rest.0, (below_more first group groups rest.0 rest.2 below rising.0, rest.1), also_later group first groups rest.0 rest.2)

rising_rest : (first : Group) (groups : List Group) → IsStrictlySortedBy group_cmp (first ∷ groups) → IsStrictlySortedBy group_cmp groups
unfolding IsStrictlySortedBy
rising_rest first groups rising = rising.1

inserted : (group : Group) (groups : List Group) → IsStrictlySortedBy group_cmp groups → Inserted group groups
inserted group [] rising = one_alone group
inserted group (first ∷ groups) rising = by_order (group_cmp group first) refl (inserted group groups (rising_rest first groups rising))
  where
    by_order : (order : Ordering) → group_cmp group first ≡ order → Inserted group groups → Inserted group (first ∷ groups)
    by_order Less e rest = put_first group first groups e rising
    by_order Equal e rest = (first ∷ groups, rising, also_same group first groups (group_exact group first e))
    by_order Greater e rest = put_later group first groups (group_total.antisymm first group ∙ ap ordering_reverse e) rising rest

no_groups : AreGroups [] []
unfolding IsStrictlySortedBy
no_groups = record { rising = tt; same = λ group. (λ there. absurd (contains_none group there), λ some. absurd (any_none (λ plan. group_of plan ≡ group) some)) }

pub groups_exist : (plans : List PlainPlan) → (groups : List Group) × AreGroups plans groups
groups_exist [] = ([], no_groups)
groups_exist (plan ∷ plans) =
    let rest = groups_exist plans in
    let more = inserted (group_of plan) rest.0 rest.1.rising in (
      more.0,
      record {
        rising = more.1;
        same = λ group. (
          λ there.
              elim ((more.2 group).0 there) [
                | inl same ↦ any_here (λ plan. group_of plan ≡ group) plan plans same
                | inr old ↦ any_later (λ plan. group_of plan ≡ group) plan plans ((rest.1.same group).0 old)
              ],
          λ some.
              elim (any_cases (λ plan. group_of plan ≡ group) plan plans some) [
                | inl same ↦ (more.2 group).1 (inl same)
                | inr old ↦ (more.2 group).1 (inr ((rest.1.same group).1 old))
              ],
        );
      },
    )
