-- Where there are many groups none of them has many files.
use Rattle.std.proofs.Common.{◌≡◌, ◌∙◌, ◌∷◌, ◌+◌, ◌≤◌, suc, ℕ, List, [], length, map, Bool, true, false, cond, inl, inr, refl, ap, sym, subst, arith}
use Rattle.std.specs.Prelude.{Contains, All}
use Rattle.std.specs.List.{Any, filter, flat_map}
use Rattle.std.proofs.Math.ListN.{get_or-map}
use Rattle.std.proofs.lemmas.List.{length-append, length-map}
use Rattle.std.proofs.lemmas.List.Elements.{All-nil, All-cons, All-head, All-tail, All-map, All-weaker, All-contains_itself}
use Rattle.std.proofs.lemmas.List.Sorted.{length_permutation}
use Rattle.control_doc.specs.Plain.{PlainPlan}
use Rattle.neq_stack.specs.Neqs.{PlainNeq}
use Rattle.combine_cli.specs.Combination.{Part, Group, group_of, AreGroups, is_in_group, members}
use Rattle.combine_cli.specs.Parts.{neqs_of}
use Rattle.combine_cli.proofs.EachLaws.{any_cases, any_none}
use Rattle.combine_cli.proofs.GroupLaws.{has_group, plans_in, all_members, groups_part}

-- ---- lists that have a member each, one behind the other
abbrev joined : List (List PlainNeq) → List PlainNeq
joined lists = flat_map (λ (list : List PlainNeq). list) lists

abbrev HasSome : List PlainNeq → Type 0
HasSome list = 1 ≤ length list

as_many_at_least : (lists : List (List PlainNeq)) → All HasSome lists → length lists ≤ length (joined lists)
as_many_at_least [] some = omega arith
as_many_at_least (list ∷ lists) some =
    let whole : length (joined (list ∷ lists)) ≡ length list + length (joined lists) = length-append list (joined lists) in
    omega (arith, whole, All-head HasSome list lists some, as_many_at_least lists (All-tail HasSome list lists some))

-- one of them has no more than the others leave
abbrev LeavesOthers : List (List PlainNeq) → List PlainNeq → Type 0
LeavesOthers lists list = length list + length lists ≤ length (joined lists) + 1

each_leaves_others : (lists : List (List PlainNeq)) → All HasSome lists → All (LeavesOthers lists) lists
each_leaves_others [] some = All-nil (LeavesOthers [])
each_leaves_others (list ∷ lists) some =
    let whole : length (joined (list ∷ lists)) ≡ length list + length (joined lists) = length-append list (joined lists) in
    let here : 1 ≤ length list = All-head HasSome list lists some in
    let later = All-tail HasSome list lists some in
    let many = as_many_at_least lists later in
    All-cons (LeavesOthers (list ∷ lists)) list lists (omega (arith, whole, many))
    (All-weaker (LeavesOthers lists) (LeavesOthers (list ∷ lists)) (λ other leaves. omega (arith, whole, here, leaves)) lists (each_leaves_others lists later))

-- ---- the members of groups
more_or_same : (test : Bool) (part : Part) (parts : List Part) → 1 ≤ length (neqs_of parts) → 1 ≤ length (neqs_of (cond test (part ∷ parts) parts))
more_or_same true part parts some = omega arith
more_or_same false part parts some = some

some_member : (parts : List Part) (group : Group) → Any (λ plan. group_of plan ≡ group) (plans_in parts) → 1 ≤ length (members parts group)
some_member [] group some = absurd (any_none (λ (plan : PlainPlan). group_of plan ≡ group) some)
some_member (part ∷ parts) group some =
    let rest = filter (is_in_group group) parts in
    elim (any_cases (λ (plan : PlainPlan). group_of plan ≡ group) part.plan (plans_in parts) some) [
      | inl here ↦
          let passes : is_in_group group part ≡ true = subst (λ (g : Group). is_in_group g part ≡ true) here (has_group part) in
          subst (λ test. 1 ≤ length (neqs_of (cond test (part ∷ rest) rest))) (sym passes) (omega arith)
      | inr later ↦ more_or_same (is_in_group group part) part rest (some_member parts group later)
    ]

pub group_shares : (parts : List Part) (groups : List Group) → AreGroups (plans_in parts) groups → All (λ group. length (members parts group) + length groups ≤ length parts + 1) groups
group_shares parts groups are k d lt =
    let lists = map (members parts) groups in
    let some : All HasSome lists =
    All-map HasSome (members parts) groups
    (All-weaker (Contains groups) (λ group. HasSome (members parts group)) (λ group there. some_member parts group ((are.same group).0 there)) groups (All-contains_itself groups)) in
    let many = length-map groups (members parts) in
    let here = each_leaves_others lists some k (members parts d) (omega (arith, many)) in
    let at = ap length (get_or-map (members parts) groups k d) in
    let whole = length_permutation (neqs_of parts) (all_members parts groups) (groups_part parts groups are) in
    omega (arith, here, at, whole, many, length-map parts (λ (part : Part). part.neq))
