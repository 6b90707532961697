-- A stack of all parts is the stack of the stacks of their groups.
use Rattle.std.proofs.Common.{◌≡◌, ◌∙◌, ◌++◌, ◌∷◌, ◌⊎◌, List, [], map, refl, ap, sym, inl, inr}
use Rattle.std.proofs.lemmas.List.{map-append}
use Rattle.std.specs.Prelude.{Contains, ◌↔◌}
use Rattle.std.specs.List.{Any, flat_map}
use Rattle.stated_order.specs.Lists.{AreEach}
use Rattle.whole_numbers.specs.Intervals.{Interval, interval_add}
use Rattle.neq_stack.specs.Neqs.{PlainNeq}
use Rattle.neq_stack.specs.ByName.{HasParameter, entry_in, right_in}
use Rattle.neq_stack.specs.Stacks.{IsStackOf, sum_of_intervals}
use Rattle.neq_stack.proofs.Laws.{sum_append}
use Rattle.combine_cli.proofs.EachLaws.{any_cases, any_here, any_later, any_none, any_alike, any_onward, maps_from_each}

abbrev all_of : {X : Type 0} → List (List X) → List X
all_of {X} groups = flat_map (λ (group : List X). group) groups

-- ---- some part of some group
any_append : {X : Type 0} (P : X → Type 0) (xs ys : List X) → Any P (xs ++ ys) → Any P xs ⊎ Any P ys
any_append P [] ys h = inr h
any_append P (x ∷ xs) ys h =
    elim (any_cases P x (xs ++ ys) h) [
      | inl here ↦ inl (any_here P x xs here)
      | inr later ↦ elim (any_append P xs ys later) [ inl a ↦ inl (any_later P x xs a) | inr b ↦ inr b ]
    ]

any_front : {X : Type 0} (P : X → Type 0) (xs ys : List X) → Any P xs → Any P (xs ++ ys)
any_front P [] ys h = absurd (any_none P h)
any_front P (x ∷ xs) ys h =
    elim (any_cases P x xs h) [ inl here ↦ any_here P x (xs ++ ys) here | inr later ↦ any_later P x (xs ++ ys) (any_front P xs ys later) ]

any_back : {X : Type 0} (P : X → Type 0) (xs ys : List X) → Any P ys → Any P (xs ++ ys)
any_back P [] ys h = h
any_back P (x ∷ xs) ys h = any_later P x (xs ++ ys) (any_back P xs ys h)

in_some_group : {X : Type 0} (P : X → Type 0) (groups : List (List X)) → Any P (all_of groups) → Any (Any P) groups
in_some_group P [] h = absurd (any_none P h)
in_some_group P (group ∷ groups) h =
    elim (any_append P group (all_of groups) h) [
      | inl here ↦ any_here (Any P) group groups here
      | inr later ↦ any_later (Any P) group groups (in_some_group P groups later)
    ]

among_all : {X : Type 0} (P : X → Type 0) (groups : List (List X)) → Any (Any P) groups → Any P (all_of groups)
among_all P [] h = absurd (any_none (Any P) h)
among_all P (group ∷ groups) h =
    elim (any_cases (Any P) group groups h) [
      | inl here ↦ any_front P group (all_of groups) here
      | inr later ↦ any_back P group (all_of groups) (among_all P groups later)
    ]

-- ---- sums of sums
sum_of_all : {X : Type 0} (f : X → Interval) (groups : List (List X)) → sum_of_intervals (map f (all_of groups)) ≡ sum_of_intervals (map (λ group. sum_of_intervals (map f group)) groups)
sum_of_all f [] = refl
sum_of_all f (group ∷ groups) =
    ap sum_of_intervals (map-append f group (all_of groups)) ∙ sum_append (map f group) (map f (all_of groups)) ∙ ap (interval_add (sum_of_intervals (map f group))) (sum_of_all f groups)

-- ---- stacks
module _ (groups : List (List PlainNeq)) (stacks : List PlainNeq) (neq : PlainNeq) (each : AreEach IsStackOf groups stacks) (whole : IsStackOf (all_of groups) neq) where
  -- what some part of a group has, its stack has, and the other way round
  some_stack : (P : PlainNeq → Type 0) → ((parts : List PlainNeq) (stack : PlainNeq) → IsStackOf parts stack → P stack ↔ Any P parts) → Any P (all_of groups) ↔ Any P stacks
  some_stack P same = (
    λ h. any_onward IsStackOf (Any P) P (λ parts stack is. (same parts stack is).1) groups stacks each (in_some_group P groups h),
    λ h. among_all P groups (any_alike IsStackOf (Any P) P (λ parts stack is. (same parts stack is).0) groups stacks each h),
  )

  sums : (f : PlainNeq → Interval) → ((parts : List PlainNeq) (stack : PlainNeq) → IsStackOf parts stack → f stack ≡ sum_of_intervals (map f parts))
      → sum_of_intervals (map f (all_of groups)) ≡ sum_of_intervals (map f stacks)
  sums f is = sum_of_all f groups ∙ ap sum_of_intervals (maps_from_each IsStackOf (λ group. sum_of_intervals (map f group)) f (λ parts stack s. sym (is parts stack s)) groups stacks each)

  pub stacks_ungroup : IsStackOf stacks neq
  stacks_ungroup = record {
    sound = whole.sound;
    names = record {
      rising = whole.names.rising;
      same = λ id.
          let both = some_stack (λ part. Contains part.names id) (λ parts stack is. is.names.same id) in
          (λ h. both.0 ((whole.names.same id).0 h), λ h. (whole.names.same id).1 (both.1 h));
    };
    parameters = λ id parameter.
        let both = some_stack (λ part. HasParameter part id parameter) (λ parts stack is. is.parameters id parameter) in
        (λ h. both.0 ((whole.parameters id parameter).0 h), λ h. (whole.parameters id parameter).1 (both.1 h));
    entries = λ one other. whole.entries one other ∙ sums (λ part. entry_in part one other) (λ parts stack is. is.entries one other);
    rights = λ id. whole.rights id ∙ sums (λ part. right_in part id) (λ parts stack is. is.rights id);
  }
