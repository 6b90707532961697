-- Stacks of stacks.
use Rattle.std.proofs.Common.{◌≡◌, ◌∙◌, inl, inr, List, [], ◌∷◌, Contains, map, refl, sym, ap}
use Rattle.std.specs.Prelude.{◌↔◌}
use Rattle.std.specs.List.{Any, flat_map}
use Rattle.std.proofs.lemmas.List.{map-append}
use Rattle.whole_numbers.specs.Intervals.{Interval, interval_add}
use Rattle.stated_order.specs.Lists.{AreEach}
use Rattle.param_ids.specs.Plain.{PlainId}
use Rattle.neq_stack.specs.Neqs.{PlainNeq, IsSound}
use Rattle.neq_stack.specs.ByName.{HasParameter, entry_in, right_in}
use Rattle.neq_stack.specs.Stacks.{AreNamesOf, IsStackOf, StacksRegroup, sum_of_intervals}
use Rattle.neq_stack.proofs.AnyLaws.{any_here, any_there, any_none, any_cases, any_left, any_right, any_either}
use Rattle.neq_stack.proofs.SumLaws.{sum_append, sum_one}

-- all parts of groups
abbrev pub joined_groups : List (List PlainNeq) → List PlainNeq
joined_groups groups = flat_map (λ group. group) groups

pub each_weaker : {A B : Type 0} (R S : A → B → Type 0) → ((a : A) (b : B) → R a b → S a b) → (xs : List A) (ys : List B) → AreEach R xs ys → AreEach S xs ys
each_weaker R S f [] [] h = h
each_weaker R S f (x ∷ xs) (y ∷ ys) h = (f x y h.0, each_weaker R S f xs ys h.1)
each_weaker R S f [] (y ∷ ys) h = h
each_weaker R S f (x ∷ xs) [] h = h

-- ---- what some part has
module _ (P : PlainNeq → Type 0) where
  to_groups : (groups : List (List PlainNeq)) (stacks : List PlainNeq) → AreEach (λ group stack. P stack ↔ Any P group) groups stacks → Any P stacks → Any P (joined_groups groups)
  to_groups [] [] each any = absurd (any_none P any)
  to_groups (g ∷ gs) (s ∷ ss) each any =
      elim (any_cases P s ss any) [
        | inl h ↦ any_left P g (joined_groups gs) (each.0.0 h)
        | inr t ↦ any_right P g (joined_groups gs) (to_groups gs ss each.1 t)
      ]
  to_groups [] (s ∷ ss) each any = absurd each
  to_groups (g ∷ gs) [] each any = absurd each

  from_groups : (groups : List (List PlainNeq)) (stacks : List PlainNeq) → AreEach (λ group stack. P stack ↔ Any P group) groups stacks → Any P (joined_groups groups) → Any P stacks
  from_groups [] [] each any = absurd (any_none P any)
  from_groups (g ∷ gs) (s ∷ ss) each any =
      elim (any_either P g (joined_groups gs) any) [
        | inl h ↦ any_here P s ss (each.0.1 h)
        | inr t ↦ any_there P s ss (from_groups gs ss each.1 t)
      ]
  from_groups [] (s ∷ ss) each any = absurd each
  from_groups (g ∷ gs) [] each any = absurd each

-- ---- sums
sums_regroup : (f : PlainNeq → Interval) (groups : List (List PlainNeq)) (stacks : List PlainNeq) → AreEach (λ group stack. f stack ≡ sum_of_intervals (map f group)) groups stacks
    → sum_of_intervals (map f stacks) ≡ sum_of_intervals (map f (joined_groups groups))
sums_regroup f [] [] each = refl
sums_regroup f (g ∷ gs) (s ∷ ss) each =
    ap (λ w. interval_add w (sum_of_intervals (map f ss))) each.0
    ∙ ap (λ w. interval_add (sum_of_intervals (map f g)) w) (sums_regroup f gs ss each.1)
    ∙ sym (ap sum_of_intervals (map-append f g (joined_groups gs)) ∙ sum_append (map f g) (map f (joined_groups gs)))
sums_regroup f [] (s ∷ ss) each = absurd each
sums_regroup f (g ∷ gs) [] each = absurd each

-- ---- stacks
pub names_regroup : (groups : List (List PlainNeq)) (stacks : List PlainNeq) (ids : List PlainId) → AreEach IsStackOf groups stacks → AreNamesOf stacks ids → AreNamesOf (joined_groups groups) ids
names_regroup groups stacks ids each of = record {
  rising = of.rising;
  same = λ id.
      let has = each_weaker IsStackOf (λ group stack. Contains stack.names id ↔ Any (λ part. Contains part.names id) group) (λ group stack h. h.names.same id) groups stacks each in
      (λ there. to_groups (λ part. Contains part.names id) groups stacks has ((of.same id).0 there), λ any. (of.same id).1 (from_groups (λ part. Contains part.names id) groups stacks has any));
}

pub stacks_regroup : StacksRegroup
stacks_regroup groups stacks neq each of = record {
  sound = of.sound;
  names = names_regroup groups stacks neq.names each of.names;
  parameters = λ id p.
      let has = each_weaker IsStackOf (λ group stack. HasParameter stack id p ↔ Any (λ part. HasParameter part id p) group) (λ group stack h. h.parameters id p) groups stacks each in
      (λ h. to_groups (λ part. HasParameter part id p) groups stacks has ((of.parameters id p).0 h), λ any. (of.parameters id p).1 (from_groups (λ part. HasParameter part id p) groups stacks has any));
  entries = λ one other. of.entries one other ∙ sums_regroup (λ part. entry_in part one other) groups stacks (each_weaker IsStackOf (λ group stack. entry_in stack one other ≡ sum_of_intervals (map (λ part. entry_in part one other) group)) (λ group stack h. h.entries one other) groups stacks each);
  rights = λ id. of.rights id ∙ sums_regroup (λ part. right_in part id) groups stacks (each_weaker IsStackOf (λ group stack. right_in stack id ≡ sum_of_intervals (map (λ part. right_in part id) group)) (λ group stack h. h.rights id) groups stacks each);
}

-- what the only one has
only : (P : PlainNeq → Type 0) (part : PlainNeq) → P part ↔ Any P (part ∷ [])
only P part = (λ h. any_here P part [] h, λ any. elim (any_cases P part [] any) [ inl h ↦ h | inr t ↦ absurd (any_none P t) ])

-- normal equations are their own stack
pub alone : (part : PlainNeq) → IsSound part → IsStackOf (part ∷ []) part
alone part sound = record {
  sound = sound;
  names = record { rising = sound.names.0; same = λ id. only (λ other. Contains other.names id) part };
  parameters = λ id p. only (λ other. HasParameter other id p) part;
  entries = λ one other. sym (sum_one (entry_in part one other));
  rights = λ id. sym (sum_one (right_in part id));
}
