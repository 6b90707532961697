-- The stacks of groups: what is known of a group's members, and of the stacks of all groups.
use Rattle.std.proofs.Common.{◌≡◌, ◌∙◌, ◌++◌, ◌∷◌, ◌<◌, ◌≤◌, ◌*◌, ◌+◌, ℕ, List, [], length, get_or, take, drop, map, Result, Ok, Err, ap, sym, subst, arith, append_assoc, length-append}
use Rattle.std.specs.Prelude.{All, Contains}
use Rattle.std.specs.List.{filter}
use Rattle.std.proofs.Math.Nat.{mul-le-mul_right}
use Rattle.std.proofs.lemmas.List.{length-map, map-append, take_more, take-append-drop}
use Rattle.std.proofs.lemmas.List.Elements.{All-head, All-tail, All-nil, All-push, All-weaker, All-contains}
use Rattle.std.proofs.lemmas.List.Sums.{length-filter, count_by-le-length}
use Rattle.stated_order.specs.Steps.{InTurn}
use Rattle.stated_order.proofs.StepLaws.{in_turn_more, in_turn_stops, then_gives}
use Rattle.param_ids.specs.Plain.{PlainId}
use Rattle.neq_stack.specs.Neqs.{PlainNeq, IsSound}
use Rattle.neq_stack.specs.ByName.{Parameter, HasParameter, AllAgree, AreAtMost}
use Rattle.neq_stack.specs.Stacks.{IsStackOf}
use Rattle.refusal_lines.specs.declared.refusal.Refusal.{Refusal}
use Rattle.combine_cli.specs.Combination.{Part, Group, AreGroups, is_in_group, members, IsGroupStack, AreGroupStacks, IsWholeStack, StacksParts}
use Rattle.combine_cli.specs.Parts.{neqs_of}
use Rattle.neq_stack.proofs.Laws.{stack_is_at_most}
use Rattle.combine_cli.proofs.EachLaws.{went_on}
use Rattle.combine_cli.proofs.GroupLaws.{members_among}

-- ---- the members of a group are parts
module _ (parts : List Part) (group : Group) where
  -- so what holds of all parts holds of them
  pub members_all : (P : PlainNeq → Type 0) → All P (neqs_of parts) → All P (members parts group)
  members_all P all = All-weaker (Contains (neqs_of parts)) P (λ neq there. All-contains P (neqs_of parts) neq all there) (members parts group) (members_among parts group)

  pub members_agree : AllAgree (neqs_of parts) → AllAgree (members parts group)
  members_agree agree = λ one other a b. agree one other (within one a) (within other b)
    where
      within : (neq : PlainNeq) → Contains (members parts group) neq → Contains (neqs_of parts) neq
      within neq there = All-contains (Contains (neqs_of parts)) (members parts group) neq (members_among parts group) there

  pub members_few : length (members parts group) ≤ length parts
  members_few =
      omega (
        arith,
        length-map (filter (is_in_group group) parts) (λ (part : Part). part.neq),
        length-filter (is_in_group group) parts,
        count_by-le-length (is_in_group group) parts,
      )

-- ---- the stacks of the groups
-- a stack is that of some group
abbrev IsOfGroup : List Part → PlainNeq → Type 0
IsOfGroup parts stack = (group : Group) × IsStackOf (members parts group) stack

of_groups : (parts : List Part) (before : List PlainNeq) (groups : List Group) (stacks : List PlainNeq) → All (IsOfGroup parts) before → InTurn (IsGroupStack parts) before groups (Ok stacks) → All (IsOfGroup parts) stacks
of_groups parts before [] stacks all h = let same : stacks ≡ before = cc in subst (All (IsOfGroup parts)) (sym same) all
of_groups parts before (group ∷ groups) stacks all h =
    let f = went_on (IsGroupStack parts before group) (λ stack. InTurn (IsGroupStack parts) (before ++ stack ∷ []) groups) stacks h in
    of_groups parts (before ++ f.gives ∷ []) groups stacks (All-push (IsOfGroup parts) before f.gives all (group, f.given)) f.onward

as_many : (parts : List Part) (before : List PlainNeq) (groups : List Group) (stacks : List PlainNeq) → InTurn (IsGroupStack parts) before groups (Ok stacks) → length stacks ≡ length before + length groups
as_many parts before [] stacks h = let same : stacks ≡ before = cc in omega (arith, ap length same)
as_many parts before (group ∷ groups) stacks h =
    let f = went_on (IsGroupStack parts before group) (λ stack. InTurn (IsGroupStack parts) (before ++ stack ∷ []) groups) stacks h in
    omega (arith, as_many parts (before ++ f.gives ∷ []) groups stacks f.onward, length-append before (f.gives ∷ []))

-- a stack is that of some group of so many files at most
abbrev IsOfFew : List Part → ℕ → PlainNeq → Type 0
IsOfFew parts count stack = (group : Group) × (length (members parts group) ≤ count) × IsStackOf (members parts group) stack

of_few : (parts : List Part) (count : ℕ) (before : List PlainNeq) (groups : List Group) (stacks : List PlainNeq) → All (λ group. length (members parts group) ≤ count) groups → All (IsOfFew parts count) before
    → InTurn (IsGroupStack parts) before groups (Ok stacks) → All (IsOfFew parts count) stacks
of_few parts count before [] stacks few all h = let same : stacks ≡ before = cc in subst (All (IsOfFew parts count)) (sym same) all
of_few parts count before (group ∷ groups) stacks few all h =
    let f = went_on (IsGroupStack parts before group) (λ stack. InTurn (IsGroupStack parts) (before ++ stack ∷ []) groups) stacks h in
    of_few parts count (before ++ f.gives ∷ []) groups stacks (All-tail (λ group. length (members parts group) ≤ count) group groups few)
    (All-push (IsOfFew parts count) before f.gives all (group, All-head (λ group. length (members parts group) ≤ count) group groups few, f.given)) f.onward

at_most_more : (few many most : ℕ) (neq : PlainNeq) → few ≤ many → AreAtMost (few * most) neq → AreAtMost (many * most) neq
at_most_more few many most neq le at_most =
    let more : few * most ≤ many * most = mul-le-mul_right most le in
    record { entries = λ one other. omega (arith, at_most.entries one other); rights = λ id. omega (arith, at_most.rights id) }

module _ (parts : List Part) (groups : List Group) (stacks : List PlainNeq) (h : AreGroupStacks parts groups (Ok stacks)) where
  are_of_groups : All (IsOfGroup parts) stacks
  are_of_groups = of_groups parts [] groups stacks (All-nil (IsOfGroup parts)) h

  pub stacks_few : length stacks ≡ length groups
  stacks_few = omega (arith, as_many parts [] groups stacks h)

  pub stacks_sound : All IsSound stacks
  stacks_sound = All-weaker (IsOfGroup parts) IsSound (λ stack is. is.1.sound) stacks are_of_groups

  pub stacks_modest : (most count : ℕ) → All (AreAtMost most) (neqs_of parts) → All (λ group. length (members parts group) ≤ count) groups → All (AreAtMost (count * most)) stacks
  stacks_modest most count all few =
      All-weaker (IsOfFew parts count) (AreAtMost (count * most)) (λ stack is.
      at_most_more (length (members parts is.0)) count most stack is.1
      (stack_is_at_most most (members parts is.0) stack (members_all parts is.0 (AreAtMost most) all) is.2)) stacks (of_few parts count [] groups stacks few (All-nil (IsOfFew parts count)) h)

  -- what a stack has of a parameter, some part has
  has_part : (stack : PlainNeq) (id : PlainId) (parameter : Parameter) → Contains stacks stack → HasParameter stack id parameter → (neq : PlainNeq) × Contains (neqs_of parts) neq × HasParameter neq id parameter
  has_part stack id parameter there has =
      let is = All-contains (IsOfGroup parts) stacks stack are_of_groups there in
      let some = (is.1.parameters id parameter).0 has in
      (some.1, All-contains (Contains (neqs_of parts)) (members parts is.0) some.1 (members_among parts is.0) (some.0, some.2, some.3), some.4)

  pub stacks_agree : AllAgree (neqs_of parts) → AllAgree stacks
  stacks_agree agree one other there too id p q has also =
      let a = has_part one id p there has in
      let b = has_part other id q too also in
      agree a.0 b.0 a.1 b.1 id p q a.2 b.2

-- ---- in turn
module _ {X : Type 0} (view : X → Group) (parts : List Part) (list : List X) (i : ℕ) (x : X) (before : List PlainNeq) (within : i < length list) (is : x ≡ get_or list i x)
    (so_far : AreGroupStacks parts (map view (take i list)) (Ok before)) where
  upto : map view (take i list) ++ (view x ∷ []) ≡ map view (take (i + 1) list)
  upto = sym (map-append view (take i list) (x ∷ [])) ∙ ap (λ y. map view (take i list ++ (y ∷ []))) is ∙ sym (ap (map view) (take_more list i x within))

  whole : map view (take i list) ++ (view x ∷ map view (drop (i + 1) list)) ≡ map view list
  whole =
      sym (append_assoc (map view (take i list)) (view x ∷ []) (map view (drop (i + 1) list))) ∙ ap (λ l. l ++ map view (drop (i + 1) list)) upto
      ∙ sym (map-append view (take (i + 1) list) (drop (i + 1) list)) ∙ ap (map view) (take-append-drop (i + 1) list)

  -- one more stack
  pub one_more : (stack : PlainNeq) → IsGroupStack parts [] (view x) (Ok stack) → AreGroupStacks parts (map view (take (i + 1) list)) (Ok (before ++ (stack ∷ [])))
  one_more stack here =
      subst (λ l. AreGroupStacks parts l (Ok (before ++ (stack ∷ [])))) upto (in_turn_more (IsGroupStack parts) [] before (map view (take i list)) (view x) stack so_far here)

  -- the first that is refused
  pub one_stops : (refusal : Refusal) → IsGroupStack parts [] (view x) (Err refusal) → AreGroupStacks parts (map view list) (Err refusal)
  one_stops refusal here =
      subst (λ l. AreGroupStacks parts l (Err refusal)) whole
      (in_turn_stops (IsGroupStack parts) [] before (map view (take i list)) (map view (drop (i + 1) list)) (view x) refusal so_far here)

-- ---- all of it
pub parts_stack : (parts : List Part) (groups : List Group) (stacks : List PlainNeq) (r : Result PlainNeq Refusal) → AreGroups (map (λ (part : Part). part.plan) parts) groups → AreGroupStacks parts groups (Ok stacks)
    → IsWholeStack stacks r → StacksParts parts r
parts_stack parts groups stacks r are given h = (groups, are, then_gives (AreGroupStacks parts groups) IsWholeStack stacks r given h)
