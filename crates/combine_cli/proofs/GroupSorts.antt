-- The groups of some files, from a sort of the files by their groups that then drops all but one of each group.
use Rattle.std.proofs.Common.{◌≡◌, ◌∙◌, ◌∷◌, ◌&&◌, ◌==◌, zero, suc, Bool, List, [], map, refl, ap, sym, subst, inl, inr, arith}
use Rattle.std.specs.Prelude.{Contains}
use Rattle.std.specs.List.{Any, AllByRecursion, dedup}
use Rattle.std.specs.List.Sorted.{IsPermutation, IsSorted, IsSortedByClosure, IsStrictlySortedBy}
use Rattle.std.specs.Ordering.{nat_cmp, is_lt, is_eq, eq_by_cmp, ordering_then}
use Rattle.std.specs.Fn.{Called, Mut}
use Rattle.std.specs.Str.{bytes_eq}
use Rattle.std.specs.Cmp.{IsTotalOrder, IsEquivalence, unsigned_ties}
use Rattle.std.specs.Cmp.Lexicographic.{slice_cmp}
use Rattle.std.specs.declared.cmp.Ordering.{Ordering}
use Rattle.std.specs.declared.cmp.Ordering.TheVariants.{Less, Equal, Greater}
use Rattle.std.proofs.Math.ListN.{get_or-map}
use Rattle.std.proofs.lemmas.Cmp.{on_total, eq_by_cmp_equiv}
use Rattle.std.proofs.lemmas.Fn.{always_returns_same}
use Rattle.std.proofs.lemmas.List.{length-map}
use Rattle.std.proofs.lemmas.List.Kept.{Any-dedup, Contains-from_dedup, IsStrictlySortedBy-dedup}
use Rattle.std.proofs.lemmas.List.MinMax.{ranks_by}
use Rattle.std.proofs.lemmas.List.Sorted.{Contains-permutation, IsPermutation-sym}
use Rattle.std.proofs.lemmas.Map.Text.{is_eq-slice_cmp}
use Rattle.std.proofs.lemmas.Map.Views.{tells_apart}
use denote.Ref.{Bor}
use Rattle.control_doc.specs.Plain.{PlainPlan}
use Rattle.combine_cli.specs.Combination.{Group, group_of, place_of, group_cmp, AreGroups}
use Rattle.combine_cli.proofs.EachLaws.{any_cases, any_here, any_later, any_none, any_map}
use Rattle.combine_cli.proofs.OneCombination.{group_total, group_exact}

-- ---- the same group
abbrev pub same_groups : Group → Group → Bool
same_groups one other = bytes_eq one.name other.name && (place_of one.alone == place_of other.alone)

both_equal : (o p : Ordering) → is_eq (ordering_then o p) ≡ (is_eq o && is_eq p)
both_equal Less p = refl
both_equal Equal p = refl
both_equal Greater p = refl

ties : (one other : Group) → same_groups one other ≡ eq_by_cmp group_cmp one other
ties one other =
    let name = sym (is_eq-slice_cmp one.name other.name) in
    let place = unsigned_ties (place_of one.alone) (place_of other.alone) in
    ap (λ b. b && (place_of one.alone == place_of other.alone)) name ∙ ap (λ b. is_eq (slice_cmp nat_cmp one.name other.name) && b) place
    ∙ sym (both_equal (slice_cmp nat_cmp one.name other.name) (nat_cmp (place_of one.alone) (place_of other.alone)))

-- ---- members of mapped lists
mapped_all : {A B : Type 0} (f : A → B) (P : B → Type 0) (xs : List A) → AllByRecursion (λ x. P (f x)) xs → AllByRecursion P (map f xs)
mapped_all f P [] all = tt
mapped_all f P (x ∷ xs) all = (all.0, mapped_all f P xs all.1)

into_map : {A B : Type 0} (f : A → B) (xs : List A) (x : A) → Contains xs x → Contains (map f xs) (f x)
into_map f xs x there = (there.0, rw (length-map xs f) there.1, get_or-map f xs there.0 x ∙ ap f there.2)

from_map : {A B : Type 0} (f : A → B) (xs : List A) (y : B) → Contains (map f xs) y → (x : A) × Contains xs x × (f x ≡ y)
from_map f [] y (k, lt, e) = absurd (omega arith)
from_map f (x ∷ xs) y (zero, lt, e) = (x, (0, omega arith, refl), e)
from_map f (x ∷ xs) y (suc k, lt, e) =
    let rest = from_map f xs y (k, omega arith, e) in
    let there = rest.1 in
    let within = there.1 in
    (rest.0, (suc there.0, omega arith, there.2), rest.2)

any_unmap : {A B : Type 0} (f : A → B) (P : B → Type 0) (xs : List A) → Any P (map f xs) → Any (λ x. P (f x)) xs
any_unmap f P [] h = absurd (any_none P h)
any_unmap f P (x ∷ xs) h =
    elim (any_cases P (f x) (map f xs) h) [
      | inl here ↦ any_here (λ x. P (f x)) x xs here
      | inr later ↦ any_later (λ x. P (f x)) x xs (any_unmap f P xs later)
    ]

-- ---- files in the order of their groups
module _ {X : Type 0} (plan : X → PlainPlan) where
  abbrev pub group : X → Group
  group x = group_of (plan x)

  abbrev pub order : X → X → Ordering
  order x y = group_cmp (group x) (group y)

  abbrev pub same : X → X → Bool
  same x y = same_groups (group x) (group y)

  order_total : IsTotalOrder order
  order_total = on_total group group_total

  same_is : same ≡ eq_by_cmp order
  same_is = λ i x y. ties (group x) (group y) i

  same_equiv : IsEquivalence same
  same_equiv = subst IsEquivalence (sym same_is) (eq_by_cmp_equiv order_total)

  pub sorted_by : {F : Type 0} {g : Mut F (Bor X × (Bor X × Unit {0})) Ordering} {f : F} (xs : List X) → IsSortedByClosure g f xs
      → ((a : Bor X × (Bor X × Unit {0})) (r : Ordering) (f' : F) → Called g f a r f' → (r ≡ order a.0.now a.1.0.now) × (f' ≡ f)) → IsSorted order xs
  sorted_by {g = g} {f = f} xs up h =
      up (λ x y. is_lt (order x y)) (ranks_by group_total group)
      (always_returns_same g (λ a r. is_lt r ≡ is_lt (order a.0.now a.1.0.now)) f (λ a r f' k. (ap is_lt (h a r f' k).0, (h a r f' k).1)))

  mapped_rising : (xs : List X) → IsStrictlySortedBy order xs → IsStrictlySortedBy group_cmp (map group xs)
  unfolding IsStrictlySortedBy
  mapped_rising [] rising = tt
  mapped_rising (x ∷ xs) rising = (mapped_all group (λ other. group_cmp (group x) other ≡ Less) xs rising.0, mapped_rising xs rising.1)

  module _ (listed sorted kept : List X) (moved : IsPermutation listed sorted) (are : kept ≡ dedup same sorted) where
    -- a file that is kept is one that was listed, and of the group of a file that was listed a file is kept
    was_listed : (x : X) → Contains kept x → Contains listed x
    was_listed x there =
        Contains-permutation sorted listed x (IsPermutation-sym listed sorted moved) (Contains-from_dedup same sorted x (subst (λ (l : List X). Contains l x) are there))

    is_kept : (x : X) → Contains listed x → Contains (map group kept) (group x)
    is_kept x there =
        let found = Any-dedup same_equiv sorted x (Contains-permutation listed sorted x moved there) in
        let y = found.1 in
        let one : group x ≡ group y = tells_apart group_exact (group x) (group y) (sym (ties (group x) (group y)) ∙ found.4) in
        let stays : Contains kept y = subst (λ (l : List X). Contains l y) (sym are) (found.0, found.2, found.3) in
        subst (Contains (map group kept)) (sym one) (into_map group kept y stays)

    pub groups_from : (plans : List PlainPlan) → map plan listed ≡ plans → IsSorted order sorted → AreGroups plans (map group kept)
    groups_from plans listed_are in_order = record {
      rising = mapped_rising kept (subst (IsStrictlySortedBy order) (sym are) (IsStrictlySortedBy-dedup order_total (λ x y. ties (group x) (group y)) sorted in_order));
      same = λ g. (
        λ there.
            let x = from_map group kept g there in
            let old = was_listed x.0 x.1 in
            subst (λ (l : List PlainPlan). Any (λ p. group_of p ≡ g) l) listed_are (any_map plan (λ p. group_of p ≡ g) listed (old.0, x.0, old.1, old.2, x.2)),
        λ some.
            let x = any_unmap plan (λ p. group_of p ≡ g) listed (subst (λ (l : List PlainPlan). Any (λ p. group_of p ≡ g) l) (sym listed_are) some) in
            subst (Contains (map group kept)) x.4 (is_kept x.1 (x.0, x.2, x.3)),
      );
    }
