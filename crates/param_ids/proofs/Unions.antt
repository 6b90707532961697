-- What is left of two lists after a sort and without repeats.
use Rattle.std.proofs.Common.{◌≡◌, ◌++◌, List, Bool, true, false, refl, sym, ◌∙◌}
use Rattle.std.specs.Prelude.{Contains, IsTrue, ◌↔◌}
use Rattle.std.specs.List.{dedup}
use Rattle.std.specs.List.Sorted.{IsSorted, IsPermutation}
use Rattle.std.specs.Ordering.{eq_by_cmp}
use Rattle.std.specs.Cmp.{IsEquivalence}
use Rattle.std.proofs.lemmas.List.Kept.{Contains-dedup, Contains-from_dedup, IsStrictlySortedBy-dedup}
use Rattle.std.proofs.lemmas.List.Sorted.{Contains-permutation, IsPermutation-sym}
use Rattle.std.specs.BTreeSet.{BTreeSet, contains}
use Rattle.std.proofs.lemmas.Map.Lookups.{btree_set_from_contains}
use Rattle.std.proofs.lemmas.Map.Views.{tells_apart, btree_set_contains_iff}
use Rattle.param_ids.specs.Plain.{PlainId}
use Rattle.param_ids.specs.Order.{id_cmp, IsRising}
use Rattle.param_ids.specs.Union.{IsUnion}
use Rattle.param_ids.proofs.Ordered.{id_total, id_exact}

pub union_from_sort : (E : PlainId → PlainId → Bool) → IsEquivalence E → ((x y : PlainId) → E x y ≡ eq_by_cmp id_cmp x y) → (one other both sorted ids : List PlainId)
    → both ≡ one ++ other → IsPermutation both sorted → IsSorted id_cmp sorted → ids ≡ dedup E sorted → IsUnion one other ids
union_from_sort E equivalence ties one other both sorted ids whole moved in_order is = record {
  rising = rw is (IsStrictlySortedBy-dedup id_total ties sorted in_order);
  same = λ id. (
    λ there. rw (← whole) (Contains-permutation sorted both id (IsPermutation-sym both sorted moved) (Contains-from_dedup E sorted id (rw is at there))),
    λ there. rw is (Contains-dedup equivalence (λ x y e. tells_apart id_exact x y (sym (ties x y) ∙ e)) sorted id (Contains-permutation both sorted id moved (rw whole there))),
  );
}

abbrev set_of : List PlainId → BTreeSet PlainId
set_of ids = record { keys = ids }

-- lists of names in order, each once, are equal where they have the same names
pub one_rising : (ids more : List PlainId) → IsRising ids → IsRising more → ((id : PlainId) → Contains ids id ↔ Contains more id) → ids ≡ more
one_rising ids more first second same =
    btree_set_from_contains id_total (set_of ids) (set_of more) first second (λ id. same_test _ _ (λ there. (has more id).1 ((same id).0 ((has ids id).0 there))) (λ there. (has ids id).1 ((same id).1 ((has more id).0 there)))) id_exact
  where
    has : (names : List PlainId) (id : PlainId) → IsTrue (contains id_cmp (set_of names) id) ↔ Contains names id
    has names id = btree_set_contains_iff id_total id_exact (set_of names) id

    same_test : (a b : Bool) → (IsTrue a → IsTrue b) → (IsTrue b → IsTrue a) → a ≡ b
    same_test true true there back = refl
    same_test false false there back = refl
    same_test true false there back = sym (there refl)
    same_test false true there back = back refl

-- two lists have one union
pub one_union : (one other ids more : List PlainId) → IsUnion one other ids → IsUnion one other more → ids ≡ more
one_union one other ids more first second =
    one_rising ids more first.rising second.rising (λ id. (λ there. (second.same id).1 ((first.same id).0 there), λ there. (first.same id).1 ((second.same id).0 there)))
