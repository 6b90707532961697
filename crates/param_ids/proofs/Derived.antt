-- The derived order is that of the definition.
use Rattle.std.proofs.Common.{◌≡◌, ◌+◌, ℕ, Bool, List, Result, Ok, Err, get_or, refl, sym, ap, ◌∙◌, arith}
use Rattle.std.specs.Ordering.{ordering_then, ordering_index, nat_cmp, is_lt, is_eq, eq_by_cmp}
use Rattle.std.specs.Cmp.Lexicographic.{slice_cmp}
use Rattle.std.specs.List.Sorted.{IsSorted, IsBinarySearchResult}
use Rattle.std.specs.declared.cmp.Ordering.{Ordering}
use Rattle.snx_epoch.specs.Moments.{epoch_cmp}
use Rattle.snx_epoch.specs.declared.Epoch.{Epoch}
use Rattle.snx_epoch.specs.declared.Epoch.TheVariants.{Never, At}
use Rattle.snx_epoch.specs.contracts.EpochOrd.TheImpl as epoch_impl
use Rattle.param_ids.specs.contracts.ids.ParamIdOrd.TheImpl as id_impl
use Rattle.param_ids.specs.Order.{id_cmp}
use Rattle.param_ids.specs.Plain.{PlainId}

epoch_same : (e f : Epoch) → (epoch_impl.ghosts).cmp e f ≡ epoch_cmp e f
epoch_same Never Never = refl
epoch_same Never (At d s) = refl
epoch_same (At d s) Never = refl
epoch_same (At d s) (At e t) = refl

pub id_same : (a b : PlainId) → (id_impl.ghosts).cmp a b ≡ id_cmp a b
id_same a b =
    ap (λ o. ordering_then (slice_cmp nat_cmp a.kind b.kind) (ordering_then (slice_cmp nat_cmp a.code b.code) (ordering_then (slice_cmp nat_cmp a.point b.point) (ordering_then (slice_cmp nat_cmp a.soln b.soln) o)))) (epoch_same a.epoch b.epoch)

-- what a sort says by the derived order
pub same_sorted : (ids : List PlainId) → IsSorted (id_impl.ghosts).cmp ids → IsSorted id_cmp ids
same_sorted ids sorted k d low lt = ap is_lt (sym (id_same (get_or ids (k + 1) d) (get_or ids k d))) ∙ sorted k d low lt

-- what `==` says by the derived order
pub same_ties : {E : PlainId → PlainId → Bool} → ((a b : PlainId) → E a b ≡ is_eq ((id_impl.ghosts).cmp a b)) → (a b : PlainId) → E a b ≡ eq_by_cmp id_cmp a b
same_ties ties a b = ties a b ∙ ap is_eq (id_same a b)

-- a search by one order is a search by an order that answers alike
pub search_same : (R S : PlainId → PlainId → Ordering) (x : PlainId) (same : (a b : PlainId) → R a b ≡ S a b) (xs : List PlainId) (r : Result ℕ ℕ) → IsBinarySearchResult (λ y. R y x) xs r → IsBinarySearchResult (λ y. S y x) xs r
search_same R S x same xs (Ok k) h = λ d. sym (same (get_or xs k d) x) ∙ h d
search_same R S x same xs (Err i) h = λ up.
    let p = h (λ m n d le lt. omega (arith, up m n d le lt, ap ordering_index (same (get_or xs m d) x), ap ordering_index (same (get_or xs n d) x))) in
    (λ k d low lt. sym (same (get_or xs k d) x) ∙ p.0 k d low lt, λ k d low lt. sym (same (get_or xs k d) x) ∙ p.1 k d low lt)
