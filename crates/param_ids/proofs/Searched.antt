-- What a search in names in order found.
use Rattle.std.proofs.Common.{◌≡◌, ◌<◌, ℕ, List, Some, length, get_or, sym, ap, ◌∙◌, subst, arith, inl, inr}
use Rattle.std.specs.Prelude.{Contains}
use Rattle.std.specs.List.{slice_get}
use Rattle.std.specs.List.Sorted.{IsNonDecreasingBy, IsPartitionPoint}
use Rattle.std.specs.Ordering.{ordering_index}
use Rattle.std.specs.declared.cmp.Ordering.TheVariants.{Less, Equal, Greater}
use Rattle.std.proofs.lemmas.Bool.{cases_lt}
use Rattle.std.proofs.lemmas.Cmp.{tied_itself}
use Rattle.std.proofs.lemmas.List.Sorted.{searchable_from_sorted}
use Rattle.std.proofs.lemmas.Option.{slice_get-get_or}
use Rattle.param_ids.specs.Plain.{PlainId}
use Rattle.param_ids.specs.Order.{id_cmp, IsRising}
use Rattle.param_ids.proofs.Ordered.{id_total, id_exact, sorted_from_rising}

pub present : (ids : List PlainId) (id : PlainId) (k : ℕ) → k < length ids → ((d : PlainId) → id_cmp (get_or ids k d) id ≡ Equal) → slice_get ids k ≡ Some id
present ids id k lt found = slice_get-get_or ids k id lt ∙ ap (λ a. Some a) (id_exact (get_or ids k id) id (found id))

pub absent : (ids : List PlainId) (id : PlainId) (i : ℕ) → IsRising ids
    → (IsNonDecreasingBy (λ y. ordering_index (id_cmp y id)) ids → IsPartitionPoint (λ y. id_cmp y id ≡ Less) (λ y. id_cmp y id ≡ Greater) ids i)
    → Contains ids id → ⊥
absent ids id i rising search_says there =
    let p = search_says (searchable_from_sorted id_total (λ (x : PlainId). x) ids id (sorted_from_rising ids rising)) in
    let same : id_cmp (get_or ids there.0 id) id ≡ Equal = subst (λ x. id_cmp x id ≡ Equal) (sym there.2) (tied_itself id_total id) in
    elim (cases_lt there.0 i) [
      | inl before ↦ let less : Less ≡ Equal = sym (p.0 there.0 id (omega arith) before) ∙ same in cc
      | inr after ↦ let more : Greater ≡ Equal = sym (p.1 there.0 id after there.1) ∙ same in cc
    ]
