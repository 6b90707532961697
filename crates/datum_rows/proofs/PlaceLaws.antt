-- A datum changes no interval but those at two coordinates of its sites.
use Rattle.std.proofs.Common.{◌≡◌, ◌∙◌, ◌⊎◌, inl, inr, ℕ, pos, ◌*ℤ◌, Bool, true, false, ◌&&◌, List, [], ◌∷◌, Option, Some, None, is_some, Ok, slice_get, refl, ap}
use Rattle.std.specs.List.{find}
use Rattle.std.proofs.Math.IntN.{◌-ℤ◌}
use Rattle.stated_order.proofs.StepLaws.{ok_same}
use Rattle.stated_order.specs.Steps.{Through}
use Rattle.whole_numbers.specs.Intervals.{interval_add}
use Rattle.whole_numbers.specs.Lists.{at}
use Rattle.param_ids.specs.Plain.{PlainId}
use Rattle.control_doc.specs.declared.plans.Site.{Site}
use Rattle.neq_stack.specs.Neqs.{PlainNeq}
use Rattle.neq_stack.specs.ByName.{entry_in}
use Rattle.neq_stack.proofs.SumLaws.{add_zero}
use Rattle.datum_rows.specs.Conditions.{Motion, Axis, Condition, conditions, reach}
use Rattle.datum_rows.specs.Sites.{is_of_site, axis_of, coefficient_along, coefficient_of}
use Rattle.datum_rows.specs.Additions.{IsWithRow, AddsRow, OnlyAtSites, coefficient_at, is_coordinate_of}
use Rattle.datum_rows.proofs.NamedRows.{AtPlaces, added_at, name_is, product_zero_left, product_zero_right}
use Rattle.datum_rows.proofs.ZeroLaws.{only_zero}

zero_along : (neq : PlainNeq) (motion : Motion) (site : Option Site) (axis : Option Axis) → (is_some site && is_some axis) ≡ false → coefficient_along neq motion site axis ≡ pos 0
zero_along neq motion (Some site) (Some axis) none = cc
zero_along neq motion (Some site) None none = refl
zero_along neq motion None axis none = refl

one_fails : (a b : Bool) → (a && b) ≡ false → (a ≡ false) ⊎ (b ≡ false)
one_fails false b none = inl refl
one_fails true b none = inr none

module _ (sites : List Site) (one other : PlainId) (elsewhere : (is_coordinate_of sites one && is_coordinate_of sites other) ≡ false) where
  zero_at : (neq : PlainNeq) (condition : Condition) (k : ℕ) (id : PlainId) → slice_get neq.names k ≡ Some id → is_coordinate_of sites id ≡ false → coefficient_at sites neq condition k ≡ pos 0
  zero_at neq condition k id named none = ap (coefficient_of sites neq condition.motion) (name_is neq.names k id named) ∙ zero_along neq condition.motion (find (is_of_site id) sites) (axis_of id.kind) none

  zero_product : (neq after : PlainNeq) (condition : Condition) (h : AtPlaces sites neq condition after one other) → coefficient_at sites neq condition h.row *ℤ coefficient_at sites neq condition h.col ≡ pos 0
  zero_product neq after condition h =
      elim (one_fails (is_coordinate_of sites one) (is_coordinate_of sites other) elsewhere) [
        | inl none ↦ product_zero_left (coefficient_at sites neq condition h.row) (coefficient_at sites neq condition h.col) (zero_at neq condition h.row one h.row_named none)
        | inr none ↦ product_zero_right (coefficient_at sites neq condition h.row) (coefficient_at sites neq condition h.col) (zero_at neq condition h.col other h.col_named none)
      ]

  kept_by_row : (neq after : PlainNeq) (condition : Condition) → IsWithRow sites neq condition after → entry_in after one other ≡ entry_in neq one other
  kept_by_row neq after condition with_row =
      elim (added_at sites neq condition after with_row one other) [
        | inl h ↦
            let none = only_zero (coefficient_at sites neq condition h.row *ℤ coefficient_at sites neq condition h.col) condition.sigma (pos 18 -ℤ pos (reach condition.motion) -ℤ at neq.scales h.row -ℤ at neq.scales h.col) h.interval (zero_product neq after condition h) h.is_row in
            h.added ∙ ap (interval_add (entry_in neq one other)) none ∙ add_zero (entry_in neq one other)
        | inr h ↦ h.added ∙ add_zero (entry_in neq one other)
      ]

  kept_by_all : (neq after : PlainNeq) (list : List Condition) → Through (AddsRow sites) neq list (Ok after) → entry_in after one other ≡ entry_in neq one other
  kept_by_all neq after [] is = let same : after ≡ neq = ok_same after neq is in ap (λ n. entry_in n one other) same
  kept_by_all neq after (c ∷ rest) is =
      elim is [
        | inl f ↦ kept_by_all f.gives after rest f.onward ∙ kept_by_row neq f.gives c f.given.1
        | inr f ↦ let e = f.is_cause in cc
      ]

pub only_at_sites : OnlyAtSites
only_at_sites datum neq after one other addition elsewhere =
    elim addition [
      | inl f ↦ kept_by_all datum.sites one other elsewhere neq after (conditions datum) f.onward
      | inr f ↦ let e = f.is_cause in cc
    ]
