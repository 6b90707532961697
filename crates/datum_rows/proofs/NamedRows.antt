-- The interval that a condition adds at two names.
use Rattle.std.proofs.Common.{◌≡◌, ◌<◌, ◌∙◌, ◌⊎◌, inl, inr, ℕ, ℤ, pos, ◌*ℤ◌, List, Option, Some, Contains, length, slice_get, sym, ap, subst}
use Rattle.std.proofs.Math.IntN.{zero-*ℤ}
use Rattle.std.proofs.lemmas.Option.{slice_get_within}
use Rattle.std.specs.Prelude.{unwrap_or}
use Rattle.whole_numbers.specs.Intervals.{Interval, interval_add}
use Rattle.whole_numbers.proofs.Ring.{*ℤ_comm}
use Rattle.sym_blocks.specs.Tables.{zero_interval}
use Rattle.param_ids.specs.Plain.{PlainId}
use Rattle.control_doc.specs.declared.plans.Site.{Site}
use Rattle.neq_stack.specs.Neqs.{PlainNeq}
use Rattle.neq_stack.specs.ByName.{entry_in, right_in, right_at_place, place_in}
use Rattle.neq_stack.specs.Systems.{name_at, no_name}
use Rattle.neq_stack.proofs.NameLaws.{place_cases}
use Rattle.neq_stack.proofs.PlacedLaws.{no_row, no_column, entry_there}
use Rattle.neq_stack.proofs.SumLaws.{add_zero}
use Rattle.datum_rows.specs.Conditions.{Condition}
use Rattle.datum_rows.specs.Sites.{coefficient_in}
use Rattle.datum_rows.specs.Additions.{IsRowInterval, IsWithRow}
use Rattle.datum_rows.proofs.SameLaws.{coefficient_missing}

-- both names are there, and the condition's interval is added
pub record AtPlaces (sites : List Site) (neq : PlainNeq) (condition : Condition) (after : PlainNeq) (one other : PlainId) : Type 0 where
  pub row : ℕ
  pub col : ℕ
  pub row_within : row < length neq.names
  pub col_within : col < length neq.names
  pub row_named : slice_get neq.names row ≡ Some one
  pub col_named : slice_get neq.names col ≡ Some other
  pub row_place : place_in neq.names one ≡ Some row
  pub col_place : place_in neq.names other ≡ Some col
  pub interval : Interval
  pub is_row : IsRowInterval sites neq condition row col interval
  pub added : entry_in after one other ≡ interval_add (entry_in neq one other) interval

-- one of them is not, and nothing is added
pub record Nowhere (sites : List Site) (neq : PlainNeq) (condition : Condition) (after : PlainNeq) (one other : PlainId) : Type 0 where
  pub none : coefficient_in sites neq condition.motion one *ℤ coefficient_in sites neq condition.motion other ≡ pos 0
  pub added : entry_in after one other ≡ interval_add (entry_in neq one other) zero_interval

pub name_is : (names : List PlainId) (k : ℕ) (id : PlainId) → slice_get names k ≡ Some id → name_at names k ≡ id
name_is names k id is = ap (λ (o : Option PlainId). unwrap_or o no_name) is

nothing_added : (a b : Interval) → a ≡ zero_interval → b ≡ zero_interval → a ≡ interval_add b zero_interval
nothing_added a b x y = x ∙ sym y ∙ sym (add_zero b)

pub product_zero_right : (a b : ℤ) → b ≡ pos 0 → a *ℤ b ≡ pos 0
product_zero_right a b none = *ℤ_comm a b ∙ ap (λ x. x *ℤ a) none ∙ zero-*ℤ a

pub product_zero_left : (a b : ℤ) → a ≡ pos 0 → a *ℤ b ≡ pos 0
product_zero_left a b none = ap (λ x. x *ℤ b) none ∙ zero-*ℤ b

module _ (sites : List Site) (neq : PlainNeq) (condition : Condition) (after : PlainNeq) (with_row : IsWithRow sites neq condition after) where
  lacks : (id : PlainId) → (Contains neq.names id → ⊥) → Contains after.names id → ⊥
  lacks id none there = none (subst (λ ns. Contains ns id) with_row.names there)

  place_after : (id : PlainId) (i : ℕ) → place_in neq.names id ≡ Some i → place_in after.names id ≡ Some i
  place_after id i is = ap (λ ns. place_in ns id) with_row.names ∙ is

  pub added_at : (one other : PlainId) → AtPlaces sites neq condition after one other ⊎ Nowhere sites neq condition after one other
  added_at one other =
      elim (place_cases neq.names one) [
        | inl row ↦ elim (place_cases neq.names other) [
          | inl col ↦
              let row_within = slice_get_within neq.names row.0 one row.1 in
              let col_within = slice_get_within neq.names col.0 other col.1 in
              let there = with_row.entries row.0 col.0 row_within col_within in
              inl (record {
                row = row.0;
                col = col.0;
                row_within = row_within;
                col_within = col_within;
                row_named = row.1;
                col_named = col.1;
                row_place = row.2;
                col_place = col.2;
                interval = there.0;
                is_row = there.1;
                added = entry_there after row.0 col.0 one other (place_after one row.0 row.2) (place_after other col.0 col.2) ∙ there.2
                    ∙ ap (λ w. interval_add w there.0) (sym (entry_there neq row.0 col.0 one other row.2 col.2));
              })
          | inr none ↦ inr (record {
            none = product_zero_right (coefficient_in sites neq condition.motion one) (coefficient_in sites neq condition.motion other) (coefficient_missing sites neq condition.motion other none.1);
            added = nothing_added (entry_in after one other) (entry_in neq one other) (no_column after one other (lacks other none.0)) (no_column neq one other none.0);
          })
        ]
        | inr none ↦ inr (record {
          none = product_zero_left (coefficient_in sites neq condition.motion one) (coefficient_in sites neq condition.motion other) (coefficient_missing sites neq condition.motion one none.1);
          added = nothing_added (entry_in after one other) (entry_in neq one other) (no_row after one other (lacks one none.0)) (no_row neq one other none.0);
        })
      ]

  pub right_kept : (id : PlainId) → right_in after id ≡ right_in neq id
  right_kept id = ap (λ ns. right_at_place after.right (place_in ns id)) with_row.names ∙ ap (λ r. right_at_place r (place_in neq.names id)) with_row.right
