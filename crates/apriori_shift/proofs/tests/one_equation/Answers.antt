use Rattle.std.proofs.Common.{◌≡◌, ◌≤◌, ◌<◌, ◌^◌, ◌∙◌, inl, inr, ℕ, List, length, replicate, slice_index_or, refl, sym, ap, subst, arith, rules}
use Rattle.std.proofs.lemmas.Option.{slice_get_within}
use Rattle.whole_numbers.specs.Intervals.{Interval, size}
use Rattle.sym_blocks.specs.Tables.{entry_at, zero_interval}
use Rattle.param_ids.specs.Plain.{PlainId}
use Rattle.neq_stack.specs.Neqs.{PlainNeq, neq_view}
use Rattle.neq_stack.specs.ByName.{AreAtMost, entry_in, right_in}
use Rattle.neq_stack.proofs.NameLaws.{place_cases}
use Rattle.neq_stack.proofs.PlacedLaws.{entry_there, right_there, no_row, no_column, no_right}
use Rattle.apriori_shift.proofs.tests.one_equation.Goals as goal

-- what one name's intervals are at most, those of all names are
module _ (neq : PlainNeq) (most : ℕ) (one : length neq.names ≡ 1) (entry : size (entry_at neq.table 0 0) ≤ most) (right : size (slice_index_or neq.right 0 zero_interval) ≤ most) where
  at_front : (i j : ℕ) → i < 1 → j < 1 → size (entry_at neq.table i j) ≤ most
  at_front i j row col =
      let first : 0 ≡ i = omega arith in
      let second : 0 ≡ j = omega arith in
      subst (λ k. size (entry_at neq.table k j) ≤ most) first (subst (λ k. size (entry_at neq.table 0 k) ≤ most) second entry)

  right_front : (i : ℕ) → i < 1 → size (slice_index_or neq.right i zero_interval) ≤ most
  right_front i row = let first : 0 ≡ i = omega arith in subst (λ k. size (slice_index_or neq.right k zero_interval) ≤ most) first right

  entry_small : (a b : PlainId) → size (entry_in neq a b) ≤ most
  entry_small a b =
      elim (place_cases neq.names a) [
        | inl h ↦ elim (place_cases neq.names b) [
          | inl k ↦ subst (λ w. size w ≤ most) (sym (entry_there neq h.0 k.0 a b h.2 k.2)) (at_front h.0 k.0 (omega (arith, slice_get_within neq.names h.0 a h.1)) (omega (arith, slice_get_within neq.names k.0 b k.1)))
          | inr k ↦ subst (λ w. size w ≤ most) (sym (no_column neq a b k.0)) (omega arith)
        ]
        | inr h ↦ subst (λ w. size w ≤ most) (sym (no_row neq a b h.0)) (omega arith)
      ]

  right_small : (a : PlainId) → size (right_in neq a) ≤ most
  right_small a =
      elim (place_cases neq.names a) [
        | inl h ↦ subst (λ w. size w ≤ most) (sym (right_there neq h.0 a h.2)) (right_front h.0 (omega (arith, slice_get_within neq.names h.0 a h.1)))
        | inr h ↦ subst (λ w. size w ≤ most) (sym (no_right neq a h.0)) (omega arith)
      ]

  all_small : AreAtMost most neq
  all_small = record { entries = entry_small; rights = right_small }

pub returns-clause-modest : goal.returns-clause-modest
returns-clause-modest g c =
    let view = ap length c.names.view_is in
    let many : length c.names.inside.items.items ≡ 1 = omega (arith, view, c.len.ensures.value) in
    let entry : entry_at c.set.new.self 0 0 ≡ c.point.result = c.set.ensures.here 0 0 (inl (refl, refl)) in
    let rights : c.in_ok-vec.field-0.items ≡ replicate 1 c.point-2.result = search rules in
    all_small (neq_view {N = g.row.N} record { names = c.names.inside.items.items; table = c.set.new.self; right = c.in_ok-vec.field-0; apriori = c.in_ok-vec-2.field-0; units = c.in_ok-vec-3.field-0; scales = c.in_ok-vec-4.field-0 }) (10 ^ 36) many
    (subst (λ w. size w ≤ 10 ^ 36) (sym (entry ∙ c.point.ensures)) (omega arith))
    (subst (λ (l : List Interval). size (slice_index_or l 0 zero_interval) ≤ 10 ^ 36) (sym rights) (subst (λ w. size w ≤ 10 ^ 36) (sym c.point-2.ensures) (omega arith)))
