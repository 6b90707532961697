use Rattle.std.proofs.Common.{◌≡◌, ◌≤◌, ◌<◌, ◌∙◌, inl, inr, ℕ, length, sym, subst, arith, slice_index_or}
use Rattle.std.proofs.lemmas.Option.{slice_get_within}
use Rattle.whole_numbers.specs.Intervals.{size}
use Rattle.sym_blocks.specs.Tables.{entry_at, zero_interval}
use Rattle.param_ids.specs.Plain.{PlainId}
use Rattle.neq_stack.specs.Neqs.{PlainNeq}
use Rattle.neq_stack.specs.ByName.{AreAtMost, entry_in, right_in}
use Rattle.neq_stack.proofs.NameLaws.{place_cases}
use Rattle.neq_stack.proofs.PlacedLaws.{no_row, no_column, no_right, entry_there, right_there}
use Rattle.datum_rows.proofs.tests.network.Goals as goal

module _ (neq : PlainNeq) (most : ℕ) (entries : (i j : ℕ) → i < length neq.names → j < length neq.names → entry_at neq.table i j ≡ zero_interval) (rights : (k : ℕ) → slice_index_or neq.right k zero_interval ≡ zero_interval) where
  entry_zero : (one other : PlainId) → entry_in neq one other ≡ zero_interval
  entry_zero one other =
      elim (place_cases neq.names one) [
        | inl row ↦ elim (place_cases neq.names other) [
          | inl col ↦ entry_there neq row.0 col.0 one other row.2 col.2 ∙ entries row.0 col.0 (slice_get_within neq.names row.0 one row.1) (slice_get_within neq.names col.0 other col.1)
          | inr none ↦ no_column neq one other none.0
        ]
        | inr none ↦ no_row neq one other none.0
      ]

  right_zero : (id : PlainId) → right_in neq id ≡ zero_interval
  right_zero id = elim (place_cases neq.names id) [ inl row ↦ right_there neq row.0 id row.2 ∙ rights row.0 | inr none ↦ no_right neq id none.0 ]

  zeros_at_most : AreAtMost most neq
  zeros_at_most = record {
    entries = λ one other. subst (λ w. size w ≤ most) (sym (entry_zero one other)) (omega arith);
    rights = λ id. subst (λ w. size w ≤ most) (sym (right_zero id)) (omega arith);
  }

pub returns-clause-small : goal.returns-clause-small
returns-clause-small c =
    let four : length c.in_ok-names.names ≡ 4 = c.in_ok-names.ensures in
    zeros_at_most _ _ (λ i j li lj. c.in-Ok.ensures.entries i j (omega arith) (omega arith)) c.in_ok-right.ensures.zero
