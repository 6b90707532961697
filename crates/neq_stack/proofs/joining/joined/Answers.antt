use Rattle.std.proofs.Common.{inl, inr}
use Rattle.neq_stack.specs.Neqs.{neq_view}
use Rattle.neq_stack.proofs.PairLaws.{pair_stacked, union_many}
use Rattle.neq_stack.proofs.joining.joined.Goals as goal

pub returns-in-Err-clause-refused : goal.returns-in-Err-clause-refused
returns-in-Err-clause-refused g c =
    elim c.in-Err.ensures.refused [
      | inl memory ↦ inl memory
      | inr h ↦ inr (h.0, h.1, union_many (neq_view c.args.one.now) (neq_view c.args.other.now) h.2.0 h.0 h.2.1 h.2.2 h.2.3)
    ]

pub returns-in-Ok-over_union-clause-stacked : goal.returns-in-Ok-over_union-clause-stacked
returns-in-Ok-over_union-clause-stacked g c = pair_stacked (neq_view c.args.one.now) (neq_view c.args.other.now) (neq_view c.in-Ok-over_union.neq) c.requires.one c.requires.other c.requires.agree c.in-Ok-over_union.ensures
