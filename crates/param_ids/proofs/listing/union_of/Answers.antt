use Rattle.std.proofs.Common.{◌∙◌, ◌++◌, ap}
use Rattle.std.proofs.lemmas.List.Filters.{dedup_is}
use Rattle.param_ids.specs.contracts.ids.ParamIdEq.TheImpl.Laws.{laws-law}
use Rattle.param_ids.specs.contracts.ids.ParamIdOrd.TheImpl.Laws.{matches_eq-law}
use Rattle.param_ids.proofs.Derived.{same_ties, same_sorted}
use Rattle.param_ids.proofs.Unions.{union_from_sort}
use Rattle.param_ids.proofs.listing.union_of.Goals as goal

pub returns-clause-union : goal.returns-clause-union
returns-clause-union c =
    union_from_sort _ laws-law (same_ties matches_eq-law) c.args.one.now c.args.other.now _ _ _
    (c.in_ok-extend_from_slice-2.ensures.items ∙ ap (λ l. l ++ c.args.other.now) (c.in_ok-extend_from_slice.ensures.items ∙ ap (λ l. l ++ c.args.one.now) c.new-both.ensures.items))
    c.sort_unstable.ensures.permutation (same_sorted _ c.sort_unstable.ensures.sorted) (dedup_is _ _ _ c.dedup.ensures.filtered)
