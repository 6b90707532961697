-- Documents have one merge at most.
use Rattle.site_merge.specs.Merged.{site_cmp, solution_cmp, OneMerge}
use Rattle.site_merge.proofs.NameOrders.{site_total, solution_total}
use Rattle.site_merge.proofs.OneSortedList.{same_members}

pub one_merge : OneMerge
one_merge docs one other a b =
    let lines = same_members site_cmp site_total one.lines other.lines a.lines.rising b.lines.rising (λ z. (
      λ there. (b.lines.firsts z).1 ((a.lines.firsts z).0 there),
      λ there. (a.lines.firsts z).1 ((b.lines.firsts z).0 there),
    )) in
    let epochs = same_members solution_cmp solution_total one.epochs other.epochs a.epochs.rising b.epochs.rising (λ z. (
      λ there. (b.epochs.merged z).1 ((a.epochs.merged z).0 there),
      λ there. (a.epochs.merged z).1 ((b.epochs.merged z).0 there),
    )) in
    λ i. record { lines = lines i; epochs = epochs i }
