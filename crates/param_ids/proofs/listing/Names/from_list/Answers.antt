use Rattle.std.proofs.Common.{◌≡◌, ◌<◌, length, subst, arith}
use Rattle.param_ids.specs.Order.{IsRising}
use Rattle.param_ids.specs.Lists.{IsLeastRepeat}
use Rattle.param_ids.proofs.Repeats.{least_moved, none_moved}
use Rattle.param_ids.proofs.listing.Names.from_list.Goals as goal

pub returns-in-Some : goal.returns-in-Some
returns-in-Some c = least_moved c.args.list.now c.in-Ok.items.items c.in-Some.id c.in-Ok.ensures.names (subst (λ ids. IsLeastRepeat ids c.in-Some.id) c.deref.ensures.value c.in-Some.ensures.some)

pub returns-then-len-gt1000 : goal.returns-then-len-gt1000
returns-then-len-gt1000 c =
    let many : 1000 < length c.args.list.now = first_of (omega arith, grind arith) in
    let count : c.len-then-len-gt1000.result ≡ length c.args.list.now = first_of (omega arith, grind arith) in
    (none_moved c.args.list.now c.in-Ok.items.items c.in-Ok.ensures.names (subst IsRising c.deref.ensures.value c.in_default-first_repeat.ensures.none), many, count)
