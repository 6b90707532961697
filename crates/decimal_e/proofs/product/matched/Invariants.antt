use Rattle.std.proofs.Common.{◌≡◌, ◌*◌, ◌^◌, ◌<◌, ◌≤◌}
use Rattle.decimal_e.proofs.product.matched.Given as goal

-- the twos and fives taken out so far, put back
abbrev pub invariant-loop-two : goal.invariant-loop-two
invariant-loop-two l = record { first : l.two * 2 ^ l.pairs ≡ l.twos; second : l.five * 5 ^ l.pairs ≡ l.fives; some : (0 < l.two) × (0 < l.five); few : l.pairs ≤ 120 }

abbrev pub decreases-loop-two : goal.decreases-loop-two
decreases-loop-two l = l.two
