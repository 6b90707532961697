-- The bounds of stacks of parts at common values.
use Rattle.std.proofs.Common.{◌<◌, ◌≤◌, ◌+◌, ◌-◌, ◌*◌, ◌^◌, ℕ, List, length, Ok, mul_assoc, arith, lit<}
use Rattle.std.specs.Prelude.{All}
use Rattle.std.proofs.Math.Decide.{dec_lt}
use Rattle.std.proofs.Math.Nat.{mul-le-mul_left, mul-le-mul_right}
use Rattle.std.proofs.lemmas.List.{length-map}
use Rattle.std.proofs.lemmas.List.Elements.{All-weaker}
use Rattle.neq_stack.specs.Neqs.{PlainNeq}
use Rattle.neq_stack.specs.ByName.{AreAtMost}
use Rattle.neq_stack.specs.Stacks.{IsStackOf}
use Rattle.neq_stack.proofs.Laws.{stack_is_at_most}
use Rattle.file_recovery.proofs.KnownLaws.{at_most_weaker}
use Rattle.combine_cli.specs.Combination.{Part, Group, AreGroups, members, AreGroupStacks}
use Rattle.combine_cli.specs.Parts.{neqs_of}
use Rattle.combine_cli.proofs.GroupLaws.{plans_in}
use Rattle.combine_cli.proofs.GroupShares.{group_shares}
use Rattle.combine_cli.proofs.GroupStacks.{members_all, stacks_few, stacks_modest}

-- ---- what the calls ask for
room : (n k : ℕ) → n ≤ 64 → k < 10 ^ 38 → 64 * k < 10 ^ 38 → n * k < 10 ^ 38
room n k few one all = let le : n * k ≤ 64 * k = mul-le-mul_right k few in omega (arith, le)

pub group_fits : (parts : List Part) (group : Group) (count : ℕ) → All (AreAtMost (3 * 10 ^ 34)) (neqs_of parts) → count ≤ 64
    → (most : ℕ) × All (AreAtMost most) (members parts group) × (count * most < 10 ^ 38)
group_fits parts group count modest few = (3 * 10 ^ 34, members_all parts group (AreAtMost (3 * 10 ^ 34)) modest, room count (3 * 10 ^ 34) few (lit< tt) (lit< tt))

-- two numbers that are 65 together
crossed : (n m : ℕ) → n + m ≤ 65 → n * m ≤ 2080
crossed n m together =
    elim (dec_lt 32 n) [
      | yes more ↦ let most : m ≤ 32 = omega arith in omega (arith, mul-le-mul_left n most)
      | no few ↦ let most : n ≤ 32 = omega arith in omega (arith, mul-le-mul_right m most)
    ]

crossed_room : (n m most : ℕ) → n + m ≤ 65 → 2080 * most < 10 ^ 38 → n * (m * most) < 10 ^ 38
crossed_room n m most together all = let le : n * m * most ≤ 2080 * most = mul-le-mul_right most (crossed n m together) in omega (arith, le, mul_assoc n m most)

-- where there are many stacks, each is one of few files
pub stacks_fit : (parts : List Part) (groups : List Group) (stacks : List PlainNeq) → AreGroups (plans_in parts) groups → AreGroupStacks parts groups (Ok stacks) → All (AreAtMost (3 * 10 ^ 34)) (neqs_of parts)
    → length groups ≤ length parts → length parts ≤ 64 → (most : ℕ) × All (AreAtMost most) stacks × (length stacks * most < 10 ^ 38)
stacks_fit parts groups stacks are stacked modest some few =
    let count = length parts + 1 - length groups in
    let shares = All-weaker (λ group. length (members parts group) + length groups ≤ length parts + 1) (λ group. length (members parts group) ≤ count) (λ group share. omega (arith, share)) groups (group_shares parts groups are) in (
      count * (3 * 10 ^ 34),
      stacks_modest parts groups stacks stacked (3 * 10 ^ 34) count modest shares,
      crossed_room (length stacks) count (3 * 10 ^ 34) (omega (arith, stacks_few parts groups stacks stacked)) (lit< tt),
    )

-- ---- the whole stack
times_up : (n m k most : ℕ) → n ≤ m → m * k < most → n * k ≤ most
times_up n m k most few all = let le : n * k ≤ m * k = mul-le-mul_right k few in omega (arith, le)

pub whole_modest : (parts : List Part) (neq : PlainNeq) → All (AreAtMost (3 * 10 ^ 34)) (neqs_of parts) → length parts ≤ 64 → IsStackOf (neqs_of parts) neq → AreAtMost (64 * 10 ^ 36) neq
whole_modest parts neq modest few stack =
    let many : length (neqs_of parts) ≤ 64 = omega (arith, length-map parts (λ (part : Part). part.neq)) in
    at_most_weaker (length (neqs_of parts) * (3 * 10 ^ 34)) (64 * 10 ^ 36) neq (times_up (length (neqs_of parts)) 64 (3 * 10 ^ 34) (64 * 10 ^ 36) many (lit< tt))
    (stack_is_at_most (3 * 10 ^ 34) (neqs_of parts) neq modest stack)
