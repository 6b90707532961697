-- Stacks: normal equations summed by the names of their parameters (Brockmann 1997, section 2.3).
use Rattle.std.specs.Prelude.{◌≡◌, ◌<◌, ◌≤◌, ◌*◌, ◌↔◌, ◌⊎◌, ◌∷◌, ℕ, List, [], length, map, take, flat_map, Result, Ok, Err, All, Contains}
use Rattle.std.specs.List.{Any}
use Rattle.std.specs.List.Sorted.{IsPermutation}
use Rattle.stated_order.specs.Lists.{AreEach}
use Rattle.stated_order.specs.Steps.{IsOne}
use Rattle.whole_numbers.specs.Intervals.{Interval, interval_add}
use Rattle.sym_blocks.specs.Tables.{zero_interval}
use Rattle.param_ids.specs.Plain.{PlainId}
use Rattle.param_ids.specs.Order.{IsRising}
use Rattle.neq_stack.specs.Neqs.{PlainNeq, IsSound}
use Rattle.neq_stack.specs.ByName.{Parameter, HasParameter, AreAtMost, entry_in, right_in}
use Rattle.neq_stack.specs.declared.stacking.StackError.{StackError}
use Rattle.neq_stack.specs.declared.stacking.StackError.TheVariants as errors

-- the sum of intervals
abbrev pub sum_of_intervals : List Interval → Interval
sum_of_intervals [] = zero_interval
sum_of_intervals (first ∷ rest) = interval_add first (sum_of_intervals rest)

-- the names that some part has, in order, each once
pub record AreNamesOf (parts : List PlainNeq) (names : List PlainId) : Type 0 where
  pub rising : IsRising names
  pub same : (id : PlainId) → Contains names id ↔ Any (λ part. Contains part.names id) parts

-- The stack of some parts: it has their names and their parameters, and at each pair of names, and at each name of the right side,
-- the sum of their intervals, where a part that lacks a name counts as zero.
pub record IsStackOf (parts : List PlainNeq) (neq : PlainNeq) : Type 0 where
  pub sound : IsSound neq
  pub names : AreNamesOf parts neq.names
  pub parameters : (id : PlainId) (parameter : Parameter) → HasParameter neq id parameter ↔ Any (λ part. HasParameter part id parameter) parts
  pub entries : (one other : PlainId) → entry_in neq one other ≡ sum_of_intervals (map (λ part. entry_in part one other) parts)
  pub rights : (id : PlainId) → right_in neq id ≡ sum_of_intervals (map (λ part. right_in part id) parts)

-- The parts have more than 1,000 names together. Added one after another, they first do so with this number of names.
pub record HaveTooMany (parts : List PlainNeq) (count : ℕ) : Type 0 where
  pub added : ℕ
  pub names : List PlainId
  pub together : AreNamesOf (take added parts) names
  pub count_is : count ≡ length names
  pub many : 1000 < count
  pub before : (fewer : ℕ) (ids : List PlainId) → fewer < added → AreNamesOf (take fewer parts) ids → length ids ≤ 1000

-- the stack of the parts, or how many names are too many
abbrev pub IsStacked : List PlainNeq → Result PlainNeq ℕ → Type 0
IsStacked parts (Ok neq) = IsStackOf parts neq
IsStacked parts (Err count) = HaveTooMany parts count

-- why parts are not stacked: memory is wanting, or they have too many names
abbrev pub IsRefused : List PlainNeq → StackError → Type 0
IsRefused parts cause = (cause ≡ errors.Memory) ⊎ ((count : ℕ) × (cause ≡ errors.TooMany count) × IsStacked parts (Err count))

-- parts have one stack at most, or one number of names that is too many, and never both
abbrev pub OneStack : Type 0
OneStack = (parts : List PlainNeq) → IsOne (IsStacked parts)

-- a stack of stacks is the stack of all their parts
abbrev pub StacksRegroup : Type 0
StacksRegroup = (groups : List (List PlainNeq)) (stacks : List PlainNeq) (neq : PlainNeq)
    → AreEach IsStackOf groups stacks → IsStackOf stacks neq → IsStackOf (flat_map (λ group. group) groups) neq

-- the order of the parts changes nothing
abbrev pub StacksMove : Type 0
StacksMove = (parts moved : List PlainNeq) (neq : PlainNeq) → IsPermutation parts moved → IsStackOf parts neq → IsStackOf moved neq

-- where sound parts have a stack, some of them have one too
abbrev pub SomeHaveStack : Type 0
SomeHaveStack = (parts some : List PlainNeq) (neq : PlainNeq)
    → All IsSound parts → IsStackOf parts neq → All (Contains parts) some → (stack : PlainNeq) × IsStackOf some stack

-- where no interval of a part passes most in size, none of the stack passes most times the number of parts
abbrev pub StackIsAtMost : Type 0
StackIsAtMost = (most : ℕ) (parts : List PlainNeq) (neq : PlainNeq) → All (AreAtMost most) parts → IsStackOf parts neq → AreAtMost (length parts * most) neq
