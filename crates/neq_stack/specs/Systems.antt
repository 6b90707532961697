-- Systems of equations by the names of their unknowns, and the normal equations that hold them.
use Rattle.std.specs.Prelude.{◌≡◌, ◌<◌, ◌*◌, ◌∷◌, ℕ, ℤ, pos, ◌+ℤ◌, ◌-ℤ◌, ◌*ℤ◌, List, [], length, map, All, slice_get, slice_index_or, unwrap_or}
use Rattle.snx_epoch.specs.declared.Epoch.TheVariants.{Never}
use Rattle.stated_order.specs.Lists.{AreEach}
use Rattle.sys_model.specs.Scaling.{HoldsTimes, LiesInStack}
use Rattle.sys_model.specs.Systems.{System, Table}
use Rattle.whole_numbers.specs.Lists.{at}
use Rattle.sym_blocks.specs.Tables.{entry_at, zero_interval}
use Rattle.param_ids.specs.Plain.{PlainId}
use Rattle.neq_stack.specs.Neqs.{PlainNeq, IsSound}
use Rattle.neq_stack.specs.ByName.{entry_in, right_in}
use Rattle.neq_stack.specs.Stacks.{IsStackOf}

-- the matrix a / q and the right side c / q, by name; zero at a name that is no unknown
pub record NamedSystem : Type 0 where
  pub q : ℕ
  pub a : PlainId → PlainId → ℤ
  pub c : PlainId → ℤ

-- the name at a place, counted from 0; past the last a name of zeros
abbrev pub no_name : PlainId
no_name = record { kind = 0 ∷ 0 ∷ 0 ∷ 0 ∷ 0 ∷ 0 ∷ []; code = 0 ∷ 0 ∷ 0 ∷ 0 ∷ []; point = 0 ∷ 0 ∷ []; soln = 0 ∷ 0 ∷ 0 ∷ 0 ∷ []; epoch = Never }

abbrev pub name_at : List PlainId → ℕ → PlainId
name_at names k = unwrap_or (slice_get names k) no_name

-- the equations and unknowns of these names in order
abbrev pub over : List PlainId → NamedSystem → System
over names S = record { q = S.q; a = λ i j. S.a (name_at names i) (name_at names j); c = λ i. S.c (name_at names i) }

-- the same equations with k times the denominator
abbrev pub multiple : ℕ → NamedSystem → NamedSystem
multiple k S = record { q = k * S.q; a = λ one other. pos k *ℤ S.a one other; c = λ id. pos k *ℤ S.c id }

-- ---- intervals that hold a system
-- The system, in the parameters' own units, lies in the normal equations: at each pair of names the interval holds its element times
-- 10^(18 - t - t'), and at each name of the right side times 10^(18 - t), where t are the scale exponents of the names.
pub record LiesInNeq (exponent : PlainId → ℤ) (neq : PlainNeq) (S : NamedSystem) : Type 0 where
  pub some : 0 < S.q
  pub entries : (one other : PlainId) → HoldsTimes (entry_in neq one other) (S.a one other) S.q (pos 18 -ℤ exponent one -ℤ exponent other)
  pub rights : (id : PlainId) → HoldsTimes (right_in neq id) (S.c id) S.q (pos 18 -ℤ exponent id)

-- ---- sums
-- the sum of whole numbers
abbrev pub sum_of : List ℤ → ℤ
sum_of [] = pos 0
sum_of (first ∷ rest) = first +ℤ sum_of rest

-- the sum of systems by name, all of which have one denominator
pub record IsSumOf (parts : List NamedSystem) (S : NamedSystem) : Type 0 where
  pub some : 0 < S.q
  pub denominators : All (λ part. part.q ≡ S.q) parts
  pub matrix : (one other : PlainId) → S.a one other ≡ sum_of (map (λ part. part.a one other) parts)
  pub right : (id : PlainId) → S.c id ≡ sum_of (map (λ part. part.c id) parts)

-- ---- what stacks promise
-- the sum of systems that lie in parts lies in their stack
abbrev pub StackHolds : Type 0
StackHolds = (exponent : PlainId → ℤ) (parts : List PlainNeq) (systems : List NamedSystem) (neq : PlainNeq) (S : NamedSystem)
    → AreEach (LiesInNeq exponent) parts systems → IsStackOf parts neq → IsSumOf systems S → LiesInNeq exponent neq S

-- ---- systems in order
-- the intervals of normal equations, by the places of their names
abbrev pub table_in : PlainNeq → Table
table_in neq = record { entry = entry_at neq.table; right = λ i. slice_index_or neq.right i zero_interval }

-- a system that lies in normal equations by name lies in their intervals in order
abbrev pub NeqLiesInStack : Type 0
NeqLiesInStack = (exponent : PlainId → ℤ) (neq : PlainNeq) (S : NamedSystem)
    → IsSound neq → neq.scales ≡ map exponent neq.names → LiesInNeq exponent neq S → LiesInStack (length neq.names) (table_in neq) (at neq.scales) (over neq.names S)
