-- Two normal equations put together, by the places of their names.
use Rattle.std.specs.Prelude.{◌≡◌, ◌<◌, ◌≤◌, ℕ, List, Option, Some, None, IfSome, length, map, slice_get, slice_index_or}
use Rattle.std.specs.Option.{option_or}
use Rattle.whole_numbers.specs.Intervals.{Interval, interval_add}
use Rattle.sym_blocks.specs.Tables.{SymTable, entry_at, before, zero_interval}
use Rattle.param_ids.specs.Plain.{PlainId}
use Rattle.param_ids.specs.Union.{IsUnion}
use Rattle.neq_stack.specs.Neqs.{PlainNeq}
use Rattle.neq_stack.specs.ByName.{entry_at_places, right_at_place, place_in}
use Rattle.neq_stack.specs.Stacks.{AreNamesOf}

-- the place that is said of a name, if one is
abbrev pub place_at : List (Option ℕ) → ℕ → Option ℕ
place_at places k = slice_index_or places k None

-- each place is below n
abbrev pub AreWithin : ℕ → List (Option ℕ) → Type 0
AreWithin n places = (k : ℕ) → k < length places → IfSome (place_at places k) (λ i. i < n)

-- the interval of a table at the places of two names, and of a right side at the place of one
abbrev pub entry_by : SymTable → List (Option ℕ) → ℕ → ℕ → Interval
entry_by table places i j = entry_at_places table (place_at places i) (place_at places j)

abbrev pub right_by : List Interval → List (Option ℕ) → ℕ → Interval
right_by right places i = right_at_place right (place_at places i)

-- what stands at a place, if there is one
abbrev pub value_at : {X : Type 0} → List X → Option ℕ → Option X
value_at xs None = None
value_at xs (Some i) = slice_get xs i

-- what stands at a place of the first list, or else at a place of the second
abbrev pub first_value : {X : Type 0} → List X → List X → Option ℕ → Option ℕ → Option X
first_value one other here there = option_or (value_at one here) (value_at other there)

-- the parts have more than 1,000 names together: this number
pub record HaveMany (parts : List PlainNeq) (count : ℕ) : Type 0 where
  pub names : List PlainId
  pub together : AreNamesOf parts names
  pub count_is : count ≡ length names
  pub many : 1000 < count

-- ones and others are the places of names in two parts, and a list has what stands first at them
abbrev pub AreFirst : {X : Type 0} → List X → List (Option ℕ) → List X → List (Option ℕ) → List X → Type 0
AreFirst one ones other others list = (k : ℕ) → k < length ones → slice_get list k ≡ first_value one other (place_at ones k) (place_at others k)

-- of each name its place in a part
abbrev pub places_in : PlainNeq → List PlainId → List (Option ℕ)
places_in part names = map (place_in part.names) names

-- the names of two parts, at most 1,000, and of each its place in either part
pub record AreLaid (one other : PlainNeq) (names : List PlainId) (ones others : List (Option ℕ)) : Type 0 where
  pub union : IsUnion one.names other.names names
  pub few : length names ≤ 1000
  pub first : ones ≡ places_in one names
  pub second : others ≡ places_in other names

-- normal equations over the names of two parts, with the sums of their intervals and the parameters of the first that has one
pub record IsJoined (one other neq : PlainNeq) : Type 0 where
  pub union : IsUnion one.names other.names neq.names
  pub few : length neq.names ≤ 1000
  pub rows : neq.table.size ≡ length neq.names
  pub whole : length neq.table.entries ≡ before neq.table.size
  pub entries : (i j : ℕ) → i < length neq.names → j ≤ i → entry_at neq.table i j ≡ interval_add (entry_by one.table (places_in one neq.names) i j) (entry_by other.table (places_in other neq.names) i j)
  pub right_length : length neq.right ≡ length neq.names
  pub rights : (i : ℕ) → i < length neq.names → slice_index_or neq.right i zero_interval ≡ interval_add (right_by one.right (places_in one neq.names) i) (right_by other.right (places_in other neq.names) i)
  pub value_length : length neq.apriori ≡ length neq.names
  pub values : AreFirst one.apriori (places_in one neq.names) other.apriori (places_in other neq.names) neq.apriori
  pub unit_length : length neq.units ≡ length neq.names
  pub units : AreFirst one.units (places_in one neq.names) other.units (places_in other neq.names) neq.units
  pub scale_length : length neq.scales ≡ length neq.names
  pub scales : AreFirst one.scales (places_in one neq.names) other.scales (places_in other neq.names) neq.scales
