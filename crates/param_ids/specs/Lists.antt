-- What a list of names gives.
use Rattle.std.specs.Prelude.{◌≡◌, ◌≢◌, ◌<◌, ℕ, List, length, Result, Ok, Err, Some}
use Rattle.std.specs.List.{slice_get}
use Rattle.std.specs.List.Sorted.{IsPermutation}
use Rattle.std.specs.declared.cmp.Ordering.TheVariants.{Less}
use Rattle.param_ids.specs.Plain.{PlainId}
use Rattle.param_ids.specs.Order.{id_cmp, IsNames}
use Rattle.param_ids.specs.declared.listing.NamesError.{NamesError}
use Rattle.param_ids.specs.declared.listing.NamesError.TheVariants as errors

-- a name stands at two places of a list
abbrev pub StandsTwice : List PlainId → PlainId → Type 0
StandsTwice list id = (i : ℕ) × (j : ℕ) × (i ≢ j) × (slice_get list i ≡ Some id) × (slice_get list j ≡ Some id)

-- the least of the names that stand twice
pub record IsLeastRepeat (list : List PlainId) (id : PlainId) : Type 0 where
  pub twice : StandsTwice list id
  pub least : (other : PlainId) → StandsTwice list other → id_cmp other id ≢ Less

-- the names of a list, in order. Where one stands twice, the least that does; else, where there are more than 1,000, how many
abbrev pub IsListed : List PlainId → Result (List PlainId) NamesError → Type 0
IsListed list (Ok names) = IsPermutation list names × IsNames names
IsListed list (Err (errors.Repeated id)) = IsLeastRepeat list id
IsListed list (Err (errors.TooMany count)) = ((id : PlainId) → StandsTwice list id → ⊥) × (1000 < length list) × (count ≡ length list)
IsListed list (Err errors.Memory) = Unit {0}
