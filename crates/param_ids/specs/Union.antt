-- The union of two lists of names.
use Rattle.std.specs.Prelude.{◌≡◌, ◌<◌, ◌≤◌, ◌++◌, ◌↔◌, List, length, Result, Ok, Err, Contains}
use Rattle.param_ids.specs.Plain.{PlainId}
use Rattle.param_ids.specs.Order.{IsRising}
use Rattle.param_ids.specs.declared.listing.NamesError.{NamesError}
use Rattle.param_ids.specs.declared.listing.NamesError.TheVariants as errors

-- the names of two lists together, in order, each once
pub record IsUnion (one other ids : List PlainId) : Type 0 where
  pub rising : IsRising ids
  pub same : (id : PlainId) → Contains ids id ↔ Contains (one ++ other) id

-- the union where it has at most 1,000 names, or else its size
abbrev pub IsMerged : List PlainId → List PlainId → Result (List PlainId) NamesError → Type 0
IsMerged one other (Ok names) = IsUnion one other names × (length names ≤ 1000)
IsMerged one other (Err (errors.Repeated id)) = ⊥
IsMerged one other (Err (errors.TooMany count)) = (ids : List PlainId) × IsUnion one other ids × (1000 < length ids) × (count ≡ length ids)
IsMerged one other (Err errors.Memory) = Unit {0}
