-- What is kept of the digits of a mantissa.
use Rattle.std.specs.Prelude.{◌≡◌, ◌≢◌, ℕ, ◌+◌, ◌-◌, ◌*◌, ◌^◌, ◌%◌, ◌≤◌, ◌<◌, List, length, slice_index}
use Rattle.decimal_e.specs.Digits.{number}
use Rattle.decimal_e.specs.declared.digits.Tally.{Tally}

-- The digits are zeros, then those that the tally counts, which begin and end with one that is not 0, then its zeros. Up to 18 it keeps their number.
pub record Tallies (tally : Tally) (digits : List ℕ) : Type 0 where
  pub leading : ℕ
  pub total : leading + tally.digits + tally.zeros ≡ length digits
  pub inside : (i : ℕ) → i < length digits → slice_index digits i ≢ 48 → (leading ≤ i) × (i < leading + tally.digits)
  pub first : 0 < tally.digits → slice_index digits leading ≢ 48
  pub last : 0 < tally.digits → slice_index digits (leading + tally.digits - 1) ≢ 48
  pub none : tally.digits ≡ 0 → (tally.value ≡ 0) × (tally.zeros ≡ 0)
  pub value : tally.digits ≤ 18 → number digits ≡ tally.value * 10 ^ tally.zeros
  pub end : 0 < tally.digits → tally.digits ≤ 18 → tally.value % 10 ≢ 0
  pub small : tally.digits ≤ 18 → tally.value < 10 ^ tally.digits
