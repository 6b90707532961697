-- A list of lower intervals after one is written, read at pairs; and what holds at each place if it holds at each pair.
use Rattle.std.proofs.Common.{◌≡◌, ◌≤◌, ◌<◌, ◌∙◌, ℕ, List, length, slice_index_or, slice_set, subst, sym}
use Rattle.std.proofs.lemmas.Grind.{get_or-set_at}
use Rattle.std.proofs.lemmas.List.{get_or-set_other}
use Rattle.whole_numbers.specs.Intervals.{Interval}
use Rattle.sym_blocks.specs.Tables.{before, place, lower_place, IsPair, SymTable, SumFits, entry_at, zero_interval}
use Rattle.sym_blocks.proofs.Rows.{place_same, place_apart, lower_apart, pair_at, place_lower}

pub here : {X : Type 0} (xs : List X) (p i j k l : ℕ) (v d : X) → p ≡ place i j → p < length xs → IsPair i j k l → slice_index_or (slice_set xs p v) (place k l) d ≡ v
here xs p i j k l v d e lt pair = get_or-set_at xs p (place k l) v d (place_same i j k l pair ∙ sym e) lt

pub others : {X : Type 0} (xs : List X) (p i j k l : ℕ) (v d : X) → p ≡ place i j → ¬ (IsPair i j k l) → slice_index_or (slice_set xs p v) (place k l) d ≡ slice_index_or xs (place k l) d
others xs p i j k l v d e none = get_or-set_other xs p (place k l) v d (λ s. none (place_apart i j k l (sym e ∙ sym s)))

pub lower_here : {X : Type 0} (xs : List X) (p i j : ℕ) (v d : X) → p ≡ lower_place i j → p < length xs → slice_index_or (slice_set xs p v) (lower_place i j) d ≡ v
lower_here xs p i j v d e lt = get_or-set_at xs p (lower_place i j) v d (sym e) lt

pub lower_others : {X : Type 0} (xs : List X) (p i j k l : ℕ) (v d : X) → p ≡ lower_place i j → j ≤ i → l ≤ k → ¬ ((k ≡ i) × (l ≡ j)) → slice_index_or (slice_set xs p v) (lower_place k l) d ≡ slice_index_or xs (lower_place k l) d
lower_others xs p i j k l v d e h g none = get_or-set_other xs p (lower_place k l) v d (λ s. none (lower_apart k l i j g h (s ∙ e)))

pub each_place : (P : ℕ → Type 0) (n : ℕ) → ((i j : ℕ) → i < n → j ≤ i → P (place i j)) → (k : ℕ) → k < before n → P k
each_place P n h k lt = let p = pair_at n k lt in subst P (place_lower p.row p.column p.lower ∙ p.is) (h p.row p.column p.within p.lower)

-- what sums fit at each pair fit at each place
pub fits_each : (t u : SymTable) (xs ys : List Interval) → xs ≡ t.entries → ys ≡ u.entries → ((i j : ℕ) → i < t.size → j ≤ i → SumFits (entry_at t i j) (entry_at u i j)) → (k : ℕ) → k < before t.size → SumFits (slice_index_or xs k zero_interval) (slice_index_or ys k zero_interval)
fits_each t u xs ys e f h k lt = rw (e, f) (each_place (λ k. SumFits (slice_index_or t.entries k zero_interval) (slice_index_or u.entries k zero_interval)) t.size h k lt)
