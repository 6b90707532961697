-- Places of intervals in the list.
use Rattle.std.proofs.Common.{◌≡◌, ◌≤◌, ◌<◌, ◌+◌, ◌-◌, ◌*◌, ◌/◌, inl, inr, ℕ, zero, suc, refl, ap, arith, max, min, slice_index_or}
use Rattle.std.proofs.Math.Decide.{dec_lt}
use Rattle.sym_blocks.specs.Tables.{before, lower_place, place, SymTable, entry_at, zero_interval, IsPair}

twice : (n : ℕ) → 2 * before n ≡ n * (n + 1)
unfolding before
twice zero = refl
twice (suc n) = omega (arith, twice n)

-- as the code computes it
pub half : (n : ℕ) → n * (n + 1) / 2 ≡ before n
half n = omega (arith, twice n)

step : (i n wi wn : ℕ) → i < suc n → (i < n → wi + i < wn) → (i ≡ n → wi ≡ wn) → wi + i < wn + suc n
step i n wi wn lt earlier same = grind arith

-- a row ends before each later row begins
pub later_row : (i n : ℕ) → i < n → before i + i < before n
unfolding before
later_row i zero lt = absurd (omega arith)
later_row i (suc n) lt = step i n (before i) (before n) lt (λ h. later_row i n h) (λ e. ap before e)

pub lower_within : (i j n : ℕ) → i < n → j ≤ i → lower_place i j < before n
lower_within i j n row column = omega (arith, later_row i n row)

pub place_within : (i j n : ℕ) → i < n → j < n → place i j < before n
place_within i j n row column = lower_within (max i j) (min i j) n (omega arith) (omega arith)

-- two places are the same only for one pair
pub lower_apart : (i j k l : ℕ) → j ≤ i → l ≤ k → lower_place i j ≡ lower_place k l → (i ≡ k) × (j ≡ l)
lower_apart i j k l h g e =
    elim (dec_lt i k) [
      | yes lt ↦ absurd (omega (arith, later_row i k lt))
      | no ge ↦ elim (dec_lt k i) [
        | yes lt ↦ absurd (omega (arith, later_row k i lt))
        | no le ↦ let same : i ≡ k = omega arith in let b = ap before same in (same, omega arith)
      ]
    ]

pub place_apart : (i j k l : ℕ) → place i j ≡ place k l → IsPair i j k l
place_apart i j k l e =
    let p = lower_apart (max i j) (min i j) (max k l) (min k l) (omega arith) (omega arith) e in
    elim (dec_lt i j) [
      | yes s ↦ elim (dec_lt k l) [ yes t ↦ inl (omega arith) | no t ↦ inr (omega arith) ]
      | no s ↦ elim (dec_lt k l) [ yes t ↦ inr (omega arith) | no t ↦ inl (omega arith) ]
    ]

pub place_same : (i j k l : ℕ) → IsPair i j k l → place k l ≡ place i j
place_same i j k l (inl p) = let m : max k l ≡ max i j = omega arith in let b = ap before m in omega arith
place_same i j k l (inr p) = let m : max k l ≡ max i j = omega arith in let b = ap before m in omega arith

-- each place is that of a pair
pub record Pair (n k : ℕ) : Type 0 where
  pub row : ℕ
  pub column : ℕ
  pub within : row < n
  pub lower : column ≤ row
  pub is : lower_place row column ≡ k

pub pair_at : (n k : ℕ) → k < before n → Pair n k
unfolding before
pair_at zero k h = absurd (omega arith)
pair_at (suc n) k h =
    elim (dec_lt k (before n)) [
      | yes lt ↦ let p = pair_at n k lt in record { row = p.row; column = p.column; within = omega arith; lower = p.lower; is = p.is }
      | no ge ↦ record { row = n; column = k - before n; within = omega arith; lower = omega arith; is = omega arith }
    ]

pub place_lower : (i j : ℕ) → j ≤ i → place i j ≡ lower_place i j
place_lower i j h = let m : max i j ≡ i = omega arith in let b = ap before m in omega arith

pub place_below : (i j m n : ℕ) → m ≡ n → i < n → j < n → place i j < before m
place_below i j m n e row column = place_within i j m (omega arith) (omega arith)

pub lower_below : (i j m n : ℕ) → m ≡ n → i < n → j ≤ i → lower_place i j < before m
lower_below i j m n e row column = lower_within i j m (omega arith) column

pub entry_sym : (t : SymTable) (i j : ℕ) → entry_at t i j ≡ entry_at t j i
entry_sym t i j = ap (λ p. slice_index_or t.entries p zero_interval) (place_same j i i j (inr (refl, refl)))
