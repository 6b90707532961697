-- Columns as far as they are made, and the lists that they are read from and written to. Private functions speak of these;
-- the scales at the end, from KeepsColumns on, are also those of Made.
use Rattle.std.specs.Prelude.{◌≡◌, ◌≢◌, ◌≤◌, ◌<◌, ◌^◌, ℕ, suc, ℤ, List, length, unsigned_abs}
use Rattle.chol_factor.specs.Factor.{fixed_quotient}
use Rattle.whole_numbers.specs.Lists.{at, AllAtMost}
use Rattle.whole_numbers.specs.Squares.{SquareTable, square_at}
use Rattle.chol_guess.specs.Columns.{back_left, IsForwardSolution, IsInverseColumn, StayInBounds}
use Rattle.chol_guess.specs.Pilots.{nearest}
use Rattle.enclosures.specs.Pilots.{IsPilotScale}

-- t is the transpose of f with n rows
pub record IsTransposed (n : ℕ) (f : ℕ → ℕ → ℤ) (t : SquareTable) : Type 0 where
  pub few : n ≤ 1000
  pub size : t.size ≡ n
  pub turned : (i k : ℕ) → i < n → k < n → square_at t i k ≡ f k i
  pub small : AllAtMost (2 ^ 61) t.numbers

-- what is left of a row and its quotient are in bounds
pub record QuotientFits (left diagonal : ℤ) (limit : ℕ) : Type 0 where
  pub left_fits : unsigned_abs left ≤ 2 ^ 66
  pub fits : unsigned_abs (fixed_quotient left diagonal) ≤ limit

-- back substitution, as far as the rows from row m on
pub record IsBackFrom (n m : ℕ) (f : ℕ → ℕ → ℤ) (u x : ℕ → ℤ) : Type 0 where
  pub rows : (i : ℕ) → m ≤ i → i < n → x i ≡ fixed_quotient (back_left n f u x i) (f i i)
  pub left_fits : (i : ℕ) → m ≤ i → i < n → unsigned_abs (back_left n f u x i) ≤ 2 ^ 66
  pub fits : (i : ℕ) → m ≤ i → i < n → unsigned_abs (x i) ≤ 2 ^ 60

-- forward substitution of column c at the scale g stands in us before row i
pub record IsForwardBefore (n i : ℕ) (f : ℕ → ℕ → ℤ) (g c : ℕ) (us : List ℤ) : Type 0 where
  pub few : n ≤ 1000
  pub scale : g ≤ 50
  pub row : i < n
  pub column : c ≤ i
  pub len : length us ≡ n
  pub before : IsForwardSolution i f g c (at us)

-- back substitution starts from us, by the transpose t
pub record IsBackStart (n : ℕ) (f : ℕ → ℕ → ℤ) (t : SquareTable) (us : List ℤ) : Type 0 where
  pub transposed : IsTransposed n f t
  pub len : length us ≡ n
  pub small : AllAtMost (2 ^ 64) us

-- back substitution of us stands in xs past row i
pub record IsBackAfter (n i : ℕ) (f : ℕ → ℕ → ℤ) (us xs : List ℤ) : Type 0 where
  pub row : i < n
  pub len : length xs ≡ n
  pub after : IsBackFrom n (suc i) f (at us) (at xs)

-- there is room for a column of n rows, in both substitutions, and r for n columns of small numbers
pub record IsRoom (n : ℕ) (us xs : List ℤ) (r : SquareTable) : Type 0 where
  pub up : length us ≡ n
  pub down : length xs ≡ n
  pub size : r.size ≡ n
  pub small : AllAtMost (2 ^ 50) r.numbers

-- the columns but c are as before
abbrev pub KeepsColumns : ℕ → ℕ → SquareTable → SquareTable → Type 0
KeepsColumns n c old new = (i k : ℕ) → i < n → k < n → k ≢ c → square_at new i k ≡ square_at old i k

-- column k of r is that of the inverse at the scale g, to nearest
abbrev pub HasColumn : ℕ → (ℕ → ℕ → ℤ) → ℕ → SquareTable → ℕ → Type 0
HasColumn n f g r k = (x : ℕ → ℤ) × (IsInverseColumn n f g k x × ((i : ℕ) → i < n → square_at r i k ≡ nearest (x i)))

-- so are the columns before column c
abbrev pub PlacesColumns : ℕ → (ℕ → ℕ → ℤ) → ℕ → SquareTable → ℕ → Type 0
PlacesColumns n f g r c = (k : ℕ) → k < c → HasColumn n f g r k

-- column c is the first that fails at the scale g
pub record IsFirstFailing (n : ℕ) (f : ℕ → ℕ → ℤ) (g c : ℕ) : Type 0 where
  pub within : c < n
  pub before : StayInBounds n f g c
  pub here : ¬ (StayInBounds n f g (suc c))

-- at no greater scale than g do all columns stay in bounds
abbrev pub FailAbove : ℕ → (ℕ → ℕ → ℤ) → ℕ → Type 0
FailAbove n f g = (h : ℕ) → IsPilotScale h → g < h → ¬ (StayInBounds n f h n)

-- g is the greatest scale at which all columns stay in bounds, and these are the columns of r
pub record IsGreatestScale (n : ℕ) (f : ℕ → ℕ → ℤ) (g : ℕ) (r : SquareTable) : Type 0 where
  pub scale : IsPilotScale g
  pub columns : PlacesColumns n f g r n
  pub greatest : FailAbove n f g

-- column c is the first that fails at the scale 0, and some fail at each greater one
pub record IsFailure (n : ℕ) (f : ℕ → ℕ → ℤ) (c : ℕ) : Type 0 where
  pub first : IsFirstFailing n f 0 c
  pub greater : FailAbove n f 0
