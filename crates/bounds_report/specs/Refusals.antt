-- Where the numbers can't be printed.
use Rattle.std.specs.Prelude.{◌<◌, ◌⊎◌, ℕ, suc, ℤ, ⊤}
use Rattle.stated_order.specs.First.{IsFirstFailure}
use Rattle.decimal_e.specs.Decimals.{Decimal}
use Rattle.bounds_report.specs.Printing.{IsPrintable, DifferencesFit}
use Rattle.bounds_report.specs.declared.PrintError.{PrintError}
use Rattle.bounds_report.specs.declared.PrintError.TheVariants.{Range, Memory}

-- the first row whose bounds or estimate can't be printed
abbrev pub IsFirstUnprintable : ℕ → (ℕ → ℤ) → (ℕ → Decimal) → (ℕ → ℤ) → (ℕ → ℕ) → ℕ → Type 0
IsFirstUnprintable n e x0 y w row = IsFirstFailure n (λ i. IsPrintable (x0 i) (e i) (y i) (w i)) row

-- all can, and at this row first the sizes of the working differences pass 2^65 in sum
pub record IsFirstFar (n : ℕ) (e : ℕ → ℤ) (x0 : ℕ → Decimal) (y : ℕ → ℤ) (w : ℕ → ℕ) (row : ℕ) : Type 0 where
  pub within : row < n
  pub printable : (i : ℕ) → i < n → IsPrintable (x0 i) (e i) (y i) (w i)
  pub before : DifferencesFit row e x0 y
  pub past : ¬ (DifferencesFit (suc row) e x0 y)

-- what a refusal says: nothing where memory is wanting
abbrev pub IsPrintRefused : ℕ → (ℕ → ℤ) → (ℕ → Decimal) → (ℕ → ℤ) → (ℕ → ℕ) → PrintError → Type 0
IsPrintRefused n e x0 y w (Range row) = IsFirstUnprintable n e x0 y w row ⊎ IsFirstFar n e x0 y w row
IsPrintRefused n e x0 y w Memory = ⊤
