-- What is known of each row, from what is known of all.
use Rattle.std.proofs.Common.{◌≡◌, ℕ, ℤ, ◌<◌, ◌^◌, unsigned_abs, List, length, arith}
use Rattle.whole_numbers.proofs.Sums.{le-total_to}
use Rattle.decimal_e.specs.Decimals.{Decimal}
use Rattle.decimal_e.specs.Fractions.{IsAtMost}
use Rattle.equil.specs.Rows.{AllInRange}
use Rattle.whole_numbers.specs.Lists.{at, NonePast}
use Rattle.enclosures.specs.Pilots.{PilotTable}
use Rattle.enclosures.specs.Vectors.{IsSmall}
use Rattle.bounds_report.specs.Printing.{decimal_at, AreScaleExponents}
use Rattle.bounds_report.specs.Rows.{AreRows}

pub are_rows : (n : ℕ) (es ts : List ℤ) (xs : List Decimal) (ys : List ℤ) (ws : List ℕ) (p : PilotTable) → length es ≡ n → length ts ≡ n → length xs ≡ n → length ys ≡ n → length ws ≡ n
    → AllInRange es → AreScaleExponents ts → ((i : ℕ) → i < length xs → IsAtMost (10 ^ 12) (decimal_at xs i)) → IsSmall n (at ys) → NonePast (2 ^ 97) ws → p.size ≡ n
    → AreRows (record { exponents = es; scales = ts; apriori = xs; vector = ys; radii = ws; pilot = p })
are_rows n es ts xs ys ws p le lt lx ly lw range scaled modest small bounded square = record {
  exponents = omega arith;
  scales = omega arith;
  vector = omega arith;
  radii = omega arith;
  square = omega arith;
  exponent = λ i h. range i (omega arith);
  scale = λ i h. scaled i (omega arith);
  apriori = modest;
  start = λ i h. omega (arith, small, le-total_to n (λ j. unsigned_abs (at ys j)) i (omega arith));
  radius = λ i h. bounded i (omega arith);
}
