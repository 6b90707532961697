-- What the numbers of the rows are made from, apart from the table.
use Rattle.std.specs.Prelude.{◌≡◌, ◌≤◌, ◌<◌, ◌^◌, ℕ, ℤ, unsigned_abs, List, length, slice_index_or}
use Rattle.decimal_e.specs.Decimals.{Decimal}
use Rattle.decimal_e.specs.Fractions.{IsAtMost}
use Rattle.enclosures.specs.Pilots.{PilotTable, pilot_entry}
use Rattle.equil.specs.Exponents.{IsInRange}
use Rattle.equil.specs.Tables.{exponent_of}
use Rattle.whole_numbers.specs.Lists.{at}
use Rattle.bounds_report.specs.Printing.{decimal_at, row_power, deviation_of, IsScaleExponent}

-- the exponents of the working table, the scale exponents of the parameters, the a priori values, the start vector and the radii, row
-- by row, and the pilot
pub record RowLists : Type 0 where
  pub exponents : List ℤ
  pub scales : List ℤ
  pub apriori : List Decimal
  pub vector : List ℤ
  pub radii : List ℕ
  pub pilot : PilotTable

abbrev pub row_count : RowLists → ℕ
row_count r = length r.apriori

abbrev pub power_at : RowLists → ℕ → ℤ
power_at r i = row_power r.exponents r.scales i

abbrev pub apriori_at : RowLists → ℕ → Decimal
apriori_at r i = decimal_at r.apriori i

abbrev pub vector_at : RowLists → ℕ → ℤ
vector_at r i = at r.vector i

abbrev pub radius_at : RowLists → ℕ → ℕ
radius_at r i = slice_index_or r.radii i 0

abbrev pub deviation_at : RowLists → ℕ → ℕ
deviation_at r i = deviation_of r.pilot.g (pilot_entry r.pilot i i)

-- the lists have one length, and their numbers are within these bounds
pub record AreRows (r : RowLists) : Type 0 where
  pub exponents : length r.exponents ≡ row_count r
  pub scales : length r.scales ≡ row_count r
  pub vector : length r.vector ≡ row_count r
  pub radii : length r.radii ≡ row_count r
  pub square : r.pilot.size ≡ row_count r
  pub exponent : (i : ℕ) → i < row_count r → IsInRange (exponent_of r.exponents i)
  pub scale : (i : ℕ) → i < row_count r → IsScaleExponent (at r.scales i)
  pub apriori : (i : ℕ) → i < row_count r → IsAtMost (10 ^ 12) (apriori_at r i)
  pub start : (i : ℕ) → i < row_count r → unsigned_abs (vector_at r i) ≤ 2 ^ 64
  pub radius : (i : ℕ) → i < row_count r → radius_at r i ≤ 2 ^ 97
