-- What the call answers.
use Rattle.std.specs.Prelude.{ℤ, List}
use Rattle.whole_numbers.specs.Intervals.{Interval}
use Rattle.sym_blocks.specs.Tables.{SymTable}
use Rattle.difference_products.specs.Products.{Factors, Place}
use Rattle.difference_products.specs.declared.ProductError.{ProductError}
use Rattle.difference_products.specs.declared.ProductError.TheVariants.{Range, Memory}

abbrev pub factors_of : SymTable → List Interval → List ℤ → Factors
factors_of table differences scales = record { table = table; differences = differences; scales = scales }

-- what a refusal says: P of the place that it names, and nothing where memory is wanting
abbrev pub IfRange : (Place → Type 0) → ProductError → Type 0
IfRange P (Range row col) = P (record { row = row; col = col })
IfRange P Memory = Unit {0}
