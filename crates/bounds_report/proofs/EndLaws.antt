-- The ends of a row, and of one row more.
use Rattle.std.proofs.Common.{◌≡◌, ℕ, ℤ, ◌+◌, ◌^◌, ◌≤◌, ◌++◌, ◌∷◌, [], unsigned_abs, List, Option, Some, None, SomeIff, arith, below_more}
use Rattle.std.proofs.lemmas.List.{length_push}
use Rattle.bounds_report.specs.Printing.{low_term, high_term}
use Rattle.bounds_report.specs.Ends.{AreLimited, AreEnds, ends_of, IsRowPrintable}
use Rattle.bounds_report.specs.Rows.{RowLists, power_at, vector_at, radius_at}
use Rattle.bounds_report.specs.declared.ends.Ends.{Ends}
use Rattle.whole_numbers.proofs.ListLaws.{each_push}

-- where the terms are small, the ends decide
limited_ends : (r : RowLists) (i : ℕ) (o : Option Ends) → unsigned_abs (low_term (power_at r i) (vector_at r i) (radius_at r i)) ≤ 10 ^ 37
    → unsigned_abs (high_term (power_at r i) (vector_at r i) (radius_at r i)) ≤ 10 ^ 37
    → SomeIff o (AreLimited (ends_of r i)) (ends_of r i) → SomeIff o (IsRowPrintable r i) (ends_of r i)
limited_ends r i None a b h = λ p. h (record { lower = p.lower; upper = p.upper; estimate = p.estimate })
limited_ends r i (Some e) a b h = (record { low = a; high = b; lower = h.0.lower; upper = h.0.upper; estimate = h.0.estimate }, h.1)

pub ends_from : (r : RowLists) (i : ℕ) (o : Option Ends) (l u m : ℤ) → unsigned_abs (low_term (power_at r i) (vector_at r i) (radius_at r i)) ≤ 10 ^ 37
    → unsigned_abs (high_term (power_at r i) (vector_at r i) (radius_at r i)) ≤ 10 ^ 37
    → l ≡ (ends_of r i).lower → u ≡ (ends_of r i).upper → m ≡ (ends_of r i).estimate
    → SomeIff o (AreLimited (record { lower = l; upper = u; estimate = m })) (record { lower = l; upper = u; estimate = m }) → SomeIff o (IsRowPrintable r i) (ends_of r i)
ends_from r i o l u m a b el eu em h = limited_ends r i o a b (rw (el, eu, em) at h)

-- one row more
pub ends_push : (n : ℕ) (r : RowLists) (es : List Ends) (e : Ends) → AreEnds n r es → IsRowPrintable r n → e ≡ ends_of r n → AreEnds (n + 1) r (es ++ e ∷ [])
ends_push n r es e done here is = record {
  len = omega (arith, length_push es e, done.len);
  printable = below_more (IsRowPrintable r) n done.printable here;
  rows = each_push (λ k e. e ≡ ends_of r k) es n e _ done.len done.rows is;
}
