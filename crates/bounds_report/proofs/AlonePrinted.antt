-- The printed numbers are determined by the working table, its exponents, the pilot, the start vector and the radii, and so is the first
-- row that can't be printed. No numbers are printed where there is such a row.
use Rattle.std.proofs.Common.{◌≡◌, ◌≤◌, ◌<◌, inl, inr, ◌∙◌, ℕ, suc, ℤ, List, arith, sym}
use Rattle.whole_numbers.specs.Intervals.{size}
use Rattle.stated_order.proofs.FirstLaws.{neither_less}
use Rattle.whole_numbers.proofs.ListLaws.{equal_lists}
use Rattle.whole_numbers.proofs.Sums.{total_part}
use Rattle.decimal_e.specs.Decimals.{Decimal}
use Rattle.enclosures.specs.Pilots.{PilotTable}
use Rattle.sys_model.specs.Systems.{Table}
use Rattle.bounds_report.specs.Printing.{working_difference, DifferencesFit, ArePrinted}
use Rattle.bounds_report.specs.Refusals.{IsPrintRefused}
use Rattle.bounds_report.specs.declared.PrintError.TheVariants.{Range}
use Rattle.bounds_report.specs.declared.numbers.Printed.{Printed}

module _ (n : ℕ) (e : ℕ → ℤ) (x0 : ℕ → Decimal) (y : ℕ → ℤ) (w : ℕ → ℕ) where
  pub printed_alone : (t : Table) (p : PilotTable) (ps qs : List Printed) → ArePrinted n t p e x0 y w ps → ArePrinted n t p e x0 y w qs → ps ≡ qs
  printed_alone t p ps qs a b = equal_lists _ n ps qs a.len b.len (λ i row. a.rows i row ∙ sym (b.rows i row))

  fewer_differences : (k m : ℕ) → k ≤ m → DifferencesFit m e x0 y → DifferencesFit k e x0 y
  fewer_differences k m few a = omega (arith, total_part m (λ j. size (working_difference (x0 j) (e j) (y j))) k few)

  pub printed_no_refusal : (t : Table) (p : PilotTable) (ps : List Printed) (row : ℕ) → ArePrinted n t p e x0 y w ps → IsPrintRefused n e x0 y w (Range row) → ⊥
  printed_no_refusal t p ps row a b =
      elim b [
        | inl r ↦ r.fails (a.printable row r.within)
        | inr r ↦ r.past (fewer_differences (suc row) n r.within a.differences)
      ]

  no_earlier : (row col : ℕ) → IsPrintRefused n e x0 y w (Range row) → IsPrintRefused n e x0 y w (Range col) → col < row → ⊥
  no_earlier row col a b l =
      elim b [
        | inl r ↦ r.fails (elim a [ inl s ↦ s.before col l | inr s ↦ s.printable col r.within ])
        | inr r ↦ elim a [ inl s ↦ s.fails (r.printable row s.within) | inr s ↦ r.past (fewer_differences (suc col) row l s.before) ]
      ]

  pub print_refusal_alone : (row col : ℕ) → IsPrintRefused n e x0 y w (Range row) → IsPrintRefused n e x0 y w (Range col) → row ≡ col
  print_refusal_alone row col a b = neither_less row col (no_earlier col row b a) (no_earlier row col a b)
