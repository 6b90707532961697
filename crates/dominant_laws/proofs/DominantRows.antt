-- From a dominant working table to the conditions of the lemmas.
use Rattle.std.proofs.Common.{◌≡◌, ◌≢◌, ℕ, zero, suc, ℤ, arith, refl, sym, ap, ◌∙◌, ◌≤◌, ◌<◌, ◌+◌, ◌^◌, unsigned_abs, cond, eqb, List}
use Rattle.std.proofs.Math.Decide.{dec_lt}
use Rattle.std.proofs.lemmas.Int.{ints}
use Rattle.std.proofs.lemmas.Bool.Decides.{nat_tests}
use Rattle.whole_numbers.specs.Sum.{total_to}
use Rattle.whole_numbers.specs.Intervals.{Interval, midpoint}
use Rattle.sym_blocks.specs.Tables.{SymTable, entry_at}
use Rattle.sym_blocks.proofs.Rows.{entry_sym}
use Rattle.equil.specs.Tables.{table_of}
use Rattle.enclosure_check.specs.Inputs.{IsWorkingTable}
use Rattle.enclosure_check.proofs.VectorLaws.{middle_small}
use Rattle.dominant_laws.specs.Dominant.{IsDominant, off_diagonal_sum}
use Rattle.dominant_laws.proofs.Conditions.{IsDominantTable}

on_diagonal : (i : ℕ) (a : ℕ) → cond (eqb i i) 0 a ≡ 0
on_diagonal i a = grind (arith, nat_tests)

pub beside_diagonal : (i j : ℕ) (a : ℕ) → j ≢ i → cond (eqb j i) 0 a ≡ a
beside_diagonal i j a ne = grind (arith, nat_tests)

-- the first n columns do not reach the diagonal of row i
sum_before : (n : ℕ) (m : ℕ → ℕ → ℤ) (i : ℕ) → n ≤ i → off_diagonal_sum n m i ≡ total_to n (λ j. unsigned_abs (m i j))
sum_before zero m i le = refl
sum_before (suc n) m i le = omega (arith, sum_before n m i (omega arith), beside_diagonal i n (unsigned_abs (m i n)) (omega arith))

-- a row's sizes are its diagonal's and those off it
row_sum : (n : ℕ) (m : ℕ → ℕ → ℤ) (i : ℕ) → i < n → off_diagonal_sum n m i + unsigned_abs (m i i) ≡ total_to n (λ j. unsigned_abs (m i j))
row_sum zero m i l = absurd (omega arith)
row_sum (suc n) m i l =
    elim (dec_lt i n) [
      | yes p ↦ omega (arith, row_sum n m i p, beside_diagonal i n (unsigned_abs (m i n)) (omega arith))
      | no p ↦
          let e : i ≡ n = omega arith in
          let here = ap (λ j. cond (eqb j i) 0 (unsigned_abs (m i n))) (sym e) ∙ on_diagonal i (unsigned_abs (m i n)) in
          omega (arith, sum_before n m i (omega arith), here, ap (λ j. unsigned_abs (m i j)) e)
    ]

pub dominant_table : (a : SymTable) (d : List Interval) → IsWorkingTable a → IsDominant a.size (table_of a d) → IsDominantTable a.size (table_of a d)
dominant_table a d working rows = record {
  table = record {
    few = working.few;
    sym = λ i j row column. ap midpoint (entry_sym a i j);
    small = λ i j row column. middle_small (entry_at a i j) (2 ^ 61) (working.small i j row column);
    great = λ i row. (rows i row).great;
    rows = λ i row.
        let r = rows i row in
        omega (arith, ints, r.great, r.dominates, row_sum a.size (λ k l. midpoint (entry_at a k l)) i row);
  };
  narrow = λ i j row column. (rows i row).narrow j column;
  narrow_right = λ i row. (rows i row).narrow_right;
  rights = λ i row. (rows i row).right;
}
