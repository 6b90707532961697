-- Lists of conditions, from their first member on.
use Rattle.std.proofs.Common.{◌≡◌, ◌≤◌, ◌<◌, ◌+◌, ◌-◌, ◌*◌, ◌^◌, ◌∙◌, inl, ℕ, zero, suc, ℤ, List, [], ◌∷◌, Option, length, take, drop, get_or, refl, sym, ap, subst, arith}
use Rattle.std.proofs.lemmas.List.{take_all}
use Rattle.whole_numbers.specs.Intervals.{size}
use Rattle.sym_blocks.specs.Tables.{SymTable, entry_at}
use Rattle.control_doc.specs.Valid.{IsPositiveAndShort}
use Rattle.datum_rows.specs.declared.motions.Condition.{Condition}
use Rattle.datum_rows.specs.declared.sites.Coordinate.{Coordinate}
use Rattle.datum_rows.specs.declared.rows.Place.{Place}
use Rattle.datum_rows.specs.Conditions.{Condition as View}
use Rattle.datum_rows.specs.Views.{condition_view}
use Rattle.datum_rows.specs.Rows.{FitsAll, AreTested, AreFitting, AreFine, AreAllAdded, IsTableWith, IsTableAtMost}
use Rattle.datum_rows.proofs.KeptLaws.{size_of_sum}
use Rattle.datum_rows.proofs.RowLaws.{one_row_at}

-- what is left of a list after its first member
abbrev pub rest_of : {X : Type 0} → List X → List X
rest_of xs = take (length xs - 1) (drop 1 xs)

pub first_and_rest : {X : Type 0} (xs : List X) (x : X) → 1 ≤ length xs → x ≡ get_or xs 0 x → xs ≡ x ∷ rest_of xs
first_and_rest [] x some is = absurd (omega arith)
first_and_rest (y ∷ ys) x some is =
    let all : length ys ≤ suc (length ys) - 1 = omega arith in
    ap (λ z. z ∷ ys) (sym is) ∙ ap (λ l. x ∷ l) (sym (take_all (suc (length ys) - 1) ys all))

module _ (coordinates : List (Option Coordinate)) (scales : List ℤ) (xs : List Condition) (x : Condition) (some : 1 ≤ length xs) (is : x ≡ get_or xs 0 x) where
  pub tested_next : (found : Option Place) → FitsAll coordinates scales (condition_view x) → AreTested coordinates scales (rest_of xs) found → AreTested coordinates scales xs found
  tested_next found fits rest = subst (λ l. AreTested coordinates scales l found) (sym (first_and_rest xs x some is)) (inl (fits, rest))

-- ---- at a place
pub fine_at : (xs : List Condition) (k : ℕ) (x : Condition) → k < length xs → x ≡ get_or xs k x → AreFine xs → IsPositiveAndShort x.sigma
fine_at [] k x lt is fine = absurd (omega arith)
fine_at (y ∷ ys) zero x lt is fine = subst (λ c. IsPositiveAndShort c.sigma) (sym is) fine.0
fine_at (y ∷ ys) (suc k) x lt is fine = fine_at ys k x (omega arith) is fine.1

module _ (coordinates : List (Option Coordinate)) (scales : List ℤ) where
  pub fitting_at : (xs : List Condition) (k : ℕ) (x : Condition) → k < length xs → x ≡ get_or xs k x → AreFitting coordinates scales xs → FitsAll coordinates scales (condition_view x)
  fitting_at [] k x lt is fits = absurd (omega arith)
  fitting_at (y ∷ ys) zero x lt is fits = subst (λ c. FitsAll coordinates scales (condition_view c)) (sym is) fits.0
  fitting_at (y ∷ ys) (suc k) x lt is fits = fitting_at ys k x (omega arith) is fits.1

  pub added_more : (xs : List Condition) (k : ℕ) (x : Condition) (old mid new : SymTable) → k < length xs → x ≡ get_or xs k x → AreAllAdded coordinates scales (take k xs) old mid → IsTableWith coordinates scales (condition_view x) mid new → AreAllAdded coordinates scales (take (suc k) xs) old new
  added_more [] k x old mid new lt is before here = absurd (omega arith)
  added_more (y ∷ ys) zero x old mid new lt is before here = (new, subst (λ t. IsTableWith coordinates scales (condition_view y) t new) before (subst (λ c. IsTableWith coordinates scales (condition_view c) mid new) is here), refl)
  added_more (y ∷ ys) (suc k) x old mid new lt is before here = (before.0, before.1, added_more ys k x before.0 mid new (omega arith) is before.2 here)

  pub table_grows : (condition : View) (old new : SymTable) (most : ℕ) → old.size ≡ length coordinates → FitsAll coordinates scales condition → IsTableWith coordinates scales condition old new → IsTableAtMost most old → IsTableAtMost (most + 10 ^ 34) new
  table_grows condition old new most rows fits with_row small i j lt low =
      let within : i < old.size = omega (arith, with_row.rows) in
      let there = with_row.entries i j within low in
      let fit = fits i j (omega arith) low in
      subst (λ e. size e ≤ most + 10 ^ 34) (sym there.2)
      (size_of_sum (entry_at old i j) there.0 most (small i j within low) (subst (λ v. size v ≤ 10 ^ 34) (one_row_at coordinates scales condition i j fit.0 there.0 fit.1 there.1) fit.2))

-- where the greatest interval leaves room for those of all conditions, it leaves room for the next
pub room_left : (table : SymTable) (most k n : ℕ) → k < n → most + n * 10 ^ 34 < 10 ^ 38 → IsTableAtMost (most + k * 10 ^ 34) table → (i j : ℕ) → i < table.size → j ≤ i → size (entry_at table i j) + 10 ^ 34 < 10 ^ 38
room_left table most k n within room small i j lt low = let s = small i j lt low in omega arith
