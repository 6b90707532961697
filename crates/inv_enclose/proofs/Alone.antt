-- There is one inverse, or one first cause.
use Rattle.std.proofs.Common.{◌≡◌, ◌≤◌, ◌<◌, ◌∙◌, ℕ, suc, ℤ, List, [], replicate, Some, Result, Ok, Err, length, slice_get, get_or, sym, ap, subst, arith}
use Rattle.std.proofs.Math.Decide.{dec_le}
use Rattle.std.proofs.lemmas.Option.{slice_get-get_or}
use Rattle.stated_order.specs.Steps.{IsOne, Then}
use Rattle.stated_order.proofs.FirstLaws.{neither_less, first_lower_failure_is_one, first_lower_failure_fails}
use Rattle.stated_order.proofs.StepLaws.{gives_or_refuses, then_is_one, renamed_is_one, ok_same}
use Rattle.whole_numbers.specs.Intervals.{Interval}
use Rattle.whole_numbers.proofs.ListLaws.{equal_lists}
use Rattle.whole_numbers.proofs.Powers.{ten_le}
use Rattle.sym_blocks.specs.Tables.{SymTable, entry_at, zero_interval}
use Rattle.sym_blocks.proofs.EqualTables.{equal_symmetric}
use Rattle.sym_blocks.proofs.Rows.{entry_sym}
use Rattle.equil.specs.Tables.{table_of, exponent_of}
use Rattle.enclosures.specs.Pilots.{PilotTable}
use Rattle.enclosure_check.specs.Steps.{Worked, midpoints_of, IsWorkingStep, IsPilotStep, IsVectorStep, IsCertificateStep}
use Rattle.enclosure_check.proofs.AloneEnclosures.{first_given_is_one, transposed_is_one}
use Rattle.enclosure_check.proofs.AloneSteps.{working_is_one, pilot_is_one, vector_is_one, certificate_is_one}
use Rattle.inv_enclose.specs.Refusals.{of_working, of_pilot, of_vector, of_check}
use Rattle.inv_enclose.specs.Columns.{IsUnitPower, IsUnitSide, Column, IsColumnOf, IsColumn, AtEach, AreColumns, AreColumnsByTransposed, AreColumnsByEither, column_at, IntervalFits, IsTableOfColumns, AreJoined, IsInverseBy, OneInverse}
use Rattle.inv_enclose.specs.declared.InvError.TheVariants.{Range}

-- ---- right sides
power_not_less : (g u v : ℕ) → IsUnitPower g u → IsUnitPower g v → u < v → ⊥
power_not_less g u v a b l = let t = ten_le (suc u) v l in let m = a.most in let w = b.within in omega arith

power_is_one : (g u v : ℕ) → IsUnitPower g u → IsUnitPower g v → u ≡ v
power_is_one g u v a b = neither_less u v (power_not_less g u v a b) (power_not_less g v u b a)

side_is_one : (n v c : ℕ) (d f : List Interval) → IsUnitSide n v c d → IsUnitSide n v c f → d ≡ f
side_is_one n v c d f a b = equal_lists zero_interval n d f a.len b.len (λ k l. a.each k l ∙ sym (b.each k l))

-- ---- columns
module _ (n : ℕ) (a : SymTable) (p : PilotTable) (v c : ℕ) where
  column_of_is_one : (d : List Interval) → IsOne (IsColumnOf n a p c d)
  column_of_is_one d =
      then_is_one _ _ (renamed_is_one (of_vector c) (IsVectorStep n (table_of a d) p) (vector_is_one n (table_of a d) p)) (λ y of_y.
      then_is_one _ _ (renamed_is_one of_check (IsCertificateStep n (table_of a d) p y) (certificate_is_one n (table_of a d) p y)) (λ x of_x r s one other. one ∙ sym other))

  column_is_one : IsOne (IsColumn n a p v c)
  column_is_one r s one other = column_of_is_one other.0 r s (subst (λ d. IsColumnOf n a p c d r) (side_is_one n v c one.0 other.0 one.1 other.1) one.2) other.2

-- a step for each number has one result, where each has one
module _ {B C : Type 0} (none : B) (step : ℕ → Result B C → Type 0) (one : (k : ℕ) → IsOne (step k)) (n : ℕ) where
  same_at : (bs ds : List B) → length bs ≡ n → length ds ≡ n → ((k : ℕ) (b : B) → slice_get bs k ≡ Some b → step k (Ok b)) → ((k : ℕ) (b : B) → slice_get ds k ≡ Some b → step k (Ok b)) → (k : ℕ) → k < n → get_or bs k none ≡ get_or ds k none
  same_at bs ds few many a b k l =
      let x = a k (get_or bs k none) (slice_get-get_or bs k none (omega arith)) in
      let y = b k (get_or ds k none) (slice_get-get_or ds k none (omega arith)) in
      ok_same (get_or bs k none) (get_or ds k none) (one k (Ok (get_or bs k none)) (Ok (get_or ds k none)) x y)

  not_refused : (bs : List B) (cause : C) → AtEach step n (Ok bs) → AtEach step n (Err cause) → ⊥
  not_refused bs cause a b =
      let count = a.0 in
      let within = b.1 in
      gives_or_refuses (step b.0) (get_or bs b.0 none) cause (one b.0) (a.1 b.0 (get_or bs b.0 none) (slice_get-get_or bs b.0 none (omega arith))) b.3

  not_earlier : (c d : C) (a : AtEach step n (Err c)) (b : AtEach step n (Err d)) → a.0 < b.0 → ⊥
  not_earlier c d a b l = let x = b.2 a.0 l in gives_or_refuses (step a.0) x.0 c (one a.0) x.1 a.3

  pub at_each_is_one : IsOne (AtEach step n)
  at_each_is_one (Ok bs) (Ok ds) a b = ap Ok (equal_lists none n bs ds a.0 b.0 (same_at bs ds a.0 b.0 a.1 b.1))
  at_each_is_one (Ok bs) (Err d) a b = absurd (not_refused bs d a b)
  at_each_is_one (Err c) (Ok ds) a b = absurd (not_refused ds c b a)
  at_each_is_one (Err c) (Err d) a b =
      let same = neither_less a.0 b.0 (not_earlier c d a b) (not_earlier d c b a) in
      let r : Result B C = Err c in
      let s : Result B C = Err d in
      let l : Result (List B) C = Err c in
      let m : Result (List B) C = Err d in
      let e : r ≡ s = one b.0 r s (subst (λ k. step k r) same a.3) b.3 in
      let f : l ≡ m = cc in
      f

-- all columns, by p or by p transposed
module _ (n : ℕ) (a : SymTable) (p : PilotTable) (v : ℕ) where
  columns_are_one : (q : PilotTable) → IsOne (AreColumns n a q v)
  columns_are_one q = at_each_is_one (column_at [] 0) (IsColumn n a q v) (λ c. column_is_one n a q v c) n

  by_transposed_is_one : IsOne (AreColumnsByTransposed n a p v)
  by_transposed_is_one r s one other = columns_are_one other.0 r s (subst (λ q. AreColumns n a q v r) (transposed_is_one p one.0 other.0 one.1 other.1) one.2) other.2

  by_either_is_one : IsOne (AreColumnsByEither n a p v)
  by_either_is_one = first_given_is_one (AreColumns n a p v) (AreColumnsByTransposed n a p v) (columns_are_one p) by_transposed_is_one

-- ---- the table of their intervals
module _ (n : ℕ) (kappa : ℤ) (v : ℕ) (e : ℕ → ℤ) (columns : List Column) where
  entry_is : (t u : SymTable) → IsTableOfColumns n kappa v e columns t → IsTableOfColumns n kappa v e columns u → (i j : ℕ) → i < n → j < n → entry_at t i j ≡ entry_at u i j
  entry_is t u a b i j row column =
      elim (dec_le j i) [
        | yes l ↦ a.entries i j row l ∙ sym (b.entries i j row l)
        | no l ↦ let h : i ≤ j = omega arith in entry_sym t i j ∙ a.entries j i column h ∙ sym (b.entries j i column h) ∙ entry_sym u j i
      ]

  joined_is_one : IsOne (AreJoined n kappa v e columns)
  joined_is_one (Ok t) (Ok u) a b = ap Ok (equal_symmetric n t u a.0.size b.0.size a.0.lower b.0.lower (entry_is t u a.0 b.0))
  joined_is_one (Ok t) (Err (Range k l)) a b = absurd (first_lower_failure_fails n (IntervalFits kappa v e columns) k l a.1 b)
  joined_is_one (Ok t) (Err _) a b = absurd b
  joined_is_one (Err (Range i j)) (Ok u) a b = absurd (first_lower_failure_fails n (IntervalFits kappa v e columns) i j b.1 a)
  joined_is_one (Err (Range i j)) (Err (Range k l)) a b =
      let s = first_lower_failure_is_one n (IntervalFits kappa v e columns) i j k l a b in
      let f : i ≡ k = s.0 in
      let g : j ≡ l = s.1 in
      cc
  joined_is_one (Err (Range i j)) (Err _) a b = absurd b
  joined_is_one (Err _) r a b = absurd a

-- ---- the inverse
inverse_by_is_one : (n : ℕ) (kappa : ℤ) (w : Worked) (p : PilotTable) → IsOne (IsInverseBy n kappa w p)
inverse_by_is_one n kappa w p r s a b =
    let same = power_is_one p.g a.0 b.0 a.1 b.1 in
    chain b.0 r s (subst (λ v. Then (AreColumnsByEither n w.table p v) (AreJoined n kappa v (exponent_of w.exponents)) r) same a.2) b.2
  where
    chain : (v : ℕ) → IsOne (Then (AreColumnsByEither n w.table p v) (AreJoined n kappa v (exponent_of w.exponents)))
    chain v = then_is_one _ _ (by_either_is_one n w.table p v) (λ columns of_columns. joined_is_one n kappa v (exponent_of w.exponents) columns)

pub inverse_is_one : OneInverse
inverse_is_one table kappa =
    then_is_one _ _ (renamed_is_one of_working (IsWorkingStep table.size (table_of table (replicate table.size zero_interval))) (working_is_one table.size (table_of table (replicate table.size zero_interval)))) (λ w of_w.
    then_is_one _ _ (renamed_is_one of_pilot (IsPilotStep table.size (midpoints_of w)) (pilot_is_one table.size (midpoints_of w))) (λ p of_p. inverse_by_is_one table.size kappa w p))
