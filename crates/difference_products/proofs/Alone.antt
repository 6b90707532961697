-- There is one product, or one first interval past its bound, and never both.
use Rattle.std.proofs.Common.{◌≡◌, ◌≤◌, ◌<◌, ◌^◌, ◌∙◌, inl, inr, ℕ, suc, ℤ, pos, ◌+ℤ◌, neg_ℤ, List, Ok, Err, arith, ap, sym, subst}
use Rattle.std.proofs.Math.IntN.{◌-ℤ◌}
use Rattle.stated_order.proofs.FirstLaws.{first_failure_is_one, first_failure_fails, first_failure_moves, first_lower_failure_moves, first_lower_failure_fails, first_lower_failure_is_one}
use Rattle.whole_numbers.specs.Scaling.{interval_scale10}
use Rattle.whole_numbers.specs.Intervals.{Interval, interval_mul, size}
use Rattle.whole_numbers.specs.Lists.{at}
use Rattle.whole_numbers.proofs.IntervalLaws.{sum_intervals_same}
use Rattle.whole_numbers.proofs.ListLaws.{equal_lists}
use Rattle.whole_numbers.proofs.Sums.{total_to_same}
use Rattle.sym_blocks.specs.Tables.{entry_at, zero_interval}
use Rattle.equil.specs.Tables.{AreExponents, EntryFits, EntriesFit, working_entry}
use Rattle.equil.proofs.Hundreds.{exponent_one}
use Rattle.difference_products.specs.Products.{Factors, Place, difference_at, scaled_difference, row_sum, row_product, SumFits, ProductFits, AllFit, IsFirstUnfit, AreProducts, IsProduct, OneProduct}

-- ---- the exponents of a table are one, and what is made with them is
module _ (f : Factors) (e d : ℕ → ℤ) (same : (i : ℕ) → i < f.table.size → e i ≡ d i) where
  entry_same : (i j : ℕ) → i < f.table.size → j < f.table.size → working_entry (entry_at f.table) e i j ≡ working_entry (entry_at f.table) d i j
  entry_same i j row column = ap (λ k. interval_scale10 (entry_at f.table i j) (neg_ℤ k -ℤ e j)) (same i row) ∙ ap (λ k. interval_scale10 (entry_at f.table i j) (neg_ℤ (d i) -ℤ k)) (same j column)

  difference_same : (j : ℕ) → j < f.table.size → scaled_difference f e j ≡ scaled_difference f d j
  difference_same j column = ap (λ k. interval_scale10 (difference_at f j) (at f.scales j +ℤ k -ℤ pos 8)) (same j column)

  term_same : (i j : ℕ) → i < f.table.size → j < f.table.size → interval_mul (working_entry (entry_at f.table) e i j) (scaled_difference f e j) ≡ interval_mul (working_entry (entry_at f.table) d i j) (scaled_difference f d j)
  term_same i j row column =
      ap (λ w. interval_mul w (scaled_difference f e j)) (entry_same i j row column)
      ∙ ap (λ w. interval_mul (working_entry (entry_at f.table) d i j) w) (difference_same j column)

  product_same : (i : ℕ) → i < f.table.size → row_product f e i ≡ row_product f d i
  product_same i row =
      ap (λ w. interval_scale10 w (e i -ℤ pos 12))
      (sum_intervals_same f.table.size (λ j. interval_mul (working_entry (entry_at f.table) e i j) (scaled_difference f e j)) (λ j. interval_mul (working_entry (entry_at f.table) d i j) (scaled_difference f d j)) (λ j column. term_same i j row column))
      ∙ ap (λ k. interval_scale10 (row_sum f d i) (k -ℤ pos 12)) (same i row)

  -- bounds that are kept with one are kept with the other
  entry_moves : (i j : ℕ) → i < f.table.size → j ≤ i → EntryFits (entry_at f.table) e i j → EntryFits (entry_at f.table) d i j
  entry_moves i j row lower h = subst (λ w. size w ≤ 2 ^ 61) (entry_same i j row (omega arith)) h

  sum_moves : (j : ℕ) → j < f.table.size → SumFits f e j → SumFits f d j
  sum_moves j column h = subst (λ k. k ≤ 2 ^ 64) (total_to_same (suc j) (λ k. size (scaled_difference f e k)) (λ k. size (scaled_difference f d k)) (λ k l. ap (λ w. size w) (difference_same k (omega arith)))) h

  product_moves : (i : ℕ) → i < f.table.size → ProductFits f e i → ProductFits f d i
  product_moves i row h = subst (λ w. size w ≤ 10 ^ 34) (product_same i row) h

exponents_same : (f : Factors) (e d : ℕ → ℤ) → AreExponents f.table.size (entry_at f.table) e → AreExponents f.table.size (entry_at f.table) d → (i : ℕ) → i < f.table.size → e i ≡ d i
exponents_same f e d a b i row = exponent_one (entry_at f.table i i).hi (e i) (d i) (a i row) (b i row)

exponents_other : (f : Factors) (e d : ℕ → ℤ) → ((i : ℕ) → i < f.table.size → e i ≡ d i) → (i : ℕ) → i < f.table.size → d i ≡ e i
exponents_other f e d same i row = sym (same i row)

-- ---- the first past its bound, with the one and with the other
unfit_moves : (f : Factors) (e d : ℕ → ℤ) (p : Place) → ((i : ℕ) → i < f.table.size → e i ≡ d i) → IsFirstUnfit f e p → IsFirstUnfit f d p
unfit_moves f e d p same u =
    let other = exponents_other f e d same in
    let entries : EntriesFit f.table.size (entry_at f.table) e → EntriesFit f.table.size (entry_at f.table) d = λ h i j row lower. entry_moves f e d same i j row lower (h i j row lower) in
    elim u [
      | inl x ↦ inl (first_lower_failure_moves f.table.size (EntryFits (entry_at f.table) e) (EntryFits (entry_at f.table) d) p.row p.col (entry_moves f e d same) (entry_moves f d e other) x)
      | inr y ↦ elim y [
        | inl x ↦ inr (inl (x.0, entries x.1, first_failure_moves f.table.size (SumFits f e) (SumFits f d) p.row (sum_moves f e d same) (sum_moves f d e other) x.2))
        | inr x ↦ inr (inr (x.0, entries x.1, (λ j column. sum_moves f e d same j column (x.2 j column)), first_failure_moves f.table.size (ProductFits f e) (ProductFits f d) p.row (product_moves f e d same) (product_moves f d e other) x.3))
      ]
    ]

-- where all fit there is none
none_unfit : (f : Factors) (e : ℕ → ℤ) (p : Place) → AllFit f e → IsFirstUnfit f e p → ⊥
none_unfit f e p fit u =
    elim u [
      | inl x ↦ first_lower_failure_fails f.table.size (EntryFits (entry_at f.table) e) p.row p.col fit.entries x
      | inr y ↦ elim y [
        | inl x ↦ first_failure_fails f.table.size (SumFits f e) p.row fit.sums x.2
        | inr x ↦ first_failure_fails f.table.size (ProductFits f e) p.row fit.products x.3
      ]
    ]

place_is : (p q : Place) → p.row ≡ q.row → p.col ≡ q.col → p ≡ q
place_is p q r c = ap (λ (k : ℕ). let v : Place = record { row = k; col = p.col } in v) r ∙ ap (λ (k : ℕ). let v : Place = record { row = q.row; col = k } in v) c

on_diagonal : (p q : Place) → p.row ≡ p.col → q.row ≡ q.col → p.row ≡ q.row → p ≡ q
on_diagonal p q a b r = place_is p q r (sym a ∙ r ∙ b)

-- there is one at most
unfit_is_one : (f : Factors) (e : ℕ → ℤ) (p q : Place) → IsFirstUnfit f e p → IsFirstUnfit f e q → p ≡ q
unfit_is_one f e p q u v =
    let n = f.table.size in
    let E = EntryFits (entry_at f.table) e in
    elim u [
      | inl x ↦ elim v [
        | inl y ↦ let s = first_lower_failure_is_one n E p.row p.col q.row q.col x y in place_is p q s.0 s.1
        | inr w ↦ elim w [
          | inl y ↦ absurd (first_lower_failure_fails n E p.row p.col y.1 x)
          | inr y ↦ absurd (first_lower_failure_fails n E p.row p.col y.1 x)
        ]
      ]
      | inr z ↦ elim z [
        | inl x ↦ elim v [
          | inl y ↦ absurd (first_lower_failure_fails n E q.row q.col x.1 y)
          | inr w ↦ elim w [
            | inl y ↦ on_diagonal p q x.0 y.0 (first_failure_is_one n (SumFits f e) p.row q.row x.2 y.2)
            | inr y ↦ absurd (first_failure_fails n (SumFits f e) p.row y.2 x.2)
          ]
        ]
        | inr x ↦ elim v [
          | inl y ↦ absurd (first_lower_failure_fails n E q.row q.col x.1 y)
          | inr w ↦ elim w [
            | inl y ↦ absurd (first_failure_fails n (SumFits f e) q.row x.2 y.2)
            | inr y ↦ on_diagonal p q x.0 y.0 (first_failure_is_one n (ProductFits f e) p.row q.row x.3 y.3)
          ]
        ]
      ]
    ]

-- ---- one answer
products_are_one : (f : Factors) (ps qs : List Interval) → AreProducts f ps → AreProducts f qs → ps ≡ qs
products_are_one f ps qs a b =
    let same = exponents_same f a.e b.e a.exponents b.exponents in
    equal_lists zero_interval f.table.size ps qs a.rows b.rows (λ i row. a.each i row ∙ product_same f a.e b.e same i row ∙ sym (b.each i row))

ok_is_one : (f : Factors) (ps qs : List Interval) → IsProduct f (Ok ps) → IsProduct f (Ok qs) → ps ≡ qs
ok_is_one f ps qs a b =
    elim a [
      | inl x ↦ elim b [ inl y ↦ x.1 ∙ sym y.1 | inr y ↦ absurd (y.0 x.0) ]
      | inr x ↦ elim b [ inl y ↦ absurd (x.0 y.0) | inr y ↦ products_are_one f ps qs x.1 y.1 ]
    ]

never_both : (f : Factors) (ps : List Interval) (p : Place) → IsProduct f (Ok ps) → IsProduct f (Err p) → ⊥
never_both f ps p a b =
    elim a [
      | inl x ↦ b.0 x.0
      | inr x ↦ none_unfit f x.1.e p x.1.fit (unfit_moves f b.1.e x.1.e p (exponents_same f b.1.e x.1.e b.1.exponents x.1.exponents) b.1.first)
    ]

err_is_one : (f : Factors) (p q : Place) → IsProduct f (Err p) → IsProduct f (Err q) → p ≡ q
err_is_one f p q a b = unfit_is_one f b.1.e p q (unfit_moves f a.1.e b.1.e p (exponents_same f a.1.e b.1.e a.1.exponents b.1.exponents) a.1.first) b.1.first

pub one_product : OneProduct
one_product f (Ok ps) (Ok qs) a b = ap Ok (ok_is_one f ps qs a b)
one_product f (Ok ps) (Err q) a b = absurd (never_both f ps q a b)
one_product f (Err p) (Ok qs) a b = absurd (never_both f qs p b a)
one_product f (Err p) (Err q) a b = ap Err (err_is_one f p q a b)
