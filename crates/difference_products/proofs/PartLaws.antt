-- The product from its parts.
use Rattle.std.proofs.Common.{◌≡◌, ◌≤◌, ◌<◌, ◌^◌, ◌∙◌, inl, inr, ℕ, ℤ, pos, List, length, Bool, true, false, All, IsTrue, Ok, Err, arith, ap, sym, subst}
use Rattle.std.specs.Prelude.{◌↔◌}
use Rattle.std.proofs.Math.IntN.{◌-ℤ◌}
use Rattle.stated_order.specs.First.{IsFirstFailure}
use Rattle.stated_order.proofs.FirstLaws.{first_failure_moves}
use Rattle.whole_numbers.specs.Scaling.{interval_scale10}
use Rattle.whole_numbers.specs.Intervals.{Interval, size, interval_mul}
use Rattle.whole_numbers.proofs.IntervalLaws.{sum_intervals_same}
use Rattle.sym_blocks.specs.Tables.{SymTable, entry_at, zero_interval}
use Rattle.equil.specs.Tables.{EntriesFit, exponent_of, working_entry}
use Rattle.difference_products.specs.Products.{Place, row_sum, row_product, ProductFits, AreZero, AreProducts, IsUnfit, IsProduct}
use Rattle.difference_products.specs.Answers.{factors_of, IfRange}
use Rattle.difference_products.specs.Parts.{OnDiagonal, interval_of, IsWorkingTable, scaled_of, AreScaledTo, IsFirstFar, AreSmall, sum_of_row, product_of_row, RowFits, AreProductsTo}
use Rattle.difference_products.specs.declared.ProductError.{ProductError}
use Rattle.difference_products.specs.declared.ProductError.TheVariants.{Range, Memory}
use Rattle.difference_products.proofs.DifferenceLaws.{fewer_fit, scaled_small}

pub range_weaker : (P Q : Place → Type 0) → ((p : Place) → P p → Q p) → (x : ProductError) → IfRange P x → IfRange Q x
range_weaker P Q f (Range row col) h = f (record { row = row; col = col }) h
range_weaker P Q f Memory h = h

-- a is the working table of t with the exponents es, and its intervals are in their bounds
module _ (t a : SymTable) (ds : List Interval) (ts es : List ℤ) (work : IsWorkingTable t a (exponent_of es)) (small : (i j : ℕ) → i < a.size → j < a.size → size (entry_at a i j) ≤ 2 ^ 61) where
  entries_fit : EntriesFit t.size (entry_at t) (exponent_of es)
  entries_fit i j row lower = subst (λ w. size w ≤ 2 ^ 61) (work.entries i j row (omega arith)) (small i j (omega (arith, work.rows)) (omega (arith, work.rows)))

  -- the sizes of the differences pass their bound
  pub far_unfit : (p : Place) → length ds ≡ t.size → OnDiagonal (IsFirstFar (length ds) ds ts es) p → IsUnfit (factors_of t ds ts) p
  far_unfit p len h = record {
    e = exponent_of es;
    exponents = work.exponents;
    first = inr (inl (h.0, entries_fit, subst (λ n. IsFirstFar n ds ts es p.row) len h.1));
  }

  -- ---- zs are the scaled differences
  module _ (zs : List Interval) (scaled : AreScaledTo t.size ds ts es zs) where
    sum_is : (i : ℕ) → i < t.size → sum_of_row a zs i a.size ≡ row_sum (factors_of t ds ts) (exponent_of es) i
    sum_is i row =
        ap (λ n. sum_of_row a zs i n) work.rows
        ∙ sum_intervals_same t.size (λ j. interval_mul (entry_at a i j) (interval_of zs j)) (λ j. interval_mul (working_entry (entry_at t) (exponent_of es) i j) (scaled_of ds ts es j))
        (λ j column. ap (λ w. interval_mul w (interval_of zs j)) (work.entries i j row column) ∙ ap (λ z. interval_mul (working_entry (entry_at t) (exponent_of es) i j) z) (scaled.each j column))

    product_is : (i : ℕ) → i < t.size → product_of_row a zs es i ≡ row_product (factors_of t ds ts) (exponent_of es) i
    product_is i row = ap (λ s. interval_scale10 s (exponent_of es i -ℤ pos 12)) (sum_is i row)

    row_fits : (i : ℕ) → i < t.size → RowFits a zs es i → ProductFits (factors_of t ds ts) (exponent_of es) i
    row_fits i row h = subst (λ w. size w ≤ 10 ^ 34) (product_is i row) h

    row_fits_back : (i : ℕ) → i < t.size → ProductFits (factors_of t ds ts) (exponent_of es) i → RowFits a zs es i
    row_fits_back i row h = subst (λ w. size w ≤ 10 ^ 34) (sym (product_is i row)) h

    -- a product passes its bound
    pub wide_unfit : (p : Place) → OnDiagonal (IsFirstFailure a.size (RowFits a zs es)) p → IsUnfit (factors_of t ds ts) p
    wide_unfit p h = record {
      e = exponent_of es;
      exponents = work.exponents;
      first = inr (inr (h.0, entries_fit, fewer_fit t.size ds ts es scaled.fit, first_failure_moves t.size (RowFits a zs es) (ProductFits (factors_of t ds ts) (exponent_of es)) p.row row_fits row_fits_back (subst (λ n. IsFirstFailure n (RowFits a zs es) p.row) work.rows h.1)));
    }

    -- all fit
    pub are_products : (products : List Interval) → AreProductsTo a.size a zs es products → AreProducts (factors_of t ds ts) products
    are_products products done = record {
      e = exponent_of es;
      exponents = work.exponents;
      fit = record {
        entries = entries_fit;
        sums = fewer_fit t.size ds ts es scaled.fit;
        products = λ i row. row_fits i row (done.fit i (omega (arith, work.rows)));
      };
      rows = done.len ∙ work.rows;
      each = λ i row. done.each i (omega (arith, work.rows)) ∙ product_is i row;
    }

-- ---- the answers; the test of the differences answers b
tested_false : (b : Bool) (P : Type 0) → b ≡ false → (IsTrue b ↔ P) → ¬ P
tested_false b P f h p = let t : b ≡ true = h.1 p in cc

module _ (t a : SymTable) (ds : List Interval) (ts es : List ℤ) (b : Bool) (test : b ≡ false) (tested : IsTrue b ↔ All (λ w. w ≡ zero_interval) ds) (work : IsWorkingTable t a (exponent_of es)) (small : (i j : ℕ) → i < a.size → j < a.size → size (entry_at a i j) ≤ 2 ^ 61) (len : length ds ≡ t.size) where
  some : ¬ (AreZero (factors_of t ds ts))
  some = tested_false b (All (λ w. w ≡ zero_interval) ds) test tested

  pub far_refused : (fs : List ℤ) → fs ≡ es → (x : ProductError) → IfRange (OnDiagonal (IsFirstFar (length ds) ds ts fs)) x → IfRange (λ p. IsProduct (factors_of t ds ts) (Err p)) x
  far_refused fs same x h =
      range_weaker (OnDiagonal (IsFirstFar (length ds) ds ts es)) (λ p. IsProduct (factors_of t ds ts) (Err p)) (λ p far. (some, far_unfit t a ds ts es work small p len far)) x
      (subst (λ l. IfRange (OnDiagonal (IsFirstFar (length ds) ds ts l)) x) same h)

  -- zs are the scaled differences, which stand in the lists fs and us too
  module _ (zs us : List Interval) (fs : List ℤ) (other : us ≡ zs) (same : fs ≡ es) (scaled : AreScaledTo (length ds) ds ts fs zs) where
    all_scaled : AreScaledTo t.size ds ts es zs
    all_scaled = subst (λ n. AreScaledTo n ds ts es zs) len (subst (λ l. AreScaledTo (length ds) ds ts l zs) same scaled)

    pub small_for : AreSmall a.size us
    small_for = subst (λ l. AreSmall a.size l) (sym other) (subst (λ n. AreSmall n zs) (sym work.rows) (scaled_small t.size ds ts es zs all_scaled))

    pub wide_refused : (x : ProductError) → IfRange (OnDiagonal (IsFirstFailure a.size (RowFits a us es))) x → IfRange (λ p. IsProduct (factors_of t ds ts) (Err p)) x
    wide_refused x h =
        range_weaker (OnDiagonal (IsFirstFailure a.size (RowFits a zs es))) (λ p. IsProduct (factors_of t ds ts) (Err p)) (λ p wide. (some, wide_unfit t a ds ts es work small zs all_scaled p wide)) x
        (subst (λ l. IfRange (OnDiagonal (IsFirstFailure a.size (RowFits a l es))) x) other h)

    pub product_answered : (products : List Interval) → AreProductsTo a.size a us es products → IsProduct (factors_of t ds ts) (Ok products)
    product_answered products h = inr (some, are_products t a ds ts es work small zs all_scaled products (subst (λ l. AreProductsTo a.size a l es products) other h))
