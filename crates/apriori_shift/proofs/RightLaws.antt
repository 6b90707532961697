-- Right sides less products.
use Rattle.std.proofs.Common.{◌≡◌, ◌≤◌, ◌<◌, ◌^◌, ◌∙◌, ◌∷◌, inl, inr, ℕ, zero, suc, List, [], length, replicate, Ok, refl, sym, ap, subst, arith}
use Rattle.std.specs.Prelude.{slice_index_or}
use Rattle.std.proofs.lemmas.List.{get_or-replicate, length-replicate}
use Rattle.stated_order.specs.First.{IsFirstFailure}
use Rattle.whole_numbers.specs.Intervals.{Interval, interval_sub, size}
use Rattle.whole_numbers.proofs.ListLaws.{equal_lists}
use Rattle.sym_blocks.specs.Tables.{zero_interval}
use Rattle.neq_stack.specs.Neqs.{PlainNeq, IsSound}
use Rattle.neq_stack.specs.ByName.{AreAtMost, right_in}
use Rattle.neq_stack.proofs.NameLaws.{place_found}
use Rattle.neq_stack.proofs.PlaceLaws.{name_there}
use Rattle.neq_stack.proofs.PlacedLaws.{right_there}
use Rattle.difference_products.specs.Products.{Factors, IsProduct, AreProducts}
use Rattle.apriori_shift.specs.Shifts.{less_by}
use Rattle.apriori_shift.specs.Parts.{Fits, NoneIsPast, AreModest}

-- ---- products
pub products_length : (f : Factors) (ps : List Interval) → IsProduct f (Ok ps) → length ps ≡ f.table.size
products_length f ps is = elim is [ inl x ↦ ap length x.1 ∙ length-replicate f.table.size zero_interval | inr x ↦ x.1.rows ]

fitting_modest : (f : Factors) (ps : List Interval) (i : ℕ) → AreProducts f ps → i < f.table.size → size (slice_index_or ps i zero_interval) ≤ 10 ^ 34
fitting_modest f ps i are row = subst (λ w. size w ≤ 10 ^ 34) (sym (are.each i row)) (are.fit.products i row)

zero_modest : (n i : ℕ) (ps : List Interval) → ps ≡ replicate n zero_interval → i < n → size (slice_index_or ps i zero_interval) ≤ 10 ^ 34
zero_modest n i ps is row = subst (λ w. size w ≤ 10 ^ 34) (sym (ap (λ l. slice_index_or l i zero_interval) is ∙ get_or-replicate n i zero_interval zero_interval row)) (omega arith)

pub products_modest : (f : Factors) (ps : List Interval) → IsProduct f (Ok ps) → AreModest ps
products_modest f ps is i row =
    let within : i < f.table.size = omega (arith, products_length f ps is) in
    elim is [ inl x ↦ zero_modest f.table.size i ps x.1 within | inr x ↦ fitting_modest f ps i x.1 within ]

-- ---- differences of lists
pub less_length : (ws vs : List Interval) → length vs ≡ length ws → length (less_by ws vs) ≡ length ws
less_length [] vs same = refl
less_length (w ∷ ws) [] same = absurd (omega arith)
less_length (w ∷ ws) (v ∷ vs) same = ap suc (less_length ws vs (omega arith))

pub less_at : (ws vs : List Interval) (i : ℕ) → i < length ws → i < length vs → slice_index_or (less_by ws vs) i zero_interval ≡ interval_sub (slice_index_or ws i zero_interval) (slice_index_or vs i zero_interval)
less_at [] vs i row other = absurd (omega arith)
less_at (w ∷ ws) [] i row other = absurd (omega arith)
less_at (w ∷ ws) (v ∷ vs) zero row other = refl
less_at (w ∷ ws) (v ∷ vs) (suc i) row other = less_at ws vs i (omega arith) (omega arith)

-- a list with each difference
pub less_made : (ws vs less : List Interval) (n : ℕ) → length vs ≡ length ws → length less ≡ n → length ws ≡ n
    → ((i : ℕ) → i < n → slice_index_or less i zero_interval ≡ interval_sub (slice_index_or ws i zero_interval) (slice_index_or vs i zero_interval)) → less ≡ less_by ws vs
less_made ws vs less n same all rows each =
    equal_lists zero_interval n less (less_by ws vs) all (less_length ws vs same ∙ rows) (λ i row. each i row ∙ sym (less_at ws vs i (omega arith) (omega arith)))

module _ (ws vs : List Interval) (same : length vs ≡ length ws) where
  pub fits_there : (i : ℕ) → i < length ws → size (interval_sub (slice_index_or ws i zero_interval) (slice_index_or vs i zero_interval)) ≤ 10 ^ 35 → Fits ws vs i
  fits_there i row h = subst (λ w. size w ≤ 10 ^ 35) (sym (less_at ws vs i row (omega arith))) h

  pub none_past : (n : ℕ) → length ws ≤ n → ((i : ℕ) → i < n → size (interval_sub (slice_index_or ws i zero_interval) (slice_index_or vs i zero_interval)) ≤ 10 ^ 35) → NoneIsPast ws vs
  none_past n rows fit i row = fits_there i row (fit i (omega arith))

  pub first_past : (k m : ℕ) (w : Interval) → k < length ws → ((i : ℕ) → i < k → size (interval_sub (slice_index_or ws i zero_interval) (slice_index_or vs i zero_interval)) ≤ 10 ^ 35)
      → w ≡ interval_sub (slice_index_or ws k zero_interval) (slice_index_or vs k zero_interval) → m ≡ size w → 10 ^ 35 < m → IsFirstFailure (length ws) (Fits ws vs) k
  first_past k m w row fit is large past = record {
    within = row;
    before = λ i l. fits_there i (omega arith) (fit i l);
    fails = λ h.
        let there : size w ≤ 10 ^ 35 = subst (λ x. size x ≤ 10 ^ 35) (less_at ws vs k row (omega arith) ∙ sym is) h in
        omega arith;
  }

-- ---- right sides by name
pub right_of_name : (neq : PlainNeq) → IsSound neq → (i : ℕ) → i < length neq.names → (id : _) × (right_in neq id ≡ slice_index_or neq.right i zero_interval)
right_of_name neq sound i row =
    let there = name_there neq.names i row in
    (there.0, right_there neq i there.0 (place_found neq.names there.0 i sound.names.0 there.1))

pub right_small : (neq : PlainNeq) (most : ℕ) → IsSound neq → AreAtMost most neq → (i : ℕ) → i < length neq.right → size (slice_index_or neq.right i zero_interval) ≤ most
right_small neq most sound small i row =
    let rights = sound.rights in
    let there = right_of_name neq sound i (omega arith) in
    subst (λ w. size w ≤ most) there.1 (small.rights there.0)
