-- What the code computes of one row of a column.
use Rattle.std.proofs.Common.{◌≡◌, ◌≢◌, ◌≤◌, ◌<◌, ◌+◌, ◌-◌, ◌^◌, ◌∙◌, ℕ, suc, ℤ, pos, ◌-ℤ◌, List, length, take, drop, slice_set, arith, refl, sym, ap, subst, unsigned_abs, below_more}
use Rattle.std.proofs.Math.Decide.{dec_lt}
use Rattle.std.proofs.Math.IntN.{*ℤ-zero, zero-*ℤ}
use Rattle.std.proofs.Math.Nat.{zero-div}
use Rattle.std.proofs.lemmas.Int.{ints}
use Rattle.std.proofs.lemmas.List.{get_or-take, get_or-drop, get_or-set_same, get_or-set_other, length-take, length-drop}
use Rattle.whole_numbers.specs.Sum.{sum_to, unit}
use Rattle.whole_numbers.specs.Quotients.{floor_over}
use Rattle.whole_numbers.proofs.Sums.{sum_to_same, unit_here, unit_other}
use Rattle.chol_factor.specs.Factor.{fixed_product, fixed_quotient}
use Rattle.chol_factor.proofs.Alone.{equal_fixed_products}
use Rattle.whole_numbers.specs.Lists.{at, SameBelow}
use Rattle.chol_guess.specs.Columns.{forward_left, back_left, sum_past, IsForwardSolution}
use Rattle.chol_guess.specs.Rows.{IsForwardBefore, IsBackFrom, QuotientFits}
use Rattle.chol_guess.proofs.Alone.{SameFrom, up_same, up_left_same, up_fewer, up_alone, down_same, down_left_same, same_lower}
use Rattle.chol_guess.proofs.Ranges.{sum_to_from, sum_to_none}
use Rattle.whole_numbers.proofs.ListLaws.{same_below}

pub at_take_drop : (xs : List ℤ) (a m k : ℕ) → k < m → at (take m (drop a xs)) k ≡ at xs (a + k)
at_take_drop xs a m k lt = get_or-take m (drop a xs) k (pos 0) lt ∙ get_or-drop a xs k (pos 0)

pub part_zero : (a b : ℤ) → b ≡ pos 0 → fixed_product a b ≡ pos 0
part_zero a b e = ap (fixed_product a) e ∙ ap (λ z. floor_over z (2 ^ 60)) (*ℤ-zero a)

ratio_zero : (a b : ℤ) → a ≡ pos 0 → fixed_quotient a b ≡ pos 0
ratio_zero a b e = ap (λ z. fixed_quotient z b) e ∙ ap (λ z. floor_over z (unsigned_abs b)) (zero-*ℤ (pos (2 ^ 60))) ∙ ap pos (zero-div (unsigned_abs b))

-- ---- the rows before row c are 0
left_zero : (f : ℕ → ℕ → ℤ) (g c i : ℕ) → i < c → forward_left f g c (λ k. pos 0) i ≡ pos 0
left_zero f g c i row =
    let one = unit_other c (pos (2 ^ (g + 10))) i (omega arith) in
    let rest = sum_to_none i (λ k. fixed_product (f i k) (pos 0)) (λ k l. part_zero (f i k) (pos 0) refl) in
    omega (arith, ints, one, rest)

zeros_up : (f : ℕ → ℕ → ℤ) (g c m : ℕ) → m ≤ c → IsForwardSolution m f g c (λ k. pos 0)
zeros_up f g c m le = record {
  rows = λ i row. sym (ratio_zero _ (f i i) (left_zero f g c i (omega arith)));
  left_fits = λ i row. omega (arith, ap unsigned_abs (left_zero f g c i (omega arith)));
  fits = λ i row. omega arith;
}

pub cleared_up : (f : ℕ → ℕ → ℤ) (g c : ℕ) (u : ℕ → ℤ) → ((k : ℕ) → k < c → u k ≡ pos 0) → IsForwardSolution c f g c u
cleared_up f g c u zeros = up_same f f g c (λ k. pos 0) u c c (omega arith) (same_lower c f) (λ k l. sym (zeros k l)) (zeros_up f g c c (omega arith))

pub up_zero : (i : ℕ) (f : ℕ → ℕ → ℤ) (g c : ℕ) (u : ℕ → ℤ) → c ≤ i → IsForwardSolution i f g c u → (k : ℕ) → k < c → u k ≡ pos 0
up_zero i f g c u le up = up_alone c f g c u (λ k. pos 0) (up_fewer f g c u i c le up) (zeros_up f g c c (omega arith))

-- ---- sums over slices
slice_len : (xs : List ℤ) (a m : ℕ) → a + m ≤ length xs → length (take m (drop a xs)) ≡ m
slice_len xs a m le = simp (length-take, length-drop) (omega arith)

pub earlier_is : (n i : ℕ) (f : ℕ → ℕ → ℤ) (g c : ℕ) (us row : List ℤ) (s : ℤ) → IsForwardBefore n i f g c us → length row ≡ n → ((k : ℕ) → k < n → at row k ≡ f i k)
    → s ≡ sum_to (length (take (i - c) (drop c row))) (λ k. fixed_product (at (take (i - c) (drop c row)) k) (at (take (i - c) (drop c us)) k))
    → s ≡ sum_to i (λ k. fixed_product (f i k) (at us k))
earlier_is n i f g c us row s up len entries is =
    is
    ∙ ap (λ m. sum_to m (λ k. fixed_product (at (take (i - c) (drop c row)) k) (at (take (i - c) (drop c us)) k))) (slice_len row c (i - c) (let r = up.row in let l = up.column in omega arith))
    ∙ sum_to_same (i - c) (λ k. fixed_product (at (take (i - c) (drop c row)) k) (at (take (i - c) (drop c us)) k)) (λ k. fixed_product (f i (c + k)) (at us (c + k)))
    (λ k l. equal_fixed_products _ _ _ _ (at_take_drop row c (i - c) k l ∙ entries (c + k) (let r = up.row in omega arith)) (at_take_drop us c (i - c) k l))
    ∙ sym (sum_to_from c i (λ k. fixed_product (f i k) (at us k)) up.column (λ k l. part_zero (f i k) (at us k) (up_zero i f g c (at us) up.column up.before k l)))

pub later_is : (n i : ℕ) (f : ℕ → ℕ → ℤ) (row xs : List ℤ) (s : ℤ) (b m : ℕ) → length row ≡ n → ((k : ℕ) → k < n → at row k ≡ f k i) → i < n → b ≡ suc i → m ≡ n - suc i
    → s ≡ sum_to (length (take m (drop b row))) (λ k. fixed_product (at (take m (drop b row)) k) (at (take m (drop b xs)) k))
    → s ≡ sum_past n i (λ k. fixed_product (f k i) (at xs k))
later_is n i f row xs s b m len entries inside start count is =
    is
    ∙ ap (λ l. sum_to l (λ k. fixed_product (at (take m (drop b row)) k) (at (take m (drop b xs)) k))) (slice_len row b m (omega arith) ∙ count)
    ∙ sum_to_same (n - suc i) (λ k. fixed_product (at (take m (drop b row)) k) (at (take m (drop b xs)) k)) (λ d. fixed_product (f (suc i + d) i) (at xs (suc i + d)))
    (λ d l.
    let past : b + d ≡ suc i + d = omega arith in
    equal_fixed_products _ _ _ _ (at_take_drop row b m d (omega arith) ∙ ap (at row) past ∙ entries (suc i + d) (omega arith)) (at_take_drop xs b m d (omega arith) ∙ ap (at xs) past))

-- ---- what is left
pub left_here : (f : ℕ → ℕ → ℤ) (g c i : ℕ) (u : ℕ → ℤ) (s : ℤ) → i ≡ c → s ≡ sum_to i (λ k. fixed_product (f i k) (u k)) → forward_left f g c u i ≡ pos (2 ^ (g + 10)) -ℤ s
left_here f g c i u s e is =
    let one = ap (λ k. unit c (pos (2 ^ (g + 10))) k) e ∙ unit_here c (pos (2 ^ (g + 10))) in
    omega (arith, ints, one, is)

pub left_past : (f : ℕ → ℕ → ℤ) (g c i : ℕ) (u : ℕ → ℤ) (s : ℤ) → i ≢ c → s ≡ sum_to i (λ k. fixed_product (f i k) (u k)) → forward_left f g c u i ≡ pos 0 -ℤ s
left_past f g c i u s ne is =
    let one = unit_other c (pos (2 ^ (g + 10))) i ne in
    omega (arith, ints, one, is)

-- ---- one row more
pub up_more : (i : ℕ) (f : ℕ → ℕ → ℤ) (g c : ℕ) (us : List ℤ) (w v : ℤ) → i < length us → IsForwardSolution i f g c (at us) → QuotientFits (forward_left f g c (at us) i) (f i i) (2 ^ 64) → w ≡ fixed_quotient (forward_left f g c (at us) i) (f i i) → v ≡ w → IsForwardSolution (i + 1) f g c (at (slice_set us i v))
up_more i f g c us w v row before fits is same =
    let earlier : SameBelow i (at us) (at (slice_set us i v)) = λ k l. sym (get_or-set_other us i k v (pos 0) (omega arith)) in
    let so_far = up_same f f g c (at us) (at (slice_set us i v)) i i (omega arith) (same_lower i f) earlier before in
    let left = up_left_same f f g c (at us) (at (slice_set us i v)) (i + 1) i (omega arith) (same_lower (i + 1) f) earlier in
    let here : at (slice_set us i v) i ≡ fixed_quotient (forward_left f g c (at us) i) (f i i) = get_or-set_same us i v (pos 0) row ∙ same ∙ is in
    record {
      rows = λ k l. last_or_less (λ k. at (slice_set us i v) k ≡ fixed_quotient (forward_left f g c (at (slice_set us i v)) k) (f k k)) i k l so_far.rows (here ∙ ap (λ z. fixed_quotient z (f i i)) left);
      left_fits = λ k l. last_or_less (λ k. unsigned_abs (forward_left f g c (at (slice_set us i v)) k) ≤ 2 ^ 66) i k l so_far.left_fits (subst (λ z. unsigned_abs z ≤ 2 ^ 66) left fits.left_fits);
      fits = λ k l. last_or_less (λ k. unsigned_abs (at (slice_set us i v) k) ≤ 2 ^ 64) i k l so_far.fits (subst (λ z. unsigned_abs z ≤ 2 ^ 64) (sym here) fits.fits);
    }
  where
    last_or_less : (P : ℕ → Type 0) (m k : ℕ) → k < m + 1 → ((j : ℕ) → j < m → P j) → P m → P k
    last_or_less P m k l earlier here = below_more P m earlier here k l

pub down_more : (n i : ℕ) (f : ℕ → ℕ → ℤ) (u : ℕ → ℤ) (xs : List ℤ) (w v : ℤ) → i < length xs → i < n → IsBackFrom n (suc i) f u (at xs) → QuotientFits (back_left n f u (at xs) i) (f i i) (2 ^ 60) → w ≡ fixed_quotient (back_left n f u (at xs) i) (f i i) → v ≡ w → IsBackFrom n i f u (at (slice_set xs i v))
down_more n i f u xs w v inside row before fits is same =
    let later : SameFrom n (suc i) (at xs) (at (slice_set xs i v)) = λ k from l. sym (get_or-set_other xs i k v (pos 0) (omega arith)) in
    let so_far = down_same f f u u (at xs) (at (slice_set xs i v)) n (suc i) (same_lower n f) (same_below n u) later before in
    let left = down_left_same f f u u (at xs) (at (slice_set xs i v)) n i row (same_lower n f) (same_below n u) later in
    let here : at (slice_set xs i v) i ≡ fixed_quotient (back_left n f u (at xs) i) (f i i) = get_or-set_same xs i v (pos 0) inside ∙ same ∙ is in
    record {
      rows = λ k from l. first_or_more (λ k. at (slice_set xs i v) k ≡ fixed_quotient (back_left n f u (at (slice_set xs i v)) k) (f k k)) i n k from l so_far.rows (here ∙ ap (λ z. fixed_quotient z (f i i)) left);
      left_fits = λ k from l. first_or_more (λ k. unsigned_abs (back_left n f u (at (slice_set xs i v)) k) ≤ 2 ^ 66) i n k from l so_far.left_fits (subst (λ z. unsigned_abs z ≤ 2 ^ 66) left fits.left_fits);
      fits = λ k from l. first_or_more (λ k. unsigned_abs (at (slice_set xs i v) k) ≤ 2 ^ 60) i n k from l so_far.fits (subst (λ z. unsigned_abs z ≤ 2 ^ 60) (sym here) fits.fits);
    }
  where
    first_or_more : (P : ℕ → Type 0) (m n k : ℕ) → m ≤ k → k < n → ((j : ℕ) → suc m ≤ j → j < n → P j) → P m → P k
    first_or_more P m n k from l later here =
        elim (dec_lt m k) [
          | yes more ↦ later k more l
          | no less ↦ let e : m ≡ k = omega arith in subst P e here
        ]
