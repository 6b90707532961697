-- A column in the making, number by number, and the columns one by one.
use Rattle.std.proofs.Common.{◌≡◌, ◌≤◌, ◌<◌, ◌+◌, ◌*◌, ◌^◌, ◌∙◌, inl, inr, ℕ, zero, suc, ℤ, pos, negsuc, ◌*ℤ◌, ◌≤ℤ◌, unsigned_abs, List, length, sym, ap, subst, arith}
use Rattle.std.specs.Int.{IsIsqrt}
use Rattle.std.proofs.Math.IntN.{◌-ℤ◌}
use Rattle.std.proofs.Math.Decide.{dec_lt}
use Rattle.std.proofs.Math.Nat.{mul-le-mul}
use Rattle.std.proofs.lemmas.Int.{ints}
use Rattle.whole_numbers.specs.Sum.{sum_to}
use Rattle.whole_numbers.proofs.Sums.{sum_to_same}
use Rattle.whole_numbers.proofs.Cases.{last_or_before}
use Rattle.whole_numbers.specs.Squares.{SquareTable, square_at, SetsNumber}
use Rattle.chol_factor.specs.Factor.{fixed_product, fixed_quotient, left_of, IsRoot, IsColumn, HasColumns, IsPivot}
use Rattle.chol_factor.specs.Making.{AgreeBefore, IsWaiting, IsDiagonal, IsBounded, IsStuck}
use Rattle.whole_numbers.specs.Lists.{at}
use Rattle.chol_factor.proofs.Alone.{equal_fixed_products, equal_fixed_quotients, root_alone, left_alone, factor_alone}

-- ---- one number
-- the sum over two rows is that of the table's numbers
pub taken_is : (f : SquareTable) (i j : ℕ) (a b : List ℤ) → length a ≡ j → ((c : ℕ) → c < j → at a c ≡ square_at f i c) → ((c : ℕ) → c < j → at b c ≡ square_at f j c) → sum_to (length a) (λ k. fixed_product (at a k) (at b k)) ≡ sum_to j (λ k. fixed_product (square_at f i k) (square_at f j k))
taken_is f i j a b len left right =
    ap (λ n. sum_to n (λ k. fixed_product (at a k) (at b k))) len
    ∙ sum_to_same j (λ k. fixed_product (at a k) (at b k)) (λ k. fixed_product (square_at f i k) (square_at f j k)) (λ k h. equal_fixed_products (at a k) (square_at f i k) (at b k) (square_at f j k) (left k h) (right k h))

root_small : (k : ℕ) → k * k ≤ 2 ^ 121 → k ≤ 2 ^ 61
root_small k h =
    elim (dec_lt (2 ^ 61) k) [
      | yes l ↦ let m : 2 ^ 61 ≤ k = omega arith in let p = mul-le-mul m m in absurd (omega (arith, p))
      | no l ↦ omega arith
    ]

pub diagonal_found : (t r : ℤ) → pos 1 ≤ℤ t → unsigned_abs t ≤ 2 ^ 61 → IsIsqrt (t *ℤ pos (2 ^ 60)) r → IsDiagonal t r
diagonal_found (pos a) r some small (k, is, low, high) =
    let fits = root_small k (omega (arith, low)) in
    record {
      pivot = some;
      root = record { least = omega (arith, ints, is); square_le = rw is (omega (arith, ints, low)); next_square_gt = rw is (omega (arith, ints, high)) };
      left_fits = small;
      fits = rw is fits;
    }
diagonal_found (negsuc a) r some small is = absurd (omega (arith, ints))

diagonal_positive : (a r : ℤ) → pos 1 ≤ℤ a → IsRoot a r → pos 1 ≤ℤ r
diagonal_positive a (pos zero) some p = absurd (omega (arith, ints, p.next_square_gt))
diagonal_positive a (pos (suc r)) some p = omega (arith, ints)
diagonal_positive a (negsuc r) some p = absurd (omega (arith, ints, p.least))

pub bounded_same : (a b r s : ℤ) → a ≡ b → r ≡ s → IsBounded a r → IsBounded b s
bounded_same a b r s e h p = subst (IsBounded b) h (subst (λ x. IsBounded x r) e p)

pub bounded_small : (a r v : ℤ) → IsBounded a r → v ≡ fixed_quotient a r → unsigned_abs v ≤ 2 ^ 61
bounded_small a r v b is = subst (λ z. unsigned_abs z ≤ 2 ^ 61) (sym is) b.fits

pub left_same : (m p f : ℕ → ℕ → ℤ) (i j : ℕ) → p i j ≡ m i j → left_of p f i j ≡ left_of m f i j
left_same m p f i j e = ap (λ a. a -ℤ sum_to j (λ k. fixed_product (f i k) (f j k))) e

-- ---- a number written into column j
pub agree_set : (n : ℕ) (o f g : SquareTable) (i j : ℕ) (v : ℤ) → f.size ≡ n → AgreeBefore n (square_at o) (square_at f) j → SetsNumber f g i j v → AgreeBefore n (square_at o) (square_at g) j
agree_set n o f g i j v size kept s a b column lower row = kept a b column lower row ∙ sym (s.others a b (omega arith) (omega arith) (λ e. let p = e.1 in absurd (omega arith)))

pub agree_self : (n : ℕ) (f g : SquareTable) (i j : ℕ) (v : ℤ) → n ≤ f.size → SetsNumber f g i j v → AgreeBefore n (square_at f) (square_at g) j
agree_self n f g i j v size s a b column lower row = sym (s.others a b (omega arith) (omega arith) (λ e. let p = e.1 in absurd (omega arith)))

pub waiting_set : (n : ℕ) (m : ℕ → ℕ → ℤ) (f g : SquareTable) (i j : ℕ) (v : ℤ) → n ≤ f.size → IsWaiting n m (square_at f) (j + 1) → SetsNumber f g i j v → IsWaiting n m (square_at g) (j + 1)
waiting_set n m f g i j v size waiting s a b column lower row = s.others a b (omega arith) (omega arith) (λ e. let p = e.1 in absurd (omega arith)) ∙ waiting a b column lower row

-- the numbers of column j from row i on are still those of m
abbrev pub IsRest : ℕ → (ℕ → ℕ → ℤ) → (ℕ → ℕ → ℤ) → ℕ → ℕ → Type 0
IsRest n m f j i = (a : ℕ) → i ≤ a → a < n → f a j ≡ m a j

pub rest_set : (n : ℕ) (m : ℕ → ℕ → ℤ) (f g : SquareTable) (i j : ℕ) (v : ℤ) → n ≤ f.size → j ≤ i → IsRest n m (square_at f) j i → SetsNumber f g i j v → IsRest n m (square_at g) j (i + 1)
rest_set n m f g i j v size lower rest s a h row = s.others a j (omega arith) (omega arith) (λ e. let p = e.0 in absurd (omega arith)) ∙ rest a (omega arith) row

pub column_started : (m : ℕ → ℕ → ℤ) (f g : SquareTable) (j : ℕ) (r : ℤ) → j < f.size → IsDiagonal (left_of m (square_at f) j j) r → SetsNumber f g j j r → IsColumn (j + 1) m (square_at g) j
column_started m f g j r row d s =
    let same = agree_self (j + 1) f g j j r (omega arith) s in
    let left = left_alone (j + 1) m (square_at f) (square_at g) j j same (omega arith) (omega arith) in
    let here = subst (λ a. IsDiagonal a (square_at g j j)) left (subst (IsDiagonal (left_of m (square_at f) j j)) (sym s.here) d) in
    record {
      pivot = here.pivot;
      root = here.root;
      below = λ i h l. absurd (omega arith);
      left_fits = λ i h l. let e : j ≡ i = omega arith in subst (λ k. unsigned_abs (left_of m (square_at g) k j) ≤ 2 ^ 61) e here.left_fits;
      fits = λ i h l. let e : j ≡ i = omega arith in subst (λ k. unsigned_abs (square_at g k j) ≤ 2 ^ 61) e here.fits;
    }

pub column_more : (m : ℕ → ℕ → ℤ) (f g : SquareTable) (i j : ℕ) (a r v : ℤ) → j < i → i < f.size → IsColumn i m (square_at f) j → a ≡ left_of m (square_at f) i j → square_at f j j ≡ r → IsBounded a r → v ≡ fixed_quotient a r → SetsNumber f g i j v → IsColumn (i + 1) m (square_at g) j
column_more m f g i j a r v lower row p at_a at_r bounded quotient s =
    let b = bounded_same a (left_of m (square_at f) i j) r (square_at f j j) at_a (sym at_r) bounded in
    let is = quotient ∙ equal_fixed_quotients a (left_of m (square_at f) i j) r (square_at f j j) at_a (sym at_r) in
    let same = agree_self (i + 1) f g i j v (omega arith) s in
    let left = λ (k : ℕ) (h : j ≤ k) (l : k < i + 1). left_alone (i + 1) m (square_at f) (square_at g) k j same h l in
    let entry = λ (k : ℕ) (l : k < i). sym (s.others k j (omega arith) (omega arith) (λ e. let q = e.0 in absurd (omega arith))) in
    let diagonal = entry j lower in
    let here : square_at g i j ≡ fixed_quotient (left_of m (square_at g) i j) (square_at g j j) = s.here ∙ is ∙ equal_fixed_quotients _ _ _ _ (left i (omega arith) (omega arith)) diagonal in
    record {
      pivot = subst (λ a. pos 1 ≤ℤ a) (left j (omega arith) (omega arith)) p.pivot;
      root = subst (IsRoot (left_of m (square_at g) j j)) diagonal (subst (λ a. IsRoot a (square_at f j j)) (left j (omega arith) (omega arith)) p.root);
      below = λ k h l. elim (last_or_before k i l) [
        | inl q ↦ sym (entry k q) ∙ p.below k h q ∙ equal_fixed_quotients _ _ _ _ (left k (omega arith) l) diagonal
        | inr q ↦ subst (λ x. square_at g x j ≡ fixed_quotient (left_of m (square_at g) x j) (square_at g j j)) (sym q) here
      ];
      left_fits = λ k h l. elim (last_or_before k i l) [
        | inl q ↦ subst (λ a. unsigned_abs a ≤ 2 ^ 61) (left k h l) (p.left_fits k h q)
        | inr q ↦ subst (λ a. unsigned_abs a ≤ 2 ^ 61) (left k h l) (subst (λ x. unsigned_abs (left_of m (square_at f) x j) ≤ 2 ^ 61) (sym q) b.left_fits)
      ];
      fits = λ k h l. elim (last_or_before k i l) [
        | inl q ↦ subst (λ a. unsigned_abs a ≤ 2 ^ 61) (entry k q) (p.fits k h q)
        | inr q ↦ subst (λ x. unsigned_abs (square_at g x j) ≤ 2 ^ 61) (sym q) (subst (λ a. unsigned_abs a ≤ 2 ^ 61) (sym (s.here ∙ is)) b.fits)
      ];
    }

-- ---- the same numbers in column j
pub column_of : (n : ℕ) (m p g : ℕ → ℕ → ℤ) (j : ℕ) → j < n → IsRest n m p j j → IsColumn n p g j → IsColumn n m g j
column_of n m p g j row same c =
    let left = λ (i : ℕ) (h : j ≤ i) (l : i < n). left_same m p g i j (same i h l) in
    record {
      pivot = subst (λ a. pos 1 ≤ℤ a) (left j (omega arith) row) c.pivot;
      root = subst (λ a. IsRoot a (g j j)) (left j (omega arith) row) c.root;
      below = λ i h l. c.below i h l ∙ ap (λ a. fixed_quotient a (g j j)) (left i (omega arith) l);
      left_fits = λ i h l. subst (λ a. unsigned_abs a ≤ 2 ^ 61) (left i h l) (c.left_fits i h l);
      fits = c.fits;
    }

pub stuck_of : (n : ℕ) (m p f : ℕ → ℕ → ℤ) (j : ℕ) → j < n → IsRest n m p j j → IsStuck n p f j → IsStuck n m f j
stuck_of n m p f j row same stuck g agree c = stuck g agree (column_of n p m g j row (λ i h l. sym (same i h l)) c)

-- ---- where column j ends
pub stuck_diagonal : (n : ℕ) (m f : ℕ → ℕ → ℤ) (j : ℕ) → j < n → ((r : ℤ) → ¬ (IsDiagonal (left_of m f j j) r)) → IsStuck n m f j
stuck_diagonal n m f j row none g same p =
    let left = left_alone n m f g j j same (omega arith) row in
    none (g j j) (subst (λ a. IsDiagonal a (g j j)) (sym left) (record { pivot = p.pivot; root = p.root; left_fits = p.left_fits j (omega arith) row; fits = p.fits j (omega arith) row }))

pub stuck_below : (n : ℕ) (m o f : ℕ → ℕ → ℤ) (i j : ℕ) (a r : ℤ) → j < i → i < n → AgreeBefore n o f j → IsColumn i m f j → a ≡ left_of m f i j → f j j ≡ r → ¬ (IsBounded a r) → IsStuck n m o j
stuck_below n m o f i j a r lower row kept made at_a at_r none g same p =
    let agree : AgreeBefore n f g j = λ a b h l r. sym (kept a b h l r) ∙ same a b h l r in
    let left = left_alone n m f g i j agree (omega arith) row in
    let left_j = left_alone n m f g j j agree (omega arith) (omega arith) in
    let root = root_alone (left_of m g j j) (f j j) (g j j) (subst (λ a. IsRoot a (f j j)) left_j made.root) p.root in
    let entry = equal_fixed_quotients _ _ _ _ left root ∙ sym (p.below i lower row) in
    none (bounded_same _ a _ r (sym at_a) at_r (record {
      left_fits = subst (λ x. unsigned_abs x ≤ 2 ^ 61) (sym left) (p.left_fits i (omega arith) row);
      fits = subst (λ x. unsigned_abs x ≤ 2 ^ 61) (sym entry) (p.fits i (omega arith) row);
    }))

-- ---- column by column
column_kept : (n : ℕ) (m f g : ℕ → ℕ → ℤ) (j : ℕ) → j < n → AgreeBefore n f g (suc j) → IsColumn n m f j → IsColumn n m g j
column_kept n m f g j row same p =
    let before : AgreeBefore n f g j = λ a b h l r. same a b (omega arith) l r in
    let left = λ (i : ℕ) (h : j ≤ i) (l : i < n). left_alone n m f g i j before h l in
    let entry = λ (i : ℕ) (h : j ≤ i) (l : i < n). same i j (omega arith) h l in
    record {
      pivot = subst (λ a. pos 1 ≤ℤ a) (left j (omega arith) row) p.pivot;
      root = subst (IsRoot (left_of m g j j)) (entry j (omega arith) row) (subst (λ a. IsRoot a (f j j)) (left j (omega arith) row) p.root);
      below = λ i h l. sym (entry i (omega arith) l) ∙ p.below i h l ∙ equal_fixed_quotients _ _ _ _ (left i (omega arith) l) (entry j (omega arith) row);
      left_fits = λ i h l. subst (λ a. unsigned_abs a ≤ 2 ^ 61) (left i h l) (p.left_fits i h l);
      fits = λ i h l. subst (λ a. unsigned_abs a ≤ 2 ^ 61) (entry i h l) (p.fits i h l);
    }

pub columns_more : (n : ℕ) (m f g : ℕ → ℕ → ℤ) (j : ℕ) → j < n → HasColumns n m f j → AgreeBefore n f g j → IsColumn n m g j → HasColumns n m g (j + 1)
columns_more n m f g j row p same q c h = elim (last_or_before c j h) [
  | inl before ↦ column_kept n m f g c (omega arith) (λ a b k l r. same a b (omega arith) l r) (p c before)
  | inr e ↦ subst (IsColumn n m g) (sym e) q
]

pub pivot_at : (n : ℕ) (m f : ℕ → ℕ → ℤ) (j : ℕ) → j < n → HasColumns n m f j → IsStuck n m f j → IsPivot n m j
pivot_at n m f j row p stuck = record {
  within = row;
  before = (f, p);
  none = λ g q. stuck g (factor_alone n m f g j p (λ c h. q c (omega arith))) (q j (omega arith));
}

pub positive_at : (n : ℕ) (m f : ℕ → ℕ → ℤ) (j : ℕ) → IsColumn n m f j → pos 1 ≤ℤ f j j
positive_at n m f j p = diagonal_positive (left_of m f j j) (f j j) p.pivot p.root
