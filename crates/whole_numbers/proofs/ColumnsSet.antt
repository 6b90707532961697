-- Square tables whose columns are written one by one.
use Rattle.std.proofs.Common.{◌≡◌, ◌≢◌, ◌≤◌, ◌<◌, ◌+◌, ◌∙◌, ℕ, ℤ, List, length, arith, sym, subst, unsigned_abs, below_more}
use Rattle.whole_numbers.specs.Lists.{at, AllAtMost}
use Rattle.whole_numbers.specs.Squares.{SquareTable, square_at, SetsNumber, SetsColumn}

-- column c of t is x, so far as the rows before row m
pub record IsSetTo (m : ℕ) (s t : SquareTable) (c : ℕ) (x : List ℤ) : Type 0 where
  pub size : t.size ≡ s.size
  pub here : (i : ℕ) → i < m → square_at t i c ≡ at x i
  pub others : (i k : ℕ) → i < s.size → k < s.size → k ≢ c → square_at t i k ≡ square_at s i k
  pub small : (a : ℕ) → AllAtMost a x → AllAtMost a s.numbers → AllAtMost a t.numbers

pub set_more : (m : ℕ) (s t v : SquareTable) (c : ℕ) (x : List ℤ) (z : ℤ) → length x ≡ s.size → m < s.size → c < s.size → IsSetTo m s t c x → z ≡ at x m → SetsNumber t v m c z → IsSetTo (m + 1) s v c x
set_more m s t v c x z len row column before is set = record {
  size = set.size ∙ before.size;
  here = below_more (λ i. square_at v i c ≡ at x i) m
      (λ i l. set.others i c (omega (arith, before.size)) (omega (arith, before.size)) (λ e. let p = e.0 in absurd (omega arith)) ∙ before.here i l)
      (set.here ∙ is);
  others = λ i k h g other. set.others i k (omega (arith, before.size)) (omega (arith, before.size)) (λ e. other e.1) ∙ before.others i k h g other;
  small = λ a x_small s_small. set.small a (before.small a x_small s_small) (subst (λ z. unsigned_abs z ≤ a) (sym is) (x_small m (omega (arith, len))));
}

-- t has the rows of s as its columns, so far as the columns before column m
pub record IsTransposeTo (m : ℕ) (s t : SquareTable) : Type 0 where
  pub size : t.size ≡ s.size
  pub turned : (i k : ℕ) → i < s.size → k < m → square_at t i k ≡ square_at s k i
  pub small : (a : ℕ) → AllAtMost a s.numbers → AllAtMost a t.numbers

pub transpose_more : (m : ℕ) (s t v : SquareTable) (row : List ℤ) → m < s.size → ((k : ℕ) → k < s.size → at row k ≡ square_at s m k) → ((a : ℕ) → AllAtMost a s.numbers → AllAtMost a row) → IsTransposeTo m s t → SetsColumn t v m row → IsTransposeTo (m + 1) s v
transpose_more m s t v row column is row_small before set = record {
  size = set.size ∙ before.size;
  turned = λ i k h l. below_more (λ k. square_at v i k ≡ square_at s k i) m
      (λ k l. set.others i k (omega (arith, before.size)) (omega (arith, before.size)) (omega arith) ∙ before.turned i k h l)
      (set.here i (omega (arith, before.size)) ∙ is i h) k l;
  small = λ a s_small. set.small a (row_small a s_small) (before.small a s_small);
}
