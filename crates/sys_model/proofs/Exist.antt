-- A square table that sends no vector but zero to zero has a solution for each right side: elimination, as a proof.
use Rattle.std.proofs.Common.{◌≡◌, ◌≢◌, ℕ, zero, suc, pos, negsuc, ℤ, ◌+ℤ◌, ◌*ℤ◌, neg_ℤ, arith, refl, sym, ap, ◌∙◌, ◌≤◌, ◌<◌, ◌*◌, ◌+◌, ◌⊎◌, inl, inr, cond, eqb, subst, unsigned_abs}
use Rattle.std.proofs.Math.IntN.{◌-ℤ◌, *ℤ-zero}
use Rattle.std.proofs.Math.Decide.{dec_lt, ℕ_discrete}
use Rattle.std.proofs.lemmas.Int.{ints, unsigned_abs-mul}
use Rattle.std.proofs.Math.Nat.{mul-le-mul}
use Rattle.std.proofs.lemmas.Bool.Decides.{nat_tests}
use Rattle.whole_numbers.specs.Sum.{sum_to}
use Rattle.sys_model.specs.Systems.{row_by, System, Fractions, Table, LiesIn, Solves, Passes, Encloses, radius, defect_size, row_parts, test_of}
use Rattle.sys_model.proofs.Law.{vanishing}
use Rattle.whole_numbers.proofs.IntervalLaws.{two_pow_above}
use Rattle.sys_model.proofs.Enclose.{pair_row, row_parts_cover, enclosed, unique}
use Rattle.std.proofs.Common.{◌^◌, ◌-◌}
use Rattle.whole_numbers.proofs.Cases.{zero_or_not}
use Rattle.whole_numbers.proofs.Ring.{ring}
use Rattle.whole_numbers.proofs.Sums.{sum_to_same, sum_to-*ℤ, sum_to-zero}

-- the table sends no vector but zero to zero, over the rows and columns below n
abbrev pub IsInjective : ℕ → (ℕ → ℕ → ℤ) → Type 0
IsInjective n a = (x : ℕ → ℤ) → ((i : ℕ) → i < n → row_by n a i x ≡ pos 0) → (i : ℕ) → i < n → x i ≡ pos 0

pub record Solution (n : ℕ) (a : ℕ → ℕ → ℤ) (c : ℕ → ℤ) : Type 0 where
  pub s : ℕ
  pub x : ℕ → ℤ
  pub some : 0 < s
  pub rows : (i : ℕ) → i < n → row_by n a i x ≡ c i *ℤ pos s

-- some value below n is not 0, or all are
pivot : (n : ℕ) (f : ℕ → ℤ) → ((k : ℕ) × (k < n) × (f k ≢ pos 0)) ⊎ ((k : ℕ) → k < n → f k ≡ pos 0)
pivot zero f = inr (λ k h. absurd (omega arith))
pivot (suc n) f =
    elim (zero_or_not (f n)) [
      | inr h ↦ inl (n, omega arith, h)
      | inl z ↦ elim (pivot n f) [
        | inl p ↦ inl (p.0, omega (arith, p.1), p.2)
        | inr all ↦ inr (λ k h. elim (dec_lt k n) [
          | yes l ↦ all k l
          | no l ↦ let e : k ≡ n = omega arith in ap f e ∙ z
        ])
      ]
    ]

-- z below n, and last at n
abbrev pub with_last : ℕ → (ℕ → ℤ) → ℤ → ℕ → ℤ
with_last n z last j = cond (eqb j n) last (z j)

pub at_last : (n : ℕ) (z : ℕ → ℤ) (last : ℤ) → with_last n z last n ≡ last
at_last n z last = grind (arith, nat_tests)

pub at_other : (n : ℕ) (z : ℕ → ℤ) (last : ℤ) (j : ℕ) → j < n → with_last n z last j ≡ z j
at_other n z last j h = grind (arith, nat_tests)

row_by_last : (n : ℕ) (a : ℕ → ℕ → ℤ) (i : ℕ) (z : ℕ → ℤ) (last : ℤ) → row_by (suc n) a i (with_last n z last) ≡ row_by n a i z +ℤ a i n *ℤ last
row_by_last n a i z last =
    let e = at_last n z last in
    let s = sum_to_same n (λ j. a i j *ℤ with_last n z last j) (λ j. a i j *ℤ z j) (λ j l. ap (λ v. a i j *ℤ v) (at_other n z last j l)) in
    ap (λ v. v +ℤ a i n *ℤ with_last n z last n) s ∙ ap (λ v. row_by n a i z +ℤ a i n *ℤ v) e

-- the rows but p, in the places below n
abbrev other_row : ℕ → ℕ → ℕ → ℕ
other_row n p i = cond (eqb i p) n i

other_row_here : (n p : ℕ) → other_row n p p ≡ n
other_row_here n p = grind (arith, nat_tests)

other_row_there : (n p i : ℕ) → i ≢ p → other_row n p i ≡ i
other_row_there n p i h = grind (arith, nat_tests)

each_row : (P : ℕ → Type 0) (n p : ℕ) → p < suc n → P p → ((i : ℕ) → i < n → P (other_row n p i)) → (k : ℕ) → k < suc n → P k
each_row P n p h at_p others k l =
    elim (ℕ_discrete k p) [
      | yes e ↦ subst P (sym e) at_p
      | no d ↦ elim (dec_lt k n) [
        | yes m ↦ subst P (other_row_there n p k d) (others k m)
        | no m ↦ let e : k ≡ n = omega arith in subst P (other_row_here n p ∙ sym e) (others p (omega arith))
      ]
    ]

-- the table and the right side without row p and column n
abbrev reduced : ℕ → ℕ → (ℕ → ℕ → ℤ) → ℕ → ℕ → ℤ
reduced n p a i j = a (other_row n p i) j *ℤ a p n -ℤ a (other_row n p i) n *ℤ a p j

abbrev reduced_right : ℕ → ℕ → (ℕ → ℕ → ℤ) → (ℕ → ℤ) → ℕ → ℤ
reduced_right n p a c i = c (other_row n p i) *ℤ a p n -ℤ a (other_row n p i) n *ℤ c p

reduce_step : (u v b d e f z : ℤ) → (d *ℤ u -ℤ e *ℤ v) +ℤ (b *ℤ d -ℤ e *ℤ f) *ℤ z ≡ d *ℤ (u +ℤ b *ℤ z) -ℤ e *ℤ (v +ℤ f *ℤ z)
reduce_step u v b d e f z = simp ring (omega (arith, ints))

two_rows : (m : ℕ) (b f z : ℕ → ℤ) (d e : ℤ) → sum_to m (λ j. (b j *ℤ d -ℤ e *ℤ f j) *ℤ z j) ≡ d *ℤ sum_to m (λ j. b j *ℤ z j) -ℤ e *ℤ sum_to m (λ j. f j *ℤ z j)
two_rows zero b f z d e = simp *ℤ-zero (omega (arith, ints))
two_rows (suc m) b f z d e = ap (λ w. w +ℤ (b m *ℤ d -ℤ e *ℤ f m) *ℤ z m) (two_rows m b f z d e) ∙ reduce_step (sum_to m (λ j. b j *ℤ z j)) (sum_to m (λ j. f j *ℤ z j)) (b m) d e (f m) (z m)

scaled_row : (n : ℕ) (a : ℕ → ℕ → ℤ) (i : ℕ) (d : ℤ) (z : ℕ → ℤ) → row_by n a i (λ j. d *ℤ z j) ≡ d *ℤ row_by n a i z
scaled_row n a i d z = sum_to_same n (λ j. a i j *ℤ (d *ℤ z j)) (λ j. d *ℤ (a i j *ℤ z j)) (λ j l. simp ring) ∙ sum_to-*ℤ n d (λ j. a i j *ℤ z j)

nonzero_cancel : (d z : ℤ) → d ≢ pos 0 → d *ℤ z ≡ pos 0 → z ≡ pos 0
nonzero_cancel d z h e =
    let m = sym (unsigned_abs-mul d z) ∙ ap unsigned_abs e in
    elim (zero_or_not z) [
      | inl q ↦ q
      | inr q ↦
          let x : 1 ≤ unsigned_abs d = omega (arith, ints) in
          let y : 1 ≤ unsigned_abs z = omega (arith, ints) in
          absurd (omega (arith, m, mul-le-mul x y))
    ]

one_is_zero : pos 1 ≡ pos 0 → ⊥
one_is_zero e = omega (arith, ints)

square_some : (d : ℤ) (s : ℕ) → d ≢ pos 0 → 0 < s → 0 < (unsigned_abs d * unsigned_abs d) * s
square_some d s h l =
    let x : 1 ≤ unsigned_abs d = omega (arith, ints) in
    mul-le-mul (mul-le-mul x x) l

opposite : (u e v : ℤ) → u +ℤ e *ℤ neg_ℤ v ≡ u -ℤ e *ℤ v
opposite u e v = simp ring (omega (arith, ints))

reduced_injective : (n p : ℕ) (a : ℕ → ℕ → ℤ) → p < suc n → a p n ≢ pos 0 → IsInjective (suc n) a → IsInjective n (reduced n p a)
reduced_injective n p a l h inj z rows i li =
    let d = a p n in
    let v = row_by n a p z in
    let x = with_last n (λ j. d *ℤ z j) (neg_ℤ v) in
    let at_p : row_by (suc n) a p x ≡ pos 0 = row_by_last n a p (λ j. d *ℤ z j) (neg_ℤ v) ∙ ap (λ w. w +ℤ d *ℤ neg_ℤ v) (scaled_row n a p d z) ∙ simp ring (omega (arith, ints)) in
    let others = λ (k : ℕ) (m : k < n). row_by_last n a (other_row n p k) (λ j. d *ℤ z j) (neg_ℤ v) ∙ ap (λ w. w +ℤ a (other_row n p k) n *ℤ neg_ℤ v) (scaled_row n a (other_row n p k) d z) ∙ opposite (d *ℤ row_by n a (other_row n p k) z) (a (other_row n p k) n) v ∙ sym (two_rows n (a (other_row n p k)) (a p) z d (a (other_row n p k) n)) ∙ rows k m in
    let all = inj x (each_row (λ k. row_by (suc n) a k x ≡ pos 0) n p l at_p others) in
    nonzero_cancel d (z i) h (sym (at_other n (λ j. d *ℤ z j) (neg_ℤ v) i li) ∙ all i (omega arith))

square_abs : (d : ℤ) → pos (unsigned_abs d * unsigned_abs d) ≡ d *ℤ d
square_abs (pos n) = refl
square_abs (negsuc n) = refl

back_step : (u v d e f g s : ℤ) → d *ℤ u -ℤ e *ℤ v ≡ (f *ℤ d -ℤ e *ℤ g) *ℤ s → (d *ℤ d) *ℤ u +ℤ e *ℤ (d *ℤ (g *ℤ s -ℤ v)) ≡ f *ℤ ((d *ℤ d) *ℤ s)
back_step u v d e f g s h =
    let k = simp ring at (ap (λ w. d *ℤ w) h) in
    simp ring (omega (arith, ints))

pivot_step : (v d g s : ℤ) → (d *ℤ d) *ℤ v +ℤ d *ℤ (d *ℤ (g *ℤ s -ℤ v)) ≡ g *ℤ ((d *ℤ d) *ℤ s)
pivot_step v d g s = simp ring (omega (arith, ints))

back : (n p : ℕ) (a : ℕ → ℕ → ℤ) (c : ℕ → ℤ) → p < suc n → a p n ≢ pos 0 → Solution n (reduced n p a) (reduced_right n p a c) → Solution (suc n) a c
back n p a c l h sol =
    let d = a p n in
    let m = unsigned_abs d * unsigned_abs d in
    let v = row_by n a p sol.x in
    let last = d *ℤ (c p *ℤ pos sol.s -ℤ v) in
    let x = with_last n (λ j. (d *ℤ d) *ℤ sol.x j) last in
    let q : pos (m * sol.s) ≡ (d *ℤ d) *ℤ pos sol.s = ap (λ w. w *ℤ pos sol.s) (square_abs d) in
    let row = λ (k : ℕ). row_by_last n a k (λ j. (d *ℤ d) *ℤ sol.x j) last ∙ ap (λ w. w +ℤ a k n *ℤ last) (scaled_row n a k (d *ℤ d) sol.x) in
    let at_p : row_by (suc n) a p x ≡ c p *ℤ pos (m * sol.s) = row p ∙ pivot_step v d (c p) (pos sol.s) ∙ ap (λ w. c p *ℤ w) (sym q) in
    let others = λ (i : ℕ) (k : i < n). row (other_row n p i) ∙ back_step (row_by n a (other_row n p i) sol.x) v d (a (other_row n p i) n) (c (other_row n p i)) (c p) (pos sol.s) (sym (two_rows n (a (other_row n p i)) (a p) sol.x d (a (other_row n p i) n)) ∙ sol.rows i k) ∙ ap (λ w. c (other_row n p i) *ℤ w) (sym q) in
    record { s = m * sol.s; x = x; some = square_some d sol.s h sol.some; rows = each_row (λ k. row_by (suc n) a k x ≡ c k *ℤ pos (m * sol.s)) n p l at_p others }

pub solvable : (n : ℕ) (a : ℕ → ℕ → ℤ) (c : ℕ → ℤ) → IsInjective n a → Solution n a c
solvable zero a c inj = record { s = 1; x = λ j. pos 0; some = omega arith; rows = λ i l. absurd (omega arith) }
solvable (suc n) a c inj =
    elim (pivot (suc n) (λ k. a k n)) [
      | inl p ↦ back n p.0 a c p.1 p.2 (solvable n (reduced n p.0 a) (reduced_right n p.0 a c) (reduced_injective n p.0 a p.1 p.2 inj))
      | inr all ↦ absurd (one_is_zero (sym (at_last n (λ j. pos 0) (pos 1)) ∙ inj (with_last n (λ j. pos 0) (pos 1)) (λ i l. row_by_last n a i (λ j. pos 0) (pos 1) ∙ ap (λ w. w +ℤ a i n *ℤ pos 1) (sum_to_same n (λ j. a i j *ℤ pos 0) (λ j. pos 0) (λ j m. *ℤ-zero (a i j)) ∙ sum_to-zero n) ∙ ap (λ w. pos 0 +ℤ w *ℤ pos 1) (all i l)) n (omega arith)))
    ]

-- ---- systems in the intervals of a certificate that passes
pub injective : (n g h : ℕ) (r : ℕ → ℕ → ℤ) (t : Table) (y : ℕ → ℤ) (B M : ℕ) (S : System) → Passes (test_of n g h r t y B M) → LiesIn n t S → IsInjective n S.a
injective n g h r t y B M S pass lies x rows i l =
    let below = pass.below in
    let small = vanishing n (defect_size n (2 ^ (g + 60)) r t) (λ j. unsigned_abs (x j)) (row_parts n g r t) (2 ^ 30) (2 ^ (g + 30)) B (2 ^ 30 - B)
    (two_pow_above (g + 30)) (omega arith) (omega arith)
    (λ k m. pair_row n g r t S x k lies m rows)
    (λ k m. row_parts_cover n g r t k (omega (arith, pass.parts k m)))
    pass.parts i l in
    omega (arith, ints, small)

pub solution_exists : (n g h : ℕ) (r : ℕ → ℕ → ℤ) (t : Table) (y : ℕ → ℤ) (B M : ℕ) (S : System) → Passes (test_of n g h r t y B M) → LiesIn n t S → (v : Fractions) × Solves n S v
solution_exists n g h r t y B M S pass lies =
    let sol = solvable n S.a S.c (injective n g h r t y B M S pass lies) in
    (record { s = sol.s; x = sol.x }, record { some = sol.some; rows = λ i l. omega (arith, ints, sol.rows i l) })

-- The law of the certificate.
pub encloses : (n g h : ℕ) (r : ℕ → ℕ → ℤ) (t : Table) (y : ℕ → ℤ) (B M : ℕ) → Passes (test_of n g h r t y B M) → Encloses n t y (radius n g h r t y B M)
encloses n g h r t y B M pass = record {
  contains = λ S v lies sol i l. enclosed n g h r t y B M S v i pass lies sol l;
  same = λ S v u lies one two i l. unique n g h r t y B M S v u i pass lies one two l;
  solvable = λ S lies. solution_exists n g h r t y B M S pass lies;
}
