-- How near the table times its pilot comes to the identity: it rests on the roundings alone.
use Rattle.std.proofs.Common.{◌≡◌, ℕ, zero, suc, pos, negsuc, ℤ, ◌+ℤ◌, ◌*ℤ◌, arith, sym, ap, ◌∙◌, ◌≤◌, ◌<◌, ◌*◌, ◌+◌, ◌-◌, ◌^◌, unsigned_abs, subst}
use Rattle.std.proofs.Math.IntN.{◌-ℤ◌, zero-*ℤ, *ℤ-zero}
use Rattle.std.specs.Prelude.{◌≤ℤ◌}
use Rattle.std.proofs.Math.Decide.{dec_lt}
use Rattle.std.proofs.lemmas.Int.{ints}
use Rattle.std.proofs.lemmas.Nat.{pow-add}
use Rattle.std.proofs.lemmas.Bool.Decides.{nat_tests}
use Rattle.whole_numbers.specs.Sum.{sum_to, unit}
use Rattle.whole_numbers.proofs.Ring.{ring, *ℤ_comm}
use Rattle.whole_numbers.proofs.Sums.{sum_to_same, unit_here, unit_other, abs-dot}
use Rattle.whole_numbers.proofs.IntervalLaws.{floor_over_le, lt-floor_over}
use Rattle.sys_model.specs.Systems.{row_by}
use Rattle.sys_model.proofs.Parts.{product_at, defect_at}
use Rattle.sys_model.proofs.Law.{row_by-product}
use Rattle.chol_factor.specs.Factor.{fixed_product, fixed_quotient, left_of, IsRoot, HasColumns}
use Rattle.chol_factor.proofs.ColumnLaws.{positive_at}
use Rattle.chol_guess.specs.Columns.{forward_left, back_left, sum_past, IsForwardSolution, IsBackSolution, IsInverseColumn}
use Rattle.enclosures.specs.Pilots.{PilotTable, pilot_entry}
use Rattle.chol_guess.specs.Pilots.{IsPilot, nearest}
use Rattle.chol_guess.proofs.Ranges.{sum_to_split, sum_to_none, sum_to_from}
use Rattle.dominant_laws.proofs.Remainders.{lower}
use Rattle.dominant_laws.proofs.Conditions.{IsGreat}

-- ---- the lower numbers
lower_here : (f : ℕ → ℕ → ℤ) (i k : ℕ) → k ≤ i → lower f i k ≡ f i k
lower_here f i k le = grind (arith, nat_tests)

lower_past : (f : ℕ → ℕ → ℤ) (i k : ℕ) → i < k → lower f i k ≡ pos 0
lower_past f i k lt = grind (arith, nat_tests)

-- a row of them ends at the diagonal
row_lower : (n : ℕ) (f : ℕ → ℕ → ℤ) (i : ℕ) (v : ℕ → ℤ) → i < n → sum_to n (λ k. lower f i k *ℤ v k) ≡ sum_to (suc i) (λ k. f i k *ℤ v k)
row_lower n f i v row =
    let e : n ≡ suc i + (n - suc i) = omega arith in
    let h = λ (k : ℕ). lower f i k *ℤ v k in
    let none = sum_to_none (n - suc i) (λ d. h (suc i + d)) (λ d l. ap (λ z. z *ℤ v (suc i + d)) (lower_past f i (suc i + d) (omega arith)) ∙ zero-*ℤ (v (suc i + d))) in
    let here = sum_to_same (suc i) h (λ k. f i k *ℤ v k) (λ k l. ap (λ z. z *ℤ v k) (lower_here f i k (omega arith))) in
    omega (arith, ints, ap (λ a. sum_to a h) e, sum_to_split (suc i) (n - suc i) h, none, here)

sum_first : (n : ℕ) (h : ℕ → ℤ) → sum_to (suc n) h ≡ h 0 +ℤ sum_to n (λ d. h (suc d))
sum_first zero h = omega (arith, ints)
sum_first (suc n) h = omega (arith, ints, sum_first n h)

-- and a column begins there
column_lower : (n : ℕ) (f : ℕ → ℕ → ℤ) (k : ℕ) (v : ℕ → ℤ) → k < n → sum_to n (λ j. lower f j k *ℤ v j) ≡ f k k *ℤ v k +ℤ sum_past n k (λ j. f j k *ℤ v j)
column_lower n f k v row =
    let h = λ (j : ℕ). lower f j k *ℤ v j in
    let from = sum_to_from k n h (omega arith) (λ j l. ap (λ z. z *ℤ v j) (lower_past f j k l) ∙ zero-*ℤ (v j)) in
    let e : n - k ≡ suc (n - suc k) = omega arith in
    let z : k + 0 ≡ k = omega arith in
    let first = ap (λ a. sum_to a (λ d. h (k + d))) e ∙ sum_first (n - suc k) (λ d. h (k + d)) in
    let here : h (k + 0) ≡ f k k *ℤ v k = ap h z ∙ ap (λ a. a *ℤ v k) (lower_here f k k (omega arith)) in
    let more = sum_to_same (n - suc k) (λ d. h (k + suc d)) (λ d. f (suc k + d) k *ℤ v (suc k + d))
    (λ d l. let p : k + suc d ≡ suc k + d = omega arith in ap h p ∙ ap (λ a. a *ℤ v (suc k + d)) (lower_here f (suc k + d) k (omega arith))) in
    omega (arith, ints, from, first, here, more)

-- ---- roundings in sum
parts_low : (j : ℕ) (a b : ℕ → ℤ) → (sum_to j (λ k. fixed_product (a k) (b k)) *ℤ pos (2 ^ 60)) ≤ℤ sum_to j (λ k. a k *ℤ b k)
parts_low zero a b = omega (arith, ints)
parts_low (suc j) a b = omega (arith, ints, parts_low j a b, floor_over_le (a j *ℤ b j) (2 ^ 60) (omega arith))

parts_high : (j : ℕ) (a b : ℕ → ℤ) → sum_to j (λ k. a k *ℤ b k) ≤ℤ (sum_to j (λ k. fixed_product (a k) (b k)) *ℤ pos (2 ^ 60) +ℤ pos (j * 2 ^ 60))
parts_high zero a b = omega (arith, ints)
parts_high (suc j) a b = omega (arith, ints, parts_high j a b, lt-floor_over (a j *ℤ b j) (2 ^ 60) (omega arith))

ratio_low : (a b : ℤ) → pos 1 ≤ℤ b → (fixed_quotient a b *ℤ b) ≤ℤ (a *ℤ pos (2 ^ 60))
ratio_low a (pos b) some = floor_over_le (a *ℤ pos (2 ^ 60)) b (omega (arith, ints))
ratio_low a (negsuc b) some = absurd (omega (arith, ints))

ratio_high : (a b : ℤ) → pos 1 ≤ℤ b → (a *ℤ pos (2 ^ 60)) ≤ℤ (fixed_quotient a b *ℤ b +ℤ b)
ratio_high a (pos b) some = let t = lt-floor_over (a *ℤ pos (2 ^ 60)) b (omega (arith, ints)) in omega (arith, ints, t)
ratio_high a (negsuc b) some = absurd (omega (arith, ints))

root_high : (p l : ℤ) → IsRoot p l → (p *ℤ pos (2 ^ 60)) ≤ℤ (l *ℤ l +ℤ pos 2 *ℤ l)
root_high p (pos l) r = let s : suc l * suc l ≡ l * l + 2 * l + 1 = omega arith in omega (arith, ints, s, r.next_square_gt)
root_high p (negsuc l) r = absurd (omega (arith, ints, r.least))

-- ---- the factor, forward and back substitution
-- an element of the table, for j at most i
square_near_lower : (n : ℕ) (m f : ℕ → ℕ → ℤ) (i j : ℕ) → n ≤ 1000 → HasColumns n m f n → j ≤ i → i < n → unsigned_abs (m i j *ℤ pos (2 ^ 60) -ℤ sum_to n (λ k. lower f j k *ℤ lower f i k)) ≤ 2 ^ 70
square_near_lower n m f i j few has le row =
    let c = has j (omega arith) in
    let some = positive_at n m f j c in
    let fits = c.fits j (omega arith) (omega arith) in
    let is = row_lower n f j (λ k. lower f i k) (omega arith) in
    let same = sum_to_same (suc j) (λ k. f j k *ℤ lower f i k) (λ k. f i k *ℤ f j k) (λ k l. ap (λ z. f j k *ℤ z) (lower_here f i k (omega arith)) ∙ *ℤ_comm (f j k) (f i k)) in
    let low = parts_low j (f i) (f j) in
    let high = parts_high j (f i) (f j) in
    let near : ((f i j *ℤ f j j) ≤ℤ (left_of m f i j *ℤ pos (2 ^ 60))) × ((left_of m f i j *ℤ pos (2 ^ 60)) ≤ℤ (f i j *ℤ f j j +ℤ pos 2 *ℤ f j j)) = elim (dec_lt j i) [
      | yes l ↦
          let e = ap (λ z. z *ℤ f j j) (c.below i l row) in
          (omega (arith, ints, e, ratio_low (left_of m f i j) (f j j) some), omega (arith, ints, e, some, ratio_high (left_of m f i j) (f j j) some))
      | no l ↦
          let e : j ≡ i = omega arith in
          subst (λ a. ((f a j *ℤ f j j) ≤ℤ (left_of m f a j *ℤ pos (2 ^ 60))) × ((left_of m f a j *ℤ pos (2 ^ 60)) ≤ℤ (f a j *ℤ f j j +ℤ pos 2 *ℤ f j j))) e (c.root.square_le, root_high (left_of m f j j) (f j j) c.root)
    ] in
    omega (arith, ints, is, same, low, high, near.0, near.1, some, fits, few)

square_near : (n : ℕ) (m f : ℕ → ℕ → ℤ) (i j : ℕ) → IsGreat n m → HasColumns n m f n → i < n → j < n → unsigned_abs (m i j *ℤ pos (2 ^ 60) -ℤ sum_to n (λ k. lower f i k *ℤ lower f j k)) ≤ 2 ^ 70
square_near n m f i j g has row column =
    elim (dec_lt i j) [
      | yes l ↦ subst (λ a. unsigned_abs (a *ℤ pos (2 ^ 60) -ℤ sum_to n (λ k. lower f i k *ℤ lower f j k)) ≤ 2 ^ 70) (g.sym j i column row) (square_near_lower n m f j i g.few has (omega arith) column)
      | no l ↦
          let turn = sum_to_same n (λ k. lower f j k *ℤ lower f i k) (λ k. lower f i k *ℤ lower f j k) (λ k b. *ℤ_comm (lower f j k) (lower f i k)) in
          subst (λ a. unsigned_abs (m i j *ℤ pos (2 ^ 60) -ℤ a) ≤ 2 ^ 70) turn (square_near_lower n m f i j g.few has (omega arith) row)
    ]

back_near : (n : ℕ) (m f : ℕ → ℕ → ℤ) (u x : ℕ → ℤ) (k : ℕ) → n ≤ 1000 → HasColumns n m f n → IsBackSolution n f u x → k < n → unsigned_abs (u k *ℤ pos (2 ^ 60) -ℤ sum_to n (λ j. lower f j k *ℤ x j)) ≤ 2 ^ 70
back_near n m f u x k few has down row =
    let c = has k row in
    let some = positive_at n m f k c in
    let fits = c.fits k (omega arith) row in
    let is = column_lower n f k x row in
    let low = parts_low (n - suc k) (λ d. f (suc k + d) k) (λ d. x (suc k + d)) in
    let high = parts_high (n - suc k) (λ d. f (suc k + d) k) (λ d. x (suc k + d)) in
    let e = ap (λ z. z *ℤ f k k) (down.rows k row) in
    let turn = *ℤ_comm (x k) (f k k) in
    omega (arith, ints, is, low, high, e, turn, some, fits, few, ratio_low (back_left n f u x k) (f k k) some, ratio_high (back_left n f u x k) (f k k) some)

forward_near : (n : ℕ) (m f : ℕ → ℕ → ℤ) (g c : ℕ) (u : ℕ → ℤ) (i : ℕ) → n ≤ 1000 → HasColumns n m f n → IsForwardSolution n f g c u → i < n → unsigned_abs (unit c (pos (2 ^ (g + 10))) i *ℤ pos (2 ^ 60) -ℤ sum_to n (λ k. lower f i k *ℤ u k)) ≤ 2 ^ 70
forward_near n m f g c u i few has up row =
    let d = has i row in
    let some = positive_at n m f i d in
    let fits = d.fits i (omega arith) row in
    let is = row_lower n f i u row in
    let low = parts_low i (f i) u in
    let high = parts_high i (f i) u in
    let e = ap (λ z. z *ℤ f i i) (up.rows i row) in
    let turn = *ℤ_comm (u i) (f i i) in
    omega (arith, ints, is, low, high, e, turn, some, fits, few, ratio_low (forward_left f g c u i) (f i i) some, ratio_high (forward_left f g c u i) (f i i) some)

-- ---- the table by a column
-- a sum of products whose scaled numbers are a and an error
split_step : (h a e x s u v w : ℤ) → h *ℤ s ≡ a +ℤ e → s *ℤ u ≡ v +ℤ w → s *ℤ (u +ℤ h *ℤ x) ≡ (v +ℤ a *ℤ x) +ℤ (w +ℤ e *ℤ x)
split_step h a e x s u v w is before =
    let both : (h *ℤ s) *ℤ x ≡ (a +ℤ e) *ℤ x = ap (λ z. z *ℤ x) is in
    let left : s *ℤ (u +ℤ h *ℤ x) ≡ s *ℤ u +ℤ (h *ℤ s) *ℤ x = simp ring (omega (arith, ints)) in
    let right : (a +ℤ e) *ℤ x ≡ a *ℤ x +ℤ e *ℤ x = simp ring (omega (arith, ints)) in
    omega (arith, ints, both, left, right, before)

pub split_scaled : (n : ℕ) (h a e x : ℕ → ℤ) (s : ℤ) → ((j : ℕ) → j < n → h j *ℤ s ≡ a j +ℤ e j) → s *ℤ sum_to n (λ j. h j *ℤ x j) ≡ sum_to n (λ j. a j *ℤ x j) +ℤ sum_to n (λ j. e j *ℤ x j)
split_scaled zero h a e x s is = *ℤ-zero s
split_scaled (suc n) h a e x s is = split_step (h n) (a n) (e n) (x n) s _ _ _ (is n (omega arith)) (split_scaled n h a e x s (λ j l. is j (omega arith)))

pub turned : (n : ℕ) (a b : ℕ → ℤ) → sum_to n (λ k. a k *ℤ b k) ≡ sum_to n (λ k. b k *ℤ a k)
turned n a b = sum_to_same n (λ k. a k *ℤ b k) (λ k. b k *ℤ a k) (λ k l. *ℤ_comm (a k) (b k))

lower_small : (n : ℕ) (m f : ℕ → ℕ → ℤ) (i k : ℕ) → HasColumns n m f n → i < n → k < n → unsigned_abs (lower f i k) ≤ 2 ^ 61
lower_small n m f i k has row column =
    elim (dec_lt i k) [
      | yes l ↦ omega (arith, ap unsigned_abs (lower_past f i k l))
      | no l ↦ let c = has k column in omega (arith, ap unsigned_abs (lower_here f i k (omega arith)), c.fits i (omega arith) row)
    ]

table_near : (n : ℕ) (m f : ℕ → ℕ → ℤ) (g c : ℕ) (x : ℕ → ℤ) (i : ℕ) → IsGreat n m → HasColumns n m f n → IsInverseColumn n f g c x → i < n
    → unsigned_abs (sum_to n (λ j. m i j *ℤ x j) -ℤ unit c (pos (2 ^ (g + 10))) i *ℤ pos (2 ^ 60)) ≤ 3001 * 2 ^ 70
table_near n m f g c x i great has column row =
    let u = column.u in
    let L = lower f in
    let back = λ (k : ℕ) (j : ℕ). L j k in
    let s = pos (2 ^ 60) in
    let eta = λ (j : ℕ). m i j *ℤ s -ℤ product_at n L back i j in
    let del = λ (k : ℕ). u k *ℤ s -ℤ row_by n back k x in
    let one = split_scaled n (m i) (product_at n L back i) eta x s (λ j l. omega (arith, ints)) in
    let two = split_scaled n u (λ k. row_by n back k x) del (L i) s (λ k l. omega (arith, ints)) in
    let change = row_by-product n L back i x in
    let turn = turned n (λ k. row_by n back k x) (L i) in
    let turn_u = turned n u (L i) in
    let up = forward_near n m f g c u i great.few has column.up row in
    let eta_small = abs-dot n eta x (2 ^ 70) (2 ^ 60) (λ j l. square_near n m f i j great has row l) column.down.fits in
    let del_small = abs-dot n del (L i) (2 ^ 70) (2 ^ 61) (λ k l. back_near n m f u x k great.few has column.down l) (λ k l. lower_small n m f i k has row l) in
    let few = great.few in
    omega (arith, ints, one, two, change, turn, turn_u, up, eta_small, del_small, few)

-- ---- the defect of the columns
nearest_near : (x : ℤ) → (unsigned_abs (nearest x *ℤ pos 1024 -ℤ x) ≤ 512)
nearest_near x = let a = floor_over_le (x +ℤ pos 512) 1024 (omega arith) in let b = lt-floor_over (x +ℤ pos 512) 1024 (omega arith) in omega (arith, ints, a, b)

unit_scaled : (i c g : ℕ) → unit i (pos (2 ^ (g + 60))) c *ℤ pos 1024 ≡ unit c (pos (2 ^ (g + 10))) i *ℤ pos (2 ^ 60)
unit_scaled i c g =
    elim (dec_lt i c) [
      | yes l ↦ omega (arith, ints, unit_other i (pos (2 ^ (g + 60))) c (omega arith), unit_other c (pos (2 ^ (g + 10))) i (omega arith))
      | no l ↦ elim (dec_lt c i) [
        | yes q ↦ omega (arith, ints, unit_other i (pos (2 ^ (g + 60))) c (omega arith), unit_other c (pos (2 ^ (g + 10))) i (omega arith))
        | no q ↦
            let e : i ≡ c = omega arith in
            let a = ap (λ k. unit i (pos (2 ^ (g + 60))) k) (sym e) ∙ unit_here i (pos (2 ^ (g + 60))) in
            let b = ap (λ k. unit c (pos (2 ^ (g + 10))) k) e ∙ unit_here c (pos (2 ^ (g + 10))) in
            omega (arith, ints, a, b, pow-add 2 g 60, pow-add 2 g 10)
      ]
    ]

-- what the table times the pilot leaves of the identity, in each place
pub defect_small : (n : ℕ) (m : ℕ → ℕ → ℤ) (p : PilotTable) (i c : ℕ) → IsGreat n m → IsPilot n m p → i < n → c < n → unsigned_abs (defect_at n (pos (2 ^ (p.g + 60))) m (pilot_entry p) i c) ≤ 2 ^ 72
defect_small n m p i c great a row inside =
    let column = a.columns c inside in
    let x = column.0 in
    let near = table_near n m a.f p.g c x i great a.factor column.1.0 row in
    let r = λ (k : ℕ). pilot_entry p k c in
    let e = λ (k : ℕ). r k *ℤ pos 1024 -ℤ x k in
    let split = split_scaled n r x e (m i) (pos 1024) (λ k l. omega (arith, ints)) in
    let turn_r = turned n r (m i) in
    let turn_x = turned n x (m i) in
    let error = abs-dot n e (m i) 512 (2 ^ 61) (λ k l. omega (arith, nearest_near (x k), ap (λ z. unsigned_abs (z *ℤ pos 1024 -ℤ x k)) (column.1.1 k l))) (λ k l. great.small i k row l) in
    let unit = unit_scaled i c p.g in
    let few = great.few in
    omega (arith, ints, near, split, turn_r, turn_x, error, unit, few)
