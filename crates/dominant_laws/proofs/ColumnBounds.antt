-- The columns of the approximate inverse of a dominant table stay in their bounds at the scale 40.
use Rattle.std.proofs.Common.{◌≡◌, ℕ, zero, suc, pos, ℤ, ◌*ℤ◌, arith, refl, sym, ap, ◌∙◌, ◌≤◌, ◌<◌, ◌*◌, ◌+◌, ◌-◌, ◌^◌, unsigned_abs, subst, List, length, replicate, slice_set, add-one}
use Rattle.std.proofs.Math.Decide.{dec_lt}
use Rattle.std.proofs.Math.Nat.{mul-le-mul_left, mul-le-mul_right}
use Rattle.std.proofs.lemmas.Int.{ints, unsigned_abs-mul}
use Rattle.std.proofs.lemmas.List.{length-replicate, length-set}
use Rattle.whole_numbers.specs.Sum.{total_to, unit}
use Rattle.whole_numbers.proofs.Sums.{unit_here, unit_other, abs-sum_to, total_to_le}
use Rattle.whole_numbers.proofs.Sizes.{floor_small}
use Rattle.chol_factor.specs.Factor.{fixed_product, fixed_quotient, HasColumns}
use Rattle.whole_numbers.specs.Lists.{at}
use Rattle.chol_guess.specs.Columns.{forward_left, back_left, IsForwardSolution, StayInBounds}
use Rattle.enclosures.specs.Pilots.{PilotTable}
use Rattle.chol_guess.specs.Pilots.{IsPilot, IsCondition}
use Rattle.chol_guess.specs.Rows.{IsBackFrom, QuotientFits}
use Rattle.chol_guess.proofs.Steps.{up_more, down_more}
use Rattle.chol_guess.proofs.Alone.{down_whole}
use Rattle.dominant_laws.proofs.Remainders.{tail, remaining_forward}
use Rattle.dominant_laws.proofs.Conditions.{IsGreat}
use Rattle.dominant_laws.proofs.Tails.{tail_first, tail_whole, tail_le, tail_add, tail_times, le_tail, tail_bound, product_times, quotient_times}
use Rattle.dominant_laws.proofs.FactorBounds.{IsSmallColumn, SmallColumns, small_columns}

-- ---- forward substitution
unit_total_none : (n c : ℕ) (a : ℤ) → n ≤ c → total_to n (λ i. unsigned_abs (unit c a i)) ≡ 0
unit_total_none zero c a le = refl
unit_total_none (suc n) c a le = omega (arith, ap unsigned_abs (unit_other c a n (omega arith)), unit_total_none n c a (omega arith))

unit_total : (n c : ℕ) (a : ℤ) → total_to n (λ i. unsigned_abs (unit c a i)) ≤ unsigned_abs a
unit_total zero c a = omega arith
unit_total (suc n) c a =
    elim (dec_lt n c) [
      | yes l ↦ omega (arith, unit_total_none (suc n) c a (omega arith))
      | no l ↦ elim (dec_lt c n) [
        | yes p ↦ omega (arith, ap unsigned_abs (unit_other c a n (omega arith)), unit_total n c a)
        | no p ↦
            let e : c ≡ n = omega arith in
            omega (arith, ap unsigned_abs (ap (λ k. unit c a k) (sym e) ∙ unit_here c a), unit_total_none n c a (omega arith))
      ]
    ]

-- the rows before row b are those of a forward substitution at the scale 40
abbrev pub AreForwardRows : (ℕ → ℕ → ℤ) → ℕ → (ℕ → ℤ) → ℕ → Type 0
AreForwardRows f c u b = (i : ℕ) → i < b → u i ≡ fixed_quotient (forward_left f 40 c u i) (f i i)

abbrev pub forward_rest : ℕ → (ℕ → ℕ → ℤ) → ℕ → (ℕ → ℤ) → ℕ → ℕ
forward_rest n f c u k = tail n k (λ i. unsigned_abs (remaining_forward f 40 c u k i))

-- what one row takes of the rest, in sum
forward_taken : (n : ℕ) (f : ℕ → ℕ → ℤ) (c : ℕ) (u : ℕ → ℤ) (k : ℕ) → n ≤ 1000 → k < n → IsSmallColumn n k (λ i. f i k) (f k k) → u k ≡ fixed_quotient (forward_left f 40 c u k) (f k k)
    → tail n (suc k) (λ i. unsigned_abs (fixed_product (f i k) (u k))) ≤ unsigned_abs (remaining_forward f 40 c u k k) + 1024
forward_taken n f c u k few row small is =
    let x = unsigned_abs (u k) in
    let each = tail_le n (suc k) (λ i. unsigned_abs (fixed_product (f i k) (u k)) * 2 ^ 60) (λ i. unsigned_abs (f i k) * x + 2 ^ 60) (λ i from inside. product_times (f i k) (u k)) in
    let left = tail_times n (suc k) (λ i. unsigned_abs (fixed_product (f i k) (u k))) (2 ^ 60) in
    let right = tail_add n (suc k) (λ i. unsigned_abs (f i k) * x) (λ i. 2 ^ 60) in
    let scaled = tail_times n (suc k) (λ i. unsigned_abs (f i k)) x in
    let count = tail_bound n (suc k) (λ i. 2 ^ 60) (2 ^ 60) (λ i from inside. omega arith) in
    let third = mul-le-mul_right x small.third in
    let number = quotient_times (forward_left f 40 c u k) (f k k) small.some in
    let same = ap (λ z. unsigned_abs z * unsigned_abs (f k k)) is in
    let most = small.most in
    omega (arith, each, left, right, scaled, count, third, number, same, most, few)

forward_small : (n : ℕ) (f : ℕ → ℕ → ℤ) (c : ℕ) (u : ℕ → ℤ) (b k : ℕ) → n ≤ 1000 → SmallColumns n f → AreForwardRows f c u b → b ≤ n → k ≤ b → forward_rest n f c u k ≤ 2 ^ 50 + 1024 * k
forward_small n f c u b zero few small rows bn kb =
    let whole = tail_whole n (λ i. unsigned_abs (remaining_forward f 40 c u 0 i)) in
    let same = total_to_le n (λ i. unsigned_abs (remaining_forward f 40 c u 0 i)) (λ i. unsigned_abs (unit c (pos (2 ^ 50)) i)) (λ i l. omega (arith, ints)) in
    omega (arith, whole, same, unit_total n c (pos (2 ^ 50)))
forward_small n f c u b (suc k) few small rows bn kb =
    let before = forward_small n f c u b k few small rows bn (omega arith) in
    let taken = forward_taken n f c u k few (omega arith) (small k (omega arith)) (rows k (omega arith)) in
    let first = tail_first n k (λ i. unsigned_abs (remaining_forward f 40 c u k i)) (omega arith) in
    let more = tail_le n (suc k) (λ i. unsigned_abs (remaining_forward f 40 c u (suc k) i)) (λ i. unsigned_abs (remaining_forward f 40 c u k i) + unsigned_abs (fixed_product (f i k) (u k)))
    (λ i q l. omega (arith, ints)) in
    let both = tail_add n (suc k) (λ i. unsigned_abs (remaining_forward f 40 c u k i)) (λ i. unsigned_abs (fixed_product (f i k) (u k))) in
    omega (arith, before, taken, first, more, both)

-- the numbers of row b and its quotient
forward_fits : (n : ℕ) (f : ℕ → ℕ → ℤ) (c : ℕ) (u : ℕ → ℤ) (b : ℕ) → n ≤ 1000 → SmallColumns n f → AreForwardRows f c u b → b < n → QuotientFits (forward_left f 40 c u b) (f b b) (2 ^ 55)
forward_fits n f c u b few small rows row =
    let t = forward_small n f c u b b few small rows (omega arith) (omega arith) in
    let l = le_tail n b (λ i. unsigned_abs (remaining_forward f 40 c u b i)) b (omega arith) row in
    let s = small b row in
    let least = s.least in
    record {
      left_fits = omega (arith, t, l, few);
      fits = floor_small (forward_left f 40 c u b *ℤ pos (2 ^ 60)) (unsigned_abs (f b b)) (2 ^ 55) (omega (arith, least)) (omega (arith, unsigned_abs-mul (forward_left f 40 c u b) (pos (2 ^ 60)), t, l, few, least));
    }

fits_wider : (left diagonal : ℤ) (a b : ℕ) → a ≤ b → QuotientFits left diagonal a → QuotientFits left diagonal b
fits_wider left diagonal a b le q = record { left_fits = q.left_fits; fits = omega (arith, q.fits) }

record HasForward (n : ℕ) (f : ℕ → ℕ → ℤ) (c b : ℕ) : Type 0 where
  pub us : List ℤ
  pub len : length us ≡ n
  pub up : IsForwardSolution b f 40 c (at us)

forward_made : (n : ℕ) (f : ℕ → ℕ → ℤ) (c b : ℕ) → n ≤ 1000 → SmallColumns n f → b ≤ n → HasForward n f c b
forward_made n f c zero few small le = record {
  us = replicate n (pos 0);
  len = length-replicate n (pos 0);
  up = record { rows = λ i l. absurd (omega arith); left_fits = λ i l. absurd (omega arith); fits = λ i l. absurd (omega arith) };
}
forward_made n f c (suc b) few small le =
    let g = forward_made n f c b few small (omega arith) in
    let v = fixed_quotient (forward_left f 40 c (at g.us) b) (f b b) in
    let fits = forward_fits n f c (at g.us) b few small g.up.rows (omega arith) in
    record {
      us = slice_set g.us b v;
      len = length-set g.us b v ∙ g.len;
      up = subst (λ a. IsForwardSolution a f 40 c (at (slice_set g.us b v))) (add-one b) (up_more b f 40 c g.us v v (omega (arith, g.len)) g.up (fits_wider _ _ (2 ^ 55) (2 ^ 64) (omega arith) fits) refl refl);
    }

-- ---- back substitution
back_fits : (n i : ℕ) (f : ℕ → ℕ → ℤ) (u x : ℕ → ℤ) → SmallColumns n f → i < n → unsigned_abs (u i) ≤ 2 ^ 55 → ((j : ℕ) → i < j → j < n → unsigned_abs (x j) ≤ 2 ^ 60) → QuotientFits (back_left n f u x i) (f i i) (2 ^ 60)
back_fits n i f u x small row above past =
    let s = abs-sum_to (n - suc i) (λ d. fixed_product (f (suc i + d) i) (x (suc i + d))) in
    let each = tail_le n (suc i) (λ j. unsigned_abs (fixed_product (f j i) (x j))) (λ j. unsigned_abs (f j i))
    (λ j from inside. let p = mul-le-mul_left (unsigned_abs (f j i)) (past j from inside) in floor_small (f j i *ℤ x j) (2 ^ 60) (unsigned_abs (f j i)) (omega arith) (omega (arith, unsigned_abs-mul (f j i) (x j), p))) in
    let c = small i row in
    let third = c.third in
    let least = c.least in
    let most = c.most in
    let left : unsigned_abs (back_left n f u x i) ≤ unsigned_abs (f i i) = omega (arith, ints, s, each, third, least, above) in
    record {
      left_fits = omega (arith, left, most);
      fits = floor_small (back_left n f u x i *ℤ pos (2 ^ 60)) (unsigned_abs (f i i)) (2 ^ 60) (omega (arith, least)) (omega (arith, unsigned_abs-mul (back_left n f u x i) (pos (2 ^ 60)), left));
    }

record HasBack (n m : ℕ) (f : ℕ → ℕ → ℤ) (u : ℕ → ℤ) : Type 0 where
  pub xs : List ℤ
  pub len : length xs ≡ n
  pub down : IsBackFrom n m f u (at xs)

-- by the number of rows from row m on
back_made : (d n m : ℕ) (f : ℕ → ℕ → ℤ) (u : ℕ → ℤ) → n ≡ m + d → SmallColumns n f → ((i : ℕ) → i < n → unsigned_abs (u i) ≤ 2 ^ 55) → HasBack n m f u
back_made zero n m f u e small above = record {
  xs = replicate n (pos 0);
  len = length-replicate n (pos 0);
  down = record { rows = λ i from l. absurd (omega arith); left_fits = λ i from l. absurd (omega arith); fits = λ i from l. absurd (omega arith) };
}
back_made (suc d) n m f u e small above =
    let g = back_made d n (suc m) f u (omega arith) small above in
    let v = fixed_quotient (back_left n f u (at g.xs) m) (f m m) in
    let fits = back_fits n m f u (at g.xs) small (omega arith) (above m (omega arith)) (λ j from inside. g.down.fits j from inside) in
    record {
      xs = slice_set g.xs m v;
      len = length-set g.xs m v ∙ g.len;
      down = down_more n m f u g.xs v v (omega (arith, g.len)) (omega arith) g.down fits refl refl;
    }

-- ---- all columns
pub stays_in_bounds : (n : ℕ) (m f : ℕ → ℕ → ℤ) → IsGreat n m → HasColumns n m f n → StayInBounds n f 40 n
stays_in_bounds n m f g has c row =
    let small = small_columns n m f g has in
    let up = forward_made n f c n g.few small (omega arith) in
    let above = λ (i : ℕ) (l : i < n). let q = forward_fits n f c (at up.us) i g.few small (λ k b. up.up.rows k (omega arith)) l in subst (λ z. unsigned_abs z ≤ 2 ^ 55) (sym (up.up.rows i l)) q.fits in
    let down = back_made n n 0 f (at up.us) (omega arith) small above in
    (at down.xs, record { u = at up.us; up = up.up; down = down_whole n 0 f (at up.us) (at down.xs) refl down.down })

pub no_condition_great : (n : ℕ) (m : ℕ → ℕ → ℤ) (c : ℕ) → IsGreat n m → ¬ (IsCondition n m c)
no_condition_great n m c g a = a.greater 40 (record { most = omega arith; tens = refl }) (omega arith) (stays_in_bounds n m a.f g a.factor)

pub scale_great : (n : ℕ) (m : ℕ → ℕ → ℤ) (p : PilotTable) → IsGreat n m → IsPilot n m p → 40 ≤ p.g
scale_great n m p g a =
    elim (dec_lt p.g 40) [
      | yes l ↦ absurd (a.greatest 40 (record { most = omega arith; tens = refl }) l (stays_in_bounds n m a.f g a.factor))
      | no l ↦ omega arith
    ]
