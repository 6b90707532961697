-- Decimals of one value.
use Rattle.std.proofs.Common.{◌≡◌, ◌≢◌, ℕ, zero, suc, ℤ, pos, negsuc, ◌+ℤ◌, ◌*ℤ◌, neg_ℤ, ◌≤ℤ◌, ◌+◌, ◌*◌, ◌/◌, ◌%◌, ◌≤◌, ◌<◌, ◌^◌, unsigned_abs, refl, ap, sym, ◌∙◌, inl, inr, arith, subst}
use Rattle.std.proofs.lemmas.Int.{ints, unsigned_abs-mul, by_lt_z}
use Rattle.std.proofs.lemmas.Nat.{pow-add}
use Rattle.std.proofs.Math.IntN.{◌-ℤ◌}
use Rattle.std.proofs.Math.Nat.{mul-pos}
use Rattle.std.proofs.Math.Decide.{ℕ_discrete}
use Rattle.whole_numbers.specs.Scaling.{floor_scaled, ceil_scaled, ten_above, ten_below}
use Rattle.whole_numbers.specs.Intervals.{Holds}
use Rattle.whole_numbers.proofs.Cases.{zero_or_not}
use Rattle.whole_numbers.proofs.EqualFractions.{same_from_product}
use Rattle.whole_numbers.proofs.Powers.{ten_pow_above as ten_some}
use Rattle.whole_numbers.proofs.Ring.{ring, *ℤ_assoc, neg-*ℤ}
use Rattle.whole_numbers.proofs.IntervalLaws.{floor_over_le, le-ceil_over}
use Rattle.decimal_e.specs.Decimals.{Decimal, SameValue, IsCanonical, IsCanonicalOf, IsBounded, signed_like}
use Rattle.decimal_e.specs.Scales.{decimal_interval}

-- the fraction of a power of ten is above 0
above_some : (e : ℤ) → 0 < ten_above e
above_some (pos k) = ten_some k
above_some (negsuc k) = omega arith

pub ten_below_some : (e : ℤ) → 0 < ten_below e
ten_below_some (pos k) = omega arith
ten_below_some (negsuc k) = ten_some (suc k)

-- 10^k * 10^e = 10^f for f = e + k
ten_shift : (e f : ℤ) (k : ℕ) → f ≡ e +ℤ pos k → 10 ^ k * (ten_above e * ten_below f) ≡ ten_above f * ten_below e
ten_shift (pos n) (pos m) k h = let l : m ≡ k + n = omega (arith, ints) in let p = pow-add 10 k n in rw l (omega (arith, p))
ten_shift (pos n) (negsuc m) k h = absurd (omega (arith, ints))
ten_shift (negsuc n) (pos m) k h = let l : k ≡ m + suc n = omega (arith, ints) in let p = pow-add 10 m (suc n) in rw l (omega (arith, p))
ten_shift (negsuc n) (negsuc m) k h = let l : suc n ≡ k + suc m = omega (arith, ints) in let p = pow-add 10 k (suc m) in rw l (omega (arith, p))

-- the mantissa with k zeros more, and the exponent k less
pub same_shift : (m e f : ℤ) (k : ℕ) → f ≡ e +ℤ pos k → SameValue (record { mant = m; exp = f }) (record { mant = m *ℤ pos (10 ^ k); exp = e })
same_shift m e f k h = record { same = ap (λ x. m *ℤ pos x) (sym (ten_shift e f k h)) ∙ sym (*ℤ_assoc m (pos (10 ^ k)) (pos (ten_above e * ten_below f))) }

pub same_sym : (a b : Decimal) → SameValue a b → SameValue b a
same_sym a b s = record { same = sym s.same }

-- of two decimals with one value, that with the less exponent has the more zeros
pub lifted : (a b : Decimal) (k : ℕ) → b.exp ≡ a.exp +ℤ pos k → SameValue a b → a.mant ≡ b.mant *ℤ pos (10 ^ k)
lifted a b k h s =
    let some = mul-pos (above_some a.exp) (ten_below_some b.exp) in
    same_from_product a.mant (b.mant *ℤ pos (10 ^ k)) (ten_above a.exp * ten_below b.exp) some
    (s.same ∙ ap (λ x. b.mant *ℤ pos x) (sym (ten_shift a.exp b.exp k h)) ∙ sym (*ℤ_assoc b.mant (pos (10 ^ k)) (pos (ten_above a.exp * ten_below b.exp))))

ends_in_zero : (x k : ℕ) → (x * 10 ^ suc k) % 10 ≡ 0
ends_in_zero x k = let p : 10 ^ suc k ≡ 10 ^ k * 10 = omega arith in rw p (omega arith)

pub decimal_by : (a b : Decimal) → a.mant ≡ b.mant → a.exp ≡ b.exp → a ≡ b
decimal_by a b m e =
    let made : ℤ → ℤ → Decimal = λ x y. record { mant = x; exp = y } in
    ap (λ x. made x a.exp) m ∙ ap (λ y. made b.mant y) e

one_canonical_by : (a b : Decimal) (k : ℕ) → b.exp ≡ a.exp +ℤ pos k → IsCanonical a → IsCanonical b → SameValue a b → a ≡ b
one_canonical_by a b zero h p q s = decimal_by a b (let l = lifted a b zero h s in omega (arith, ints)) (omega (arith, ints))
one_canonical_by a b (suc k) h p q s =
    let l = lifted a b (suc k) h s in
    let size : unsigned_abs a.mant ≡ unsigned_abs b.mant * 10 ^ suc k = ap unsigned_abs l ∙ unsigned_abs-mul b.mant (pos (10 ^ suc k)) in
    elim (zero_or_not a.mant) [
      | inl z ↦
          let y : b.mant ≡ pos 0 = same_from_product b.mant (pos 0) (10 ^ suc k) (ten_some (suc k)) (sym l ∙ z ∙ omega (arith, ints)) in
          decimal_by a b (z ∙ sym y) (p.zero z ∙ sym (q.zero y))
      | inr z ↦ absurd (p.other z (ap (λ x. x % 10) size ∙ ends_in_zero (unsigned_abs b.mant) k))
    ]

pub gap : (a b : ℤ) → a ≤ℤ b → (k : ℕ) × (b ≡ a +ℤ pos k)
gap a b h = (unsigned_abs (b -ℤ a), omega (arith, ints))

pub one_canonical_of : (a b : Decimal) → IsCanonical a → IsCanonical b → SameValue a b → a ≡ b
one_canonical_of a b p q s =
    by_lt_z a.exp b.exp
    (λ l. let g = gap a.exp b.exp (omega (arith, ints)) in one_canonical_by a b g.0 g.1 p q s)
    (λ l. let g = gap b.exp a.exp l in sym (one_canonical_by b a g.0 g.1 q p (same_sym a b s)))

-- ---- rounded
holds_at : (m e : ℤ) → Holds (record { lo = floor_scaled m e; hi = ceil_scaled m e }) (m *ℤ pos (ten_above e)) (ten_below e)
holds_at m (pos k) = record { above = omega (arith, ints); below = omega (arith, ints) }
holds_at m (negsuc k) =
    let f = floor_over_le m (10 ^ suc k) (ten_some (suc k)) in
    let g = le-ceil_over m (10 ^ suc k) (ten_some (suc k)) in
    let one : m *ℤ pos 1 ≡ m = omega (arith, ints) in
    record { above = rw one f; below = rw one g }

pub holds_word : (d : Decimal) (k : ℤ) → Holds (decimal_interval d k) (d.mant *ℤ pos (ten_above (d.exp +ℤ k))) (ten_below (d.exp +ℤ k))
holds_word d k = holds_at d.mant (d.exp +ℤ k)

-- ---- canonical forms
pub same_trans : (a b c : Decimal) → SameValue a b → SameValue b c → SameValue a c
same_trans a b c p q =
    let s = ap (λ x. x *ℤ pos (ten_below c.exp)) p.same in
    let t = ap (λ x. x *ℤ pos (ten_below a.exp)) q.same in
    record { same = same_from_product (a.mant *ℤ (pos (ten_above a.exp) *ℤ pos (ten_below c.exp))) (c.mant *ℤ (pos (ten_above c.exp) *ℤ pos (ten_below a.exp))) (ten_below b.exp) (ten_below_some b.exp) (crossed a.mant b.mant c.mant (pos (ten_above a.exp)) (pos (ten_below a.exp)) (pos (ten_above b.exp)) (pos (ten_below b.exp)) (pos (ten_above c.exp)) (pos (ten_below c.exp)) p.same q.same) }
  where
    crossed : (m n o aa ab ba bb ca cb : ℤ) → m *ℤ (aa *ℤ bb) ≡ n *ℤ (ba *ℤ ab) → n *ℤ (ba *ℤ cb) ≡ o *ℤ (ca *ℤ bb) → (m *ℤ (aa *ℤ cb)) *ℤ bb ≡ (o *ℤ (ca *ℤ ab)) *ℤ bb
    crossed m n o aa ab ba bb ca cb p q =
        let s = simp ring at (ap (λ x. x *ℤ cb) p) in
        let t = simp ring at (ap (λ x. x *ℤ ab) q) in
        simp ring (omega (arith, ints, s, t))

-- one number has one canonical form
pub one_form : (d e a : Decimal) → IsCanonicalOf d a → IsCanonicalOf e a → d ≡ e
one_form d e a p q = one_canonical_of d e p.canonical q.canonical (same_trans d a e p.same (same_sym e a q.same))

pub signed_size : (m : ℤ) (s : ℕ) → unsigned_abs (signed_like m s) ≡ s
signed_size (pos n) s = refl
signed_size (negsuc n) s = omega (arith, ints)

signed_product : (m : ℤ) (s p : ℕ) → s * p ≡ unsigned_abs m → signed_like m s *ℤ pos p ≡ m
signed_product (pos n) s p e = omega (arith, ints, e)
signed_product (negsuc n) s p e = let q : neg_ℤ (pos s) *ℤ pos p ≡ neg_ℤ (pos (s * p)) = neg-*ℤ (pos s) (pos p) in omega (arith, ints, e, q)

signed_some : (m : ℤ) (s : ℕ) → signed_like m s ≡ pos 0 → s ≡ 0
signed_some m s e = sym (signed_size m s) ∙ ap unsigned_abs e

-- the canonical form of a number that is not zero is what is left without the zeros at its end
pub stripped_form : (m e f : ℤ) (s z : ℕ) → s * 10 ^ z ≡ unsigned_abs m → s % 10 ≢ 0 → f ≡ e +ℤ pos z → IsCanonicalOf (record { mant = signed_like m s; exp = f }) (record { mant = m; exp = e })
stripped_form m e f s z p n h = record {
  same = subst (λ (x : ℤ). SameValue (record { mant = signed_like m s; exp = f }) (record { mant = x; exp = e })) (signed_product m s (10 ^ z) p) (same_shift (signed_like m s) e f z h);
  canonical = record {
    zero = λ y. absurd (n (ap (λ x. x % 10) (signed_some m s y)));
    other = λ _ y. n (ap (λ x. x % 10) (sym (signed_size m s)) ∙ y);
  };
}

-- zero
pub zero_form : (e : ℤ) → IsCanonicalOf (record { mant = pos 0; exp = pos 0 }) (record { mant = pos 0; exp = e })
zero_form e = record { same = record { same = omega (arith, ints) }; canonical = record { zero = λ _. refl; other = λ n. absurd (n refl) } }

pub zero_bounded : IsBounded (record { mant = pos 0; exp = pos 0 })
zero_bounded = record { mant = omega arith; low = omega (arith, ints); high = omega (arith, ints) }

-- a mantissa and an exponent within the bounds
pub bounded_form : (m e : ℤ) (s : ℕ) → (s < 10 ^ 36) × (negsuc 799 ≤ℤ e) × (e ≤ℤ pos 120) → IsBounded (record { mant = signed_like m s; exp = e })
bounded_form m e s h = record { mant = rw (signed_size m s) h.0; low = h.1; high = h.2 }

pub bounded_parts : (m e : ℤ) (s : ℕ) → IsBounded (record { mant = signed_like m s; exp = e }) → (s < 10 ^ 36) × (negsuc 799 ≤ℤ e) × (e ≤ℤ pos 120)
bounded_parts m e s h = (rw (signed_size m s) at h.mant, h.low, h.high)

-- the same for numbers that are equal to these
pub stripped_form_at : (m e w f : ℤ) (s z u : ℕ) → w ≡ signed_like m s → f ≡ e +ℤ pos z → s * 10 ^ z ≡ u → u ≡ unsigned_abs m → s % 10 ≢ 0 → IsCanonicalOf (record { mant = w; exp = f }) (record { mant = m; exp = e })
stripped_form_at m e w f s z u h k p q n = subst (λ (x : ℤ). IsCanonicalOf (record { mant = x; exp = f }) (record { mant = m; exp = e })) (sym h) (stripped_form m e f s z (p ∙ q) n k)

pub bounded_form_at : (m e w : ℤ) (s : ℕ) → w ≡ signed_like m s → (s < 10 ^ 36) × (negsuc 799 ≤ℤ e) × (e ≤ℤ pos 120) → IsBounded (record { mant = w; exp = e })
bounded_form_at m e w s h b = subst (λ (x : ℤ). IsBounded (record { mant = x; exp = e })) (sym h) (bounded_form m e s b)

-- ---- each decimal has a canonical form
-- a number above 0 without the zeros at its end
without_zeros : (most n : ℕ) → n ≤ most → 0 < n → (s : ℕ) × (z : ℕ) × ((s * 10 ^ z ≡ n) × (s % 10 ≢ 0))
without_zeros zero n l h = absurd (omega arith)
without_zeros (suc most) n l h =
    elim (ℕ_discrete (n % 10) 0) [
      | yes e ↦
          let r = without_zeros most (n / 10) (omega arith) (omega arith) in
          let p : 10 ^ suc r.1 ≡ 10 ^ r.1 * 10 = omega arith in
          let m : r.0 * 10 ^ suc r.1 ≡ r.0 * (10 ^ r.1 * 10) = ap (λ x. r.0 * x) p in
          (r.0, suc r.1, (omega (arith, m, r.2.0), r.2.1))
      | no e ↦ (n, 0, (omega arith, e))
    ]

some_form : (a : Decimal) → (d : Decimal) × IsCanonicalOf d a
some_form a =
    elim (zero_or_not a.mant) [
      | inl z ↦ (record { mant = pos 0; exp = pos 0 }, subst (λ (m : ℤ). IsCanonicalOf (record { mant = pos 0; exp = pos 0 }) (record { mant = m; exp = a.exp })) (sym z) (zero_form a.exp))
      | inr n ↦
          let r = without_zeros (unsigned_abs a.mant) (unsigned_abs a.mant) (omega arith) (omega (arith, ints)) in
          (record { mant = signed_like a.mant r.0; exp = a.exp +ℤ pos r.1 }, stripped_form a.mant a.exp (a.exp +ℤ pos r.1) r.0 r.1 r.2.0 r.2.1 refl)
    ]

pub one_form_of : (a : Decimal) → (d : Decimal) × (IsCanonicalOf d a × ((e : Decimal) → IsCanonicalOf e a → e ≡ d))
one_form_of a = let f = some_form a in (f.0, (f.1, λ e h. one_form e f.0 a h f.1))
