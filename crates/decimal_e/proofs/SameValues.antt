-- Decimals of one value: their intervals and fractions, and their products in canonical form.
use Rattle.std.proofs.Common.{◌≡◌, ◌≢◌, ℕ, suc, ℤ, pos, negsuc, ◌+ℤ◌, ◌*ℤ◌, neg_ℤ, ◌+◌, ◌*◌, ◌%◌, ◌<◌, ◌^◌, unsigned_abs, FitsSigned, to_z, of_z, Option, None, Some, refl, ap, sym, ◌∙◌, arith, subst}
use Rattle.std.specs.Int.{w128}
use Rattle.std.proofs.lemmas.Int.{ints, to_z-of_z, unsigned_abs-mul, by_lt_z}
use Rattle.std.proofs.lemmas.Nat.{pow-add}
use Rattle.std.proofs.Math.Nat.{mul-pos}
use Rattle.whole_numbers.specs.Quotients.{floor_over}
use Rattle.whole_numbers.specs.Scaling.{floor_scaled, ceil_scaled, ten_above, ten_below}
use Rattle.whole_numbers.specs.Intervals.{Interval}
use Rattle.whole_numbers.proofs.Division.{floor_over_is}
use Rattle.whole_numbers.proofs.EqualFractions.{same_from_product}
use Rattle.whole_numbers.proofs.IntervalLaws.{floor_over_le, lt-floor_over}
use Rattle.whole_numbers.proofs.Powers.{ten_pow_above}
use Rattle.whole_numbers.proofs.Ring.{ring, *ℤ_assoc, +ℤ-*ℤ, neg-*ℤ, mul_mono_pos}
use Rattle.decimal_e.specs.Decimals.{Decimal, SameValue, IsCanonicalOf, IsDecOf, product, signed_like}
use Rattle.decimal_e.specs.Fractions.{Means}
use Rattle.decimal_e.specs.Scales.{decimal_interval}
use Rattle.decimal_e.proofs.Values.{decimal_by, same_sym, same_trans, lifted, gap, ten_below_some, stripped_form, bounded_parts, zero_form}

-- ---- intervals
-- z zeros more above the line and below it
floor_common : (m : ℤ) (p z : ℕ) → 0 < p → 0 < z → floor_over (m *ℤ pos z) (p * z) ≡ floor_over m p
floor_common m p z some more =
    let f = floor_over m p in
    let e : f *ℤ pos (p * z) ≡ (f *ℤ pos p) *ℤ pos z = sym (*ℤ_assoc f (pos p) (pos z)) in
    let low = mul_mono_pos _ _ z (floor_over_le m p some) in
    let next = lt-floor_over m p some in
    let high = mul_mono_pos (m +ℤ pos 1) (f *ℤ pos p +ℤ pos p) z (omega (arith, ints, next)) in
    let g = +ℤ-*ℤ m (pos 1) (pos z) in
    let h = +ℤ-*ℤ (f *ℤ pos p) (pos p) (pos z) in
    let i : pos p *ℤ pos z ≡ pos (p * z) = refl in
    floor_over_is (m *ℤ pos z) (p * z) f (mul-pos some more) (rw e low) (omega (arith, ints, e, high, g, h, i, more))

-- a quotient without remainder
floor_exact : (m : ℤ) (p : ℕ) → 0 < p → floor_over (m *ℤ pos p) p ≡ m
floor_exact m p some = floor_over_is (m *ℤ pos p) p m some (omega (arith, ints)) (omega (arith, ints, some))

floor_shift : (m e f : ℤ) (n : ℕ) → f ≡ e +ℤ pos n → floor_scaled (m *ℤ pos (10 ^ n)) e ≡ floor_scaled m f
floor_shift m (pos p) (pos q) n h =
    let l : q ≡ n + p = omega (arith, ints) in
    *ℤ_assoc m (pos (10 ^ n)) (pos (10 ^ p)) ∙ ap (λ x. m *ℤ pos x) (sym (pow-add 10 n p) ∙ ap (λ k. 10 ^ k) (sym l))
floor_shift m (pos p) (negsuc q) n h = absurd (omega (arith, ints))
floor_shift m (negsuc p) (pos q) n h =
    let l : n ≡ q + suc p = omega (arith, ints) in
    let s : pos (10 ^ n) ≡ pos (10 ^ q) *ℤ pos (10 ^ suc p) = ap pos (ap (λ k. 10 ^ k) l ∙ pow-add 10 q (suc p)) in
    ap (λ x. floor_over (m *ℤ x) (10 ^ suc p)) s ∙ ap (λ x. floor_over x (10 ^ suc p)) (sym (*ℤ_assoc m (pos (10 ^ q)) (pos (10 ^ suc p)))) ∙ floor_exact (m *ℤ pos (10 ^ q)) (10 ^ suc p) (ten_pow_above (suc p))
floor_shift m (negsuc p) (negsuc q) n h =
    let l : suc p ≡ suc q + n = omega (arith, ints) in
    ap (λ x. floor_over (m *ℤ pos (10 ^ n)) x) (ap (λ k. 10 ^ k) l ∙ pow-add 10 (suc q) n) ∙ floor_common m (10 ^ suc q) (10 ^ n) (ten_pow_above (suc q)) (ten_pow_above n)

ceil_is : (m e : ℤ) → ceil_scaled m e ≡ neg_ℤ (floor_scaled (neg_ℤ m) e)
ceil_is m (pos k) = omega (arith, ints, neg-*ℤ m (pos (10 ^ k)))
ceil_is m (negsuc k) = refl

ceil_shift : (m e f : ℤ) (n : ℕ) → f ≡ e +ℤ pos n → ceil_scaled (m *ℤ pos (10 ^ n)) e ≡ ceil_scaled m f
ceil_shift m e f n h =
    ceil_is (m *ℤ pos (10 ^ n)) e ∙ ap (λ x. neg_ℤ (floor_scaled x e)) (sym (neg-*ℤ m (pos (10 ^ n)))) ∙ ap neg_ℤ (floor_shift (neg_ℤ m) e f n h) ∙ sym (ceil_is m f)

interval_by : (v w : Interval) → v.lo ≡ w.lo → v.hi ≡ w.hi → v ≡ w
interval_by v w l h =
    let made : ℤ → ℤ → Interval = λ x y. record { lo = x; hi = y } in
    ap (λ x. made x v.hi) l ∙ ap (λ y. made w.lo y) h

same_interval_by : (a b : Decimal) (k : ℤ) (n : ℕ) → b.exp ≡ a.exp +ℤ pos n → SameValue a b → decimal_interval a k ≡ decimal_interval b k
same_interval_by a b k n h s =
    let l = lifted a b n h s in
    let e : b.exp +ℤ k ≡ (a.exp +ℤ k) +ℤ pos n = omega (arith, ints, h) in
    interval_by (decimal_interval a k) (decimal_interval b k)
    (ap (λ x. floor_scaled x (a.exp +ℤ k)) l ∙ floor_shift b.mant (a.exp +ℤ k) (b.exp +ℤ k) n e)
    (ap (λ x. ceil_scaled x (a.exp +ℤ k)) l ∙ ceil_shift b.mant (a.exp +ℤ k) (b.exp +ℤ k) n e)

pub same_interval : (a b : Decimal) (k : ℤ) → SameValue a b → decimal_interval a k ≡ decimal_interval b k
same_interval a b k s =
    by_lt_z a.exp b.exp
    (λ l. let g = gap a.exp b.exp (omega (arith, ints)) in same_interval_by a b k g.0 g.1 s)
    (λ l. let g = gap b.exp a.exp l in sym (same_interval_by b a k g.0 g.1 (same_sym a b s)))

-- ---- fractions
pub same_means : (a b : Decimal) (x : ℤ) (q : ℕ) → SameValue a b → Means a x q → Means b x q
same_means a b x q s h =
    same_from_product _ _ (ten_below a.exp) (ten_below_some a.exp)
    (crossed a.mant b.mant (pos (ten_above a.exp)) (pos (ten_below a.exp)) (pos (ten_above b.exp)) (pos (ten_below b.exp)) x (pos q) s.same h)
  where
    crossed : (m n aa ab ba bb x q : ℤ) → m *ℤ (aa *ℤ bb) ≡ n *ℤ (ba *ℤ ab) → (m *ℤ aa) *ℤ q ≡ x *ℤ ab → ((n *ℤ ba) *ℤ q) *ℤ ab ≡ (x *ℤ bb) *ℤ ab
    crossed m n aa ab ba bb x q s h =
        let t = simp ring at (ap (λ y. y *ℤ q) s) in
        let u = simp ring at (ap (λ y. y *ℤ bb) h) in
        simp ring (omega (arith, ints, t, u))

-- ---- products
pub product_one : (d : Decimal) → product (record { mant = pos 1; exp = pos 0 }) d ≡ d
product_one d = decimal_by (product (record { mant = pos 1; exp = pos 0 }) d) d (omega (arith, ints)) (omega (arith, ints))

-- a number has the canonical forms of each that is equal to it
pub same_dec : (n m : Decimal) (r : Option Decimal) → SameValue n m → IsDecOf n r → IsDecOf m r
same_dec n m None s h = (h.0, (record { same = same_trans h.0 n m h.1.0.same s; canonical = h.1.0.canonical }, h.1.1))
same_dec n m (Some d) s h = (record { same = same_trans d n m h.0.same s; canonical = h.0.canonical }, h.1)

-- zero times a number, and a number times zero
pub product_zero : (a b : Decimal) → a.mant *ℤ b.mant ≡ pos 0 → IsCanonicalOf (record { mant = pos 0; exp = pos 0 }) (product a b)
product_zero a b z = subst (λ (m : ℤ). IsCanonicalOf (record { mant = pos 0; exp = pos 0 }) (record { mant = m; exp = a.exp +ℤ b.exp })) (sym z) (zero_form (a.exp +ℤ b.exp))

-- the product by its size without zeros at the end
pub product_form : (a b : Decimal) (s z : ℕ) (e : ℤ) → s * 10 ^ z ≡ unsigned_abs a.mant * unsigned_abs b.mant → s % 10 ≢ 0 → e ≡ a.exp +ℤ b.exp +ℤ pos z → IsCanonicalOf (record { mant = signed_like (a.mant *ℤ b.mant) s; exp = e }) (product a b)
product_form a b s z e v n h = stripped_form (a.mant *ℤ b.mant) (a.exp +ℤ b.exp) e s z (v ∙ sym (unsigned_abs-mul a.mant b.mant)) n h

pub product_none : (a b : Decimal) (s z : ℕ) → s * 10 ^ z ≡ unsigned_abs a.mant * unsigned_abs b.mant → s % 10 ≢ 0 → (s < 10 ^ 36 → ⊥) → IsDecOf (product a b) None
product_none a b s z v n h =
    let e = a.exp +ℤ b.exp +ℤ pos z in
    (record { mant = signed_like (a.mant *ℤ b.mant) s; exp = e }, (product_form a b s z e v n refl, λ k. h (bounded_parts (a.mant *ℤ b.mant) e s k).0))

-- the same for the words of 128 bits that are equal to these
pub sizes_are : (a b : Decimal) (m n : ℤ) (x y p : ℕ) → FitsSigned w128 m → FitsSigned w128 n → m ≡ a.mant → n ≡ b.mant → x ≡ unsigned_abs (to_z w128 (of_z w128 m)) → y ≡ unsigned_abs (to_z w128 (of_z w128 n)) → p ≡ x * y → p ≡ unsigned_abs a.mant * unsigned_abs b.mant
sizes_are a b m n x y p k l f g h i e =
    let u = simp to_z-of_z at h in
    let v = simp to_z-of_z at i in
    e ∙ ap (λ z. z * y) (u ∙ ap unsigned_abs f) ∙ ap (λ z. unsigned_abs a.mant * z) (v ∙ ap unsigned_abs g)

pub signs_are : (a b : Decimal) (m n w : ℤ) (s t : ℕ) → FitsSigned w128 m → FitsSigned w128 n → m ≡ a.mant → n ≡ b.mant → s ≡ t → w ≡ signed_like (to_z w128 (of_z w128 m) *ℤ to_z w128 (of_z w128 n)) s → w ≡ signed_like (a.mant *ℤ b.mant) t
signs_are a b m n w s t k l f g h i =
    let e = simp to_z-of_z at i in
    e ∙ ap (λ z. signed_like (z *ℤ n) s) f ∙ ap (λ z. signed_like (a.mant *ℤ z) s) g ∙ ap (signed_like (a.mant *ℤ b.mant)) h

pub product_same : (a b : Decimal) (s z : ℕ) (w e : ℤ) → w ≡ signed_like (a.mant *ℤ b.mant) s → s * 10 ^ z ≡ unsigned_abs a.mant * unsigned_abs b.mant → s % 10 ≢ 0 → e ≡ a.exp +ℤ b.exp +ℤ pos z → SameValue (record { mant = w; exp = e }) (product a b)
product_same a b s z w e g v n h = subst (λ (x : ℤ). SameValue (record { mant = x; exp = e }) (product a b)) (sym g) (product_form a b s z e v n h).same
