-- At most one text of a number is right.
use Rattle.std.proofs.Common.{◌≡◌, ◌≤◌, ◌<◌, ◌+◌, ◌-◌, ◌*◌, ◌^◌, ℕ, zero, suc, ℤ, pos, negsuc, ◌<ℤ◌, List, ◌∷◌, ◌++◌, length, replicate, unsigned_abs, false, length-append, lit≤, arith, ap, sym, ◌∙◌, subst, inl, inr}
use Rattle.std.proofs.Math.IntN.{◌+ℤ◌, ◌-ℤ◌}
use Rattle.std.proofs.lemmas.Int.{ints, by_lt_z}
use Rattle.std.specs.Int.{is_negative}
use Rattle.whole_numbers.proofs.Cases.{zero_or_not}
use Rattle.std.proofs.lemmas.Nat.{pow-add, le-div, div_below}
use Rattle.std.proofs.lemmas.List.{length-replicate}
use Rattle.std.proofs.lemmas.Fmt.{length-decimal-le}
use Rattle.std.proofs.Math.Nat.{mul-le-mul_right, div-mul-le_self}
use Rattle.std.specs.Fmt.{decimal, sign_text}
use Rattle.whole_numbers.proofs.Powers.{ten_le, ten_pow_above}
use Rattle.decimal_text.specs.Texts.{nearest, places, IsPowerOf, zero_padded, exponent_text, number_text, text_at, rounded_digits, printed_exponent, e_text, OnePrinted, PrintsText, LeadingDigit, ExponentWithin, HasLength}
use Rattle.decimal_text.proofs.Places.{nearest_up, few_at_places, many_before_places, places_some, places_most, exponent_of}

-- no number has two powers
pub one_power : (digits size : ℕ) (exp p q : ℤ) → IsPowerOf digits size exp p → IsPowerOf digits size exp q → p ≡ q
one_power digits size exp p q a b =
    by_lt_z p q
    (λ l. let m = b.least p l in let f = a.few in absurd (omega arith))
    (λ g. by_lt_z q p
    (λ l. let m = a.least q l in let f = b.few in absurd (omega arith))
    (λ h. omega (arith, ints)))

one_text : (digits : ℕ) (mant exp : ℤ) (a b : List ℕ) → (p : ℤ) × (IsPowerOf digits (unsigned_abs mant) exp p × (a ≡ text_at digits mant exp p)) → (p : ℤ) × (IsPowerOf digits (unsigned_abs mant) exp p × (b ≡ text_at digits mant exp p)) → a ≡ b
one_text digits mant exp a b h k =
    h.1.1 ∙ ap (λ p. text_at digits mant exp p) (one_power digits (unsigned_abs mant) exp h.0 k.0 h.1.0 k.1.0) ∙ sym k.1.1

pub one_printed : OnePrinted
one_printed digits mant exp a b h k =
    elim (zero_or_not mant) [
      | inl z ↦ h.zero z ∙ sym (k.zero z)
      | inr n ↦ one_text digits mant exp a b (h.other n) (k.other n)
    ]

-- ---- the text that is printed
nearest_zero : (s : ℤ) → nearest 0 s ≡ 0
nearest_zero (pos e) = omega arith
nearest_zero (negsuc e) = let d = ten_pow_above (suc e) in let b = div_below (0 + 10 ^ suc e) (2 * 10 ^ suc e) 1 (omega arith) (omega arith) in omega arith

many_far : (digits size e : ℕ) → 0 < size → digits ≤ e → 10 ^ digits ≤ nearest size (pos e)
many_far digits size e some h = let t = ten_le digits e h in let m = mul-le-mul_right (10 ^ e) some in rw (nearest_up size e) (omega arith)

-- with a lower unit there are too many digits
least_power : (digits size : ℕ) (s : ℤ) → 0 < size → (pos digits -ℤ pos (places digits size)) <ℤ s → 10 ^ digits ≤ nearest size s
least_power digits size s some h =
    by_lt_z (pos digits) s
    (λ l. let e : pos (unsigned_abs s) ≡ s = omega (arith, ints) in subst (λ z. 10 ^ digits ≤ nearest size z) e (many_far digits size (unsigned_abs s) some (omega (arith, ints))))
    (λ g. let e : pos digits -ℤ pos (unsigned_abs (pos digits -ℤ s)) ≡ s = omega (arith, ints) in
    subst (λ z. 10 ^ digits ≤ nearest size z) e (many_before_places digits size (unsigned_abs (pos digits -ℤ s)) (omega (arith, ints))))

power_of : (digits size : ℕ) (exp : ℤ) → 0 < size → size < 10 ^ 62 → IsPowerOf digits size exp (exp +ℤ pos (places digits size) -ℤ pos digits)
power_of digits size exp some h =
    let P = places digits size in
    let e : pos digits -ℤ pos P ≡ exp -ℤ (exp +ℤ pos P -ℤ pos digits) = omega (arith, ints) in
    record {
      few = subst (λ z. nearest size z < 10 ^ digits) e (few_at_places digits size h);
      least = λ lower l. least_power digits size (exp -ℤ lower) some (omega (arith, ints));
    }

text_of : (digits : ℕ) (mant exp : ℤ) → 0 < unsigned_abs mant → unsigned_abs mant < 10 ^ 62 → (power : ℤ) × (IsPowerOf digits (unsigned_abs mant) exp power × (e_text digits mant exp ≡ text_at digits mant exp power))
unfolding e_text
text_of digits mant exp some h =
    let P = places digits (unsigned_abs mant) in
    let e : pos digits -ℤ pos P ≡ exp -ℤ (exp +ℤ pos P -ℤ pos digits) = omega (arith, ints) in
    let f : exp +ℤ pos P ≡ exp +ℤ pos P -ℤ pos digits +ℤ pos digits = omega (arith, ints) in (
      exp +ℤ pos P -ℤ pos digits,
      (
        power_of digits (unsigned_abs mant) exp some h,
        ap (number_text digits (is_negative mant) (nearest (unsigned_abs mant) (pos digits -ℤ pos P))) (exponent_of digits (unsigned_abs mant) exp some ∙ f)
            ∙ ap (λ z. number_text digits (is_negative mant) (nearest (unsigned_abs mant) z) (exp +ℤ pos P -ℤ pos digits +ℤ pos digits)) e,
      ),
    )

zero_text : (digits : ℕ) (exp : ℤ) → e_text digits (pos 0) exp ≡ number_text digits false 0 (pos 0)
unfolding e_text
zero_text digits exp = ap (λ m. number_text digits false m (pos 0)) (nearest_zero (pos digits -ℤ pos (places digits 0)))

pub prints_text : PrintsText
prints_text digits mant exp h = record {
  zero = λ z. ap (λ m. e_text digits m exp) z ∙ zero_text digits exp;
  other = λ n. text_of digits mant exp (omega (arith, ints)) h;
}

-- ---- the leading digit
leading_step : (d x size : ℕ) → (10 * d) * (2 * x) ≤ 2 * size * 1 + x → d * (2 * (10 * x)) ≤ 2 * size * 1 + 10 * x
leading_step d x size h = omega arith

leading_at : (size : ℕ) (s : ℤ) (d : ℕ) → 10 ^ suc d ≤ nearest size (s +ℤ pos 1) → 10 ^ d ≤ nearest size s
leading_at size (pos e) d h =
    let z : pos e +ℤ pos 1 ≡ pos (1 + e) = omega (arith, ints) in
    let g = subst (λ t. 10 ^ suc d ≤ nearest size t) z h in
    let w = ap (λ n. size * n) (pow-add 10 1 e) in
    rw (nearest_up size e) (omega (arith, g, pow-add 10 1 d, nearest_up size (1 + e)))
leading_at size (negsuc zero) d h =
    let z : negsuc 0 +ℤ pos 1 ≡ pos 0 = omega (arith, ints) in
    let g = subst (λ t. 10 ^ suc d ≤ nearest size t) z h in
    le-div (10 ^ d) (2 * size * 1 + 10) 20 (omega arith) (omega (arith, g, pow-add 10 1 d, nearest_up size 0))
leading_at size (negsuc (suc e)) d h =
    let z : negsuc (suc e) +ℤ pos 1 ≡ negsuc e = omega (arith, ints) in
    let g = subst (λ t. 10 ^ suc d ≤ nearest size t) z h in
    let f = div-mul-le_self (2 * size * 1 + 10 ^ suc e) (2 * 10 ^ suc e) in
    let m = mul-le-mul_right (2 * 10 ^ suc e) g in
    let v : 10 ^ suc (suc e) ≡ 10 * 10 ^ suc e = omega (arith, pow-add 10 1 (suc e)) in
    let w : 10 ^ suc d ≡ 10 * 10 ^ d = omega (arith, pow-add 10 1 d) in
    le-div (10 ^ d) (2 * size * 1 + 10 ^ suc (suc e)) (2 * 10 ^ suc (suc e)) (omega (arith, ten_pow_above (suc (suc e)))) (rw v (leading_step (10 ^ d) (10 ^ suc e) size (rw (← w) (omega arith))))

pub leading_digit : LeadingDigit
leading_digit digits size exp power some h =
    let e : exp -ℤ (power -ℤ pos 1) ≡ exp -ℤ power +ℤ pos 1 = omega (arith, ints) in
    let n : digits ≡ suc (digits - 1) = omega arith in
    leading_at size (exp -ℤ power) (digits - 1) (subst (λ k. 10 ^ k ≤ nearest size (exp -ℤ power +ℤ pos 1)) n (subst (λ z. 10 ^ digits ≤ nearest size z) e (h.least (power -ℤ pos 1) (omega (arith, ints)))))

-- ---- the exponent
pub exponent_within : ExponentWithin
exponent_within digits size k exp some below few =
    let x = exponent_of digits size exp (omega arith) in
    let low = places_some digits size (omega arith) in
    let high = places_most digits size k below few in
    (omega (arith, ints), omega (arith, ints))

-- ---- lengths
pub length_padded : (width n : ℕ) → 1 ≤ width → width ≤ 18 → n < 10 ^ width → length (zero_padded width n) ≡ width
length_padded width n some most few =
    let t = ten_le width 18 most in
    let d = length-decimal-le width n some few (omega arith) in
    omega (arith, length-append (replicate (width - length (decimal n)) 48) (decimal n), length-replicate {A = ℕ} (width - length (decimal n)) 48)

pub has_length : HasLength
unfolding e_text
has_length digits mant exp some most h small =
    let few = few_at_places digits (unsigned_abs mant) h in
    let e = printed_exponent digits (unsigned_abs mant) exp in
    let m = rounded_digits digits (unsigned_abs mant) in
    let a = length_padded digits m some most few in
    let b = length_padded 2 (unsigned_abs e) (lit≤ tt) (lit≤ tt) (omega arith) in
    omega (arith, length-append (sign_text (is_negative mant)) (46 ∷ zero_padded digits m ++ exponent_text e), length-append (zero_padded digits m) (exponent_text e))
