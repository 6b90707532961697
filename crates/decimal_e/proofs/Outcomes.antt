-- What a numeral is worth, and that a text has one answer.
use Rattle.std.proofs.Common.{◌≡◌, ◌≢◌, ℕ, ℤ, pos, negsuc, ◌+ℤ◌, ◌*ℤ◌, ◌<ℤ◌, ◌*◌, ◌%◌, ◌≤◌, ◌<◌, ◌^◌, List, [], ◌∷◌, length, min, unsigned_abs, refl, ap, sym, ◌∙◌, ◌⊎◌, inl, inr, arith, subst, Result, Ok, Err}
use Rattle.std.proofs.Math.IntN.{◌-ℤ◌}
use Rattle.std.proofs.lemmas.Int.{ints}
use Rattle.std.proofs.lemmas.Bool.{cases_lt}
use Rattle.std.proofs.Math.Decide.{dec_lt}
use Rattle.whole_numbers.proofs.Ring.{*ℤ_assoc}
use Rattle.decimal_e.specs.declared.cut.Kind.TheVariants.{Blank, Digit}
use Rattle.decimal_e.specs.declared.digits.Tally.{Tally}
use Rattle.decimal_e.specs.declared.read.DecFault.{DecFault}
use Rattle.decimal_e.specs.declared.read.DecFault.TheVariants.{Empty, Char, Digits, Exponent}
use Rattle.decimal_e.specs.Decimals.{Decimal, SameValue, IsCanonicalOf}
use Rattle.decimal_e.specs.Digits.{number}
use Rattle.decimal_e.specs.Grammar.{IsRun, Numeral, Spells, IsMember, IsLongestBeginning, sign_of, digits_of, value_of}
use Rattle.decimal_e.specs.Tallies.{Tallies}
use Rattle.decimal_e.specs.Answers.{IsAnswer, IsValue, IsFarOut, IsReadable}
use Rattle.decimal_e.proofs.Pieces.{apart, run_left, run_right, one_numeral_of, left_nil}
use Rattle.decimal_e.proofs.Values.{same_shift, one_form, zero_form}

signs : (s : List ℕ) → (sign_of s ≡ pos 1) ⊎ (sign_of s ≡ negsuc 0)
signs [] = inl refl
signs (b ∷ s) = grind arith

pub sign_size : (s : List ℕ) (n : ℕ) → unsigned_abs (sign_of s *ℤ pos n) ≡ n
sign_size s n = elim (signs s) [ inl e ↦ rw e (omega (arith, ints)) | inr e ↦ rw e (omega (arith, ints)) ]

-- the canonical form of a numeral that is not zero, by its tally
pub tally_form : (n : Numeral) (t : Tally) (w : ℕ) (e : ℤ) → Tallies t (digits_of n.mantissa) → t.digits ≤ 18 → t.value ≢ 0 → w ≡ min (number n.power.digits) 1000 → w ≤ 999
    → e ≡ sign_of n.power.sign *ℤ pos w -ℤ pos (length n.mantissa.fraction) +ℤ pos t.zeros
    → IsCanonicalOf (record { mant = sign_of n.mantissa.sign *ℤ pos t.value; exp = e }) (value_of n)
tally_form n t w e h few some cap small is =
    let s = sign_of n.mantissa.sign in
    let k : w ≡ number n.power.digits = omega arith in
    let x : e ≡ (value_of n).exp +ℤ pos t.zeros = is ∙ ap (λ p. sign_of n.power.sign *ℤ pos p -ℤ pos (length n.mantissa.fraction) +ℤ pos t.zeros) k in
    let m : (s *ℤ pos t.value) *ℤ pos (10 ^ t.zeros) ≡ (value_of n).mant = *ℤ_assoc s (pos t.value) (pos (10 ^ t.zeros)) ∙ ap (λ p. s *ℤ pos p) (sym (h.value few)) in
    let size = sign_size n.mantissa.sign t.value in
    record {
      same = subst (λ (y : ℤ). SameValue (record { mant = s *ℤ pos t.value; exp = e }) (record { mant = y; exp = (value_of n).exp })) m (same_shift (s *ℤ pos t.value) (value_of n).exp e t.zeros x);
      canonical = record {
        zero = λ z. absurd (some (sym size ∙ ap unsigned_abs z));
        other = λ _ y. h.end (counted t (digits_of n.mantissa) h some) few (ap (λ p. p % 10) (sym size) ∙ y);
      };
    }
  where
    counted : (t : Tally) (ds : List ℕ) → Tallies t ds → t.value ≢ 0 → 0 < t.digits
    counted t ds h some = elim (dec_lt 0 t.digits) [ yes l ↦ l | no l ↦ absurd (some (h.none (omega arith)).0) ]

-- a numeral of the value zero
pub tally_zero : (n : Numeral) (t : Tally) → Tallies t (digits_of n.mantissa) → t.digits ≤ 18 → t.value ≡ 0 → IsCanonicalOf (record { mant = pos 0; exp = pos 0 }) (value_of n)
tally_zero n t h few z =
    let v : number (digits_of n.mantissa) ≡ 0 = h.value few ∙ ap (λ x. x * 10 ^ t.zeros) z ∙ omega arith in
    let m : pos 0 ≡ (value_of n).mant = sym (ap (λ x. sign_of n.mantissa.sign *ℤ pos x) v ∙ omega (arith, ints)) in
    subst (λ (y : ℤ). IsCanonicalOf (record { mant = pos 0; exp = pos 0 }) (record { mant = y; exp = (value_of n).exp })) m (zero_form (value_of n).exp)

pub near : (n : Numeral) (d : Decimal) → number n.power.digits ≤ 999 → IsCanonicalOf d (value_of n) → IsReadable d → IsFarOut n → ⊥
near n d small form ok (inl far) = omega arith
near n d small form ok (inr (e, (other, not))) = not (subst IsReadable (one_form d e (value_of n) form other) ok)

-- beyond the exponents that are read
pub far : (n : Numeral) (d : Decimal) → IsCanonicalOf d (value_of n) → d.mant ≢ pos 0 → (IsReadable d → ⊥) → IsFarOut n
far n d form some not = inr (d, (form, not))

pub form_at : (d e a : Decimal) → d ≡ e → IsCanonicalOf d a → IsCanonicalOf e a
form_at d e a is form = subst (λ (x : Decimal). IsCanonicalOf x a) is form

-- a numeral with a canonical form at hand that is read
pub value_read : (n : Numeral) (d r : Decimal) (w : ℕ) → r ≡ d → IsCanonicalOf d (value_of n) → w ≡ min (number n.power.digits) 1000 → w ≤ 999 → IsReadable d → (IsFarOut n → ⊥) × IsCanonicalOf r (value_of n)
value_read n d r w is form cap small ok = (near n d (omega arith) form ok, form_at d r (value_of n) (sym is) form)

pub zero_read : IsReadable (record { mant = pos 0; exp = pos 0 })
zero_read = record { low = λ n. absurd (n refl); high = λ n. absurd (n refl) }

signed_not_zero : (s : List ℕ) (v : ℕ) → v ≢ 0 → sign_of s *ℤ pos v ≢ pos 0
signed_not_zero s v some z = some (sym (sign_size s v) ∙ ap unsigned_abs z)

pub far_below : (n : Numeral) (v : ℕ) (e : ℤ) → IsCanonicalOf (record { mant = sign_of n.mantissa.sign *ℤ pos v; exp = e }) (value_of n) → v ≢ 0 → e <ℤ negsuc 399 → IsFarOut n
far_below n v e form some low = far n _ form (signed_not_zero n.mantissa.sign v some) (λ r. let l = r.low (signed_not_zero n.mantissa.sign v some) in omega (arith, ints))

pub far_above : (n : Numeral) (v : ℕ) (e : ℤ) → IsCanonicalOf (record { mant = sign_of n.mantissa.sign *ℤ pos v; exp = e }) (value_of n) → v ≢ 0 → pos 60 <ℤ e → IsFarOut n
far_above n v e form some high = far n _ form (signed_not_zero n.mantissa.sign v some) (λ r. let l = r.high (signed_not_zero n.mantissa.sign v some) in omega (arith, ints))

-- ---- at most one answer
two_values : (n : Numeral) (r s : Result Decimal DecFault) → IsValue n r → IsValue n s → r ≡ s
two_values n (Ok d) (Ok e) p q = ap Ok (one_form d e (value_of n) p.2 q.2)
two_values n (Ok d) (Err Empty) p q = absurd q
two_values n (Ok d) (Err (Char at)) p q = absurd q
two_values n (Ok d) (Err Digits) p q = absurd (p.0 q)
two_values n (Ok d) (Err Exponent) p q = absurd (p.1 q.1)
two_values n (Err Empty) s p q = absurd p
two_values n (Err (Char at)) s p q = absurd p
two_values n (Err Digits) (Ok d) p q = absurd (q.0 p)
two_values n (Err Digits) (Err Empty) p q = absurd q
two_values n (Err Digits) (Err (Char at)) p q = absurd q
two_values n (Err Digits) (Err Digits) p q = refl
two_values n (Err Digits) (Err Exponent) p q = absurd (q.0 p)
two_values n (Err Exponent) (Ok d) p q = absurd (q.1 p.1)
two_values n (Err Exponent) (Err Empty) p q = absurd q
two_values n (Err Exponent) (Err (Char at)) p q = absurd q
two_values n (Err Exponent) (Err Digits) p q = absurd (p.0 q)
two_values n (Err Exponent) (Err Exponent) p q = refl

-- an answer is the value of a numeral, or the text is blank, or it is not in the grammar
data Seen (text : List ℕ) : Result Decimal DecFault → Type 0 where
  numeral : {r : Result Decimal DecFault} → (n : Numeral) → Spells n text → IsValue n r → Seen text r
  blank : IsRun Blank text → Seen text (Err Empty)
  broken : (at : ℕ) → (IsRun Blank text → ⊥) → (IsMember text → ⊥) → IsLongestBeginning text at → Seen text (Err (Char at))

seen : (text : List ℕ) (r : Result Decimal DecFault) → IsAnswer text r → Seen text r
seen text (Ok d) (n, (s, v)) = numeral n s v
seen text (Err Empty) p = blank p
seen text (Err (Char at)) p = broken at p.0 p.1 p.2
seen text (Err Digits) (n, (s, v)) = numeral n s v
seen text (Err Exponent) (n, (s, v)) = numeral n s v

-- blanks that are digits are none
no_blank_digits : (xs : List ℕ) → IsRun Blank xs → IsRun Digit xs → xs ≡ []
no_blank_digits [] p q = refl
no_blank_digits (x ∷ xs) p q = absurd (apart Blank Digit x (omega arith) p.0 q.0)

not_blank : (n : Numeral) (text : List ℕ) → Spells n text → IsRun Blank text → ⊥
not_blank n text s b =
    let m = n.mantissa in
    let a = run_right Blank s.before _ (subst (IsRun Blank) s.whole b) in
    let w = run_right Blank m.sign _ a in
    let f = run_right Blank m.point _ (run_right Blank m.whole _ w) in
    s.mantissa.some (left_nil m.whole m.fraction (no_blank_digits m.whole (run_left Blank m.whole _ w) s.mantissa.whole) (no_blank_digits m.fraction (run_left Blank m.fraction _ f) s.mantissa.fraction))

one_longest : (text : List ℕ) (a b : ℕ) → IsLongestBeginning text a → IsLongestBeginning text b → a ≡ b
one_longest text a b p q =
    elim (cases_lt a b) [
      | inl l ↦ absurd (p.longest b l q.within q.begins)
      | inr g ↦ elim (cases_lt b a) [ inl l ↦ absurd (q.longest a l p.within p.begins) | inr k ↦ omega arith ]
    ]

two_seen : (text : List ℕ) (r s : Result Decimal DecFault) → Seen text r → Seen text s → r ≡ s
two_seen text r s (numeral n p v) (numeral m q w) = two_values n r s v (subst (λ (x : Numeral). IsValue x s) (one_numeral_of text m n q p) w)
two_seen text r s (numeral n p v) (blank b) = absurd (not_blank n text p b)
two_seen text r s (numeral n p v) (broken at b m l) = absurd (m (n, p))
two_seen text r s (blank b) (numeral n p v) = absurd (not_blank n text p b)
two_seen text r s (blank b) (blank c) = refl
two_seen text r s (blank b) (broken at c m l) = absurd (c b)
two_seen text r s (broken at b m l) (numeral n p v) = absurd (m (n, p))
two_seen text r s (broken at b m l) (blank c) = absurd (b c)
two_seen text r s (broken at b m l) (broken at' c n k) = ap (λ x. Err (Char x)) (one_longest text at at' l k)

pub one_answer_of : (text : List ℕ) (r s : Result Decimal DecFault) → IsAnswer text r → IsAnswer text s → r ≡ s
one_answer_of text r s p q = two_seen text r s (seen text r p) (seen text s q)

pub answered : (text : List ℕ) (n : Numeral) (r : Result Decimal DecFault) → Spells n text → IsValue n r → IsAnswer text r
answered text n (Ok d) s v = (n, (s, v))
answered text n (Err Empty) s v = absurd v
answered text n (Err (Char at)) s v = absurd v
answered text n (Err Digits) s v = (n, (s, v))
answered text n (Err Exponent) s v = (n, (s, v))
