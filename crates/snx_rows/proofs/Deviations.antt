-- A standard deviation is short: the columns that write it are few.
use Rattle.std.proofs.Common.{◌≡◌, ◌∷◌, ◌++◌, inl, inr, ℕ, suc, ◌-◌, ◌*◌, ◌%◌, ◌≤◌, ◌<◌, ◌^◌, pos, ◌+ℤ◌, unsigned_abs, Bool, true, false, if◌then◌else◌, List, [], length, drop, Option, Some, None, Ok, Err, sym, ap, ◌∙◌, subst, arith}
use Rattle.std.specs.List.{prefix_len, suffix_len, slice_range}
use Rattle.std.specs.Prelude.{IfSome}
use Rattle.std.proofs.lemmas.Int.{ints, unsigned_abs-mul, by_lt_z}
use Rattle.std.proofs.lemmas.List.{length-append, length-take, length-drop}
use Rattle.std.proofs.Math.Nat.{mul-le-mul_left}
use Rattle.blanks.specs.Blanks.{is_blank, front_trimmed, trimmed}
use Rattle.stated_order.proofs.StepLaws.{went_on, ok_same}
use Rattle.whole_numbers.proofs.Cases.{zero_or_not}
use Rattle.whole_numbers.proofs.Powers.{ten_le, ten_pow_above}
use Rattle.decimal_e.specs.Answers.{IsAnswer}
use Rattle.decimal_e.specs.Decimals.{Decimal, SameValue, IsCanonical, IsCanonicalOf}
use Rattle.decimal_e.specs.Digits.{number}
use Rattle.decimal_e.specs.Grammar.{Numeral, Spells, power_text, digits_of, value_of}
use Rattle.decimal_e.proofs.Outcomes.{sign_size}
use Rattle.decimal_e.proofs.Values.{gap, lifted, same_sym}
use Rattle.snx_lines.specs.Lines.{columns}
use Rattle.snx_rows.specs.Rows.{IsNumber, IsDeviation, IsDeviationOn, not_negative}
use Rattle.snx_rows.specs.declared.causes.Cause.{Cause}
use Rattle.snx_rows.specs.declared.rows.Shape.{Shape}
use Rattle.snx_rows.specs.declared.rows.Shape.TheVariants.{Value, Vector}
use Rattle.snx_rows.proofs.Digits.{digits_append, number_below}

-- ---- canonical forms: the mantissa is at most that of the number as it is written
fewer_zeros : (d a : Decimal) (k : ℕ) → d.exp ≡ a.exp +ℤ pos k → SameValue d a → unsigned_abs d.mant ≤ unsigned_abs a.mant
fewer_zeros d a k h same =
    let size : unsigned_abs a.mant ≡ unsigned_abs d.mant * 10 ^ k = ap unsigned_abs (lifted a d k h (same_sym d a same)) ∙ unsigned_abs-mul d.mant (pos (10 ^ k)) in
    let some : 1 ≤ 10 ^ k = ten_pow_above k in
    omega (arith, size, mul-le-mul_left (unsigned_abs d.mant) some)

-- only zero has a canonical form with a zero more at its end
more_zeros : (d a : Decimal) (k : ℕ) → a.exp ≡ d.exp +ℤ pos (suc k) → SameValue d a → IsCanonical d → unsigned_abs d.mant ≤ unsigned_abs a.mant
more_zeros d a k h same canonical =
    elim (zero_or_not d.mant) [
      | inl none ↦ omega (arith, ap unsigned_abs none)
      | inr some ↦
          let size : unsigned_abs d.mant ≡ unsigned_abs a.mant * 10 ^ suc k = ap unsigned_abs (lifted d a (suc k) h same) ∙ unsigned_abs-mul a.mant (pos (10 ^ suc k)) in
          let power : 10 ^ suc k ≡ 10 ^ k * 10 = omega arith in
          let end : unsigned_abs a.mant * (10 ^ k * 10) % 10 ≡ 0 = omega arith in
          absurd (canonical.other some (ap (λ n. n % 10) (size ∙ ap (λ n. unsigned_abs a.mant * n) power) ∙ end))
    ]

pub canonical_at_most : (d a : Decimal) → IsCanonicalOf d a → unsigned_abs d.mant ≤ unsigned_abs a.mant
canonical_at_most d a form =
    by_lt_z d.exp a.exp
    (λ less. let g = gap (d.exp +ℤ pos 1) a.exp (omega (arith, ints)) in more_zeros d a g.0 (omega (arith, ints, g.1)) form.same form.canonical)
    (λ most. let g = gap a.exp d.exp most in fewer_zeros d a g.0 g.1 form.same)

-- ---- texts
digits_within : (n : Numeral) (text : List ℕ) → Spells n text → length (digits_of n.mantissa) ≤ length text
digits_within n text spells =
    let m = n.mantissa in
    let fraction = m.fraction ++ power_text n.power spells.after in
    let point = m.point ++ fraction in
    let whole = m.whole ++ point in
    omega (
      arith,
      ap length spells.whole,
      length-append spells.before (m.sign ++ whole),
      length-append m.sign whole,
      length-append m.whole point,
      length-append m.point fraction,
      length-append m.fraction (power_text n.power spells.after),
      length-append m.whole m.fraction,
    )

-- the number that a text writes has no more digits than the text has bytes
pub answer_below : (text : List ℕ) (d : Decimal) → IsAnswer text (Ok d) → unsigned_abs d.mant < 10 ^ length text
answer_below text d (n, (spells, value)) =
    let m = n.mantissa in
    let below = number_below (digits_of m) (digits_append m.whole m.fraction spells.mantissa.whole spells.mantissa.fraction) in
    let most = canonical_at_most d (value_of n) value.2 in
    let power = ten_le (length (digits_of m)) (length text) (digits_within n text spells) in
    omega (arith, below, most, power, sign_size m.sign (number (digits_of m)))

trimmed_within : (text : List ℕ) → length (trimmed text) ≤ length text
trimmed_within text =
    let front = front_trimmed text in
    omega (arith, length-take (length front - suffix_len is_blank front) front, length-drop (prefix_len is_blank text) text)

pub columns_within : (text : List ℕ) (from to : ℕ) → length (columns text from to) ≤ to - (from - 1)
columns_within text from to =
    omega (arith, trimmed_within (slice_range text (from - 1) to), length-take (to - (from - 1)) (drop (from - 1) text))

-- ---- deviations
abbrev pub IsShort : Option Decimal → Type 0
IsShort deviation = IfSome deviation (λ d. unsigned_abs d.mant < 10 ^ 18)

not_refused : (b : Bool) (cause : Cause) (d : Decimal) (deviation : Option Decimal) → Ok deviation ≡ (if b then Err cause else Ok (Some d)) → deviation ≡ Some d
not_refused true cause d deviation h = cc
not_refused false cause d deviation h = ok_same deviation (Some d) h

text_short : (text : List ℕ) (deviation : Option Decimal) → length text ≤ 18 → IsDeviation text (Ok deviation) → IsShort deviation
text_short [] deviation few h = subst IsShort (sym (ok_same deviation None h)) tt
text_short (byte ∷ bytes) deviation few h =
    let read = went_on (IsNumber (byte ∷ bytes)) (λ d other. other ≡ not_negative d) deviation h in
    let below = answer_below (byte ∷ bytes) read.gives read.given in
    let power = ten_le (length (byte ∷ bytes)) 18 few in
    subst IsShort (sym (not_refused _ _ read.gives deviation read.onward)) (omega (arith, below, power))

pub deviation_short : (shape : Shape) (text : List ℕ) (deviation : Option Decimal) → IsDeviationOn shape text (Ok deviation) → IsShort deviation
deviation_short Value text deviation h = let few = columns_within text 70 80 in text_short (columns text 70 80) deviation (omega (arith, few)) h
deviation_short Vector text deviation h = subst IsShort (sym (ok_same deviation None h)) tt
