-- Where the point of a rounded number stands.
use Rattle.std.proofs.Common.{◌≡◌, ◌≤◌, ◌<◌, ◌+◌, ◌-◌, ◌*◌, ◌/◌, ◌^◌, ℕ, suc, ℤ, pos, negsuc, Bool, true, false, nat_lt, nat_eq, arith, ap, sym, ◌∙◌, subst, lit<}
use Rattle.std.proofs.Math.IntN.{◌+ℤ◌, ◌-ℤ◌}
use Rattle.std.proofs.lemmas.Int.{ints}
use Rattle.std.proofs.lemmas.Nat.{pow-add, le-div, div_below}
use Rattle.std.proofs.lemmas.Bool.Decides.{nat_tests}
use Rattle.std.proofs.Math.Nat.{mul-le-mul_right, mul-le-mul_left, div-mul-le_self, div-eq_of_lt-le}
use Rattle.std.proofs.Math.Decide.{dec_lt}
use Rattle.whole_numbers.proofs.Powers.{ten_le, ten_pow_above}
use Rattle.whole_numbers.proofs.LeastLaws.{least_below_is, least_below_some, least_below_first, least_below_passes, least_below_most}
use Rattle.std.proofs.lemmas.Bool.{false≢true}
use Rattle.whole_numbers.specs.Least.{least_below}
use Rattle.decimal_text.specs.Texts.{nearest, places, rounded_digits, printed_exponent}

-- ---- rounding upwards and downwards in units
pub nearest_up : (size e : ℕ) → nearest size (pos e) ≡ size * 10 ^ e
nearest_up size e = omega arith

pub nearest_at_up : (digits size k : ℕ) → k ≤ digits → nearest size (pos digits -ℤ pos k) ≡ size * 10 ^ (digits - k)
nearest_at_up digits size k h = let e : pos digits -ℤ pos k ≡ pos (digits - k) = omega (arith, ints) in ap (nearest size) e ∙ nearest_up size (digits - k)

pub nearest_at_down : (digits size k : ℕ) → digits < k → nearest size (pos digits -ℤ pos k) ≡ (2 * size + 10 ^ (k - digits)) / (2 * 10 ^ (k - digits))
nearest_at_down digits size k h =
    let e : pos digits -ℤ pos k ≡ negsuc (k - digits - 1) = omega (arith, ints) in
    let s : suc (k - digits - 1) ≡ k - digits = omega arith in
    let t : 2 * size * 1 ≡ 2 * size = omega arith in
    ap (nearest size) e ∙ rw (s, t)

pub ten_parts : (digits k : ℕ) → digits ≤ k → 10 ^ (k - digits) * 10 ^ digits ≡ 10 ^ k
ten_parts digits k h = let s : k - digits + digits ≡ k = omega arith in sym (pow-add 10 (k - digits) digits) ∙ ap (λ n. 10 ^ n) s

-- ---- a number that is at least 10^k has too many digits there
pub many_at : (digits size k : ℕ) → 10 ^ k ≤ size → 10 ^ digits ≤ nearest size (pos digits -ℤ pos k)
many_at digits size k h =
    elim (dec_lt digits k) [
      | yes l ↦
          let t = ten_parts digits k (omega arith) in
          let d = ten_pow_above (k - digits) in
          rw (nearest_at_down digits size k l) (le-div (10 ^ digits) (2 * size + 10 ^ (k - digits)) (2 * 10 ^ (k - digits)) (omega arith) (omega arith))
      | no l ↦
          let t = ten_parts k digits (omega arith) in
          let m = mul-le-mul_left (10 ^ (digits - k)) h in
          rw (nearest_at_up digits size k (omega arith)) (omega arith)
    ]

-- a number below 10^j has few enough one place further on
pub few_beyond : (digits size j : ℕ) → size < 10 ^ j → nearest size (pos digits -ℤ pos (suc j)) < 10 ^ digits
few_beyond digits size j h =
    elim (dec_lt digits (suc j)) [
      | yes l ↦
          let t = ten_parts digits (suc j) (omega arith) in
          let u : 10 ^ suc j ≡ 10 * 10 ^ j = omega (arith, pow-add 10 1 j) in
          let d = ten_pow_above (suc j - digits) in
          let g = ten_le (suc j - digits) (suc j) (omega arith) in
          rw (nearest_at_down digits size (suc j) l) (div_below (2 * size + 10 ^ (suc j - digits)) (2 * 10 ^ (suc j - digits)) (10 ^ digits) (omega arith) (omega arith))
      | no l ↦
          let t = ten_parts (suc j) digits (omega arith) in
          let u : 10 ^ suc j ≡ 10 * 10 ^ j = omega (arith, pow-add 10 1 j) in
          let d = ten_pow_above (digits - suc j) in
          let m = mul-le-mul_left (10 ^ (digits - suc j)) h in
          let v = ap (λ n. 10 ^ (digits - suc j) * n) u in
          rw (nearest_at_up digits size (suc j) (omega arith)) (omega arith)
    ]

-- ---- the point
-- whether k places are enough
abbrev pub fits : ℕ → ℕ → ℕ → Bool
fits digits size k = nat_lt (nearest size (pos digits -ℤ pos k)) (10 ^ digits)

fits_true : (digits size k : ℕ) → nearest size (pos digits -ℤ pos k) < 10 ^ digits → fits digits size k ≡ true
fits_true digits size k h = grind (arith, nat_tests)

fits_false : (digits size k : ℕ) → 10 ^ digits ≤ nearest size (pos digits -ℤ pos k) → fits digits size k ≡ false
fits_false digits size k h = grind (arith, nat_tests)

pub few_when_fits : (digits size k : ℕ) → fits digits size k ≡ true → nearest size (pos digits -ℤ pos k) < 10 ^ digits
few_when_fits digits size k h = grind (arith, nat_tests)

pub many_when_not : (digits size k : ℕ) → fits digits size k ≡ false → 10 ^ digits ≤ nearest size (pos digits -ℤ pos k)
many_when_not digits size k h = grind (arith, nat_tests)

pub places_is : (digits size k : ℕ) → k < 64 → nearest size (pos digits -ℤ pos k) < 10 ^ digits → ((j : ℕ) → j < k → 10 ^ digits ≤ nearest size (pos digits -ℤ pos j)) → places digits size ≡ k
unfolding places
places_is digits size k h few many = least_below_is 64 (fits digits size) k h (fits_true digits size k few) (λ j l. fits_false digits size j (many j l))

pub few_at_places : (digits size : ℕ) → size < 10 ^ 62 → nearest size (pos digits -ℤ pos (places digits size)) < 10 ^ digits
unfolding places
few_at_places digits size h = few_when_fits digits size (places digits size) (least_below_some 64 (fits digits size) 63 (lit< tt) (fits_true digits size 63 (few_beyond digits size 62 h)))

pub many_before_places : (digits size k : ℕ) → k < places digits size → 10 ^ digits ≤ nearest size (pos digits -ℤ pos k)
unfolding places
many_before_places digits size k h = many_when_not digits size k (least_below_first 64 (fits digits size) k h)

-- at least one place, and at most one more than the number has digits
pub places_some : (digits size : ℕ) → 0 < size → 1 ≤ places digits size
unfolding places
places_some digits size some =
    least_below_later (fits digits size) (fits_false digits size 0 (many_at digits size 0 (omega arith)))
  where
    least_below_later : (passes : ℕ → Bool) → passes 0 ≡ false → 1 ≤ least_below 64 passes
    least_below_later passes none =
        elim (dec_lt 0 (least_below 64 passes)) [
          | yes l ↦ l
          | no l ↦
              let z : least_below 64 passes ≡ 0 = omega arith in
              absurd (false≢true (sym none ∙ sym (ap passes z) ∙ least_below_passes 64 passes (omega arith)))
        ]

pub places_most : (digits size k : ℕ) → size < 10 ^ k → k ≤ 62 → places digits size ≤ k + 1
unfolding places
places_most digits size k below few =
    omega (arith, least_below_most 64 (fits digits size) (suc k) (fits_true digits size (suc k) (few_beyond digits size k below)))

-- ---- by the count of the digits
-- the number has so many digits
pub record HasDigits (count size : ℕ) : Type 0 where
  pub low : 10 ^ count ≤ 10 * size
  pub high : size < 10 ^ count

many_earlier : (digits size count j : ℕ) → HasDigits count size → j < count → 10 ^ digits ≤ nearest size (pos digits -ℤ pos j)
many_earlier digits size count j h l =
    let t = ten_le (suc j) count l in
    let u : 10 ^ suc j ≡ 10 * 10 ^ j = omega (arith, pow-add 10 1 j) in
    many_at digits size j (omega (arith, h.low))

-- with no more digits than are printed, nothing is rounded
pub whole_below : (digits size count : ℕ) → HasDigits count size → count ≤ digits → size * 10 ^ (digits - count) < 10 ^ digits
whole_below digits size count h l =
    let t = ten_parts count digits l in
    let d = ten_pow_above (digits - count) in
    let m = mul-le-mul_left (10 ^ (digits - count)) h.high in
    omega arith

pub places_whole : (digits size count : ℕ) → HasDigits count size → count ≤ digits → count < 64 → places digits size ≡ count
places_whole digits size count h l small =
    places_is digits size count small (rw (nearest_at_up digits size count l) (whole_below digits size count h l)) (λ j b. many_earlier digits size count j h b)

-- what a number with more digits is, rounded
abbrev pub rounded_over : ℕ → ℕ → ℕ
rounded_over size k = (2 * size + 10 ^ k) / (2 * 10 ^ k)

pub rounded_most : (digits size count : ℕ) → HasDigits count size → digits < count → rounded_over size (count - digits) ≤ 10 ^ digits
rounded_most digits size count h l =
    let t = ten_parts digits count (omega arith) in
    let d = ten_pow_above (count - digits) in
    let k = h.high in
    let m : 2 * size + 10 ^ (count - digits) < suc (10 ^ digits) * (2 * 10 ^ (count - digits)) = omega arith in
    let b = div_below (2 * size + 10 ^ (count - digits)) (2 * 10 ^ (count - digits)) (suc (10 ^ digits)) (omega arith) m in
    omega arith

pub places_kept : (digits size count : ℕ) → HasDigits count size → digits < count → count < 64 → rounded_over size (count - digits) < 10 ^ digits → places digits size ≡ count
places_kept digits size count h l small few = places_is digits size count small (rw (nearest_at_down digits size count l) few) (λ j b. many_earlier digits size count j h b)

pub places_carried : (digits size count : ℕ) → HasDigits count size → digits < count → count < 63 → 10 ^ digits ≤ rounded_over size (count - digits) → places digits size ≡ suc count
places_carried digits size count h l small many =
    places_is digits size (suc count) (omega arith) (few_beyond digits size count h.high) (λ j b.
    elim (dec_lt j count) [
      | yes e ↦ many_earlier digits size count j h e
      | no e ↦ let s : count ≡ j = omega arith in subst (λ i. 10 ^ digits ≤ nearest size (pos digits -ℤ pos i)) s (rw (nearest_at_down digits size count l) many)
    ])

-- a carry leaves a one and zeros
pub digits_carried : (digits size count : ℕ) → HasDigits count size → digits < count → 1 ≤ digits → 10 ^ digits ≤ rounded_over size (count - digits) → nearest size (pos digits -ℤ pos (suc count)) ≡ 10 ^ digits / 10
digits_carried digits size count h l some many =
    let k = h.high in
    let t = ten_parts digits count (omega arith) in
    let n : suc count - digits ≡ 1 + (count - digits) = omega arith in
    let u : 10 ^ (suc count - digits) ≡ 10 * 10 ^ (count - digits) = ap (λ i. 10 ^ i) n ∙ pow-add 10 1 (count - digits) in
    let o : 1 + (digits - 1) ≡ digits = omega arith in
    let v : 10 * 10 ^ (digits - 1) ≡ 10 ^ digits = sym (pow-add 10 1 (digits - 1)) ∙ ap (λ i. 10 ^ i) o in
    let w = ap (λ i. 10 ^ (count - digits) * i) v in
    let d = ten_pow_above (count - digits) in
    let g = mul-le-mul_right (2 * 10 ^ (count - digits)) many in
    let f = div-mul-le_self (2 * size + 10 ^ (count - digits)) (2 * 10 ^ (count - digits)) in
    let e : (2 * size + 10 * 10 ^ (count - digits)) / (2 * (10 * 10 ^ (count - digits))) ≡ 10 ^ (digits - 1) = div-eq_of_lt-le _ (omega arith) (omega arith) in
    nearest_at_down digits size (suc count) (omega arith) ∙ rw u (e ∙ omega arith)

-- ---- what is rounded, in each case
pub exponent_of : (digits size : ℕ) (exp : ℤ) → 0 < size → printed_exponent digits size exp ≡ exp +ℤ pos (places digits size)
exponent_of digits size exp some = let e : nat_eq size 0 ≡ false = grind (arith, nat_tests) in rw e

pub counted : (k size : ℕ) → 10 ^ k ≤ size → size < 10 * 10 ^ k → HasDigits (k + 1) size
counted k size low high = let u = pow-add 10 k 1 in record { low = omega arith; high = omega arith }

pub digits_whole : (digits size count : ℕ) → HasDigits count size → count ≤ digits → count < 64 → size * 10 ^ (digits - count) ≡ rounded_digits digits size
digits_whole digits size count h l small = rw (places_whole digits size count h l small) (sym (nearest_at_up digits size count l))

pub digits_kept : (digits size count : ℕ) → HasDigits count size → digits < count → count < 64 → rounded_over size (count - digits) < 10 ^ digits → rounded_over size (count - digits) ≡ rounded_digits digits size
digits_kept digits size count h l small few = rw (places_kept digits size count h l small few) (sym (nearest_at_down digits size count l))

pub digits_more : (digits size count : ℕ) → HasDigits count size → digits < count → count < 63 → 1 ≤ digits → 10 ^ digits ≤ rounded_over size (count - digits) → 10 ^ digits / 10 ≡ rounded_digits digits size
digits_more digits size count h l small some many = rw (places_carried digits size count h l small many) (sym (digits_carried digits size count h l some many))
