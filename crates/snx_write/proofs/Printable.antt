-- Which numbers can be printed.
use Rattle.std.proofs.Common.{◌≡◌, ◌≤◌, ◌<◌, ◌*◌, ◌^◌, ℕ, zero, suc, ℤ, pos, negsuc, ◌≤ℤ◌, Bool, true, false, nat_lt, ◌==◌, if◌then◌else◌, unsigned_abs, refl, lit≤, arith}
use Rattle.std.proofs.Math.IntN.{◌+ℤ◌, ◌*ℤ◌}
use Rattle.std.proofs.Math.Nat.{mul-le-mul_right}
use Rattle.std.proofs.Math.Decide.{dec_lt}
use Rattle.std.proofs.lemmas.Int.{ints, unsigned_abs-mul}
use Rattle.std.proofs.lemmas.Bool.Decides.{nat_tests}
use Rattle.whole_numbers.proofs.Powers.{ten_le, ten_pow_above}
use Rattle.whole_numbers.specs.Scaling.{ten_above, ten_below}
use Rattle.decimal_e.specs.Decimals.{Decimal, IsBounded}
use Rattle.decimal_e.specs.Fractions.{IsAtMost}
use Rattle.decimal_text.specs.Texts.{places, printed_exponent}
use Rattle.decimal_text.proofs.Places.{many_at, few_at_places, places_most}
use Rattle.snx_write.specs.Combined.{is_tiny}
use Rattle.snx_write.specs.Numbers.{IsPrintable}

-- a number that is at least 10^j has more than j
places_least : (digits size j : ℕ) → size < 10 ^ 62 → 10 ^ j ≤ size → j < places digits size
places_least digits size j small h =
    elim (dec_lt j (places digits size)) [
      | yes l ↦ l
      | no l ↦
          let grows = ten_le (places digits size) j (omega arith) in
          let many = many_at digits size (places digits size) (omega arith) in
          let few = few_at_places digits size small in
          absurd (omega arith)
    ]

-- an exponent from -99 to 99, or that of zero
either_small : (b : Bool) (z : ℤ) → unsigned_abs z ≤ 99 → unsigned_abs (if b then pos 0 else z) ≤ 99
either_small true z h = omega arith
either_small false z h = h

small_exponent : (digits size : ℕ) (exp : ℤ) → negsuc 98 ≤ℤ (exp +ℤ pos (places digits size)) → (exp +ℤ pos (places digits size)) ≤ℤ pos 99 → unsigned_abs (printed_exponent digits size exp) ≤ 99
small_exponent digits size exp low high = either_small (size == 0) (exp +ℤ pos (places digits size)) (omega (arith, ints))

-- a number below 10^j, in units of a power from -99 to 98 - j
pub printable_within : (digits j : ℕ) (mant exp : ℤ) → j ≤ 62 → unsigned_abs mant < 10 ^ j → negsuc 98 ≤ℤ exp → (exp +ℤ pos (suc j)) ≤ℤ pos 99 → IsPrintable digits mant exp
printable_within digits j mant exp few small low high =
    let most = places_most digits (unsigned_abs mant) j small few in
    record { low = omega (arith, ints); high = omega (arith, ints); exponent = small_exponent digits (unsigned_abs mant) exp (omega (arith, ints)) (omega (arith, ints)) }

-- each number of 128 bits, in units of a power from -99 to 59
pub printable_near : (digits : ℕ) (mant exp : ℤ) → unsigned_abs mant ≤ 2 ^ 127 → negsuc 98 ≤ℤ exp → exp ≤ℤ pos 59 → IsPrintable digits mant exp
printable_near digits mant exp small low high = printable_within digits 39 mant exp (lit≤ tt) (omega arith) low (omega (arith, ints))

-- a value that is not tiny is not zero
some_size : (size : ℕ) (z : ℤ) → nat_lt (size * ten_above z) (ten_below z) ≡ false → 1 ≤ size
some_size zero (pos k) h = absurd (grind (arith, nat_tests))
some_size (suc n) (pos k) h = omega arith
some_size size (negsuc k) h = let above = ten_pow_above (suc k) in grind (arith, nat_tests)

-- its exponent is at least -98
not_below : (size : ℕ) (exp z : ℤ) → z ≡ exp +ℤ pos 99 → size < 10 ^ 36 → nat_lt (size * ten_above z) (ten_below z) ≡ false → negsuc 98 ≤ℤ (exp +ℤ pos (places 15 size))
not_below size exp (pos k) e small h = omega (arith, ints)
not_below size exp (negsuc k) e small h =
    let large : 10 ^ suc k ≤ size = grind (arith, nat_tests) in
    let least = places_least 15 size (suc k) (omega arith) large in
    omega (arith, ints)

-- a value of at most 10^12 that is not zero has a power of at most 12
not_above : (mant exp : ℤ) → unsigned_abs (mant *ℤ pos (ten_above exp)) ≤ 10 ^ 12 * ten_below exp → 1 ≤ unsigned_abs mant → exp ≤ℤ pos 12
not_above mant (pos k) h some =
    elim (dec_lt 12 k) [
      | yes l ↦
          let grows = ten_le 13 k l in
          let product = unsigned_abs-mul mant (pos (10 ^ k)) in
          let more : 1 * 10 ^ k ≤ unsigned_abs mant * 10 ^ k = mul-le-mul_right (10 ^ k) some in
          absurd (omega (arith, product))
      | no l ↦ omega (arith, ints)
    ]
not_above mant (negsuc k) h some = omega (arith, ints)

-- an a priori value that is not tiny
pub printable_value : (d : Decimal) → IsBounded d → IsAtMost (10 ^ 12) d → is_tiny d ≡ false → IsPrintable 15 d.mant d.exp
printable_value d bounded modest not_tiny =
    let size = unsigned_abs d.mant in
    let some = some_size size (d.exp +ℤ pos 99) not_tiny in
    let low = not_below size d.exp (d.exp +ℤ pos 99) refl bounded.mant not_tiny in
    let high = not_above d.mant d.exp modest some in
    let most = places_most 15 size 36 bounded.mant (lit≤ tt) in
    record { low = omega (arith, ints, bounded.low); high = omega (arith, ints); exponent = small_exponent 15 size d.exp low (omega (arith, ints)) }
