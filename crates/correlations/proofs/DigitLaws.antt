-- Decimals with 18 digits.
use Rattle.std.proofs.Common.{◌≡◌, ◌≤◌, ◌<◌, ◌+◌, ◌-◌, ◌*◌, ◌^◌, ◌∙◌, ℕ, ℤ, pos, ◌≤ℤ◌, ◌<ℤ◌, ◌*ℤ◌, sym, ap, arith}
use Rattle.std.proofs.Math.Decide.{dec_lt}
use Rattle.std.proofs.Math.IntN.{◌-ℤ◌}
use Rattle.std.proofs.Math.Nat.{mul-le-mul_left, mul-le-mul_right}
use Rattle.std.proofs.lemmas.Int.{ints}
use Rattle.std.proofs.lemmas.Nat.{pow-add}
use Rattle.stated_order.proofs.FirstLaws.{neither_less}
use Rattle.whole_numbers.proofs.Powers.{ten_le, ten_pow_above}
use Rattle.whole_numbers.proofs.Ring.{mul_mono_pos, *ℤ_assoc}
use Rattle.decimal_e.specs.Decimals.{Decimal}
use Rattle.correlations.specs.Correlations.{HasDigits}

pub zeros_few : (n z m : ℕ) → 0 < n → m ≡ n * 10 ^ z → m < 10 ^ 18 → z ≤ 17
zeros_few n z m some is few =
    elim (dec_lt 17 z) [
      | yes l ↦
          let many : 10 ^ 18 ≤ 10 ^ z = ten_le 18 z (omega arith) in
          let p = mul-le-mul_right (10 ^ z) some in
          absurd (omega (arith, p))
      | no l ↦ omega arith
    ]

pub one_more : (n z m : ℕ) → m ≡ n * 10 ^ z → m * 10 ≡ n * 10 ^ (z + 1)
one_more n z m is = let p = pow-add 10 z 1 in let q = ap (λ k. n * k) p in omega (arith, q)

pub has_digits : (n z m : ℕ) (power low : ℤ) → m ≡ n * 10 ^ z → 10 ^ 17 ≤ m → m < 10 ^ 18 → low ≡ power -ℤ pos z → HasDigits (record { mant = pos n; exp = power }) m low
has_digits n z m power low is least most left = record { least = least; most = most; more = z; digits = ap pos is; power = left }

-- no digits where the number is not positive, or has more
pub none_low : (d : Decimal) (m : ℕ) (k : ℤ) → d.mant ≤ℤ pos 0 → HasDigits d m k → ⊥
none_low d m k low h =
    let least = h.least in
    let p = mul_mono_pos d.mant (pos 0) (10 ^ h.more) low in
    let digits = h.digits in
    omega (arith, ints, p, digits)

pub none_many : (d : Decimal) (m : ℕ) (k : ℤ) → pos 999999999999999999 <ℤ d.mant → HasDigits d m k → ⊥
none_many d m k many h =
    let most = h.most in
    let p = mul_mono_pos (pos (10 ^ 18)) d.mant (10 ^ h.more) (omega (arith, ints)) in
    let one = ten_pow_above h.more in
    let q : 10 ^ 18 * 1 ≤ 10 ^ 18 * 10 ^ h.more = mul-le-mul_left (10 ^ 18) one in
    let digits = h.digits in
    omega (arith, ints, p, q, digits)

-- ---- a decimal has these digits alone
fewer : (d : Decimal) (m m' : ℕ) (k k' : ℤ) (a : HasDigits d m k) (b : HasDigits d m' k') → a.more < b.more → ⊥
fewer d m m' k k' a b less =
    let c = b.more - a.more in
    let parts : b.more ≡ a.more + c = omega arith in
    let split : 10 ^ b.more ≡ 10 ^ a.more * 10 ^ c = ap (λ n. 10 ^ n) parts ∙ pow-add 10 a.more c in
    let times : pos m' ≡ pos (m * 10 ^ c) = b.digits ∙ ap (λ n. d.mant *ℤ pos n) split ∙ sym (*ℤ_assoc d.mant (pos (10 ^ a.more)) (pos (10 ^ c))) ∙ ap (λ z. z *ℤ pos (10 ^ c)) (sym a.digits) in
    let ten : 10 ^ 1 ≤ 10 ^ c = ten_le 1 c (omega arith) in
    let p = mul-le-mul_left m ten in
    let least = a.least in
    let most = b.most in
    omega (arith, ints, p, times)

pub digits_alone : (d : Decimal) (m m' : ℕ) (k k' : ℤ) → HasDigits d m k → HasDigits d m' k' → (m ≡ m') × (k ≡ k')
digits_alone d m m' k k' a b =
    let same : a.more ≡ b.more = neither_less a.more b.more (fewer d m m' k k' a b) (fewer d m' m k' k b a) in
    let numbers : pos m ≡ pos m' = a.digits ∙ ap (λ n. d.mant *ℤ pos (10 ^ n)) same ∙ sym b.digits in
    (omega (arith, ints), a.power ∙ ap (λ n. d.exp -ℤ pos n) same ∙ sym b.power)
