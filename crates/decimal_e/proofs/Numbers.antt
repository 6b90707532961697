-- The numbers that digits write.
use Rattle.std.proofs.Common.{◌≡◌, ℕ, zero, suc, ◌+◌, ◌-◌, ◌*◌, ◌/◌, ◌%◌, ◌≤◌, ◌<◌, ◌^◌, List, [], ◌∷◌, ◌++◌, length, get_or, ap, arith}
use Rattle.std.proofs.lemmas.List.{length_push}
use Rattle.std.proofs.lemmas.Nat.{pow-add}
use Rattle.std.proofs.Math.Nat.{mul-le-mul_right}
use Rattle.std.proofs.Math.Decide.{dec_le}
use Rattle.whole_numbers.proofs.Powers.{ten_le, ten_pow_above}
use Rattle.decimal_e.specs.declared.cut.Kind.{Kind}
use Rattle.decimal_e.specs.Grammar.{Is, IsRun}
use Rattle.decimal_e.specs.Digits.{number}

pub run_at : (k : Kind) (xs : List ℕ) (i d : ℕ) → IsRun k xs → i < length xs → Is k (get_or xs i d)
run_at k [] i d r l = absurd (omega arith)
run_at k (x ∷ xs) zero d r l = r.0
run_at k (x ∷ xs) (suc i) d r l = run_at k xs i d r.1 (omega arith)

pub number_push : (xs : List ℕ) (d : ℕ) → number (xs ++ d ∷ []) ≡ number xs * 10 + (d - 48)
number_push [] d = omega arith
number_push (x ∷ xs) d =
    let r = number_push xs d in
    let l = length_push xs d in
    let p : 10 ^ length (xs ++ d ∷ []) ≡ 10 ^ length xs * 10 = rw l (pow-add 10 (length xs) 1) in
    rw (p, r) (omega arith)

pub few_zeros : (r z s : ℕ) → 0 < r → r * 10 ^ z ≡ s → s < 2 ^ 128 → z ≤ 38
few_zeros r z s some e h =
    elim (dec_le z 38) [
      | yes l ↦ l
      | no n ↦
          let t = ten_le 39 z (omega arith) in
          let m = mul-le-mul_right (10 ^ z) some in
          absurd (omega (arith, t, m))
    ]

pub strip_step : (r z s : ℕ) → r * 10 ^ z ≡ s → r % 10 ≡ 0 → (r / 10) * 10 ^ (z + 1) ≡ s
strip_step r z s e h =
    let p = pow-add 10 z 1 in
    let q : r ≡ (r / 10) * 10 = omega arith in
    let m : r * 10 ^ z ≡ (r / 10) * 10 * 10 ^ z = ap (λ x. x * 10 ^ z) q in
    omega (arith, p, m, ap (λ x. (r / 10) * x) p)

-- one digit more behind zeros, and the size of the number then
pub with_digit : (v t z b : ℕ) → v < 10 ^ t → b ≤ 9 → v * 10 ^ (z + 1) + b < 10 ^ (t + z + 1)
with_digit v t z b h l =
    let p = pow-add 10 t (z + 1) in
    let q = pow-add 10 z 1 in
    let s = ten_pow_above z in
    let m = mul-le-mul_right (10 ^ (z + 1)) h in
    let e : 10 ^ (t + z + 1) ≡ 10 ^ (t + (z + 1)) = ap (λ x. 10 ^ x) (omega arith) in
    omega (arith, p, q, s, m, e)

pub eighteen : (n : ℕ) → n ≤ 18 → 10 ^ n ≤ 10 ^ 18
eighteen n h = ten_le n 18 h
