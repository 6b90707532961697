-- The greatest number of tens that a whole number may be multiplied by within 10^37.
use Rattle.std.proofs.Common.{◌≡◌, ◌≢◌, ℕ, zero, suc, ℤ, pos, ◌+◌, ◌*◌, ◌≤◌, ◌<◌, ◌^◌, unsigned_abs, ap, arith}
use Rattle.std.proofs.lemmas.Int.{ints}
use Rattle.std.proofs.lemmas.Nat.{pow-add}
use Rattle.std.proofs.Math.Decide.{dec_lt}
use Rattle.std.proofs.Math.Nat.{mul-le-mul, mul-le-mul_left}
use Rattle.whole_numbers.proofs.Powers.{ten_le}
use Rattle.inverse_squares.specs.Quotients.{AreTensFor}

pub one_tens : (h : ℤ) (u a b : ℕ) → AreTensFor h u a → AreTensFor h u b → a ≡ b
one_tens h u a b p q =
    let l : a ≤ b = q.most a p.few p.within in
    let g : b ≤ a = p.most b q.few q.within in
    omega arith

pub some_tens : (h : ℤ) (u : ℕ) → unsigned_abs h ≤ 10 ^ 37 → (tens : ℕ) × AreTensFor h u tens
some_tens h zero few = (0, record { few = omega arith; within = omega arith; most = λ more l _. l })
some_tens h (suc u) few =
    elim (dec_lt (10 ^ 37) (unsigned_abs h * 10 ^ suc u)) [
      | yes g ↦
          let r = some_tens h u few in (
            r.0,
            record {
              few = let l = r.1.few in omega arith;
              within = r.1.within;
              most = λ more l w. r.1.most more (below u more g l w) w;
            },
          )
      | no n ↦ (suc u, record { few = omega arith; within = omega arith; most = λ more l _. l })
    ]
  where
    below : (u more : ℕ) → 10 ^ 37 < unsigned_abs h * 10 ^ suc u → more ≤ suc u → unsigned_abs h * 10 ^ more ≤ 10 ^ 37 → more ≤ u
    below u more g l w =
        elim (dec_lt u more) [
          | yes p ↦ let e : more ≡ suc u = omega arith in absurd (omega (arith, rw e at w))
          | no n ↦ omega arith
        ]

-- nothing beyond a product that is tenfold past the limit
pub no_more : (x tens more : ℕ) → 10 ^ 36 < x * 10 ^ tens → x * 10 ^ more ≤ 10 ^ 37 → more ≤ tens
no_more x tens more past w =
    elim (dec_lt tens more) [
      | yes l ↦
          let p = mul-le-mul_left x (ten_le (suc tens) more l) in
          let e : 10 ^ suc tens ≡ 10 ^ tens * 10 = omega arith in
          let q : x * 10 ^ suc tens ≡ 10 * (x * 10 ^ tens) = rw e (omega arith) in
          absurd (omega (arith, p, q))
      | no n ↦ omega arith
    ]

-- a product within the limit has few tens
pub few_tens : (h : ℤ) (tens : ℕ) → h ≢ pos 0 → unsigned_abs h * 10 ^ tens ≤ 10 ^ 37 → tens ≤ 37
few_tens h tens some w =
    elim (dec_lt 37 tens) [
      | yes l ↦
          let one : 1 ≤ unsigned_abs h = omega (arith, ints) in
          let p = mul-le-mul one (ten_le 38 tens l) in
          absurd (omega (arith, p))
      | no n ↦ omega arith
    ]

-- ---- what the loop over tens shows
pub tens_more : (raised x tens : ℕ) → raised ≡ x * 10 ^ tens → raised * 10 ≡ x * 10 ^ (tens + 1)
tens_more raised x tens e = let p = ap (λ y. x * y) (pow-add 10 tens 1) in omega (arith, p, e)

pub tens_end : (h : ℤ) (most tens raised : ℕ) → raised ≡ unsigned_abs h * 10 ^ tens → tens ≤ most → raised ≤ 10 ^ 37 → 10 ^ 36 < raised → AreTensFor h most tens
tens_end h most tens raised e few within past = record {
  few = few;
  within = rw e at within;
  most = λ more _ w. no_more (unsigned_abs h) tens more (rw e at past) w;
}
