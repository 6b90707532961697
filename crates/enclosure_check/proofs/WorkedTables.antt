-- Certificates of tables with one row, worked by hand: the defect R a leaves of 2^60, and the error of the vector 0.
use Rattle.std.proofs.Common.{◌≡◌, ◌≤◌, ◌+◌, ◌-◌, ◌*◌, ◌/◌, ◌^◌, ℕ, ℤ, pos, [], ◌∷◌, refl, arith}
use Rattle.std.proofs.Math.Dec.{lit≤}
use Rattle.std.proofs.Math.Nat.{mul-le-mul_left, mul-le-mul_right, pow-le-pow_right, lt-div-mul-add}
use Rattle.whole_numbers.specs.Intervals.{point_interval}
use Rattle.whole_numbers.proofs.IntervalLaws.{two_pow_above}
use Rattle.sys_model.specs.Systems.{Table, radius}
use Rattle.enclosures.specs.Pilots.{PilotTable, pilot_entry}
use Rattle.enclosure_check.specs.Certificates.{ResidualFitsAfter, parts_of, error_of}
use Rattle.stated_order.specs.First.{IsLeast}

abbrev table : ℤ → ℤ → Table
table a d = record { entry = λ i j. point_interval a; right = λ i. point_interval d }

abbrev pilot : ℤ → PilotTable
pilot r = record { g = 0; size = 1; entries = r ∷ [] }

abbrev zeros : ℕ → ℤ
zeros i = pos 0

abbrev radius_at : ℤ → ℤ → ℤ → ℕ → ℕ → ℕ → ℕ
radius_at r a d h b m = radius 1 0 h (pilot_entry (pilot r)) (table a d) zeros b m 0

-- ---- R = 2^30 and a = 1 leave all but a 2^30th; the right side is 0 or 1
pub parts_1 : parts_of 1 (table (pos 1) (pos 0)) (pilot (pos 1073741824)) 0 ≡ 1073741823
parts_1 = refl

pub shift_1 : IsLeast (ResidualFitsAfter 1 (table (pos 1) (pos 0)) zeros) 0
shift_1 = record { here = λ i l. lit≤ tt; before = λ k l. absurd (omega arith) }

pub error_1 : error_of 1 (table (pos 1) (pos 0)) (pilot (pos 1073741824)) zeros 0 0 ≡ 0
error_1 = refl

pub radius_1 : radius_at (pos 1073741824) (pos 1) (pos 0) 0 1073741823 0 ≡ 0
radius_1 = refl

pub parts_2 : parts_of 1 (table (pos 1) (pos 1)) (pilot (pos 1073741824)) 0 ≡ 1073741823
parts_2 = refl

pub shift_2 : IsLeast (ResidualFitsAfter 1 (table (pos 1) (pos 1)) zeros) 0
shift_2 = record { here = λ i l. lit≤ tt; before = λ k l. absurd (omega arith) }

pub error_2 : error_of 1 (table (pos 1) (pos 1)) (pilot (pos 1073741824)) zeros 0 0 ≡ 1
error_2 = refl

pub radius_2 : radius_at (pos 1073741824) (pos 1) (pos 1) 0 1073741823 1 ≡ 1073741824
radius_2 = refl

-- ---- one less: a whole
pub parts_3 : parts_of 1 (table (pos 1) (pos 0)) (pilot (pos 1073741823)) 0 ≡ 1073741824
parts_3 = refl

-- ---- R = 16 and a = 2^56 leave nothing; the right side is 2^122
pub parts_4 : parts_of 1 (table (pos (2 ^ 56)) (pos (2 ^ 122))) (pilot (pos 16)) 0 ≡ 0
parts_4 = refl

-- a number over 2^k, where 2^k is small
too_large : (a b k m : ℕ) → k ≤ m → (b + 1) * 2 ^ m ≤ a → a / 2 ^ k ≤ b → ⊥
too_large a b k m h l q =
    let p : 2 ^ k ≤ 2 ^ m = pow-le-pow_right {n = 2} (omega arith) h in
    let s = mul-le-mul_left (b + 1) p in
    let t = mul-le-mul_right (2 ^ k) q in
    omega (arith, lt-div-mul-add {a = a} (two_pow_above k), s, t)

pub shift_4 : IsLeast (ResidualFitsAfter 1 (table (pos (2 ^ 56)) (pos (2 ^ 122))) zeros) 56
shift_4 = record {
  here = λ i l. lit≤ tt;
  before = λ k l fits. too_large (2 ^ 122) (2 ^ 66) k 55 (omega arith) (lit≤ tt) (omega (arith, fits 0 (omega arith)));
}

pub error_4 : error_of 1 (table (pos (2 ^ 56)) (pos (2 ^ 122))) (pilot (pos 16)) zeros 56 0 ≡ 2 ^ 66
error_4 = refl

pub radius_4 : radius_at (pos 16) (pos (2 ^ 56)) (pos (2 ^ 122)) 56 0 (2 ^ 66) ≡ 2 ^ 66
radius_4 = refl

-- ---- and 2^122 + 1, which wants one shift more
pub shift_5 : IsLeast (ResidualFitsAfter 1 (table (pos (2 ^ 56)) (pos (2 ^ 122 + 1))) zeros) 57
shift_5 = record {
  here = λ i l. lit≤ tt;
  before = λ k l fits. too_large (2 ^ 122) (2 ^ 66 - 1) k 56 (omega arith) (lit≤ tt) (omega (arith, fits 0 (omega arith)));
}

pub error_5 : error_of 1 (table (pos (2 ^ 56)) (pos (2 ^ 122 + 1))) (pilot (pos 16)) zeros 57 0 ≡ 2 ^ 66 + 2
error_5 = refl
