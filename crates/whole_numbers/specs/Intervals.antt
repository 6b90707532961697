-- Intervals of whole numbers, and the fractions that they hold.
use Rattle.std.specs.Prelude.{◌≡◌, ℕ, ℤ, pos, negsuc, ◌+ℤ◌, ◌-ℤ◌, ◌*ℤ◌, neg_ℤ, ◌≤ℤ◌, ◌^◌, max, unsigned_abs}
use Rattle.std.specs.Int.{int_min, int_max}
use Rattle.whole_numbers.specs.Sum.{sum_to}
use Rattle.whole_numbers.specs.Quotients.{floor_over, ceil_over}

-- the whole numbers from lo to hi, and the fractions between them
pub record Interval : Type 0 where
  pub lo : ℤ
  pub hi : ℤ

-- w holds the fraction x / q
pub record Holds (w : Interval) (x : ℤ) (q : ℕ) : Type 0 where
  pub above : (w.lo *ℤ pos q) ≤ℤ x
  pub below : x ≤ℤ (w.hi *ℤ pos q)

-- the interval of one number
abbrev pub point_interval : ℤ → Interval
point_interval v = record { lo = v; hi = v }

-- the sums of what two intervals hold
abbrev pub interval_add : Interval → Interval → Interval
interval_add w v = record { lo = w.lo +ℤ v.lo; hi = w.hi +ℤ v.hi }

-- the differences of what two intervals hold
abbrev pub interval_sub : Interval → Interval → Interval
interval_sub w v = record { lo = w.lo -ℤ v.hi; hi = w.hi -ℤ v.lo }

-- what w holds with the other sign
abbrev pub interval_neg : Interval → Interval
interval_neg w = record { lo = neg_ℤ w.hi; hi = neg_ℤ w.lo }

-- the products of k and what w holds
abbrev pub interval_scale : ℤ → Interval → Interval
interval_scale (pos k) w = record { lo = pos k *ℤ w.lo; hi = pos k *ℤ w.hi }
interval_scale (negsuc k) w = record { lo = negsuc k *ℤ w.hi; hi = negsuc k *ℤ w.lo }

-- the sum of the intervals f k over the k below n
abbrev pub sum_intervals : ℕ → (ℕ → Interval) → Interval
sum_intervals n f = record { lo = sum_to n (λ k. (f k).lo); hi = sum_to n (λ k. (f k).hi) }

-- the greater size of the ends
abbrev pub size : Interval → ℕ
size w = max (unsigned_abs w.lo) (unsigned_abs w.hi)

-- half the sum of the ends, rounded down
abbrev pub midpoint : Interval → ℤ
midpoint w = floor_over (w.lo +ℤ w.hi) 2

-- the interval over 2^h, rounded outward
abbrev pub interval_shift : ℕ → Interval → Interval
interval_shift h w = record { lo = floor_over w.lo (2 ^ h); hi = ceil_over w.hi (2 ^ h) }

-- the least of four
unfoldable pub least_of : ℤ → ℤ → ℤ → ℤ → ℤ
least_of a b c d = int_min (int_min a b) (int_min c d)

-- the greatest of four
unfoldable pub greatest_of : ℤ → ℤ → ℤ → ℤ → ℤ
greatest_of a b c d = int_max (int_max a b) (int_max c d)

-- the range of the products of what w holds and what v holds
abbrev pub interval_mul : Interval → Interval → Interval
interval_mul w v = record {
  lo = least_of (w.lo *ℤ v.lo) (w.lo *ℤ v.hi) (w.hi *ℤ v.lo) (w.hi *ℤ v.hi);
  hi = greatest_of (w.lo *ℤ v.lo) (w.lo *ℤ v.hi) (w.hi *ℤ v.lo) (w.hi *ℤ v.hi);
}

-- v is in the interval
pub record Within (w : Interval) (v : ℤ) : Type 0 where
  pub above : w.lo ≤ℤ v
  pub below : v ≤ℤ w.hi

-- p is the least interval with each product of a number of w and a number of v
pub record IsProductRange (w v p : Interval) : Type 0 where
  pub contains : (x y : ℤ) → Within w x → Within v y → Within p (x *ℤ y)
  pub least : (x : ℤ) × (y : ℤ) × (Within w x × Within v y × (p.lo ≡ x *ℤ y))
  pub greatest : (x : ℤ) × (y : ℤ) × (Within w x × Within v y × (p.hi ≡ x *ℤ y))
