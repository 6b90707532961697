-- Fractions times powers of ten in intervals, and sums over names.
use Rattle.std.proofs.Common.{◌≡◌, ◌<◌, ◌*◌, ◌∙◌, ◌∷◌, ℕ, zero, suc, ℤ, pos, ◌+ℤ◌, ◌*ℤ◌, neg_ℤ, List, [], length, map, refl, sym, ap, subst, arith}
use Rattle.std.specs.Prelude.{Contains}
use Rattle.std.proofs.Math.IntN.{◌-ℤ◌, zero-*ℤ}
use Rattle.std.proofs.Math.Nat.{mul-pos}
use Rattle.std.proofs.lemmas.Int.{ints}
use Rattle.whole_numbers.specs.Sum.{sum_to}
use Rattle.whole_numbers.specs.Scaling.{ten_above, ten_below}
use Rattle.whole_numbers.specs.Intervals.{Interval, Holds, interval_sub}
use Rattle.whole_numbers.proofs.EqualFractions.{holds_same, same_from_product}
use Rattle.whole_numbers.proofs.IntervalLaws.{holds_sub}
use Rattle.whole_numbers.proofs.Ring.{ring, +ℤ-*ℤ, neg-*ℤ}
use Rattle.sym_blocks.specs.Tables.{zero_interval}
use Rattle.sys_model.specs.Scaling.{HoldsTimes}
use Rattle.sys_model.proofs.ScalingLaws.{ten_above_some, ten_below_some}
use Rattle.param_ids.specs.Plain.{PlainId}
use Rattle.neq_stack.specs.Systems.{name_at, sum_of}

-- ---- fractions
crossed : (x a p b : ℤ) → (x *ℤ a) *ℤ (p *ℤ b) ≡ (x *ℤ p) *ℤ (a *ℤ b)
crossed x a p b = simp ring

crossed_same : (x y : ℤ) (p q a b : ℕ) → x *ℤ pos p ≡ y *ℤ pos q → (x *ℤ pos a) *ℤ pos (p * b) ≡ (y *ℤ pos a) *ℤ pos (q * b)
crossed_same x y p q a b same = crossed x (pos a) (pos p) (pos b) ∙ ap (λ z. z *ℤ (pos a *ℤ pos b)) same ∙ sym (crossed y (pos a) (pos q) (pos b))

-- an interval that holds a fraction times a power holds each equal one times it
pub times_moved : (w : Interval) (x y : ℤ) (q p : ℕ) (k : ℤ) → 0 < q → x *ℤ pos p ≡ y *ℤ pos q → HoldsTimes w x q k → HoldsTimes w y p k
times_moved w x y q p k some same h =
    holds_same w (x *ℤ pos (ten_above k)) (y *ℤ pos (ten_above k)) (q * ten_below k) (p * ten_below k) (mul-pos some (ten_below_some k)) (crossed_same x y p q (ten_above k) (ten_below k) same) h

pub less_times : (x y c : ℤ) → (x -ℤ y) *ℤ c ≡ x *ℤ c -ℤ y *ℤ c
less_times x y c = +ℤ-*ℤ x (neg_ℤ y) c ∙ ap (λ z. x *ℤ c +ℤ z) (neg-*ℤ y c)

pub times_less : (w v : Interval) (x y : ℤ) (q : ℕ) (k : ℤ) → HoldsTimes w x q k → HoldsTimes v y q k → HoldsTimes (interval_sub w v) (x -ℤ y) q k
times_less w v x y q k one other =
    subst (λ z. Holds (interval_sub w v) z (q * ten_below k)) (sym (less_times x y (pos (ten_above k)))) (holds_sub w v (x *ℤ pos (ten_above k)) (y *ℤ pos (ten_above k)) (q * ten_below k) one other)

-- the interval of zero holds zero alone
pub zero_holds : (q : ℕ) (k : ℤ) → HoldsTimes zero_interval (pos 0) q k
zero_holds q k =
    let left = zero-*ℤ (pos (q * ten_below k)) in
    let right = zero-*ℤ (pos (ten_above k)) in
    record { above = omega (arith, ints); below = omega (arith, ints) }

pub zero_alone : (x : ℤ) (q : ℕ) (k : ℤ) → HoldsTimes zero_interval x q k → x ≡ pos 0
zero_alone x q k h =
    let left = zero-*ℤ (pos (q * ten_below k)) in
    let right = zero-*ℤ (pos (ten_above k)) in
    let above = h.above in
    let below = h.below in
    same_from_product x (pos 0) (ten_above k) (ten_above_some k) (omega (arith, ints))

-- ---- sums
sum_to_front : (n : ℕ) (g : ℕ → ℤ) → sum_to (suc n) g ≡ g 0 +ℤ sum_to n (λ k. g (suc k))
sum_to_front zero g = omega (arith, ints)
sum_to_front (suc n) g = let before = sum_to_front n g in omega (arith, ints, before)

-- a sum over the places of names is that over the names
pub sum_by_place : (names : List PlainId) (f : PlainId → ℤ) → sum_to (length names) (λ j. f (name_at names j)) ≡ sum_of (map f names)
sum_by_place [] f = refl
sum_by_place (id ∷ names) f = sum_to_front (length names) (λ j. f (name_at (id ∷ names) j)) ∙ ap (λ z. f id +ℤ z) (sum_by_place names f)

later : (id : PlainId) (names : List PlainId) (other : PlainId) → Contains names other → Contains (id ∷ names) other
later id names other (k, lt, at) = (suc k, omega arith, at)

pub sum_of_zeros : (names : List PlainId) (f : PlainId → ℤ) → ((id : PlainId) → Contains names id → f id ≡ pos 0) → sum_of (map f names) ≡ pos 0
sum_of_zeros [] f zeros = refl
sum_of_zeros (id ∷ names) f zeros =
    let here = zeros id (0, omega arith, refl) in
    let rest = sum_of_zeros names f (λ other there. zeros other (later id names other there)) in
    omega (arith, ints, here, rest)
