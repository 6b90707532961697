-- Sums of intervals.
use Rattle.std.proofs.Common.{◌≡◌, ◌≤◌, ◌<◌, ◌+◌, ◌^◌, ◌∙◌, ◌++◌, ◌∷◌, ℕ, List, [], All, map, refl, sym, ap, subst, arith}
use Rattle.std.proofs.lemmas.Int.{ints}
use Rattle.std.proofs.lemmas.List.Elements.{All-tail}
use Rattle.whole_numbers.specs.Intervals.{Interval, interval_add, size}
use Rattle.sym_blocks.specs.Tables.{SumFits, zero_interval}
use Rattle.neq_stack.specs.Stacks.{sum_of_intervals}

pub same_interval : (a b : Interval) → a.lo ≡ b.lo → a.hi ≡ b.hi → a ≡ b
same_interval a b low high = λ i. record { lo = low i; hi = high i }

pub add_zero : (w : Interval) → interval_add w zero_interval ≡ w
add_zero w = same_interval (interval_add w zero_interval) w (omega (arith, ints)) (omega (arith, ints))

pub zero_add : (w : Interval) → interval_add zero_interval w ≡ w
zero_add w = same_interval (interval_add zero_interval w) w (omega (arith, ints)) (omega (arith, ints))

pub add_assoc : (a b c : Interval) → interval_add (interval_add a b) c ≡ interval_add a (interval_add b c)
add_assoc a b c = same_interval (interval_add (interval_add a b) c) (interval_add a (interval_add b c)) (omega (arith, ints)) (omega (arith, ints))

pub small_sum : (a b : Interval) (most more : ℕ) → size a ≤ most → size b ≤ more → most + more < 10 ^ 38 → SumFits a b
small_sum a b most more small_a small_b fit = record { low = omega (arith, ints); high = omega (arith, ints) }

-- the sum of one, and of two
pub sum_one : (w : Interval) → sum_of_intervals (w ∷ []) ≡ w
sum_one w = add_zero w

pub sum_two : (w v : Interval) → sum_of_intervals (w ∷ v ∷ []) ≡ interval_add w v
sum_two w v = ap (interval_add w) (add_zero v)

pub sum_append : (xs ys : List Interval) → sum_of_intervals (xs ++ ys) ≡ interval_add (sum_of_intervals xs) (sum_of_intervals ys)
sum_append [] ys = sym (zero_add (sum_of_intervals ys))
sum_append (x ∷ xs) ys = ap (interval_add x) (sum_append xs ys) ∙ sym (add_assoc x (sum_of_intervals xs) (sum_of_intervals ys))

pub sum_of_zeros : {X : Type 0} (f : X → Interval) (xs : List X) → All (λ x. f x ≡ zero_interval) xs → sum_of_intervals (map f xs) ≡ zero_interval
sum_of_zeros f [] none = refl
sum_of_zeros f (x ∷ xs) none = ap (λ w. interval_add w (sum_of_intervals (map f xs))) (none 0 x (omega arith)) ∙ zero_add (sum_of_intervals (map f xs)) ∙ sum_of_zeros f xs (All-tail (λ x. f x ≡ zero_interval) x xs none)

-- what stands where intervals were added to zero, and others to that
pub on_zero : (z w e : Interval) → z ≡ zero_interval → w ≡ interval_add z e → w ≡ e
on_zero z w e none is = is ∙ ap (λ x. interval_add x e) none ∙ zero_add e

pub fits_on_zero : (z w e f : Interval) (most more : ℕ) → z ≡ zero_interval → w ≡ interval_add z e → size e ≤ most → size f ≤ more → most + more < 10 ^ 38 → SumFits w f
fits_on_zero z w e f most more none is small_e small_f fit = subst (λ x. SumFits x f) (sym (on_zero z w e none is)) (small_sum e f most more small_e small_f fit)

pub both_on_zero : (z w v e f : Interval) → z ≡ zero_interval → w ≡ interval_add z e → v ≡ interval_add w f → v ≡ interval_add e f
both_on_zero z w v e f none is then = then ∙ ap (λ x. interval_add x f) (on_zero z w e none is)
