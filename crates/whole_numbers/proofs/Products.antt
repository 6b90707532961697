-- The range of products.
use Rattle.std.proofs.Common.{◌≡◌, ℤ, pos, negsuc, ◌*ℤ◌, ◌≤ℤ◌, ◌⊎◌, inl, inr, arith, ◌∙◌}
use Rattle.std.specs.Int.{int_min, int_max}
use Rattle.std.proofs.lemmas.Int.{ints, clamps, by_lt_z}
use Rattle.whole_numbers.specs.Intervals.{Interval, Within, interval_mul, least_of, greatest_of, IsProductRange}
use Rattle.whole_numbers.proofs.Ring.{*ℤ_comm, mul_mono_pos}
use Rattle.whole_numbers.proofs.IntervalLaws.{mul-anti_left}

between : (a x b y : ℤ) → a ≤ℤ x → x ≤ℤ b → (int_min (a *ℤ y) (b *ℤ y) ≤ℤ (x *ℤ y)) × ((x *ℤ y) ≤ℤ int_max (a *ℤ y) (b *ℤ y))
between a x b (pos k) h l = let p = mul_mono_pos a x k h in let q = mul_mono_pos x b k l in omega (arith, ints, clamps)
between a x b (negsuc k) h l =
    let p = mul-anti_left a x k h in
    let q = mul-anti_left x b k l in
    omega (arith, ints, clamps, *ℤ_comm a (negsuc k), *ℤ_comm x (negsuc k), *ℤ_comm b (negsuc k))

between_left : (y a x b : ℤ) → a ≤ℤ x → x ≤ℤ b → (int_min (y *ℤ a) (y *ℤ b) ≤ℤ (y *ℤ x)) × ((y *ℤ x) ≤ℤ int_max (y *ℤ a) (y *ℤ b))
between_left y a x b h l = rw (*ℤ_comm y a, *ℤ_comm y b, *ℤ_comm y x) (between a x b y h l)

one_of_min : (a b : ℤ) → (int_min a b ≡ a) ⊎ (int_min a b ≡ b)
one_of_min a b = by_lt_z a b (λ l. inl (omega (arith, ints, clamps))) (λ l. inr (omega (arith, ints, clamps)))

one_of_max : (a b : ℤ) → (int_max a b ≡ a) ⊎ (int_max a b ≡ b)
one_of_max a b = by_lt_z a b (λ l. inr (omega (arith, ints, clamps))) (λ l. inl (omega (arith, ints, clamps)))

pub interval_mul_contains : (w v : Interval) (x y : ℤ) → Within w x → Within v y → Within (interval_mul w v) (x *ℤ y)
unfolding least_of greatest_of
interval_mul_contains w v x y h k =
    let m = between w.lo x w.hi y h.above h.below in
    let l = between_left w.lo v.lo y v.hi k.above k.below in
    let r = between_left w.hi v.lo y v.hi k.above k.below in
    record { above = omega (arith, ints, clamps, m, l, r); below = omega (arith, ints, clamps, m, l, r) }

at_lo : (w : Interval) → w.lo ≤ℤ w.hi → Within w w.lo
at_lo w h = record { above = omega (arith, ints); below = h }

at_hi : (w : Interval) → w.lo ≤ℤ w.hi → Within w w.hi
at_hi w h = record { above = h; below = omega (arith, ints) }

pub interval_mul_exact : (w v : Interval) → w.lo ≤ℤ w.hi → v.lo ≤ℤ v.hi → IsProductRange w v (interval_mul w v)
unfolding least_of greatest_of
interval_mul_exact w v h k = record {
  contains = interval_mul_contains w v;
  least = elim (one_of_min (int_min (w.lo *ℤ v.lo) (w.lo *ℤ v.hi)) (int_min (w.hi *ℤ v.lo) (w.hi *ℤ v.hi))) [
    | inl e ↦ elim (one_of_min (w.lo *ℤ v.lo) (w.lo *ℤ v.hi)) [ inl f ↦ (w.lo, v.lo, (at_lo w h, at_lo v k, e ∙ f)) | inr f ↦ (w.lo, v.hi, (at_lo w h, at_hi v k, e ∙ f)) ]
    | inr e ↦ elim (one_of_min (w.hi *ℤ v.lo) (w.hi *ℤ v.hi)) [ inl f ↦ (w.hi, v.lo, (at_hi w h, at_lo v k, e ∙ f)) | inr f ↦ (w.hi, v.hi, (at_hi w h, at_hi v k, e ∙ f)) ]
  ];
  greatest = elim (one_of_max (int_max (w.lo *ℤ v.lo) (w.lo *ℤ v.hi)) (int_max (w.hi *ℤ v.lo) (w.hi *ℤ v.hi))) [
    | inl e ↦ elim (one_of_max (w.lo *ℤ v.lo) (w.lo *ℤ v.hi)) [ inl f ↦ (w.lo, v.lo, (at_lo w h, at_lo v k, e ∙ f)) | inr f ↦ (w.lo, v.hi, (at_lo w h, at_hi v k, e ∙ f)) ]
    | inr e ↦ elim (one_of_max (w.hi *ℤ v.lo) (w.hi *ℤ v.hi)) [ inl f ↦ (w.hi, v.lo, (at_hi w h, at_lo v k, e ∙ f)) | inr f ↦ (w.hi, v.hi, (at_hi w h, at_hi v k, e ∙ f)) ]
  ];
}

-- the ends are in order
pub interval_mul_ordered : (w v : Interval) → w.lo ≤ℤ w.hi → v.lo ≤ℤ v.hi → (interval_mul w v).lo ≤ℤ (interval_mul w v).hi
unfolding least_of greatest_of
interval_mul_ordered w v h k = omega (arith, ints, clamps)
