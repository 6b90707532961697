-- Half a sum, by the halves of its parts.
use Rattle.std.proofs.Common.{◌≡◌, ℤ, pos, ◌+ℤ◌, ◌*ℤ◌, neg_ℤ, ◌≤ℤ◌, ◌<ℤ◌, ◌^◌, arith, sym, FitsSigned}
use Rattle.std.specs.Int.{w128, int_div_euclid, int_rem_euclid}
use Rattle.std.proofs.lemmas.Int.{ints}
use Rattle.whole_numbers.specs.Quotients.{floor_over}
use Rattle.whole_numbers.proofs.Division.{parts, rem_range, floor_over_is}

half_sum_parts : (a b d e r s f g : ℤ) → d *ℤ pos 2 +ℤ r ≡ a → e *ℤ pos 2 +ℤ s ≡ b → f *ℤ pos 2 +ℤ g ≡ r +ℤ s → pos 0 ≤ℤ g → g ≤ℤ pos 1 → floor_over (a +ℤ b) 2 ≡ d +ℤ e +ℤ f
half_sum_parts a b d e r s f g p q t l u = floor_over_is (a +ℤ b) 2 (d +ℤ e +ℤ f) (omega arith) (omega (arith, ints)) (omega (arith, ints))

half_range : (a d : ℤ) → FitsSigned w128 a → d ≡ int_div_euclid a (pos 2) → (neg_ℤ (pos (2 ^ 126)) ≤ℤ d) × (d <ℤ pos (2 ^ 126))
half_range a d fits hd =
    let p = parts a 2 (omega arith) in
    let u = rem_range a 2 (omega arith) in
    omega (arith, ints, p, u, hd)

-- what `half_sum` computes, and that it fits
pub record HalfSum (a b d e f : ℤ) : Type 0 where
  pub value : d +ℤ e +ℤ f ≡ floor_over (a +ℤ b) 2
  pub whole : FitsSigned w128 (d +ℤ e +ℤ f)
  pub halves : FitsSigned w128 (d +ℤ e)
  pub rest : FitsSigned w128 f

pub half_sum_is : (a b d e r s f : ℤ) → FitsSigned w128 a → FitsSigned w128 b → d ≡ int_div_euclid a (pos 2) → e ≡ int_div_euclid b (pos 2) → r ≡ int_rem_euclid a (pos 2) → s ≡ int_rem_euclid b (pos 2) → f ≡ int_div_euclid (r +ℤ s) (pos 2) → HalfSum a b d e f
half_sum_is a b d e r s f fa fb hd he hr hs hf =
    let p = parts a 2 (omega arith) in
    let q = parts b 2 (omega arith) in
    let t = parts (r +ℤ s) 2 (omega arith) in
    let u = rem_range a 2 (omega arith) in
    let v = rem_range b 2 (omega arith) in
    let w = rem_range (r +ℤ s) 2 (omega arith) in
    let dr = half_range a d fa hd in
    let er = half_range b e fb he in
    let low : pos 0 ≤ℤ f = omega (arith, ints, t, u, v, w, hr, hs, hf) in
    let high : f ≤ℤ pos 1 = omega (arith, ints, t, u, v, w, hr, hs, hf) in
    record {
      value = sym (half_sum_parts a b d e r s f (int_rem_euclid (r +ℤ s) (pos 2)) (omega (arith, ints)) (omega (arith, ints)) (omega (arith, ints)) (omega (arith, ints)) (omega (arith, ints)));
      whole = omega (arith, ints);
      halves = omega (arith, ints);
      rest = omega (arith, ints);
    }

pub rests_fit : (a b r s : ℤ) → r ≡ int_rem_euclid a (pos 2) → s ≡ int_rem_euclid b (pos 2) → FitsSigned w128 (r +ℤ s)
rests_fit a b r s hr hs =
    let u = rem_range a 2 (omega arith) in
    let v = rem_range b 2 (omega arith) in
    omega (arith, ints, u, v, hr, hs)
