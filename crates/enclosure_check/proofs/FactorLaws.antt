-- Sums whose terms are zero outside some places.
use Rattle.std.proofs.Common.{◌≡◌, ◌≤◌, ◌<◌, ◌∙◌, ℕ, zero, suc, ℤ, pos, ◌+ℤ◌, ◌*ℤ◌, ◌⊎◌, inl, inr, refl, ap, arith}
use Rattle.std.proofs.Math.Decide.{dec_le}
use Rattle.std.proofs.lemmas.Int.{ints}
use Rattle.whole_numbers.specs.Sum.{sum_to}
use Rattle.whole_numbers.proofs.Sums.{sum_to_same, sum_to-zero}

-- the terms before first are zero, and so are those from end on
abbrev pub NoneOutside : (ℕ → ℤ) → ℕ → ℕ → Type 0
NoneOutside f first end = (k : ℕ) → (k < first) ⊎ (end ≤ k) → f k ≡ pos 0

pub sum_before : (f : ℕ → ℤ) (first end : ℕ) → NoneOutside f first end → sum_to first f ≡ pos 0
sum_before f first end none = sum_to_same first f (λ k. pos 0) (λ k l. none k (inl l)) ∙ sum_to-zero first

pub sum_after : (n : ℕ) (f : ℕ → ℤ) (first end : ℕ) → NoneOutside f first end → end ≤ n → sum_to end f ≡ sum_to n f
sum_after zero f first end none l = let e : end ≡ 0 = omega arith in rw e refl
sum_after (suc n) f first end none l =
    elim (dec_le end n) [
      | yes b ↦ let here = none n (inr b) in let below = sum_after n f first end none b in omega (arith, ints, here, below)
      | no b ↦ let e : end ≡ suc n = omega arith in rw e refl
    ]

pub product_zero : (a x : ℤ) → x ≡ pos 0 → a *ℤ x ≡ pos 0
product_zero a x e = rw e (omega (arith, ints))

-- what a loop from first to end has summed is the whole sum
pub sum_whole : (n m : ℕ) (f : ℕ → ℤ) (first end : ℕ) (s : ℤ) → NoneOutside f first end → end ≤ n → m ≡ end → s ≡ sum_to m f → s ≡ sum_to n f
sum_whole n m f first end s none within whole is = is ∙ ap (λ k. sum_to k f) whole ∙ sum_after n f first end none within
