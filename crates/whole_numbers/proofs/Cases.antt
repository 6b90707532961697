-- The cases of one number and of two.
use Rattle.std.proofs.Common.{◌≡◌, ◌≢◌, ◌<◌, ◌+◌, ◌⊎◌, inl, inr, ℕ, zero, suc, ℤ, pos, negsuc, refl, arith}
use Rattle.std.proofs.Math.Decide.{dec_lt}
use Rattle.std.proofs.lemmas.Int.{ints}

pub zero_or_not : (z : ℤ) → (z ≡ pos 0) ⊎ (z ≢ pos 0)
zero_or_not (pos zero) = inl refl
zero_or_not (pos (suc n)) = inr (λ e. omega (arith, ints))
zero_or_not (negsuc n) = inr (λ e. omega (arith, ints))

-- a number below j + 1 is below j, or j
pub last_or_before : (k j : ℕ) → k < j + 1 → (k < j) ⊎ (k ≡ j)
last_or_before k j h = elim (dec_lt k j) [ yes p ↦ inl p | no p ↦ inr (omega arith) ]
