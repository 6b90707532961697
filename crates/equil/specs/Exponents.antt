-- The power of ten that brings a positive number near 2^60.
use Rattle.std.specs.Prelude.{◌≡◌, ◌≤◌, ◌<◌, ◌*◌, ◌^◌, ℕ, zero, suc, ℤ, pos, negsuc, ◌≤ℤ◌}

-- h / 100^e is above 2^60 / 100 and at most 2^60
abbrev pub IsNearTop : ℕ → ℤ → Type 0
IsNearTop h (pos k) = (2 ^ 60 * 100 ^ k < 100 * h) × (h ≤ 2 ^ 60 * 100 ^ k)
IsNearTop h (negsuc k) = (2 ^ 60 < 100 * (h * 100 ^ suc k)) × (h * 100 ^ suc k ≤ 2 ^ 60)

-- the exponent of a diagonal interval with this high end: 0 where the end is not above 0
abbrev pub IsExponent : ℤ → ℤ → Type 0
IsExponent (pos zero) e = e ≡ pos 0
IsExponent (pos (suc n)) e = IsNearTop (suc n) e
IsExponent (negsuc n) e = e ≡ pos 0

-- where the exponents of numbers of 128 bits lie
pub record IsInRange (e : ℤ) : Type 0 where
  pub least : negsuc 8 ≤ℤ e
  pub most : e ≤ℤ pos 11
