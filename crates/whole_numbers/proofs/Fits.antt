-- Products that fit 128 bits.
use Rattle.std.proofs.Common.{◌≡◌, ℤ, ◌*ℤ◌, ◌≤◌, ◌*◌, ◌^◌, unsigned_abs, FitsSigned, arith, to_z, of_z}
use Rattle.std.specs.Int.{w128}
use Rattle.std.proofs.lemmas.Int.{fits_signed_from_abs, unsigned_abs-mul, to_z-of_z}

pub fits_product : (a b : ℤ) → unsigned_abs a * unsigned_abs b ≤ 2 ^ 126 → FitsSigned w128 (a *ℤ b)
fits_product a b h = fits_signed_from_abs w128 (a *ℤ b) (omega (arith, unsigned_abs-mul a b))

pub product_bits : (a b : ℤ) → FitsSigned w128 a → FitsSigned w128 b → unsigned_abs a * unsigned_abs b ≤ 2 ^ 126 → FitsSigned w128 (to_z w128 (of_z w128 a) *ℤ to_z w128 (of_z w128 b))
product_bits a b p q h = rw (to_z-of_z w128 a p, to_z-of_z w128 b q) (fits_product a b h)

pub product_value : (a b : ℤ) → FitsSigned w128 a → FitsSigned w128 b → unsigned_abs a * unsigned_abs b ≤ 2 ^ 126 → to_z w128 (of_z w128 (to_z w128 (of_z w128 a) *ℤ to_z w128 (of_z w128 b))) ≡ a *ℤ b
product_value a b p q h = rw (to_z-of_z w128 a p, to_z-of_z w128 b q, to_z-of_z w128 (a *ℤ b) (fits_product a b h))
