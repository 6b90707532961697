-- Leading zeros, one by one.
use Rattle.std.proofs.Common.{◌≡◌, ◌≤◌, ℕ, List, [], ◌∷◌, length, drop, get_or, refl, arith}
use Rattle.std.proofs.lemmas.Bool.{eq-eqb, ne_eqb}
use Rattle.param_ids.specs.Texts.{without_zeros}

pub zeros_step : (text : List ℕ) → 2 ≤ length text → get_or text 0 0 ≡ 48 → without_zeros (drop 1 text) ≡ without_zeros text
zeros_step [] len e = refl
zeros_step (b ∷ []) len e = absurd (omega arith)
zeros_step (b ∷ c ∷ rest) len e = rw (eq-eqb b 48 e) refl

pub zeros_done : (text : List ℕ) → (2 ≤ length text → get_or text 0 0 ≡ 48 → ⊥) → without_zeros text ≡ text
zeros_done [] ne = refl
zeros_done (b ∷ []) ne = refl
zeros_done (b ∷ c ∷ rest) ne = rw (ne_eqb b 48 (ne (omega arith))) refl
