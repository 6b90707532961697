-- A list of texts that are not five names no parameter.
use Rattle.std.proofs.Common.{◌≡◌, ◌∷◌, ◌<◌, ◌≤◌, ℕ, List, [], None, map, length, Bor, refl, arith}
use Rattle.control_doc.specs.Control.{id_of}

pub too_few : (ts : List (Bor (List ℕ))) → length ts < 5 → id_of (map (λ text. text.now) ts) ≡ None
too_few [] h = refl
too_few (a ∷ []) h = refl
too_few (a ∷ b ∷ []) h = refl
too_few (a ∷ b ∷ c ∷ []) h = refl
too_few (a ∷ b ∷ c ∷ d ∷ []) h = refl
too_few (a ∷ b ∷ c ∷ d ∷ e ∷ rest) h = absurd (omega arith)

pub too_many : (ts : List (Bor (List ℕ))) → 6 ≤ length ts → id_of (map (λ text. text.now) ts) ≡ None
too_many [] h = absurd (omega arith)
too_many (a ∷ []) h = absurd (omega arith)
too_many (a ∷ b ∷ []) h = absurd (omega arith)
too_many (a ∷ b ∷ c ∷ []) h = absurd (omega arith)
too_many (a ∷ b ∷ c ∷ d ∷ []) h = absurd (omega arith)
too_many (a ∷ b ∷ c ∷ d ∷ e ∷ []) h = absurd (omega arith)
too_many (a ∷ b ∷ c ∷ d ∷ e ∷ f ∷ rest) h = refl
