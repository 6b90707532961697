use Rattle.std.proofs.Common.{◌≡◌, ◌≢◌, ℕ, List, [], ◌∷◌, ◌++◌, length, Bool, true, false, MatchBool}
use Rattle.std.specs.Prelude.{not, ◌==◌}
use Rattle.decimal_e.proofs.cut.has_digits.Goals as goal

shown : (b : Bool) (xs ys : List ℕ) → b ≡ (length xs == 0) → b ≡ false → MatchBool (not b) (xs ++ ys ≢ []) (xs ++ ys ≡ [])
shown true xs ys e f = absurd cc
shown false [] ys e f = absurd cc
shown false (x ∷ xs) ys e f = λ n. cc

pub returns-then-not-is_empty : goal.returns-then-not-is_empty
returns-then-not-is_empty c = shown c.is_empty.result c.args.mantissa.now.whole.now c.args.mantissa.now.fraction.now c.is_empty.ensures c.if-not-is_empty.true
