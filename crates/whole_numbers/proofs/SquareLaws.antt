-- Where the numbers of a square table stand, and the table after one is written.
use Rattle.std.proofs.Common.{◌≡◌, ◌≤◌, ◌<◌, ◌+◌, ◌*◌, ◌∙◌, ℕ, ℤ, pos, List, length, take, drop, slice_set, refl, arith, subst, sym, unsigned_abs}
use Rattle.std.proofs.Math.Decide.{ℕ_discrete}
use Rattle.std.proofs.lemmas.Grind.{get_or-set_at}
use Rattle.std.proofs.lemmas.List.{get_or-set_other, get_or-take, get_or-drop, length-set, length-take, length-drop}
use Rattle.std.proofs.lemmas.Nat.{mul-add-lt, same_from_place}
use Rattle.whole_numbers.specs.Lists.{AllAtMost}
use Rattle.whole_numbers.specs.Squares.{SetsNumber}

-- a list keeps its bound where a number within it is written
pub small_set : (a : ℕ) (ws : List ℤ) (p : ℕ) (v : ℤ) → AllAtMost a ws → unsigned_abs v ≤ a → AllAtMost a (slice_set ws p v)
small_set a ws p v small here k h =
    let inside : k < length ws = omega (arith, length-set ws p v) in
    elim (ℕ_discrete k p) [
      | yes e ↦ subst (λ z. unsigned_abs z ≤ a) (sym (get_or-set_at ws p k v (pos 0) e (subst (λ j. j < length ws) e inside))) here
      | no apart ↦ subst (λ z. unsigned_abs z ≤ a) (sym (get_or-set_other ws p k v (pos 0) apart)) (small k inside)
    ]

pub sets_number : (n : ℕ) (xs : List ℤ) (i k : ℕ) (v : ℤ) → length xs ≡ n * n → i < n → k < n → SetsNumber (record { size = n; numbers = xs }) (record { size = n; numbers = slice_set xs (i * n + k) v }) i k v
sets_number n xs i k v len row column = record {
  size = refl;
  here = get_or-set_at xs (i * n + k) (i * n + k) v (pos 0) refl (omega (arith, mul-add-lt i n k n row column));
  others = λ a b h g apart. get_or-set_other xs (i * n + k) (a * n + b) v (pos 0) (λ e. apart (same_from_place a b i k n g column e));
  small = λ a small here. small_set a xs (i * n + k) v small here;
}

-- a part of a list keeps its bound
pub small_part : (a : ℕ) (xs : List ℤ) (m p : ℕ) → p + m ≤ length xs → AllAtMost a xs → AllAtMost a (take m (drop p xs))
small_part a xs m p most small k h =
    let part : length (take m (drop p xs)) ≡ m = simp (length-take, length-drop) (omega arith) in
    let inside : k < m = omega arith in
    subst (λ z. unsigned_abs z ≤ a) (sym (get_or-take m (drop p xs) k (pos 0) inside ∙ get_or-drop p xs k (pos 0))) (small (p + k) (omega arith))
