-- Each system can be taken to other a priori values, and with a system each multiple of it.
use Rattle.std.proofs.Common.{◌≡◌, ◌<◌, ◌*◌, ◌/◌, ◌∙◌, ◌∷◌, ℕ, zero, suc, ℤ, pos, ◌*ℤ◌, List, [], refl, sym, ap, arith}
use Rattle.std.specs.Prelude.{Contains}
use Rattle.std.proofs.Math.IntN.{◌-ℤ◌}
use Rattle.std.proofs.Math.Nat.{mul-pos, mul-div_cancel, mul_comm}
use Rattle.whole_numbers.proofs.Ring.{*ℤ_assoc, *ℤ_left_comm}
use Rattle.sys_model.proofs.ScalingLaws.{ten_below_some}
use Rattle.param_ids.specs.Plain.{PlainId}
use Rattle.decimal_e.specs.Decimals.{Decimal}
use Rattle.decimal_e.specs.Fractions.{numerator, denominator}
use Rattle.apriori_shift.specs.Moves.{IsExactDifference, SystemsMove, MultiplesMove, row_times}

-- ---- the difference of the values of a name, as a fraction
pub below : (PlainId → Decimal) → (PlainId → Decimal) → PlainId → ℕ
below old new id = denominator (new id) * denominator (old id)

pub above : (PlainId → Decimal) → (PlainId → Decimal) → PlainId → ℤ
above old new id = numerator (new id) *ℤ pos (denominator (old id)) -ℤ numerator (old id) *ℤ pos (denominator (new id))

-- the product of the denominators of some names
all_below : (PlainId → Decimal) → (PlainId → Decimal) → List PlainId → ℕ
all_below old new [] = 1
all_below old new (id ∷ names) = below old new id * all_below old new names

module _ (old new : PlainId → Decimal) where
  below_some : (id : PlainId) → 0 < below old new id
  unfolding below
  below_some id = mul-pos (ten_below_some (new id).exp) (ten_below_some (old id).exp)

  all_below_some : (names : List PlainId) → 0 < all_below old new names
  unfolding all_below
  all_below_some [] = omega arith
  all_below_some (id ∷ names) = mul-pos (below_some id) (all_below_some names)

  -- each denominator divides the product
  divides : (names : List PlainId) (id : PlainId) → Contains names id → (m : ℕ) × (all_below old new names ≡ m * below old new id)
  unfolding all_below
  divides [] id there = absurd (omega (arith, there.1))
  divides (first ∷ rest) id (zero, lt, at) = (all_below old new rest, ap (λ z. below old new z * all_below old new rest) at ∙ mul_comm (below old new id) (all_below old new rest))
  divides (first ∷ rest) id (suc k, lt, at) =
      let h = divides rest id (k, omega arith, at) in
      let same = h.1 in
      let apart : below old new first * (h.0 * below old new id) ≡ (below old new first * h.0) * below old new id = omega arith in
      (below old new first * h.0, ap (λ z. below old new first * z) same ∙ apart)

  cofactor : (names : List PlainId) (id : PlainId) → Contains names id → (all_below old new names / below old new id) * below old new id ≡ all_below old new names
  cofactor names id there =
      let h = divides names id there in
      ap (λ z. (z / below old new id) * below old new id) h.1 ∙ ap (λ z. z * below old new id) (mul-div_cancel h.0 (below_some id)) ∙ sym h.1

  moved_difference : (names : List PlainId) (id : PlainId) → Contains names id → IsExactDifference (new id) (old id) (above old new id *ℤ pos (all_below old new names / below old new id)) (all_below old new names)
  unfolding below above
  moved_difference names id there =
      let whole = all_below old new names in
      let part = below old new id in
      ap (λ z. above old new id *ℤ pos z) (sym (cofactor names id there)) ∙ sym (*ℤ_assoc (above old new id) (pos (whole / part)) (pos part))

pub systems_move : SystemsMove
systems_move names old new S some =
    let s = all_below old new names in
    let x : PlainId → ℤ = λ id. above old new id *ℤ pos (all_below old new names / below old new id) in (
      record { q = S.q * s; a = λ one other. S.a one other *ℤ pos s; c = λ id. S.c id *ℤ pos s -ℤ row_times names S.a id x },
      record {
        plain_some = some;
        some = mul-pos some (all_below_some old new names);
        s = s;
        s_some = all_below_some old new names;
        x = x;
        differences = λ id there. moved_difference old new names id there;
        matrix = λ one other. *ℤ_assoc (S.a one other) (pos s) (pos S.q) ∙ ap (λ z. S.a one other *ℤ pos z) (mul_comm s S.q);
        right = λ id. refl;
      },
    )

-- ---- multiples
taken_times : (k : ℕ) (y z : ℤ) (p q : ℕ) → y *ℤ pos p ≡ z *ℤ pos q → (pos k *ℤ y) *ℤ pos p ≡ z *ℤ pos (k * q)
taken_times k y z p q same = *ℤ_assoc (pos k) y (pos p) ∙ ap (λ u. pos k *ℤ u) same ∙ *ℤ_left_comm (pos k) z (pos q)

pub multiples_move : MultiplesMove
multiples_move names old new S T k some moves = record {
  plain_some = moves.plain_some;
  some = mul-pos some moves.some;
  s = moves.s;
  s_some = moves.s_some;
  x = moves.x;
  differences = moves.differences;
  matrix = λ one other. taken_times k (T.a one other) (S.a one other) S.q T.q (moves.matrix one other);
  right = λ id. taken_times k (T.c id) (S.c id *ℤ pos moves.s -ℤ row_times names S.a id moves.x) (S.q * moves.s) T.q (moves.right id);
}
