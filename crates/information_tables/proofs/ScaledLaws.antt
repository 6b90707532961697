-- Square tables of fractions whose elements are those of others times powers of ten, and their inverses.
use Rattle.std.proofs.Common.{◌≡◌, ◌<◌, ◌*◌, ◌∙◌, ℕ, ℤ, pos, neg_ℤ, ◌+ℤ◌, ◌*ℤ◌, sym, ap, subst, arith}
use Rattle.std.proofs.Math.Decide.{ℕ_discrete}
use Rattle.std.proofs.Math.IntN.{◌-ℤ◌, zero-*ℤ}
use Rattle.std.proofs.Math.Nat.{mul-pos}
use Rattle.std.proofs.lemmas.Int.{ints}
use Rattle.whole_numbers.specs.Sum.{sum_to, unit}
use Rattle.whole_numbers.specs.Scaling.{ten_above, ten_below}
use Rattle.whole_numbers.proofs.EqualFractions.{same_from_product}
use Rattle.whole_numbers.proofs.Ring.{*ℤ_assoc}
use Rattle.whole_numbers.proofs.Sums.{unit_here, unit_other}
use Rattle.sys_model.specs.Scaling.{TimesPower}
use Rattle.sys_model.specs.Systems.{System}
use Rattle.sys_model.proofs.RescaledLaws.{rescaled_system}
use Rattle.sys_model.proofs.ScalingLaws.{ten_below_some, times_product, times_back, times_same, times_whole, times_sum}
use Rattle.inv_enclose.specs.Inverses.{IsInverse}

-- ---- one fraction
pub gathered : (x : ℤ) (a b : ℕ) → (x *ℤ pos a) *ℤ pos b ≡ x *ℤ pos (a * b)
gathered x a b = *ℤ_assoc x (pos a) (pos b)

-- x / q times a power, over the denominators of both
pub own_power : (x : ℤ) (q : ℕ) (k : ℤ) → TimesPower x q k (x *ℤ pos (ten_above k)) (q * ten_below k)
own_power x q k =
    let turned : ten_above k * (q * ten_below k) ≡ (q * ten_below k) * ten_above k = omega arith in
    gathered x (ten_above k) (q * ten_below k) ∙ ap (λ n. x *ℤ pos n) turned

-- there is one such fraction over a denominator
pub times_alone : (x y z : ℤ) (q r : ℕ) (k : ℤ) → 0 < q → TimesPower x q k y r → TimesPower x q k z r → y ≡ z
times_alone x y z q r k some one other = same_from_product y z (q * ten_below k) (mul-pos some (ten_below_some k)) (one ∙ sym other)

-- and m times as much
pub times_digits : (m x y : ℤ) (q r : ℕ) (k : ℤ) → TimesPower x q k y r → TimesPower (m *ℤ x) q k (m *ℤ y) r
times_digits m x y q r k h = *ℤ_assoc m y (pos (q * ten_below k)) ∙ ap (λ z. m *ℤ z) h ∙ sym (*ℤ_assoc m x (pos (r * ten_above k)))

-- ---- tables
-- in the first n rows and columns each element of T is that of S, times its power of ten
pub record AreTimes (n : ℕ) (p : ℕ → ℕ → ℤ) (S T : System) : Type 0 where
  pub plain_some : 0 < S.q
  pub some : 0 < T.q
  pub entries : (i j : ℕ) → i < n → j < n → TimesPower (S.a i j) S.q (p i j) (T.a i j) T.q

-- the power of ten of covariances
abbrev pub covariance_power : (ℕ → ℤ) → ℕ → ℕ → ℤ
covariance_power t i j = pos 24 +ℤ t i +ℤ t j

abbrev pub opposite : (ℕ → ℕ → ℤ) → ℕ → ℕ → ℤ
opposite p i j = neg_ℤ (p i j)

pub times_opposite : (n : ℕ) (p : ℕ → ℕ → ℤ) (S T : System) → AreTimes n p S T → AreTimes n (opposite p) T S
times_opposite n p S T h = record { plain_some = h.some; some = h.plain_some; entries = λ i j row column. times_back (S.a i j) (T.a i j) S.q T.q (p i j) (h.entries i j row column) }

pub raised : (n : ℕ) (t : ℕ → ℤ) (S : System) → 0 < S.q → (T : System) × AreTimes n (covariance_power t) S T
raised n t S some =
    let made = rescaled_system n (pos 24) (pos 0) (λ i. neg_ℤ (t i)) S some in (
      made.0,
      record {
        plain_some = some;
        some = made.1.some;
        entries = λ i j row column. times_same (S.a i j) (made.0.a i j) S.q made.0.q (pos 24 -ℤ neg_ℤ (t i) -ℤ neg_ℤ (t j)) (covariance_power t i j) (omega (arith, ints)) (made.1.entries i j row column);
      },
    )

pub lowered : (n : ℕ) (t : ℕ → ℤ) (S : System) → 0 < S.q → (T : System) × AreTimes n (opposite (covariance_power t)) S T
lowered n t S some =
    let made = rescaled_system n (neg_ℤ (pos 24)) (pos 0) t S some in (
      made.0,
      record {
        plain_some = some;
        some = made.1.some;
        entries = λ i j row column. times_same (S.a i j) (made.0.a i j) S.q made.0.q (neg_ℤ (pos 24) -ℤ t i -ℤ t j) (neg_ℤ (covariance_power t i j)) (omega (arith, ints)) (made.1.entries i j row column);
      },
    )

-- ---- inverses
-- the identity stays the identity where its powers are none on the diagonal
unit_times : (i j s r : ℕ) (k : ℤ) → (i ≡ j → k ≡ pos 0) → TimesPower (unit i (pos s) j) s k (unit i (pos r) j) r
unit_times i j s r k diagonal =
    elim (ℕ_discrete j i) [
      | yes same ↦
          let here : (a : ℤ) → a ≡ unit i a j = λ a. sym (unit_here i a) ∙ ap (unit i a) (sym same) in
          subst (λ x. TimesPower x s k (unit i (pos r) j) r) (here (pos s)) (subst (λ y. TimesPower (pos s) s k y r) (here (pos r))
          (subst (λ e. TimesPower (pos s) s e (pos r) r) (sym (diagonal (sym same))) (times_whole s r)))
      | no apart ↦
          subst (λ x. TimesPower x s k (unit i (pos r) j) r) (sym (unit_other i (pos s) j apart)) (subst (λ y. TimesPower (pos 0) s k y r) (sym (unit_other i (pos r) j apart))
          (zero-*ℤ (pos (s * ten_below k)) ∙ sym (zero-*ℤ (pos (r * ten_above k)))))
    ]

-- where S times F is the identity so is T times G, whose powers together depend on row and column alone
pub inverse_times : (n : ℕ) (p r d : ℕ → ℕ → ℤ) (S T F G : System) → ((i k j : ℕ) → p i k +ℤ r k j ≡ d i j) → ((i j : ℕ) → i ≡ j → d i j ≡ pos 0) → AreTimes n p S T → AreTimes n r F G → IsInverse n S F → IsInverse n T G
inverse_times n p r d S T F G powers diagonal one other inverse = record { plain_some = one.some; some = other.some; products = each }
  where
    each : (i j : ℕ) → i < n → j < n → sum_to n (λ k. T.a i k *ℤ G.a k j) ≡ unit i (pos (T.q * G.q)) j
    each i j row column =
        let plain = sum_to n (λ k. S.a i k *ℤ F.a k j) in
        let sum : TimesPower plain (S.q * F.q) (d i j) (sum_to n (λ k. T.a i k *ℤ G.a k j)) (T.q * G.q) =
        times_sum n (λ k. S.a i k *ℤ F.a k j) (λ k. T.a i k *ℤ G.a k j) (S.q * F.q) (T.q * G.q) (d i j) (λ k l.
        times_same (S.a i k *ℤ F.a k j) (T.a i k *ℤ G.a k j) (S.q * F.q) (T.q * G.q) (p i k +ℤ r k j) (d i j) (powers i k j)
        (times_product (S.a i k) (T.a i k) (F.a k j) (G.a k j) S.q T.q F.q G.q (p i k) (r k j) (one.entries i k row l) (other.entries k j l column))) in
        let whole : TimesPower (unit i (pos (S.q * F.q)) j) (S.q * F.q) (d i j) (sum_to n (λ k. T.a i k *ℤ G.a k j)) (T.q * G.q) = subst (λ x. TimesPower x (S.q * F.q) (d i j) (sum_to n (λ k. T.a i k *ℤ G.a k j)) (T.q * G.q)) (inverse.products i j row column) sum in
        times_alone (unit i (pos (S.q * F.q)) j) (sum_to n (λ k. T.a i k *ℤ G.a k j)) (unit i (pos (T.q * G.q)) j) (S.q * F.q) (T.q * G.q) (d i j) (mul-pos one.plain_some other.plain_some) whole
        (unit_times i j (S.q * F.q) (T.q * G.q) (d i j) (diagonal i j))

module _ (n : ℕ) (t : ℕ → ℤ) (S T F G : System) where
  pub inverse_lowered : AreTimes n (covariance_power t) S T → AreTimes n (opposite (covariance_power t)) F G → IsInverse n S F → IsInverse n T G
  inverse_lowered = inverse_times n (covariance_power t) (opposite (covariance_power t)) (λ i j. t i -ℤ t j) S T F G (λ i k j. omega (arith, ints)) (λ i j same. ap (λ k. t i -ℤ t k) (sym same) ∙ none (t i))
    where
      none : (x : ℤ) → x -ℤ x ≡ pos 0
      none x = omega (arith, ints)

  pub inverse_raised : AreTimes n (opposite (covariance_power t)) S T → AreTimes n (covariance_power t) F G → IsInverse n S F → IsInverse n T G
  inverse_raised = inverse_times n (opposite (covariance_power t)) (covariance_power t) (λ i j. t j -ℤ t i) S T F G (λ i k j. omega (arith, ints)) (λ i j same. ap (λ k. t k -ℤ t i) (sym same) ∙ none (t i))
    where
      none : (x : ℤ) → x -ℤ x ≡ pos 0
      none x = omega (arith, ints)
