-- There is one least number with a property, and one first place at which one fails.
use Rattle.std.proofs.Common.{◌≡◌, ◌≤◌, ◌<◌, ℕ, arith, subst, sym}
use Rattle.std.proofs.Math.Decide.{dec_lt}
use Rattle.stated_order.specs.First.{IsLeast, HoldsBelow, IsFirstFailure, HoldsLower, IsFirstLowerFailure}

-- two numbers of which neither is less are one
pub neither_less : (i k : ℕ) → (i < k → ⊥) → (k < i → ⊥) → i ≡ k
neither_less i k l g =
    elim (dec_lt i k) [
      | yes h ↦ absurd (l h)
      | no h ↦ elim (dec_lt k i) [ yes f ↦ absurd (g f) | no f ↦ omega arith ]
    ]

pub least_is_one : (P : ℕ → Type 0) (h k : ℕ) → IsLeast P h → IsLeast P k → h ≡ k
least_is_one P h k a b = neither_less h k (λ l. b.before h l a.here) (λ l. a.before k l b.here)

-- ---- the first number at which a property fails
pub first_failure_is_one : (n : ℕ) (P : ℕ → Type 0) (i k : ℕ) → IsFirstFailure n P i → IsFirstFailure n P k → i ≡ k
first_failure_is_one n P i k a b = neither_less i k (λ l. a.fails (b.before i l)) (λ l. b.fails (a.before k l))

pub first_failure_fails : (n : ℕ) (P : ℕ → Type 0) (i : ℕ) → HoldsBelow n P → IsFirstFailure n P i → ⊥
first_failure_fails n P i holds a = a.fails (holds i a.within)

-- what fails first where one property holds, fails first where an equivalent one does
pub first_failure_moves : (n : ℕ) (P Q : ℕ → Type 0) (i : ℕ) → ((k : ℕ) → k < n → P k → Q k) → ((k : ℕ) → k < n → Q k → P k) → IsFirstFailure n P i → IsFirstFailure n Q i
first_failure_moves n P Q i to from a =
    let within = a.within in
    record { within = a.within; before = λ k l. to k (omega arith) (a.before k l); fails = λ q. a.fails (from i within q) }

-- ---- the first place of a lower triangle
pub first_lower_failure_moves : (n : ℕ) (P Q : ℕ → ℕ → Type 0) (i j : ℕ) → ((k l : ℕ) → k < n → l ≤ k → P k l → Q k l) → ((k l : ℕ) → k < n → l ≤ k → Q k l → P k l) → IsFirstLowerFailure n P i j → IsFirstLowerFailure n Q i j
first_lower_failure_moves n P Q i j to from a =
    let within = a.within in
    let lower = a.lower in
    record {
      within = a.within;
      lower = a.lower;
      rows = λ k l row column. to k l (omega arith) column (a.rows k l row column);
      left = λ l column. to i l within (omega arith) (a.left l column);
      fails = λ q. a.fails (from i j within lower q);
    }

pub first_lower_failure_fails : (n : ℕ) (P : ℕ → ℕ → Type 0) (i j : ℕ) → HoldsLower n P → IsFirstLowerFailure n P i j → ⊥
first_lower_failure_fails n P i j holds a = a.fails (holds i j a.within a.lower)

row_is_one : (n : ℕ) (P : ℕ → ℕ → Type 0) (i j k l : ℕ) → IsFirstLowerFailure n P i j → IsFirstLowerFailure n P k l → i ≡ k
row_is_one n P i j k l a b = neither_less i k (λ h. a.fails (b.rows i j h a.lower)) (λ h. b.fails (a.rows k l h b.lower))

pub first_lower_failure_is_one : (n : ℕ) (P : ℕ → ℕ → Type 0) (i j k l : ℕ) → IsFirstLowerFailure n P i j → IsFirstLowerFailure n P k l → (i ≡ k) × (j ≡ l)
first_lower_failure_is_one n P i j k l a b =
    let e = row_is_one n P i j k l a b in
    (e, neither_less j l (λ h. a.fails (subst (λ r. P r j) (sym e) (b.left j h))) (λ h. b.fails (subst (λ r. P r l) e (a.left l h))))
