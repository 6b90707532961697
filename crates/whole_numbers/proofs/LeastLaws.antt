-- The least number that passes a test: it passes where one below the end does, and none below it does.
use Rattle.std.proofs.Common.{◌≡◌, ℕ, zero, suc, Bool, true, false, ◌<◌, ◌≤◌, arith, refl, sym, ◌∙◌, subst, ◌⊎◌, inl, inr}
use Rattle.std.proofs.Math.Decide.{dec_lt}
use Rattle.std.proofs.lemmas.Bool.Decides.{nat_tests}
use Rattle.std.proofs.lemmas.Bool.{false≢true}
use Rattle.whole_numbers.specs.Least.{least_below, least_of_more}

-- ---- one step
more_within : (n : ℕ) (passes : ℕ → Bool) (found : ℕ) → found < n → least_of_more n passes found ≡ found
more_within n passes found h = grind (arith, nat_tests)

more_here : (n : ℕ) (passes : ℕ → Bool) (found : ℕ) → n ≤ found → passes n ≡ true → least_of_more n passes found ≡ n
more_here n passes found h p = grind (arith, nat_tests)

more_none : (n : ℕ) (passes : ℕ → Bool) (found : ℕ) → n ≤ found → passes n ≡ false → least_of_more n passes found ≡ suc n
more_none n passes found h p = grind (arith, nat_tests)

either : (b : Bool) → (b ≡ true) ⊎ (b ≡ false)
either true = inl refl
either false = inr refl

-- what is known of the least number below n that passes
record IsLeast (n : ℕ) (passes : ℕ → Bool) (k : ℕ) : Type 0 where
  within : k ≤ n
  passed : k < n → passes k ≡ true
  first : (j : ℕ) → j < k → passes j ≡ false

-- from n on: where k is n, the test at n decides
least_at : (n : ℕ) (passes : ℕ → Bool) (k : ℕ) → IsLeast n passes k → n ≤ k → IsLeast (suc n) passes (least_of_more n passes k)
least_at n passes k r l =
    elim (either (passes n)) [
      | inl p ↦ subst (λ m. IsLeast (suc n) passes m) (sym (more_here n passes k l p)) (record { within = omega arith; passed = λ h. p; first = λ j h. r.first j (omega arith) })
      | inr p ↦
          subst (λ m. IsLeast (suc n) passes m) (sym (more_none n passes k l p)) (record {
            within = omega arith;
            passed = λ h. absurd (omega arith);
            first = λ j h. elim (dec_lt j n) [ yes b ↦ r.first j (omega arith) | no b ↦ let e : n ≡ j = omega arith in subst (λ m. passes m ≡ false) e p ];
          })
    ]

is_least : (n : ℕ) (passes : ℕ → Bool) → IsLeast n passes (least_below n passes)
unfolding least_below
is_least zero passes = record { within = omega arith; passed = λ h. absurd (omega arith); first = λ j h. absurd (omega arith) }
is_least (suc n) passes =
    let k = least_below n passes in
    let r = is_least n passes in
    elim (dec_lt k n) [
      | yes l ↦ subst (λ m. IsLeast (suc n) passes m) (sym (more_within n passes k l)) (record { within = omega arith; passed = λ h. r.passed l; first = r.first })
      | no l ↦ least_at n passes k r (omega arith)
    ]

-- ---- the laws
pub least_below_le : (n : ℕ) (passes : ℕ → Bool) → least_below n passes ≤ n
least_below_le n passes = (is_least n passes).within

pub least_below_passes : (n : ℕ) (passes : ℕ → Bool) → least_below n passes < n → passes (least_below n passes) ≡ true
least_below_passes n passes h = (is_least n passes).passed h

-- none below it passes
pub least_below_first : (n : ℕ) (passes : ℕ → Bool) (k : ℕ) → k < least_below n passes → passes k ≡ false
least_below_first n passes k h = (is_least n passes).first k h

-- it is at most each number that passes
pub least_below_most : (n : ℕ) (passes : ℕ → Bool) (k : ℕ) → passes k ≡ true → least_below n passes ≤ k
least_below_most n passes k p =
    elim (dec_lt k (least_below n passes)) [
      | yes l ↦ absurd (false≢true (sym (least_below_first n passes k l) ∙ p))
      | no l ↦ omega arith
    ]

-- where one below n passes, it passes
pub least_below_some : (n : ℕ) (passes : ℕ → Bool) (k : ℕ) → k < n → passes k ≡ true → passes (least_below n passes) ≡ true
least_below_some n passes k h p = least_below_passes n passes (omega (arith, least_below_most n passes k p))

-- a number below n that passes, with none below it, is the least
pub least_below_is : (n : ℕ) (passes : ℕ → Bool) (k : ℕ) → k < n → passes k ≡ true → ((j : ℕ) → j < k → passes j ≡ false) → least_below n passes ≡ k
least_below_is n passes k h p none =
    elim (dec_lt (least_below n passes) k) [
      | yes l ↦ absurd (false≢true (sym (none (least_below n passes) l) ∙ least_below_some n passes k h p))
      | no l ↦ omega (arith, least_below_most n passes k p)
    ]

-- where none below n passes, it is n
pub least_below_none : (n : ℕ) (passes : ℕ → Bool) → ((j : ℕ) → j < n → passes j ≡ false) → least_below n passes ≡ n
least_below_none n passes none =
    elim (dec_lt (least_below n passes) n) [
      | yes l ↦ absurd (false≢true (sym (none (least_below n passes) l) ∙ least_below_passes n passes l))
      | no l ↦ omega (arith, least_below_le n passes)
    ]
