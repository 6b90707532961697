-- Lists and functions that agree, and lists with one more member.
use Rattle.std.proofs.Common.{◌≡◌, ◌<◌, ◌+◌, ◌++◌, ◌∷◌, [], ◌∙◌, ℕ, ℤ, ◌*ℤ◌, ◌-ℤ◌, List, length, get_or, arith, refl, sym, ap, subst}
use Rattle.std.proofs.Math.Decide.{dec_lt}
use Rattle.std.proofs.lemmas.List.{ext_get_or, get_or_push, get_or_append_left}
use Rattle.whole_numbers.specs.Lists.{SameBelow}

pub same_below : (n : ℕ) (u : ℕ → ℤ) → SameBelow n u u
same_below n u k h = refl

pub minus_same : (a b x y : ℤ) → a ≡ b → x ≡ y → a -ℤ x ≡ b -ℤ y
minus_same a b x y e d = cc

pub product_same : (a b x y : ℤ) → a ≡ b → x ≡ y → a *ℤ x ≡ b *ℤ y
product_same a b x y e d = cc

-- ---- one more number at the end of a list
pub each_push : {X : Type 0} (P : ℕ → X → Type 0) (xs : List X) (n : ℕ) (x d : X) → length xs ≡ n → ((k : ℕ) → k < n → P k (get_or xs k d)) → P n x → (k : ℕ) → k < n + 1 → P k (get_or (xs ++ x ∷ []) k d)
each_push P xs n x d len before last k h =
    elim (dec_lt k n) [
      | yes p ↦ subst (P k) (sym (get_or_append_left xs (x ∷ []) d k (omega arith))) (before k p)
      | no p ↦
          let e : n ≡ k = omega arith in
          let f : k ≡ length xs = omega arith in
          subst (P k) (sym (ap (λ m. get_or (xs ++ x ∷ []) m d) f ∙ get_or_push xs x d (length xs) refl)) (subst (λ m. P m x) e last)
    ]

-- ---- two lists of n members with equal members are equal
pub equal_lists : {X : Type 0} (d : X) (n : ℕ) (xs ys : List X) → length xs ≡ n → length ys ≡ n → ((k : ℕ) → k < n → get_or xs k d ≡ get_or ys k d) → xs ≡ ys
equal_lists d n xs ys one other same = ext_get_or d xs ys (one ∙ sym other) (λ k l. same k (subst (λ m. k < m) one l))
