-- Laws of whole numbers as a ring with an order.
use Rattle.std.proofs.Common.{◌<◌, ◌≡◌, ℕ, pos, ◌<ℤ◌, ℤ, ◌+ℤ◌, ◌*ℤ◌, neg_ℤ, ◌≤ℤ◌, arith, ap, ◌∙◌, ◌*◌, ◌+◌}
use Rattle.std.proofs.lemmas.Int.{ints, by_lt_z}
use Rattle.std.proofs.Math.Nat.{mul-le-mul_right}
use borrow.Author.Differences.{le_out, up, down, product_is, sum_is_lem, same_in, neg_is}

pub up-*ℤ : (a b : ℤ) → up (a *ℤ b) ≡ up a * up b + down a * down b
up-*ℤ a b = (product_is a b).0

pub down-*ℤ : (a b : ℤ) → down (a *ℤ b) ≡ up a * down b + down a * up b
down-*ℤ a b = (product_is a b).1

pub *ℤ_comm : (a b : ℤ) → a *ℤ b ≡ b *ℤ a
*ℤ_comm a b = omega (arith, ints)

pub *ℤ_assoc : (a b c : ℤ) → (a *ℤ b) *ℤ c ≡ a *ℤ (b *ℤ c)
*ℤ_assoc a b c = same_in _ _ (simp (up-*ℤ, down-*ℤ) (omega arith))

pub *ℤ_left_comm : (a b c : ℤ) → a *ℤ (b *ℤ c) ≡ b *ℤ (a *ℤ c)
*ℤ_left_comm a b c = same_in _ _ (simp (up-*ℤ, down-*ℤ) (omega arith))

pub *ℤ-+ℤ : (a b c : ℤ) → a *ℤ (b +ℤ c) ≡ a *ℤ b +ℤ a *ℤ c
*ℤ-+ℤ a b c =
    let s = sum_is_lem b c in
    let p = ap (λ x. up a * x) s in
    let q = ap (λ x. down a * x) s in
    omega (arith, ints, p, q)

pub +ℤ-*ℤ : (a b c : ℤ) → (a +ℤ b) *ℤ c ≡ a *ℤ c +ℤ b *ℤ c
+ℤ-*ℤ a b c = *ℤ_comm (a +ℤ b) c ∙ *ℤ-+ℤ c a b ∙ omega (arith, ints)

pub *ℤ-neg : (a b : ℤ) → a *ℤ neg_ℤ b ≡ neg_ℤ (a *ℤ b)
*ℤ-neg a b = let n = neg_is b in same_in _ _ (rw ((neg_is (a *ℤ b)).0, (neg_is (a *ℤ b)).1) (simp (up-*ℤ, down-*ℤ, n.0, n.1) (omega arith)))

pub neg-*ℤ : (a b : ℤ) → neg_ℤ a *ℤ b ≡ neg_ℤ (a *ℤ b)
neg-*ℤ a b = *ℤ_comm (neg_ℤ a) b ∙ *ℤ-neg b a ∙ ap neg_ℤ (*ℤ_comm b a)

pub ruleset ring = (*ℤ-+ℤ, +ℤ-*ℤ, *ℤ-neg, neg-*ℤ, *ℤ_assoc, *ℤ_left_comm, *ℤ_comm)

pub *ℤ_right_comm : (a b c : ℤ) → (a *ℤ b) *ℤ c ≡ (a *ℤ c) *ℤ b
*ℤ_right_comm a b c = simp ring

-- ---- order
pub mul_mono_pos : (a b : ℤ) (k : ℕ) → a ≤ℤ b → (a *ℤ pos k) ≤ℤ (b *ℤ pos k)
mul_mono_pos a b k h = let p = mul-le-mul_right k (le_out a b h) in omega (arith, ints)

pub less_from_product : (a b : ℤ) (k : ℕ) → (a *ℤ pos k) <ℤ (b *ℤ pos k) → a <ℤ b
less_from_product a b k h = by_lt_z a b (λ l. l) (λ l. let m = mul_mono_pos b a k l in omega (arith, ints))

pub le_from_product : (a b : ℤ) (k : ℕ) → 0 < k → (a *ℤ pos k) ≤ℤ (b *ℤ pos k) → a ≤ℤ b
le_from_product a b k some h = by_lt_z b a (λ l. let m = mul_mono_pos (b +ℤ pos 1) a k (omega (arith, ints)) in let e = +ℤ-*ℤ b (pos 1) (pos k) in absurd (omega (arith, ints))) (λ l. l)
