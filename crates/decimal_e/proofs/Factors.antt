-- Twos and fives in sizes, and when a product is no multiple of 10.
use Rattle.std.proofs.Common.{◌≡◌, ◌≢◌, ℕ, ◌+◌, ◌*◌, ◌/◌, ◌%◌, ◌≤◌, ◌<◌, ◌^◌, ◌⊎◌, inl, inr, ap, sym, ◌∙◌, arith}
use Rattle.std.proofs.lemmas.Nat.{pow-add, mul-pow, mul-mod, mul-mod_first}
use Rattle.std.proofs.Math.Nat.{mul-le-mul_right, pow-le-pow_right}
use Rattle.std.proofs.Math.Decide.{dec_le, ℕ_discrete}

-- ---- one factor taken out more
pub halved : (t n s : ℕ) → t * 2 ^ n ≡ s → t % 2 ≡ 0 → (t / 2) * 2 ^ (n + 1) ≡ s
halved t n s e h =
    let p = pow-add 2 n 1 in
    let m : t * 2 ^ n ≡ t / 2 * 2 * 2 ^ n = ap (λ x. x * 2 ^ n) (omega arith) in
    omega (arith, p, m, ap (λ x. (t / 2) * x) p)

pub fifth : (t n s : ℕ) → t * 5 ^ n ≡ s → t % 5 ≡ 0 → (t / 5) * 5 ^ (n + 1) ≡ s
fifth t n s e h =
    let p = pow-add 5 n 1 in
    let m : t * 5 ^ n ≡ t / 5 * 5 * 5 ^ n = ap (λ x. x * 5 ^ n) (omega arith) in
    omega (arith, p, m, ap (λ x. (t / 5) * x) p)

pub few_twos : (t n s : ℕ) → 0 < t → t * 2 ^ n ≡ s → s < 10 ^ 36 → n ≤ 120
few_twos t n s some e h =
    elim (dec_le n 120) [
      | yes l ↦ l
      | no g ↦
          let l : 120 ≤ n = omega arith in
          let p = pow-le-pow_right {n = 2} (omega arith) l in
          let m = mul-le-mul_right (2 ^ n) some in
          absurd (omega (arith, p, m))
    ]

-- ---- multiples
even_times : (x y : ℕ) → x % 2 ≡ 0 → (x * y) % 2 ≡ 0
even_times x y h = sym (mul-mod_first x y 2) ∙ ap (λ r. (r * y) % 2) h ∙ omega arith

five_times : (x y : ℕ) → x % 5 ≡ 0 → (x * y) % 5 ≡ 0
five_times x y h = sym (mul-mod_first x y 5) ∙ ap (λ r. (r * y) % 5) h ∙ omega arith

ten_times : (x y : ℕ) → x % 10 ≡ 0 → (x * y) % 10 ≡ 0
ten_times x y h = sym (mul-mod_first x y 10) ∙ ap (λ r. (r * y) % 10) h ∙ omega arith

even_factor : (x y : ℕ) → (x * y) % 2 ≡ 0 → (x % 2 ≡ 0) ⊎ (y % 2 ≡ 0)
even_factor x y h =
    let e : (x % 2 * (y % 2)) % 2 ≡ 0 = sym (mul-mod x y 2) ∙ h in
    elim (ℕ_discrete (x % 2) 0) [
      | yes z ↦ inl z
      | no n ↦
          let o : x % 2 ≡ 1 = omega arith in
          inr (omega (arith, rw o at e))
    ]

-- a remainder of 5 that is not 0
four : (r : ℕ) → r < 5 → r ≢ 0 → ((r ≡ 1) ⊎ (r ≡ 2)) ⊎ ((r ≡ 3) ⊎ (r ≡ 4))
four r l n =
    elim (dec_le r 2) [
      | yes a ↦ elim (dec_le r 1) [ yes b ↦ inl (inl (omega arith)) | no b ↦ inl (inr (omega arith)) ]
      | no a ↦ elim (dec_le r 3) [ yes b ↦ inr (inl (omega arith)) | no b ↦ inr (inr (omega arith)) ]
    ]

five_left : (r y : ℕ) → r < 5 → r ≢ 0 → (r * (y % 5)) % 5 ≡ 0 → y % 5 ≡ 0
five_left r y l n h =
    elim (four r l n) [
      | inl (inl e) ↦ omega (arith, rw e at h)
      | inl (inr e) ↦ omega (arith, rw e at h)
      | inr (inl e) ↦ omega (arith, rw e at h)
      | inr (inr e) ↦ omega (arith, rw e at h)
    ]

five_factor : (x y : ℕ) → (x * y) % 5 ≡ 0 → (x % 5 ≡ 0) ⊎ (y % 5 ≡ 0)
five_factor x y h =
    let e : (x % 5 * (y % 5)) % 5 ≡ 0 = sym (mul-mod x y 5) ∙ h in
    elim (ℕ_discrete (x % 5) 0) [
      | yes z ↦ inl z
      | no n ↦ inr (five_left (x % 5) y (omega arith) n e)
    ]

-- ---- twos of one size and fives of the other taken out, then fives of the one and twos of the other
pub record Parts (left right a b n c d m : ℕ) : Type 0 where
  pub twos_left : a * 2 ^ n ≡ left
  pub fives_right : b * 5 ^ n ≡ right
  pub end : a % 2 ≡ 0 → b % 5 ≢ 0
  pub twos_right : d * 2 ^ m ≡ b
  pub fives_left : c * 5 ^ m ≡ a
  pub end_again : d % 2 ≡ 0 → c % 5 ≢ 0

left_whole : (left right a b n c d m : ℕ) → Parts left right a b n c d m → c * (5 ^ m * 2 ^ n) ≡ left
left_whole left right a b n c d m p =
    let e : c * (5 ^ m * 2 ^ n) ≡ c * 5 ^ m * 2 ^ n = omega arith in
    e ∙ ap (λ x. x * 2 ^ n) p.fives_left ∙ p.twos_left

right_whole : (left right a b n c d m : ℕ) → Parts left right a b n c d m → d * (2 ^ m * 5 ^ n) ≡ right
right_whole left right a b n c d m p =
    let e : d * (2 ^ m * 5 ^ n) ≡ d * 2 ^ m * 5 ^ n = omega arith in
    e ∙ ap (λ x. x * 5 ^ n) p.twos_right ∙ p.fives_right

regrouped : (c d s t u v : ℕ) → c * d * (s * t * (u * v)) ≡ c * (v * s) * (d * (u * t))
regrouped c d s t u v = omega arith

pub parts_value : (left right a b n c d m : ℕ) → Parts left right a b n c d m → c * d * 10 ^ (n + m) ≡ left * right
parts_value left right a b n c d m p =
    let s : 10 ^ (n + m) ≡ 2 ^ n * 5 ^ n * (2 ^ m * 5 ^ m) = pow-add 10 n m ∙ ap (λ x. x * 10 ^ m) (mul-pow 2 5 n) ∙ ap (λ x. 2 ^ n * 5 ^ n * x) (mul-pow 2 5 m) in
    ap (λ x. c * d * x) s ∙ regrouped c d (2 ^ n) (5 ^ n) (2 ^ m) (5 ^ m) ∙ ap (λ x. x * (d * (2 ^ m * 5 ^ n))) (left_whole left right a b n c d m p) ∙ ap (λ x. left * x) (right_whole left right a b n c d m p)

pub parts_end : (left right a b n c d m : ℕ) → Parts left right a b n c d m → left % 10 ≢ 0 → right % 10 ≢ 0 → (c * d) % 10 ≢ 0
parts_end left right a b n c d m p l r h =
    elim (even_factor c d (omega arith)) [
      | inl x ↦ elim (five_factor c d (omega arith)) [
        | inl y ↦ l (ap (λ z. z % 10) (sym (left_whole left right a b n c d m p)) ∙ ten_times c (5 ^ m * 2 ^ n) (omega arith))
        | inr y ↦ p.end (ap (λ z. z % 2) (sym p.fives_left) ∙ even_times c (5 ^ m) x) (ap (λ z. z % 5) (sym p.twos_right) ∙ five_times d (2 ^ m) y)
      ]
      | inr x ↦ elim (five_factor c d (omega arith)) [
        | inl y ↦ p.end_again x y
        | inr y ↦ r (ap (λ z. z % 10) (sym (right_whole left right a b n c d m p)) ∙ ten_times d (2 ^ m * 5 ^ n) (omega arith))
      ]
    ]
