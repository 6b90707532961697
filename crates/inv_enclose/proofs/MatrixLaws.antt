-- Inverses of symmetric tables of fractions are symmetric, and their columns solve the systems whose right sides have a single one.
use Rattle.std.proofs.Common.{◌≡◌, ◌<◌, ◌*◌, ◌∙◌, ℕ, ℤ, pos, ◌*ℤ◌, cond, eqb, true, false, refl, sym, ap, subst, arith}
use Rattle.std.proofs.Math.IntN.{zero-*ℤ}
use Rattle.std.proofs.Math.Decide.{ℕ_discrete}
use Rattle.std.proofs.Math.Nat.{mul-pos}
use Rattle.std.proofs.lemmas.Int.{ints}
use Rattle.whole_numbers.specs.Sum.{sum_to, unit}
use Rattle.whole_numbers.proofs.EqualFractions.{same_from_product}
use Rattle.whole_numbers.proofs.Ring.{ring, *ℤ_comm}
use Rattle.whole_numbers.proofs.Sums.{sum_to_same, sum_to-*ℤ, sum_to_swap, sum_to_unit, unit_other}
use Rattle.sys_model.specs.Systems.{System, Fractions, Solves}
use Rattle.inv_enclose.specs.Inverses.{IsSymmetric, IsInverse}

-- ---- units
pub unit_turned : (i j : ℕ) (a : ℤ) → unit i a j ≡ unit j a i
unit_turned i j a =
    elim (ℕ_discrete j i) [
      | yes e ↦ subst (λ k. unit i a k ≡ unit k a i) (sym e) refl
      | no d ↦ unit_other i a j d ∙ sym (unit_other j a i (λ e. d (sym e)))
    ]

pub unit_times : (i j : ℕ) (a b : ℤ) → unit i a j *ℤ b ≡ unit i (a *ℤ b) j
unit_times i j a b = elim (eqb j i) as (λ t. cond t a (pos 0) *ℤ b ≡ cond t (a *ℤ b) (pos 0)) [ true ↦ refl | false ↦ zero-*ℤ b ]

-- ---- inverses of symmetric tables
module _ (n : ℕ) (Q E : System) (symmetric : IsSymmetric n Q) (inverse : IsInverse n Q E) (i j : ℕ) (row : i < n) (column : j < n) where
  abbrev whole : ℤ
  whole = pos (Q.q * E.q)

  abbrev term : ℕ → ℕ → ℤ
  term k l = E.a k i *ℤ (Q.a k l *ℤ E.a l j)

  by_columns : sum_to n (λ k. sum_to n (λ l. term k l)) ≡ whole *ℤ E.a j i
  by_columns =
      sum_to_same n (λ k. sum_to n (λ l. term k l)) (λ k. unit j whole k *ℤ E.a k i)
      (λ k h. sum_to-*ℤ n (E.a k i) (λ l. Q.a k l *ℤ E.a l j) ∙ ap (λ z. E.a k i *ℤ z) (inverse.products k j h column ∙ unit_turned k j whole) ∙ *ℤ_comm (E.a k i) (unit j whole k))
      ∙ sum_to_unit n j whole (λ k. E.a k i) column

  turned : (k l : ℕ) → k < n → l < n → term k l ≡ E.a l j *ℤ (Q.a l k *ℤ E.a k i)
  turned k l h g = ap (λ z. E.a k i *ℤ (z *ℤ E.a l j)) (symmetric k l h g) ∙ simp ring

  by_rows : sum_to n (λ l. sum_to n (λ k. term k l)) ≡ whole *ℤ E.a i j
  by_rows =
      sum_to_same n (λ l. sum_to n (λ k. term k l)) (λ l. unit i whole l *ℤ E.a l j)
      (λ l g. sum_to_same n (λ k. term k l) (λ k. E.a l j *ℤ (Q.a l k *ℤ E.a k i)) (λ k h. turned k l h g)
      ∙ sum_to-*ℤ n (E.a l j) (λ k. Q.a l k *ℤ E.a k i)
      ∙ ap (λ z. E.a l j *ℤ z) (inverse.products l i g row ∙ unit_turned l i whole)
      ∙ *ℤ_comm (E.a l j) (unit i whole l))
      ∙ sum_to_unit n i whole (λ l. E.a l j) row

  pub inverse_symmetric : E.a j i ≡ E.a i j
  inverse_symmetric =
      same_from_product (E.a j i) (E.a i j) (Q.q * E.q) (mul-pos inverse.plain_some inverse.some)
      (*ℤ_comm (E.a j i) whole ∙ sym by_columns ∙ sum_to_swap n n term ∙ by_rows ∙ *ℤ_comm whole (E.a i j))

-- ---- columns of inverses
-- the system of Q whose right side is 1 in row c
abbrev pub unit_system : System → ℕ → System
unit_system Q c = record { q = Q.q; a = Q.a; c = unit c (pos Q.q) }

-- column c of a table of fractions
abbrev pub column_in : System → ℕ → Fractions
column_in E c = record { s = E.q; x = λ i. E.a i c }

pub column_solves : (n : ℕ) (Q E : System) (c : ℕ) → c < n → IsInverse n Q E → Solves n (unit_system Q c) (column_in E c)
column_solves n Q E c within inverse = record {
  some = inverse.some;
  rows = λ i row.
      let product = inverse.products i c row within ∙ unit_turned i c (pos (Q.q * E.q)) in
      let right = unit_times c i (pos Q.q) (pos E.q) in
      omega (arith, ints, product, right);
}
