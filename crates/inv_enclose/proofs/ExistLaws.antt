-- A table of fractions of which each column of an inverse has a solution, has an inverse: the columns over one denominator.
use Rattle.std.proofs.Common.{◌≡◌, ◌≤◌, ◌<◌, ◌*◌, ◌∙◌, ℕ, zero, suc, ℤ, pos, ◌*ℤ◌, ap, subst, arith}
use Rattle.std.proofs.Math.Decide.{dec_lt}
use Rattle.std.proofs.Math.Nat.{mul-pos}
use Rattle.std.proofs.lemmas.Int.{ints}
use Rattle.stated_order.specs.Steps.{HasOne}
use Rattle.whole_numbers.specs.Sum.{sum_to, unit}
use Rattle.whole_numbers.proofs.Ring.{*ℤ_comm, *ℤ_left_comm}
use Rattle.whole_numbers.proofs.Sums.{sum_to_same, sum_to-*ℤ}
use Rattle.sys_model.specs.Systems.{System, Fractions, Solves, row_by}
use Rattle.sys_model.proofs.Exist.{with_last, at_last, at_other}
use Rattle.inv_enclose.specs.Inverses.{IsInverse}
use Rattle.inv_enclose.proofs.MatrixLaws.{unit_turned, unit_times, unit_system}

-- the products in the first m columns
record IsInverseTo (n m : ℕ) (Q E : System) : Type 0 where
  some : 0 < E.q
  products : (i j : ℕ) → i < n → j < m → sum_to n (λ k. Q.a i k *ℤ E.a k j) ≡ unit i (pos (Q.q * E.q)) j

-- E with one more column, over the product of the denominators
abbrev with_column : ℕ → System → Fractions → System
with_column m E v = record { q = E.q * v.s; a = λ i j. with_last m (λ l. pos v.s *ℤ E.a i l) (pos E.q *ℤ v.x i) j; c = λ i. pos 0 }

-- a row of products with a multiple
scaled_products : (n : ℕ) (a x : ℕ → ℤ) (d : ℤ) → sum_to n (λ k. a k *ℤ (d *ℤ x k)) ≡ d *ℤ sum_to n (λ k. a k *ℤ x k)
scaled_products n a x d = sum_to_same n (λ k. a k *ℤ (d *ℤ x k)) (λ k. d *ℤ (a k *ℤ x k)) (λ k l. *ℤ_left_comm (a k) d (x k)) ∙ sum_to-*ℤ n d (λ k. a k *ℤ x k)

earlier_product : (n m i j : ℕ) (Q E : System) (v : Fractions) → IsInverseTo n m Q E → i < n → j < m → sum_to n (λ k. Q.a i k *ℤ with_last m (λ l. pos v.s *ℤ E.a k l) (pos E.q *ℤ v.x k) j) ≡ unit i (pos (Q.q * (E.q * v.s))) j
earlier_product n m i j Q E v to row column =
    let whole : (Q.q * E.q) * v.s ≡ Q.q * (E.q * v.s) = omega arith in
    sum_to_same n (λ k. Q.a i k *ℤ with_last m (λ l. pos v.s *ℤ E.a k l) (pos E.q *ℤ v.x k) j) (λ k. Q.a i k *ℤ (pos v.s *ℤ E.a k j)) (λ k l. ap (λ z. Q.a i k *ℤ z) (at_other m (λ l. pos v.s *ℤ E.a k l) (pos E.q *ℤ v.x k) j column))
    ∙ scaled_products n (Q.a i) (λ k. E.a k j) (pos v.s)
    ∙ *ℤ_comm (pos v.s) (sum_to n (λ k. Q.a i k *ℤ E.a k j))
    ∙ ap (λ z. z *ℤ pos v.s) (to.products i j row column)
    ∙ unit_times i j (pos (Q.q * E.q)) (pos v.s)
    ∙ ap (λ z. unit i (pos z) j) whole

last_product : (n m i : ℕ) (Q E : System) (v : Fractions) → Solves n (unit_system Q m) v → i < n → sum_to n (λ k. Q.a i k *ℤ with_last m (λ l. pos v.s *ℤ E.a k l) (pos E.q *ℤ v.x k) m) ≡ unit i (pos (Q.q * (E.q * v.s))) m
last_product n m i Q E v solves row =
    let solved : row_by n Q.a i v.x ≡ unit m (pos Q.q) i *ℤ pos v.s = omega (arith, ints, solves.rows i row) in
    let whole : (Q.q * v.s) * E.q ≡ Q.q * (E.q * v.s) = omega arith in
    sum_to_same n (λ k. Q.a i k *ℤ with_last m (λ l. pos v.s *ℤ E.a k l) (pos E.q *ℤ v.x k) m) (λ k. Q.a i k *ℤ (pos E.q *ℤ v.x k)) (λ k l. ap (λ z. Q.a i k *ℤ z) (at_last m (λ l. pos v.s *ℤ E.a k l) (pos E.q *ℤ v.x k)))
    ∙ scaled_products n (Q.a i) v.x (pos E.q)
    ∙ *ℤ_comm (pos E.q) (row_by n Q.a i v.x)
    ∙ ap (λ z. z *ℤ pos E.q) (solved ∙ unit_times m i (pos Q.q) (pos v.s))
    ∙ unit_times m i (pos (Q.q * v.s)) (pos E.q)
    ∙ ap (λ z. unit m (pos z) i) whole
    ∙ unit_turned m i (pos (Q.q * (E.q * v.s)))

one_more : (n m : ℕ) (Q E : System) (v : Fractions) → IsInverseTo n m Q E → Solves n (unit_system Q m) v → IsInverseTo n (suc m) Q (with_column m E v)
one_more n m Q E v to solves = record {
  some = mul-pos to.some solves.some;
  products = λ i j row column. elim (dec_lt j m) [
    | yes l ↦ earlier_product n m i j Q E v to row l
    | no l ↦
        let e : m ≡ j = omega arith in
        subst (λ c. sum_to n (λ k. Q.a i k *ℤ with_last m (λ l. pos v.s *ℤ E.a k l) (pos E.q *ℤ v.x k) c) ≡ unit i (pos (Q.q * (E.q * v.s))) c) e (last_product n m i Q E v solves row)
  ];
}

columns_to : (n : ℕ) (Q : System) → ((c : ℕ) → c < n → (v : Fractions) × Solves n (unit_system Q c) v) → (m : ℕ) → m ≤ n → HasOne (IsInverseTo n m Q)
columns_to n Q columns zero few = (record { q = 1; a = λ i j. pos 0; c = λ i. pos 0 }, record { some = omega arith; products = λ i j row column. absurd (omega arith) })
columns_to n Q columns (suc m) few =
    let before = columns_to n Q columns m (omega arith) in
    let last = columns m (omega arith) in
    (with_column m before.0 last.0, one_more n m Q before.0 last.0 before.1 last.1)

pub inverse_exists : (n : ℕ) (Q : System) → 0 < Q.q → ((c : ℕ) → c < n → (v : Fractions) × Solves n (unit_system Q c) v) → HasOne (IsInverse n Q)
inverse_exists n Q some columns =
    let all = columns_to n Q columns n (omega arith) in
    (all.0, record { plain_some = some; some = all.1.some; products = all.1.products })
