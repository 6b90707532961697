-- A vector is small where a dominant table makes a small vector of it; and the defect that a certificate takes.
use Rattle.std.proofs.Common.{◌≡◌, ℕ, pos, ℤ, ◌+ℤ◌, ◌*ℤ◌, arith, refl, sym, ap, ◌∙◌, ◌≤◌, ◌<◌, ◌*◌, ◌+◌, ◌^◌, unsigned_abs, subst}
use Rattle.std.proofs.Math.IntN.{◌-ℤ◌}
use Rattle.std.proofs.Math.Decide.{dec_lt}
use Rattle.std.proofs.Math.Nat.{mul-le-mul_right}
use Rattle.std.proofs.lemmas.Int.{ints, unsigned_abs-mul}
use Rattle.whole_numbers.specs.Sum.{sum_to, total_to, unit}
use Rattle.whole_numbers.proofs.Ring.{ring}
use Rattle.whole_numbers.proofs.Sums.{sum_to_same, sum_to-+ℤ, sum_to_unit, unit_other, abs-sum_to, total_to_same}
use Rattle.sys_model.specs.Systems.{row_by}
use Rattle.sys_model.proofs.Parts.{product_at, defect_at}
use Rattle.sys_model.proofs.Law.{greatest, row_le, split_row}
use Rattle.enclosures.specs.Pilots.{PilotTable, pilot_entry}
use Rattle.chol_guess.specs.Pilots.{IsPilot}
use Rattle.dominant_laws.proofs.Conditions.{IsGreat}
use Rattle.dominant_laws.proofs.Tails.{one_term}
use Rattle.dominant_laws.proofs.TableByPilot.{defect_small}

-- ---- solving
-- at the row where v is greatest
greatest_small : (n : ℕ) (m : ℕ → ℕ → ℤ) (v : ℕ → ℤ) (K i : ℕ) → IsGreat n m → i < n → ((j : ℕ) → j < n → unsigned_abs (v j) ≤ unsigned_abs (v i)) → unsigned_abs (row_by n m i v) ≤ K → 3 * (2 ^ 53 * unsigned_abs (v i)) ≤ 4 * K
greatest_small n m v K i great row top small =
    let one = one_term n (λ j. m i j *ℤ v j) i row in
    let same = total_to_same n (λ j. unsigned_abs (m i j *ℤ v j)) (λ j. unsigned_abs (m i j) * unsigned_abs (v j)) (λ j l. unsigned_abs-mul (m i j) (v j)) in
    let all = row_le n (λ j. unsigned_abs (m i j)) (λ j. unsigned_abs (v j)) (unsigned_abs (v i)) top in
    let here = unsigned_abs-mul (m i i) (v i) in
    let diagonal = great.great i row in
    let rows : 4 * total_to n (λ j. unsigned_abs (m i j)) ≤ 5 * unsigned_abs (m i i) = omega (arith, ints, great.rows i row, diagonal) in
    let scaled = mul-le-mul_right (unsigned_abs (v i)) rows in
    let least : 2 ^ 53 ≤ unsigned_abs (m i i) = omega (arith, ints, diagonal) in
    let far = mul-le-mul_right (unsigned_abs (v i)) least in
    omega (arith, one, same, all, here, scaled, far, small)

pub solved_small : (n : ℕ) (m : ℕ → ℕ → ℤ) (v : ℕ → ℤ) (K : ℕ) → IsGreat n m → ((i : ℕ) → i < n → unsigned_abs (row_by n m i v) ≤ K) → (j : ℕ) → j < n → 3 * (2 ^ 53 * unsigned_abs (v j)) ≤ 4 * K
solved_small n m v K great small j row =
    let top = greatest n (λ k. unsigned_abs (v k)) (omega arith) in
    let t = greatest_small n m v K top.0 great top.1 top.2 (small top.0 top.1) in
    omega (arith, t, top.2 j row)

-- ---- the pilot by the table
unit_turn : (i j : ℕ) (a : ℤ) → unit i a j ≡ unit j a i
unit_turn i j a =
    elim (dec_lt i j) [
      | yes l ↦ unit_other i a j (omega arith) ∙ sym (unit_other j a i (omega arith))
      | no l ↦ elim (dec_lt j i) [
        | yes q ↦ unit_other i a j (omega arith) ∙ sym (unit_other j a i (omega arith))
        | no q ↦ let e : i ≡ j = omega arith in subst (λ k. unit i a k ≡ unit k a i) e refl
      ]
    ]

-- what the table makes of column j of the other defect
defect_by : (n : ℕ) (P : ℤ) (m r : ℕ → ℕ → ℤ) (i j : ℕ) → i < n → j < n → row_by n m i (λ k. defect_at n P r m k j) ≡ sum_to n (λ l. defect_at n P m r i l *ℤ m l j)
defect_by n P m r i j row column =
    let split = split_row n P m r i (λ l. m l j) row in
    let E = λ (k : ℕ). defect_at n P r m k j in
    let R = λ (k : ℕ). product_at n r m k j in
    let both = sum_to_same n (λ k. unit j P k *ℤ m i k) (λ k. m i k *ℤ E k +ℤ m i k *ℤ R k) (λ k l. unit_parts P i j k) ∙ sum_to-+ℤ n (λ k. m i k *ℤ E k) (λ k. m i k *ℤ R k) in
    let here = sum_to_unit n j P (m i) column in
    omega (arith, ints, split, both, here)
  where
    unit_parts : (P : ℤ) (i j k : ℕ) → unit j P k *ℤ m i k ≡ m i k *ℤ defect_at n P r m k j +ℤ m i k *ℤ product_at n r m k j
    unit_parts P i j k = parts (unit j P k) (unit k P j) (m i k) (product_at n r m k j) (unit_turn j k P)
      where
        parts : (a b c d : ℤ) → a ≡ b → a *ℤ c ≡ c *ℤ (b -ℤ d) +ℤ c *ℤ d
        parts a b c d e = rw e (simp ring (omega (arith, ints)))

column_total : (n : ℕ) (m : ℕ → ℕ → ℤ) (j : ℕ) → IsGreat n m → j < n → total_to n (λ l. unsigned_abs (m l j)) ≤ 5 * 2 ^ 59
column_total n m j great column =
    let same = total_to_same n (λ l. unsigned_abs (m l j)) (λ l. unsigned_abs (m j l)) (λ l q. ap unsigned_abs (great.sym l j q column)) in
    omega (arith, ints, same, great.rows j column, great.small j j column column)

pub other_defect_small : (n : ℕ) (m : ℕ → ℕ → ℤ) (p : PilotTable) (k j : ℕ) → IsGreat n m → IsPilot n m p → k < n → j < n → unsigned_abs (defect_at n (pos (2 ^ (p.g + 60))) (pilot_entry p) m k j) ≤ 2 ^ 81
other_defect_small n m p k j great a row column =
    let P = pos (2 ^ (p.g + 60)) in
    let r = pilot_entry p in
    let small = λ (i : ℕ) (l : i < n).
    let e = defect_by n P m r i j l column in
    let s = abs-sum_to n (λ q. defect_at n P m r i q *ℤ m q j) in
    let t = total_to_same n (λ q. unsigned_abs (defect_at n P m r i q *ℤ m q j)) (λ q. unsigned_abs (m q j) * unsigned_abs (defect_at n P m r i q)) (λ q b. unsigned_abs-mul (defect_at n P m r i q) (m q j) ∙ omega arith) in
    let b = row_le n (λ q. unsigned_abs (m q j)) (λ q. unsigned_abs (defect_at n P m r i q)) (2 ^ 72) (λ q b. defect_small n m p i q great a l b) in
    let bound : unsigned_abs (row_by n m i (λ q. defect_at n P r m q j)) ≤ 5 * 2 ^ 131 = omega (arith, ap unsigned_abs e, s, t, b, column_total n m j great column) in
    bound in
    let t = solved_small n m (λ q. defect_at n P r m q j) (5 * 2 ^ 131) great small k row in
    omega (arith, t)
