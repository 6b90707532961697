-- The refinements of the start vector of a dominant table stay small.
use Rattle.std.proofs.Common.{◌≡◌, ℕ, zero, suc, pos, ℤ, ◌+ℤ◌, ◌*ℤ◌, arith, sym, ap, ◌∙◌, ◌≤◌, ◌<◌, ◌*◌, ◌+◌, ◌-◌, ◌^◌, unsigned_abs}
use Rattle.std.proofs.Math.IntN.{◌-ℤ◌, *ℤ-zero}
use Rattle.std.proofs.Math.Decide.{dec_lt}
use Rattle.std.proofs.Math.Nat.{mul-le-mul_left, mul-le-mul_right, le_of_mul-le-mul_left, pow-le-pow_right}
use Rattle.std.proofs.lemmas.Int.{ints, unsigned_abs-mul}
use Rattle.std.proofs.lemmas.Nat.{pow-add}
use Rattle.whole_numbers.specs.Sum.{sum_to, total_to}
use Rattle.whole_numbers.specs.Quotients.{floor_over}
use Rattle.whole_numbers.proofs.Ring.{ring, *ℤ-+ℤ}
use Rattle.whole_numbers.proofs.Sizes.{floor_small}
use Rattle.whole_numbers.proofs.Sums.{sum_to_same, sum_to-+ℤ, sum_to-zero, abs-dot, total_to-bound}
use Rattle.whole_numbers.proofs.IntervalLaws.{floor_over_le, lt-floor_over, two_pow_above}
use Rattle.sys_model.specs.Systems.{Table, row_by}
use Rattle.sys_model.proofs.Parts.{defect_at}
use Rattle.sys_model.proofs.Law.{split_row}
use Rattle.whole_numbers.specs.Intervals.{midpoint}
use Rattle.enclosures.specs.Pilots.{PilotTable, pilot_entry}
use Rattle.chol_guess.specs.Pilots.{IsPilot}
use Rattle.stated_order.specs.First.{IsLeast}
use Rattle.enclosure_check.specs.Vectors.{midpoint_residual, AllFitAfter, IsRefinement, AfterRefinements, IsVectorRange}
use Rattle.enclosure_check.proofs.VectorLaws.{middle_small}
use Rattle.dominant_laws.proofs.Conditions.{IsGreat, IsDominantTable}
use Rattle.dominant_laws.proofs.TableByPilot.{defect_small, split_scaled, turned}
use Rattle.dominant_laws.proofs.ColumnBounds.{scale_great}
use Rattle.dominant_laws.proofs.PilotByTable.{solved_small}

-- ---- the powers of a refinement
-- P is 2^(g + 60), and W is what a shift by h leaves of it
pub record ArePowers (h P W : ℕ) : Type 0 where
  pub shift : h ≤ 34
  pub whole : 2 ^ 100 ≤ P
  pub left : 2 ^ 66 ≤ W
  pub power : 2 ^ h ≤ 2 ^ 34
  pub split : P ≡ W * 2 ^ h

are_powers : (g h : ℕ) → 40 ≤ g → h ≤ 34 → ArePowers h (2 ^ (g + 60)) (2 ^ (g + 60 - h))
are_powers g h great small = record {
  shift = small;
  whole = pow-le-pow_right {n = 2} (omega arith) {i = 100} {j = g + 60} (omega arith);
  left = pow-le-pow_right {n = 2} (omega arith) {i = 66} {j = g + 60 - h} (omega arith);
  power = pow-le-pow_right {n = 2} (omega arith) small;
  split = let e : g + 60 ≡ (g + 60 - h) + h = omega arith in ap (λ z. 2 ^ z) e ∙ pow-add 2 (g + 60 - h) h;
}

refinement_shift : (n : ℕ) (q : ℕ → ℤ) (h : ℕ) → ((i : ℕ) → i < n → unsigned_abs (q i) ≤ 2 ^ 100) → IsLeast (AllFitAfter n q) h → h ≤ 34
refinement_shift n q h small least =
    elim (dec_lt 34 h) [
      | yes l ↦ absurd (least.before 34 l (λ i row. floor_small (q i) (2 ^ 34) (2 ^ 66) (omega arith) (omega (arith, small i row))))
      | no l ↦ omega arith
    ]

-- ---- what the pilot makes of small numbers
-- the table makes P b of it, but for the defect by b
made_by : (n : ℕ) (P : ℤ) (m r : ℕ → ℕ → ℤ) (b : ℕ → ℤ) (i : ℕ) → i < n → row_by n m i (λ k. row_by n r k b) ≡ P *ℤ b i -ℤ sum_to n (λ j. defect_at n P m r i j *ℤ b j)
made_by n P m r b i row = omega (arith, ints, split_row n P m r i b row)

defect_by_small : (n : ℕ) (m : ℕ → ℕ → ℤ) (p : PilotTable) (b : ℕ → ℤ) (i : ℕ) → IsGreat n m → IsPilot n m p → ((k : ℕ) → k < n → unsigned_abs (b k) ≤ 2 ^ 66) → i < n
    → unsigned_abs (sum_to n (λ j. defect_at n (pos (2 ^ (p.g + 60))) m (pilot_entry p) i j *ℤ b j)) ≤ 1000 * 2 ^ 138
defect_by_small n m p b i great a small row =
    let d = abs-dot n (λ j. defect_at n (pos (2 ^ (p.g + 60))) m (pilot_entry p) i j) b (2 ^ 72) (2 ^ 66) (λ j l. defect_small n m p i j great a row l) small in
    omega (arith, d, great.few)

made_small : (n : ℕ) (m : ℕ → ℕ → ℤ) (p : PilotTable) (b : ℕ → ℤ) (h W j : ℕ) → IsGreat n m → IsPilot n m p → ArePowers h (2 ^ (p.g + 60)) W → ((k : ℕ) → k < n → unsigned_abs (b k) ≤ 2 ^ 66) → j < n
    → unsigned_abs (row_by n (pilot_entry p) j b) ≤ (2 ^ 15 * 2 ^ h) * W
made_small n m p b h W j great a powers small row =
    let P = 2 ^ (p.g + 60) in
    let v = λ (k : ℕ). row_by n (pilot_entry p) k b in
    let all = λ (i : ℕ) (l : i < n).
    let e = made_by n (pos P) m (pilot_entry p) b i l in
    let s = unsigned_abs-mul (pos P) (b i) in
    let t = mul-le-mul_left P (small i l) in
    let bound : unsigned_abs (row_by n m i v) ≤ P * 2 ^ 67 = omega (arith, ints, e, s, t, defect_by_small n m p b i great a small l, powers.whole) in
    bound in
    let t = solved_small n m v (P * 2 ^ 67) great all j row in
    omega (arith, t, powers.split)

-- ---- one refinement
-- what is left of one number, and of a sum
left_parts : (W two q b : ℤ) → W *ℤ q ≡ (W *ℤ two) *ℤ b +ℤ W *ℤ (q -ℤ b *ℤ two)
left_parts W two q b = simp ring (omega (arith, ints))

left_step : (P W two : ℕ) (q b : ℤ) → P ≡ W * two → pos W *ℤ q ≡ pos P *ℤ b +ℤ pos W *ℤ (q -ℤ b *ℤ pos two)
left_step P W two q b e =
    let p : pos P ≡ pos W *ℤ pos two = omega (arith, ints) in
    rw p (left_parts (pos W) (pos two) q b)

whole_step : (W : ℕ) (a q s : ℤ) → a ≡ q -ℤ s → pos W *ℤ a ≡ pos W *ℤ q -ℤ pos W *ℤ s
whole_step W a q s e = rw e (simp ring (omega (arith, ints)))

-- W times what is left is W times the rest of q, the defect by b and the roundings by the table
left_bound : (W n : ℕ) (a q C V o Pb Eb se : ℤ) → pos W *ℤ a ≡ pos W *ℤ q -ℤ pos W *ℤ C → pos W *ℤ q ≡ Pb +ℤ pos W *ℤ o → pos W *ℤ C ≡ V +ℤ se → V ≡ Pb -ℤ Eb
    → unsigned_abs o ≤ 2 ^ 34 → unsigned_abs Eb ≤ 1000 * 2 ^ 138 → unsigned_abs se ≤ n * (W * 2 ^ 61) → n ≤ 1000 → 2 ^ 66 ≤ W → unsigned_abs a ≤ 2 ^ 83
left_bound W n a q C V o Pb Eb se all left split made over defect errors few least =
    let over_W = mul-le-mul_left W over in
    let count = mul-le-mul_right (W * 2 ^ 61) few in
    let sized = unsigned_abs-mul (pos W) a in
    let over_sized = unsigned_abs-mul (pos W) o in
    let bound : W * unsigned_abs a ≤ W * 2 ^ 83 = omega (arith, ints, all, left, split, made, over_W, defect, errors, count, sized, over_sized, least) in
    le_of_mul-le-mul_left bound (omega (arith, least))

moved_sum : (n : ℕ) (a y c z : ℕ → ℤ) → ((j : ℕ) → j < n → z j ≡ y j +ℤ c j) → sum_to n (λ j. a j *ℤ z j) ≡ sum_to n (λ j. a j *ℤ y j) +ℤ sum_to n (λ j. a j *ℤ c j)
moved_sum n a y c z is =
    sum_to_same n (λ j. a j *ℤ z j) (λ j. a j *ℤ y j +ℤ a j *ℤ c j) (λ j l. ap (λ x. a j *ℤ x) (is j l) ∙ *ℤ-+ℤ (a j) (y j) (c j))
    ∙ sum_to-+ℤ n (λ j. a j *ℤ y j) (λ j. a j *ℤ c j)

-- the numbers that a refinement moves to
pub record IsMoved (n : ℕ) (t : Table) (y z : ℕ → ℤ) : Type 0 where
  pub steps : (i : ℕ) → i < n → unsigned_abs (z i) ≤ unsigned_abs (y i) + 2 ^ 49
  pub left : (i : ℕ) → i < n → unsigned_abs (midpoint_residual n t z i) ≤ 2 ^ 83

refinement_moves : (n : ℕ) (t : Table) (p : PilotTable) (y z : ℕ → ℤ) → IsDominantTable n t → IsPilot n (λ i j. midpoint (t.entry i j)) p → ((i : ℕ) → i < n → unsigned_abs (midpoint_residual n t y i) ≤ 2 ^ 100) → IsRefinement n t p y z → IsMoved n t y z
refinement_moves n t p y z d a small refinement =
    let m = λ (i : ℕ) (j : ℕ). midpoint (t.entry i j) in
    let q = midpoint_residual n t y in
    let h = refinement.h in
    let P = 2 ^ (p.g + 60) in
    let W = 2 ^ (p.g + 60 - h) in
    let two = 2 ^ h in
    let b = λ (k : ℕ). floor_over (q k) two in
    let v = λ (k : ℕ). row_by n (pilot_entry p) k b in
    let c = λ (k : ℕ). floor_over (v k) W in
    let powers = are_powers p.g h (scale_great n m p d.table a) (refinement_shift n q h small refinement.shift) in
    let fits : (k : ℕ) → k < n → unsigned_abs (b k) ≤ 2 ^ 66 = refinement.shift.here in
    let some : 0 < W = two_pow_above (p.g + 60 - h) in
    let step = λ (i : ℕ) (l : i < n). floor_small (v i) W (2 ^ 15 * two) some (made_small n m p b h W i d.table a powers fits l) in
    let e = λ (j : ℕ). c j *ℤ pos W -ℤ v j in
    let near = λ (j : ℕ) (l : j < n). let low = floor_over_le (v j) W some in let high = lt-floor_over (v j) W some in let bound : unsigned_abs (e j) ≤ W = omega (arith, ints, low, high) in bound in
    record {
      steps = λ i l. omega (arith, ints, refinement.rows i l, step i l, powers.power);
      left = λ i l.
          let moves = moved_sum n (m i) y c z (λ j r. refinement.rows j r) in
          let split = split_scaled n c v e (m i) (pos W) (λ j r. omega (arith, ints)) in
          let turn_c = turned n c (m i) in
          let turn_v = turned n v (m i) in
          let made = made_by n (pos P) m (pilot_entry p) b i l in
          let defect = defect_by_small n m p b i d.table a fits l in
          let errors = abs-dot n e (m i) W (2 ^ 61) near (λ j r. d.table.small i j l r) in
          let low = floor_over_le (q i) two (two_pow_above h) in
          let high = lt-floor_over (q i) two (two_pow_above h) in
          let over : unsigned_abs (q i -ℤ b i *ℤ pos two) ≤ 2 ^ 34 = omega (arith, ints, low, high, powers.power) in
          let C = sum_to n (λ j. m i j *ℤ c j) in
          left_bound W n (midpoint_residual n t z i) (q i) C (row_by n m i v) (q i -ℤ b i *ℤ pos two) (pos P *ℤ b i) (sum_to n (λ j. defect_at n (pos P) m (pilot_entry p) i j *ℤ b j)) (sum_to n (λ j. e j *ℤ m i j))
          (whole_step W (midpoint_residual n t z i) (q i) C (omega (arith, ints, moves)))
          (left_step P W two (q i) (b i) powers.split)
          (ap (λ x. pos W *ℤ x) (sym turn_c) ∙ split ∙ ap (λ x. x +ℤ sum_to n (λ j. e j *ℤ m i j)) turn_v)
          made over defect errors d.table.few powers.left;
    }

-- ---- all refinements
-- after k refinements
pub record IsAfter (n : ℕ) (t : Table) (k : ℕ) (z : ℕ → ℤ) : Type 0 where
  pub sizes : (i : ℕ) → i < n → unsigned_abs (z i) ≤ k * 2 ^ 49
  pub left : (i : ℕ) → i < n → unsigned_abs (midpoint_residual n t z i) ≤ 2 ^ 100
  pub later : 0 < k → (i : ℕ) → i < n → unsigned_abs (midpoint_residual n t z i) ≤ 2 ^ 83

pub refinements_small : (k n : ℕ) (t : Table) (p : PilotTable) (z : ℕ → ℤ) → IsDominantTable n t → IsPilot n (λ i j. midpoint (t.entry i j)) p → AfterRefinements n t p k z → IsAfter n t k z
refinements_small zero n t p z d a refinements = record {
  sizes = λ i l. omega (arith, ap unsigned_abs (refinements i l));
  left = λ i l.
      let none = sum_to_same n (λ j. midpoint (t.entry i j) *ℤ z j) (λ j. pos 0) (λ j r. ap (λ x. midpoint (t.entry i j) *ℤ x) (refinements j r) ∙ *ℤ-zero (midpoint (t.entry i j))) ∙ sum_to-zero n in
      omega (arith, ints, none, middle_small (t.right i) (2 ^ 100) (d.rights i l));
  later = λ some. absurd (omega arith);
}
refinements_small (suc k) n t p z d a refinements =
    let before = refinements_small k n t p refinements.0 d a refinements.1.0 in
    let moved = refinement_moves n t p refinements.0 z d a before.left refinements.1.1.1 in
    record {
      sizes = λ i l. omega (arith, before.sizes i l, moved.steps i l);
      left = λ i l. omega (arith, moved.left i l);
      later = λ some. moved.left;
    }

pub total_small : (n k b : ℕ) (t : Table) (z : ℕ → ℤ) → n ≤ 1000 → k ≤ 3 → b ≤ n → IsAfter n t k z → total_to b (λ i. unsigned_abs (z i)) ≤ 2 ^ 61
total_small n k b t z few refinements le after =
    let s = total_to-bound b (λ i. unsigned_abs (z i)) (3 * 2 ^ 49) (λ i l. omega (arith, after.sizes i (omega arith))) in
    omega (arith, s)

pub no_range_great : (n : ℕ) (t : Table) (p : PilotTable) (row : ℕ) → IsDominantTable n t → IsPilot n (λ i j. midpoint (t.entry i j)) p → ¬ (IsVectorRange n t p row)
no_range_great n t p row d a r = r.past (omega (arith, total_small n r.refinement (suc row) t r.z d.table.few r.few r.within (refinements_small r.refinement n t p r.z d a r.refinements)))
