-- How large the numbers of a refinement are, and where refinements lead.
use Rattle.std.proofs.Common.{◌≡◌, ◌≤◌, ◌<◌, ◌+◌, ◌-◌, ◌*◌, ◌^◌, ◌∙◌, ℕ, suc, ℤ, pos, ◌+ℤ◌, ◌*ℤ◌, unsigned_abs, FitsSigned, List, length, replicate, add-one, refl, sym, ap, subst, arith}
use Rattle.std.proofs.Math.IntN.{◌-ℤ◌}
use Rattle.std.specs.Int.{w128}
use Rattle.std.proofs.lemmas.Int.{ints, fits_signed_from_abs, unsigned_abs-mul}
use Rattle.std.proofs.lemmas.List.{get_or-replicate, length-replicate}
use Rattle.whole_numbers.specs.Quotients.{floor_over}
use Rattle.whole_numbers.specs.Sum.{sum_to}
use Rattle.whole_numbers.specs.Intervals.{Interval, size, midpoint}
use Rattle.whole_numbers.proofs.Sizes.{floor_small, product_le, quotient_small}
use Rattle.whole_numbers.proofs.Sums.{sum_to_same, abs-sum_to, abs-dot, total_part, total_to_le, total_to_same, total_to-*, total_to-bound, le-total_to}
use Rattle.whole_numbers.proofs.IntervalLaws.{two_pow_above}
use Rattle.sym_blocks.specs.Tables.{SymTable, entry_at}
use Rattle.sys_model.specs.Systems.{Table}
use Rattle.equil.specs.Tables.{table_of}
use Rattle.whole_numbers.specs.Lists.{at}
use Rattle.enclosures.specs.Pilots.{PilotTable, pilot_entry}
use Rattle.enclosure_check.specs.Answers.{IsVectorRefused}
use Rattle.enclosure_check.specs.Rows.{entry_between, IsRowByVector}
use Rattle.enclosure_check.specs.ErrorParts.{IsVector, nth_entry}
use Rattle.enclosure_check.specs.VectorParts.{taken_midpoint, part_number, correction_at, corrected_at, AreMidpointResiduals, AreFloors, IsRowByNumbers, AreShiftedNumbers, AreSmallNumbers, IsPassed, IsRefined, IsRefinementRefused}
use Rattle.enclosure_check.specs.declared.VectorError.{VectorError}
use Rattle.enclosure_check.specs.declared.VectorError.TheVariants.{Range, Memory}
use Rattle.enclosure_check.specs.Vectors.{IsRefinement, AfterRefinements, IsStartVector, AllFitAfter, midpoint_residual, corrected}
use Rattle.enclosures.specs.Vectors.{IsSmall}
use Rattle.enclosure_check.proofs.ErrorLaws.{between_is, between_small, least_same}
use Rattle.stated_order.specs.First.{IsLeast}

-- the middle is no greater than the interval
pub middle_small : (w : Interval) (m : ℕ) → size w ≤ m → unsigned_abs (midpoint w) ≤ m
middle_small w m h = floor_small (w.lo +ℤ w.hi) 2 m (omega arith) (omega (arith, ints))

-- ---- sums
-- a sum with one more term fits, and is the longer sum
pub sum_step : (k : ℕ) (f : ℕ → ℤ) (s p : ℤ) → s ≡ sum_to k f → p ≡ f k → unsigned_abs (sum_to (k + 1) f) ≤ 2 ^ 126 → FitsSigned w128 (s +ℤ p) × (s +ℤ p ≡ sum_to (k + 1) f)
sum_step k f s p e d h =
    let more : s +ℤ p ≡ sum_to (k + 1) f = rw (e, d, add-one) refl in
    (fits_signed_from_abs w128 (s +ℤ p) (omega (arith, h, ap unsigned_abs more)), more)

-- ---- what the vector takes of a row
-- each product fits
pub taken_small : (low high y : List ℤ) (j : ℕ) → IsRowByVector low high y → j < length y → unsigned_abs (midpoint (entry_between low high j)) * unsigned_abs (at y j) ≤ 2 ^ 126
taken_small low high y j s within =
    let t = le-total_to (length y) (λ k. unsigned_abs (at y k)) j within in
    let m = middle_small (entry_between low high j) (2 ^ 61) (between_small low high y j s within) in
    omega (arith, product_le (unsigned_abs (midpoint (entry_between low high j))) (2 ^ 61) (unsigned_abs (at y j)) (2 ^ 64) m (omega (arith, s.small)))

-- so does each part of their sum
pub row_small : (low high y : List ℤ) (m : ℕ) → IsRowByVector low high y → m ≤ length y → unsigned_abs (sum_to m (taken_midpoint low high y)) ≤ 2 ^ 125
row_small low high y m s most =
    let t = abs-sum_to m (taken_midpoint low high y) in
    let b = total_to_le m (λ k. unsigned_abs (taken_midpoint low high y k)) (λ k. unsigned_abs (at y k) * 2 ^ 61)
    (λ k d. let p = product_le (unsigned_abs (at y k)) (unsigned_abs (at y k)) (unsigned_abs (midpoint (entry_between low high k))) (2 ^ 61) (omega arith) (middle_small (entry_between low high k) (2 ^ 61) (between_small low high y k s (omega arith))) in omega (arith, unsigned_abs-mul (midpoint (entry_between low high k)) (at y k), p)) in
    let c = total_to-* m (λ k. unsigned_abs (at y k)) (2 ^ 61) in
    let e = total_part (length y) (λ k. unsigned_abs (at y k)) m most in
    omega (arith, t, b, c, e, s.small)

-- what it leaves of the right side is the residual of the row
pub residual_is : (a : SymTable) (d : List Interval) (low high y : List ℤ) (i : ℕ) (m s r : ℤ) → length y ≡ a.size
    → ((k : ℕ) → k < a.size → at low k ≡ (entry_at a i k).lo) → ((k : ℕ) → k < a.size → at high k ≡ (entry_at a i k).hi)
    → m ≡ midpoint (nth_entry d i) → s ≡ sum_to (length y) (taken_midpoint low high y) → r ≡ m -ℤ s → r ≡ midpoint_residual a.size (table_of a d) (at y) i
residual_is a d low high y i m s r len lows highs right taken is =
    let same = sum_to_same a.size (taken_midpoint low high y) (λ j. midpoint (entry_at a i j) *ℤ at y j) (λ k l. ap (λ w. midpoint w *ℤ at y k) (between_is low high k (entry_at a i k) (lows k l) (highs k l))) in
    let sum = taken ∙ ap (λ n. sum_to n (taken_midpoint low high y)) len ∙ same in
    is ∙ ap (λ x. x -ℤ s) right ∙ ap (λ x. midpoint (nth_entry d i) -ℤ x) sum

-- ---- what the pilot makes of the numbers
-- each product fits
pub part_small : (r vs : List ℤ) (k : ℕ) → IsRowByNumbers r vs → k < length vs → unsigned_abs (at r k) * unsigned_abs (at vs k) ≤ 2 ^ 126
part_small r vs k s h =
    omega (arith, product_le (unsigned_abs (at r k)) (2 ^ 50) (unsigned_abs (at vs k)) (2 ^ 66) (s.row_small k (omega (arith, s.len))) (s.numbers_small k h))

-- so does each part of their sum
pub parts_small : (r vs : List ℤ) (m : ℕ) → IsRowByNumbers r vs → m ≤ length vs → unsigned_abs (sum_to m (part_number r vs)) ≤ 2 ^ 126
parts_small r vs m s most =
    let t = abs-dot m (at r) (at vs) (2 ^ 50) (2 ^ 66) (λ k d. s.row_small k (omega (arith, s.len))) (λ k d. s.numbers_small k (omega arith)) in
    omega (arith, t, s.few)

-- ---- one number of the next vector
pub number_small : (n : ℕ) (y : List ℤ) (i : ℕ) → IsVector n y → i < n → unsigned_abs (at y i) ≤ 2 ^ 64
number_small n y i v row = let t = le-total_to n (λ k. unsigned_abs (at y k)) i row in omega (arith, v.small)

-- what the pilot makes of the numbers, rounded down, is in bounds
pub change_small : (b v : ℤ) (m : ℕ) → unsigned_abs b ≤ 2 ^ 126 → v ≡ floor_over b (2 ^ m) → unsigned_abs v ≤ 2 ^ 126
change_small b v m h e = let q = quotient_small b (2 ^ m) (two_pow_above m) in omega (arith, ap unsigned_abs e, q)

-- the floor of the row's sum is the change
pub change_is : (p : PilotTable) (r vs : List ℤ) (h i g : ℕ) (b v : ℤ) → length vs ≡ p.size → ((k : ℕ) → k < p.size → at r k ≡ pilot_entry p i k) → b ≡ sum_to (length vs) (part_number r vs) → g ≡ p.g → v ≡ floor_over b (2 ^ (g + 60 - h)) → v ≡ correction_at p vs h i
change_is p r vs h i g b v len row is scale floor =
    let same = sum_to_same p.size (part_number r vs) (λ k. pilot_entry p i k *ℤ at vs k) (λ k l. ap (λ x. x *ℤ at vs k) (row k l)) in
    let sum = is ∙ ap (λ n. sum_to n (part_number r vs)) len ∙ same in
    floor ∙ ap (λ x. floor_over x (2 ^ (g + 60 - h))) sum ∙ ap (λ s. floor_over (sum_to p.size (λ k. pilot_entry p i k *ℤ at vs k)) (2 ^ (s + 60 - h))) scale

-- ---- one refinement
-- small numbers stay small where they are the same
small_same : (n : ℕ) (f g : ℕ → ℤ) → ((k : ℕ) → k < n → f k ≡ g k) → IsSmall n f → IsSmall n g
small_same n f g h s = omega (arith, s, total_to_same n (λ k. unsigned_abs (f k)) (λ k. unsigned_abs (g k)) (λ k l. ap unsigned_abs (h k l)))

-- what the rows of a refinement are made of
pub record IsMade (n : ℕ) (t : Table) (p : PilotTable) (y : List ℤ) (qs vs : List ℤ) (h : ℕ) : Type 0 where
  pub size : p.size ≡ n
  pub left : AreMidpointResiduals n t (at y) qs
  pub least : IsLeast (AllFitAfter (length qs) (at qs)) h
  pub floors : AreFloors h qs vs

-- the pilot may be multiplied with the floors
pub made_numbers : (n : ℕ) (t : Table) (p : PilotTable) (y qs vs : List ℤ) (h : ℕ) → n ≤ 1000 → IsMade n t p y qs vs h → AreShiftedNumbers p.size vs
made_numbers n t p y qs vs h few m = record {
  len = omega (arith, m.size, m.left.len, m.floors.len);
  few = omega (arith, m.size);
  small = λ k l. let inside : k < length qs = omega (arith, m.floors.len) in rw (m.floors.each k inside) (m.least.here k inside);
}

-- a number made of the lists is that of the refinement
corrected_same : (n : ℕ) (t : Table) (p : PilotTable) (y qs vs : List ℤ) (h : ℕ) → IsMade n t p y qs vs h → (i : ℕ) → corrected_at p y vs h i ≡ corrected n p (midpoint_residual n t (at y)) h (at y) i
corrected_same n t p y qs vs h m i =
    let same = sum_to_same n (λ k. pilot_entry p i k *ℤ at vs k) (λ k. pilot_entry p i k *ℤ floor_over (midpoint_residual n t (at y) k) (2 ^ h))
    (λ k l. ap (λ x. pilot_entry p i k *ℤ x) (m.floors.each k (omega (arith, m.left.len)) ∙ ap (λ x. floor_over x (2 ^ h)) (m.left.each k l))) in
    ap (λ s. at y i +ℤ floor_over (sum_to s (λ k. pilot_entry p i k *ℤ at vs k)) (2 ^ (p.g + 60 - h))) m.size ∙ ap (λ x. at y i +ℤ floor_over x (2 ^ (p.g + 60 - h))) same

-- what fits of the list fits of the definition, and the other way round
fits_left : (n : ℕ) (t : Table) (y : ℕ → ℤ) (qs : List ℤ) → AreMidpointResiduals n t y qs → (h : ℕ) → AllFitAfter (length qs) (at qs) h → AllFitAfter n (midpoint_residual n t y) h
fits_left n t y qs left h fits i row = subst (λ q. unsigned_abs (floor_over q (2 ^ h)) ≤ 2 ^ 66) (left.each i row) (fits i (omega (arith, left.len)))

fits_back : (n : ℕ) (t : Table) (y : ℕ → ℤ) (qs : List ℤ) → AreMidpointResiduals n t y qs → (h : ℕ) → AllFitAfter n (midpoint_residual n t y) h → AllFitAfter (length qs) (at qs) h
fits_back n t y qs left h fits k inside = let row : k < n = omega (arith, left.len) in subst (λ q. unsigned_abs (floor_over q (2 ^ h)) ≤ 2 ^ 66) (sym (left.each k row)) (fits k row)

-- numbers that are those that the pilot gives are one refinement away
made_refinement : (n : ℕ) (t : Table) (p : PilotTable) (y qs vs : List ℤ) (h : ℕ) → IsMade n t p y qs vs h → (z : ℕ → ℤ) → ((i : ℕ) → i < n → z i ≡ corrected_at p y vs h i) → IsRefinement n t p (at y) z
made_refinement n t p y qs vs h m z is = record {
  h = h;
  shift = least_same (AllFitAfter (length qs) (at qs)) (AllFitAfter n (midpoint_residual n t (at y))) h (fits_left n t (at y) qs m.left) (fits_back n t (at y) qs m.left) m.least;
  rows = λ i row. is i row ∙ corrected_same n t p y qs vs h m i;
}

-- their sizes are as small as those of the refinement
made_vector : (n : ℕ) (t : Table) (p : PilotTable) (y qs vs : List ℤ) (h : ℕ) → IsMade n t p y qs vs h → (zs : List ℤ) → AreSmallNumbers p.size (corrected_at p y vs h) zs → IsVector n zs
made_vector n t p y qs vs h m zs are =
    let whole : IsVector p.size zs = record { len = are.len; small = small_same p.size (corrected_at p y vs h) (at zs) (λ k l. sym (are.each k l)) are.small } in
    subst (λ s. IsVector s zs) m.size whole

-- what the calls answer is one refinement
pub made_refined : (n : ℕ) (t : Table) (p : PilotTable) (y qs vs : List ℤ) (h : ℕ) → IsMade n t p y qs vs h → (zs : List ℤ) → AreSmallNumbers p.size (corrected_at p y vs h) zs → IsRefined n t p (at y) zs
made_refined n t p y qs vs h m zs are = record {
  vector = made_vector n t p y qs vs h m zs are;
  refinement = made_refinement n t p y qs vs h m (at zs) (λ i row. are.each i (omega (arith, m.size)));
}

pub made_refused : (n : ℕ) (t : Table) (p : PilotTable) (y qs vs : List ℤ) (h : ℕ) → IsMade n t p y qs vs h → (e : VectorError) → IsPassed p.size (corrected_at p y vs h) e → IsRefinementRefused n t p (at y) e
made_refused n t p y qs vs h m (Range row) passed =
    let z = corrected_at p y vs h in
    (z, (made_refinement n t p y qs vs h m z (λ i l. refl), record { within = omega (arith, m.size, passed.within); before = passed.before; past = passed.past }))
made_refused n t p y qs vs h m Memory passed = passed

-- ---- several refinements
-- the zeros are a vector to which no refinements lead
zeros_each : (n : ℕ) (ys : List ℤ) → ys ≡ replicate n (pos 0) → (k : ℕ) → k < n → at ys k ≡ pos 0
zeros_each n ys e k h = rw e (get_or-replicate n k (pos 0) (pos 0) h)

zeros_small : (n : ℕ) (ys : List ℤ) → ys ≡ replicate n (pos 0) → IsVector n ys
zeros_small n ys e =
    let t = total_to-bound n (λ k. unsigned_abs (at ys k)) 0 (λ k l. omega (arith, ap unsigned_abs (zeros_each n ys e k l))) in
    record { len = rw e (length-replicate n (pos 0)); small = omega (arith, t) }

-- a vector to which this many refinements lead
pub record IsVectorAfter (n : ℕ) (t : Table) (p : PilotTable) (k : ℕ) (ys : List ℤ) : Type 0 where
  pub vector : IsVector n ys
  pub refinements : AfterRefinements n t p k (at ys)

pub zeros_after : (n : ℕ) (t : Table) (p : PilotTable) (ys : List ℤ) → ys ≡ replicate n (pos 0) → IsVectorAfter n t p 0 ys
zeros_after n t p ys e = record { vector = zeros_small n ys e; refinements = zeros_each n ys e }

-- one refinement more
pub refined_after : (n : ℕ) (t : Table) (p : PilotTable) (k : ℕ) (ys zs : List ℤ) → IsVectorAfter n t p k ys → IsRefined n t p (at ys) zs → IsVectorAfter n t p (k + 1) zs
refined_after n t p k ys zs v refined = rw add-one (record { vector = refined.vector; refinements = (at ys, (v.refinements, (v.vector.small, refined.refinement))) })

-- after three refinements it is the start vector
pub start_after : (n : ℕ) (t : Table) (p : PilotTable) (k : ℕ) (ys : List ℤ) → k ≡ 3 → IsVectorAfter n t p k ys → IsStartVector n t p (at ys)
start_after n t p k ys e v = record { refinements = subst (λ m. AfterRefinements n t p m (at ys)) e v.refinements; small = v.vector.small }

-- a refusal of the next refinement is one of the start vector
pub refused_after : (n : ℕ) (t : Table) (p : PilotTable) (k : ℕ) (ys : List ℤ) → k < 3 → IsVectorAfter n t p k ys → (e : VectorError) → IsRefinementRefused n t p (at ys) e → IsVectorRefused n t p e
refused_after n t p k ys few v (Range row) r = record {
  refinement = suc k;
  some = omega arith;
  few = few;
  z = r.0;
  refinements = (at ys, (v.refinements, (v.vector.small, r.1.0)));
  within = r.1.1.within;
  before = r.1.1.before;
  past = r.1.1.past;
}
refused_after n t p k ys few v Memory r = r
