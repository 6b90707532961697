-- The exact systems of worked documents.
use Rattle.std.proofs.Common.{List, ◌≡◌, ◌∙◌, ◌∷◌, ◌<◌, ◌*◌, ◌*ℤ◌, ◌+ℤ◌, ℕ, zero, suc, ℤ, Bool, true, false, pos, [], Ok, codes, refl, sym, ap, subst, arith, cond, if◌then◌else◌}
use Rattle.std.specs.Prelude.{Contains}
use Rattle.std.specs.List.Sorted.{IsPermutation}
use Rattle.std.proofs.Math.IntN.{◌-ℤ◌}
use Rattle.std.proofs.Math.Nat.{mul-pos}
use Rattle.std.proofs.lemmas.Int.{ints}
use Rattle.std.proofs.lemmas.List.Elements.{All-head, All-tail}
use Rattle.std.proofs.lemmas.List.Sorted.{length_permutation, Contains-permutation}
use Rattle.whole_numbers.proofs.EqualFractions.{same_from_product}
use Rattle.whole_numbers.proofs.Ring.{ring, *ℤ_right_comm}
use Rattle.stated_order.specs.Lists.{AreEach}
use Rattle.stated_order.proofs.StepLaws.{then_gives}
use Rattle.decimal_e.specs.Decimals.{Decimal, product}
use Rattle.decimal_e.specs.Fractions.{Means, numerator, denominator}
use Rattle.param_ids.specs.Plain.{PlainId}
use Rattle.param_ids.specs.Order.{is_same_id}
use Rattle.neq_stack.specs.Systems.{NamedSystem, IsSumOf}
use Rattle.snx_rows.specs.Named.{zero_decimal, value_of}
use Rattle.snx_rows.specs.declared.rows.Row.{Row}
use Rattle.control_doc.specs.Plain.{PlainPlan}
use Rattle.control_doc.specs.Single.{alone_plan}
use Rattle.control_doc.specs.declared.plans.Form.TheVariants.{Neq}
use Rattle.control_doc.specs.declared.plans.Held.{Held}
use Rattle.run_inputs.specs.Inputs.{PlainInput}
use Rattle.named_tables.specs.Naming.{AreNamesOf}
use Rattle.named_tables.specs.Weighted.{weighted_element, weighted_value}
use Rattle.recover_neq.specs.Blocks.{Blocks}
use Rattle.recover_neq.specs.Exact as exact_equations
use Rattle.file_recovery.specs.Files.{Source, Equations, rows_of, apriori_of, IsSourceBy, IsSource}
use Rattle.file_recovery.specs.Recovery.{IsExactFrom, IsExact}
use Rattle.file_recovery.proofs.SourceLaws.{same_source}
use Rattle.apriori_shift.specs.Moves.{IsExactDifference, row_times, Moves}
use Rattle.combine_cli.specs.Combination.{counted_rows}
use Rattle.combine_cli.specs.Headline.{IsExactAt, IsExactOf}
use Rattle.combine_cli.specs.Worked.{one, quarter, half, whole, one_and_three_tenths, four_thousand, worked_name, worked_row, weighing, equation, worked_document, worked_system, worked_file}

abbrev pub blocks_at : Decimal → Decimal → Decimal → Blocks
blocks_at value matrix vector = record { apriori = worked_row value ∷ []; vector = worked_row vector ∷ []; cells = record { row = 0; col = 0; value = matrix } ∷ [] }

source_there : (held : Held) (value matrix vector : Decimal) → IsSourceBy Neq held (equation value matrix vector) (worked_row value ∷ []) (Ok (Equations (blocks_at value matrix vector)))
source_there held value matrix vector = then_gives _ _ (worked_row vector ∷ []) _ refl (then_gives _ _ _ _ refl refl)

module _ (name : List ℕ) (weight value matrix vector : Decimal) where
  abbrev plan : PlainPlan
  plan = record (alone_plan name) { weight = weight }

  has_source : IsSource plan (equation value matrix vector) (Ok (Equations (blocks_at value matrix vector)))
  has_source = then_gives _ _ (worked_row value ∷ []) _ refl (source_there (alone_plan name).held value matrix vector)

  pub source_is : (source : Source) → IsSource plan (equation value matrix vector) (Ok source) → source ≡ Equations (blocks_at value matrix vector)
  source_is source has = same_source plan (equation value matrix vector) source (Equations (blocks_at value matrix vector)) has has_source

-- ---- some exact system
entry_means : (p q : Bool) → Means (product one (if p then (if q then four_thousand else zero_decimal) else zero_decimal)) (if p then (if q then pos 16000 else pos 0) else pos 0) 4
entry_means true true = refl
entry_means true false = refl
entry_means false q = refl

right_means : (p : Bool) → Means (product one (if p then quarter else zero_decimal)) (if p then pos 1 else pos 0) 4
right_means true = refl
right_means false = refl

abbrev by_place : Decimal → Bool → Decimal
by_place value test = cond test value zero_decimal

entry_is : (n m : PlainId) (p q : Bool) → is_same_id worked_name n ≡ p → is_same_id worked_name m ≡ q
    → weighted_element (blocks_at one four_thousand quarter).vector (blocks_at one four_thousand quarter).cells one n m ≡ product one (if p then (if q then four_thousand else zero_decimal) else zero_decimal)
entry_is n m true true a b = rw (a, b) refl
entry_is n m true false a b = rw (a, b) refl
entry_is n m false true a b = rw (a, b) refl
entry_is n m false false a b = rw (a, b) refl

right_is : (n : PlainId) (p : Bool) → is_same_id worked_name n ≡ p → weighted_value (blocks_at one four_thousand quarter).vector one n ≡ product one (if p then quarter else zero_decimal)
right_is n true a = rw a refl
right_is n false a = rw a refl

pub some_exact : IsExact (weighing one) worked_document worked_system
some_exact = record {
  source = Equations (blocks_at one four_thousand quarter);
  has = has_source (codes "in") one one four_thousand quarter;
  exact = record {
    some = omega arith;
    matrix = λ n m. subst (λ d. Means d (worked_system.a n m) 4) (sym (entry_is n m (is_same_id worked_name n) (is_same_id worked_name m) refl refl)) (entry_means (is_same_id worked_name n) (is_same_id worked_name m));
    right = λ n. subst (λ d. Means d (worked_system.c n) 4) (sym (right_is n (is_same_id worked_name n) refl)) (right_means (is_same_id worked_name n));
  };
}

-- ---- every exact system
module _ (name : List ℕ) (weight value matrix vector : Decimal) (S : NamedSystem) (h : IsExact (record (alone_plan name) { weight = weight }) (equation value matrix vector) S) where
  from_blocks : exact_equations.IsExact (blocks_at value matrix vector) weight S
  from_blocks = subst (λ source. IsExactFrom weight source S) (source_is name weight value matrix vector h.source h.has) h.exact

  pub matrix_means : Means (product weight matrix) (S.a worked_name worked_name) S.q
  matrix_means = from_blocks.matrix worked_name worked_name

  pub vector_means : Means (product weight vector) (S.c worked_name) S.q
  vector_means = from_blocks.right worked_name

pub matrix_law : (S : NamedSystem) → IsExact (weighing one) worked_document S → S.a worked_name worked_name ≡ pos 4000 *ℤ pos S.q
matrix_law S h = let e : pos 4000 *ℤ pos S.q ≡ S.a worked_name worked_name *ℤ pos 1 = matrix_means (codes "in") one one four_thousand quarter S h in omega (arith, ints)

pub vector_law : (S : NamedSystem) → IsExact (weighing one) worked_document S → S.c worked_name *ℤ pos 4 ≡ pos S.q
vector_law S h = let e : pos 25 *ℤ pos S.q ≡ S.c worked_name *ℤ pos 100 = vector_means (codes "in") one one four_thousand quarter S h in omega (arith, ints)

pub weighted_matrix_law : (S : NamedSystem) → IsExact (weighing half) worked_document S → S.a worked_name worked_name ≡ pos 2000 *ℤ pos S.q
weighted_matrix_law S h = let e : pos 2000 *ℤ pos S.q ≡ S.a worked_name worked_name *ℤ pos 1 = matrix_means (codes "in") half one four_thousand quarter S h in omega (arith, ints)

pub weighted_vector_law : (S : NamedSystem) → IsExact (weighing half) worked_document S → S.c worked_name *ℤ pos 8 ≡ pos S.q
weighted_vector_law S h = let e : pos 125 *ℤ pos S.q ≡ S.c worked_name *ℤ pos 1000 = vector_means (codes "in") half one four_thousand quarter S h in omega (arith, ints)

-- ---- the system of a file at the common values
pub counted : (x : ℤ) (n q : ℕ) → Means (product one (whole n)) x q → x ≡ pos n *ℤ pos q
counted x n q h = let e : ((pos 1 *ℤ pos n) *ℤ pos 1) *ℤ pos q ≡ x *ℤ pos 1 = h in omega (arith, ints)

-- the only order of one name
pub alone_permuted : (id : PlainId) (names : List PlainId) → IsPermutation (id ∷ []) names → names ≡ id ∷ []
alone_permuted id [] p = absurd (omega (arith, length_permutation (id ∷ []) [] p))
alone_permuted id (first ∷ []) p = at_first (Contains-permutation (id ∷ []) (first ∷ []) id p (0, omega arith, refl))
  where
    at_first : Contains (first ∷ []) id → first ∷ [] ≡ id ∷ []
    at_first (zero, lt, e) = ap (λ (name : PlainId). name ∷ []) e
    at_first (suc k, lt, e) = absurd (omega arith)
alone_permuted id (first ∷ second ∷ names) p = absurd (omega (arith, length_permutation (id ∷ []) (first ∷ second ∷ names) p))

parted : (r m x q s p n : ℤ) → (((r *ℤ q) *ℤ s -ℤ (m *ℤ q) *ℤ x) *ℤ p) *ℤ n ≡ ((r *ℤ n) *ℤ p) *ℤ (q *ℤ s) -ℤ ((m *ℤ q) *ℤ p) *ℤ (x *ℤ n)
parted r m x q s p n = simp ring

joined : (r m d q s p n : ℤ) → ((r *ℤ n) *ℤ p) *ℤ (q *ℤ s) -ℤ ((m *ℤ q) *ℤ p) *ℤ (d *ℤ s) ≡ ((r *ℤ n -ℤ m *ℤ d) *ℤ p) *ℤ (q *ℤ s)
joined r m d q s p n = simp ring

-- t is c - a x over n times the denominator, where x / s is d / n
less_product : (r m d x t c a : ℤ) (q s p n : ℕ) → 0 < q → 0 < s → d *ℤ pos s ≡ x *ℤ pos n → c ≡ r *ℤ pos q → a ≡ m *ℤ pos q
    → t *ℤ pos (q * s) ≡ (c *ℤ pos s -ℤ (a *ℤ x +ℤ pos 0)) *ℤ pos p → t *ℤ pos n ≡ (r *ℤ pos n -ℤ m *ℤ d) *ℤ pos p
less_product r m d x t c a q s p n some too difference right entry h =
    let plain : c *ℤ pos s -ℤ (a *ℤ x +ℤ pos 0) ≡ c *ℤ pos s -ℤ a *ℤ x = omega (arith, ints) in
    let taken : c *ℤ pos s -ℤ a *ℤ x ≡ (r *ℤ pos q) *ℤ pos s -ℤ (m *ℤ pos q) *ℤ x = ap (λ z. z *ℤ pos s -ℤ a *ℤ x) right ∙ ap (λ z. (r *ℤ pos q) *ℤ pos s -ℤ z *ℤ x) entry in
    same_from_product (t *ℤ pos n) ((r *ℤ pos n -ℤ m *ℤ d) *ℤ pos p) (q * s) (mul-pos some too)
    (*ℤ_right_comm t (pos n) (pos (q * s)) ∙ ap (λ z. z *ℤ pos n) h ∙ ap (λ z. (z *ℤ pos p) *ℤ pos n) (plain ∙ taken) ∙ parted r m x (pos q) (pos s) (pos p) (pos n)
    ∙ ap (λ z. ((r *ℤ pos n) *ℤ pos p) *ℤ (pos q *ℤ pos s) -ℤ ((m *ℤ pos q) *ℤ pos p) *ℤ z) (sym difference) ∙ joined r m d (pos q) (pos s) (pos p) (pos n))

-- the difference of two values, over the product of their denominators
abbrev pub above : Decimal → Decimal → ℤ
above to from = numerator to *ℤ pos (denominator from) -ℤ numerator from *ℤ pos (denominator to)

abbrev pub below : Decimal → Decimal → ℕ
below to from = denominator to * denominator from

-- a system over the worked name alone, with the matrix m and the right side r, taken from a value to another one
module _ (names : List PlainId) (old new : PlainId → Decimal) (value to : Decimal) (m r : ℕ) (S T : NamedSystem) (names_are : names ≡ worked_name ∷ []) (old_is : old worked_name ≡ value) (new_is : new worked_name ≡ to)
    (entry : S.a worked_name worked_name ≡ pos m *ℤ pos S.q) (right : S.c worked_name ≡ pos r *ℤ pos S.q) (moves : Moves names old new S T) where
  named_first : Contains names worked_name
  named_first = subst (λ (names : List PlainId). Contains names worked_name) (sym names_are) (0, omega arith, refl)

  difference : above to value *ℤ pos moves.s ≡ moves.x worked_name *ℤ pos (below to value)
  difference =
      subst (λ (d : Decimal). IsExactDifference d value (moves.x worked_name) moves.s) new_is
      (subst (λ (d : Decimal). IsExactDifference (new worked_name) d (moves.x worked_name) moves.s) old_is (moves.differences worked_name named_first))

  moved_right : T.c worked_name *ℤ pos (S.q * moves.s) ≡ (S.c worked_name *ℤ pos moves.s -ℤ (S.a worked_name worked_name *ℤ moves.x worked_name +ℤ pos 0)) *ℤ pos T.q
  moved_right =
      subst (λ (names : List PlainId). T.c worked_name *ℤ pos (S.q * moves.s) ≡ (S.c worked_name *ℤ pos moves.s -ℤ row_times names S.a worked_name moves.x) *ℤ pos T.q) names_are (moves.right worked_name)

  pub entry_moved : T.a worked_name worked_name ≡ pos m *ℤ pos T.q
  entry_moved =
      same_from_product (T.a worked_name worked_name) (pos m *ℤ pos T.q) S.q moves.plain_some
      (moves.matrix worked_name worked_name ∙ ap (λ z. z *ℤ pos T.q) entry ∙ *ℤ_right_comm (pos m) (pos S.q) (pos T.q))

  pub right_moved : T.c worked_name *ℤ pos (below to value) ≡ (pos r *ℤ pos (below to value) -ℤ pos m *ℤ above to value) *ℤ pos T.q
  right_moved =
      less_product (pos r) (pos m) (above to value) (moves.x worked_name) (T.c worked_name) (S.c worked_name) (S.a worked_name worked_name) S.q moves.s T.q (below to value)
      moves.plain_some moves.s_some difference right entry moved_right

module _ (name : List ℕ) (value to : Decimal) (m r : ℕ) (base : List Row) (T : NamedSystem) (base_is : value_of base worked_name ≡ to) (h : IsExactAt base (worked_file name value m r) T) where
  source : h.known.source ≡ Equations (blocks_at value (whole m) (whole r))
  source = source_is name one value (whole m) (whole r) h.known.source h.known.has

  names_alone : h.names ≡ worked_name ∷ []
  names_alone = alone_permuted worked_name h.names (subst (λ source. AreNamesOf (rows_of source) h.names) source h.known.named).0

  own_value : value_of h.apriori worked_name ≡ value
  own_value = ap (λ rows. value_of rows worked_name) (h.known.rows_are ∙ ap apriori_of source)

  own_entry : h.S.a worked_name worked_name ≡ pos m *ℤ pos h.S.q
  own_entry = counted (h.S.a worked_name worked_name) m h.S.q (matrix_means name one value (whole m) (whole r) h.S h.exact)

  own_right : h.S.c worked_name ≡ pos r *ℤ pos h.S.q
  own_right = counted (h.S.c worked_name) r h.S.q (vector_means name one value (whole m) (whole r) h.S h.exact)

  file_entry : T.a worked_name worked_name ≡ pos m *ℤ pos T.q
  file_entry = entry_moved h.names (value_of h.apriori) (value_of base) value to m r h.S T names_alone own_value base_is own_entry own_right h.moves

  file_right : T.c worked_name *ℤ pos (below to value) ≡ (pos r *ℤ pos (below to value) -ℤ pos m *ℤ above to value) *ℤ pos T.q
  file_right = right_moved h.names (value_of h.apriori) (value_of base) value to m r h.S T names_alone own_value base_is own_entry own_right h.moves

-- ---- two files
-- a fraction over an equal denominator
over_same : (x z : ℤ) (q r : ℕ) → q ≡ r → x ≡ z *ℤ pos q → x ≡ z *ℤ pos r
over_same x z q r e h = subst (λ d. x ≡ z *ℤ pos d) e h

-- the systems of two files, whose sum is S at the worked name
record AreTwo (base : List Row) (a b : PlainInput) (S : NamedSystem) : Type 0 where
  s : NamedSystem
  t : NamedSystem
  first : IsExactAt base a s
  second : IsExactAt base b t
  first_q : s.q ≡ S.q
  second_q : t.q ≡ S.q
  matrix : S.a worked_name worked_name ≡ s.a worked_name worked_name +ℤ (t.a worked_name worked_name +ℤ pos 0)
  right : S.c worked_name ≡ s.c worked_name +ℤ (t.c worked_name +ℤ pos 0)

two_by : (base : List Row) (a b : PlainInput) (S : NamedSystem) (systems : List NamedSystem) → AreEach (IsExactAt base) (a ∷ b ∷ []) systems → IsSumOf systems S → AreTwo base a b S
two_by base a b S [] each sum = absurd each
two_by base a b S (s ∷ []) each sum = absurd each.1
two_by base a b S (s ∷ t ∷ []) each sum = record {
  s = s;
  t = t;
  first = each.0;
  second = each.1.0;
  first_q = All-head (λ (part : NamedSystem). part.q ≡ S.q) s (t ∷ []) sum.denominators;
  second_q = All-head (λ (part : NamedSystem). part.q ≡ S.q) t [] (All-tail (λ (part : NamedSystem). part.q ≡ S.q) s (t ∷ []) sum.denominators);
  matrix = sum.matrix worked_name worked_name;
  right = sum.right worked_name;
}
two_by base a b S (s ∷ t ∷ u ∷ more) each sum = absurd each.1.1

two_of : (reference : List ℕ) (a b : PlainInput) (S : NamedSystem) → IsExactOf reference (a ∷ b ∷ []) S → AreTwo (counted_rows reference (a ∷ b ∷ [])) a b S
two_of reference a b S h =
    subst (λ (base : List Row). AreTwo base a b S) h.common.0 (two_by h.base a b S h.systems h.each h.sum)

-- ---- two files with one value
abbrev first_file : PlainInput
first_file = worked_file (codes "a") one 4 2

abbrev second_file : PlainInput
second_file = worked_file (codes "b") one 3 1

pub entries_added : (S : NamedSystem) → IsExactOf [] (first_file ∷ second_file ∷ []) S → S.a worked_name worked_name ≡ pos 7 *ℤ pos S.q
entries_added S h =
    let h = two_of [] first_file second_file S h in
    let base = counted_rows [] (first_file ∷ second_file ∷ []) in
    let first = over_same (h.s.a worked_name worked_name) (pos 4) h.s.q S.q h.first_q (file_entry (codes "a") one one 4 2 base h.s refl h.first) in
    let second = over_same (h.t.a worked_name worked_name) (pos 3) h.t.q S.q h.second_q (file_entry (codes "b") one one 3 1 base h.t refl h.second) in
    let whole = h.matrix in
    omega (arith, ints)

pub rights_added : (S : NamedSystem) → IsExactOf [] (first_file ∷ second_file ∷ []) S → S.c worked_name ≡ pos 3 *ℤ pos S.q
rights_added S h =
    let h = two_of [] first_file second_file S h in
    let base = counted_rows [] (first_file ∷ second_file ∷ []) in
    let first = over_same (h.s.c worked_name *ℤ pos 1) (pos 2) h.s.q S.q h.first_q (file_right (codes "a") one one 4 2 base h.s refl h.first) in
    let second = over_same (h.t.c worked_name *ℤ pos 1) (pos 1) h.t.q S.q h.second_q (file_right (codes "b") one one 3 1 base h.t refl h.second) in
    let whole = h.right in
    omega (arith, ints)

-- ---- two files with two values
abbrev moved_file : PlainInput
moved_file = worked_file (codes "b") one_and_three_tenths 4 2

pub entries_moved : (S : NamedSystem) → IsExactOf [] (first_file ∷ moved_file ∷ []) S → S.a worked_name worked_name ≡ pos 8 *ℤ pos S.q
entries_moved S h =
    let h = two_of [] first_file moved_file S h in
    let base = counted_rows [] (first_file ∷ moved_file ∷ []) in
    let first = over_same (h.s.a worked_name worked_name) (pos 4) h.s.q S.q h.first_q (file_entry (codes "a") one one 4 2 base h.s refl h.first) in
    let second = over_same (h.t.a worked_name worked_name) (pos 4) h.t.q S.q h.second_q (file_entry (codes "b") one_and_three_tenths one 4 2 base h.t refl h.second) in
    let whole = h.matrix in
    omega (arith, ints)

pub rights_moved : (S : NamedSystem) → IsExactOf [] (first_file ∷ moved_file ∷ []) S → S.c worked_name *ℤ pos 5 ≡ pos 26 *ℤ pos S.q
rights_moved S h =
    let h = two_of [] first_file moved_file S h in
    let base = counted_rows [] (first_file ∷ moved_file ∷ []) in
    let first = over_same (h.s.c worked_name *ℤ pos 1) (pos 2) h.s.q S.q h.first_q (file_right (codes "a") one one 4 2 base h.s refl h.first) in
    let second = over_same (h.t.c worked_name *ℤ pos 10) (pos 32) h.t.q S.q h.second_q (file_right (codes "b") one_and_three_tenths one 4 2 base h.t refl h.second) in
    let whole = h.right in
    omega (arith, ints)

pub rights_referred : (S : NamedSystem) → IsExactOf (codes "b") (first_file ∷ moved_file ∷ []) S → S.c worked_name *ℤ pos 5 ≡ pos 14 *ℤ pos S.q
rights_referred S h =
    let h = two_of (codes "b") first_file moved_file S h in
    let base = counted_rows (codes "b") (first_file ∷ moved_file ∷ []) in
    let first = over_same (h.s.c worked_name *ℤ pos 10) (pos 8) h.s.q S.q h.first_q (file_right (codes "a") one one_and_three_tenths 4 2 base h.s refl h.first) in
    let second = over_same (h.t.c worked_name *ℤ pos 100) (pos 200) h.t.q S.q h.second_q (file_right (codes "b") one_and_three_tenths one_and_three_tenths 4 2 base h.t refl h.second) in
    let whole = h.right in
    omega (arith, ints)
