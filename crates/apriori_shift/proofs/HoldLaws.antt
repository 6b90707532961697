-- Where a system lies in normal equations, it lies, taken to other values, in the normal equations at these.
use Rattle.stated_order.proofs.StepLaws.{ok_same}
use Rattle.std.proofs.Common.{◌≡◌, ◌<◌, ◌*◌, ◌∙◌, inl, inr, ℕ, ℤ, pos, ◌*ℤ◌, List, Option, Some, Ok, map, slice_get, refl, sym, ap, subst, arith}
use Rattle.std.specs.Prelude.{slice_index_or, unwrap_or, Contains}
use Rattle.std.specs.Option.{option_map}
use Rattle.std.proofs.Math.IntN.{◌-ℤ◌, zero-*ℤ}
use Rattle.std.proofs.Math.Nat.{mul-pos, mul_comm}
use Rattle.std.proofs.lemmas.Int.{ints}
use Rattle.std.proofs.lemmas.List.{get_or-map}
use Rattle.std.proofs.lemmas.Option.{slice_get-map, slice_get_within, get_or_from_slice_get}
use Rattle.whole_numbers.specs.Intervals.{Interval, interval_sub}
use Rattle.whole_numbers.specs.Lists.{at}
use Rattle.whole_numbers.proofs.EqualFractions.{same_from_product}
use Rattle.whole_numbers.proofs.Ring.{*ℤ_assoc, *ℤ_right_comm}
use Rattle.sym_blocks.specs.Tables.{zero_interval}
use Rattle.sys_model.specs.Scaling.{HoldsTimes}
use Rattle.sys_model.specs.Systems.{Fractions, row_by}
use Rattle.sys_model.proofs.ScalingLaws.{ten_below_some}
use Rattle.param_ids.specs.Plain.{PlainId}
use Rattle.decimal_e.specs.Decimals.{Decimal}
use Rattle.decimal_e.specs.Fractions.{numerator, denominator}
use Rattle.decimal_e.specs.Scales.{decimal_interval}
use Rattle.neq_stack.specs.Neqs.{PlainNeq, IsSound}
use Rattle.neq_stack.specs.ByName.{entry_in, right_in}
use Rattle.neq_stack.specs.Systems.{NamedSystem, LiesInNeq, name_at, no_name, over}
use Rattle.neq_stack.proofs.HoldLaws.{neq_lies_in_stack}
use Rattle.neq_stack.proofs.NameLaws.{contained, place_cases}
use Rattle.neq_stack.proofs.PlaceLaws.{name_there}
use Rattle.neq_stack.proofs.PlacedLaws.{no_row, no_right, right_there}
use Rattle.neq_stack.proofs.MeaningLaws.{means_holds}
use Rattle.difference_products.specs.Products.{IsProduct}
use Rattle.difference_products.specs.Exact.{HoldFactors}
use Rattle.difference_products.proofs.HoldLaws.{product_holds}
use Rattle.apriori_shift.specs.Moves.{IsExactDifference, Moves, ShiftHolds, row_times}
use Rattle.apriori_shift.specs.Shifts.{IsDifference, AreDifferences, factors_in, moved_to}
use Rattle.apriori_shift.proofs.DifferenceLaws.{difference_there}
use Rattle.apriori_shift.proofs.FractionLaws.{times_moved, times_less, zero_holds, zero_alone, sum_by_place, sum_of_zeros}
use Rattle.apriori_shift.proofs.RightLaws.{products_length, less_at}

-- ---- one difference
-- the difference of one decimal and itself
none_apart : (to from : Decimal) (x : ℤ) (s : ℕ) → to ≡ from → IsExactDifference to from x s → x ≡ pos 0
none_apart to from x s same is =
    let q = denominator to * denominator from in
    let some : 0 < q = mul-pos (ten_below_some to.exp) (ten_below_some from.exp) in
    let one = ap (λ (d : Decimal). numerator to *ℤ pos (denominator d) -ℤ numerator d *ℤ pos (denominator to)) (sym same) in
    let none : numerator to *ℤ pos (denominator from) -ℤ numerator from *ℤ pos (denominator to) ≡ pos 0 = one ∙ omega (arith, ints) in
    let left = ap (λ z. z *ℤ pos s) none in
    same_from_product x (pos 0) q some (sym is ∙ left ∙ zero-*ℤ (pos s) ∙ sym (zero-*ℤ (pos q)))

-- the interval of a difference holds it times 10^20
apart_holds : (to from : Decimal) (x : ℤ) (s : ℕ) → IsExactDifference to from x s → HoldsTimes (interval_sub (decimal_interval to (pos 20)) (decimal_interval from (pos 20))) x s (pos 20)
apart_holds to from x s is =
    let q = denominator to * denominator from in
    let some : 0 < q = mul-pos (ten_below_some to.exp) (ten_below_some from.exp) in
    let one = means_holds to (numerator to *ℤ pos (denominator from)) q (pos 20) some
    (ap (λ z. numerator to *ℤ pos z) (mul_comm (denominator to) (denominator from)) ∙ sym (*ℤ_assoc (numerator to) (pos (denominator from)) (pos (denominator to)))) in
    let other = means_holds from (numerator from *ℤ pos (denominator to)) q (pos 20) some (sym (*ℤ_assoc (numerator from) (pos (denominator to)) (pos (denominator from)))) in
    times_moved (interval_sub (decimal_interval to (pos 20)) (decimal_interval from (pos 20))) (numerator to *ℤ pos (denominator from) -ℤ numerator from *ℤ pos (denominator to)) x q s (pos 20) some is
    (times_less (decimal_interval to (pos 20)) (decimal_interval from (pos 20)) (numerator to *ℤ pos (denominator from)) (numerator from *ℤ pos (denominator to)) q (pos 20) one other)

difference_holds : (to from : Decimal) (w : Interval) (x : ℤ) (s : ℕ) → IsDifference to from w → IsExactDifference to from x s → HoldsTimes w x s (pos 20)
difference_holds to from w x s word is =
    elim word [
      | inl same ↦ subst (λ v. HoldsTimes v x s (pos 20)) (sym same.1) (subst (λ z. HoldsTimes zero_interval z s (pos 20)) (sym (none_apart to from x s same.0 is)) (zero_holds s (pos 20)))
      | inr apart ↦ subst (λ v. HoldsTimes v x s (pos 20)) (sym apart.1) (apart_holds to from x s is)
    ]

-- ---- names and places
named : (names : List PlainId) (k : ℕ) (id : PlainId) → slice_get names k ≡ Some id → name_at names k ≡ id
named names k id is = ap (λ (o : Option PlainId). unwrap_or o no_name) is

exponent_there : (exponent : PlainId → ℤ) (names : List PlainId) (scales : List ℤ) (k : ℕ) (id : PlainId) → scales ≡ map exponent names → slice_get names k ≡ Some id → at scales k ≡ exponent id
exponent_there exponent names scales k id are is =
    ap (λ l. at l k) are ∙ get_or-map exponent names k id (pos 0) (slice_get_within names k id is) ∙ ap exponent (get_or_from_slice_get names k id id is)

value_there : (f : PlainId → Decimal) (names : List PlainId) (values : List Decimal) (k : ℕ) (id : PlainId) → values ≡ map f names → slice_get names k ≡ Some id → slice_get values k ≡ Some (f id)
value_there f names values k id are is = ap (λ (l : List Decimal). slice_get l k) are ∙ slice_get-map f names k ∙ ap (option_map f) is

-- ---- right sides; c is one of S over q, d the same of T over p
-- where nothing is taken from it
unmoved : (c d r : ℤ) (q s p : ℕ) → 0 < s → r ≡ pos 0 → d *ℤ pos (q * s) ≡ (c *ℤ pos s -ℤ r) *ℤ pos p → c *ℤ pos p ≡ d *ℤ pos q
unmoved c d r q s p some none is =
    let plain : c *ℤ pos s -ℤ pos 0 ≡ c *ℤ pos s = omega (arith, ints) in
    let taken : (d *ℤ pos q) *ℤ pos s ≡ (c *ℤ pos p) *ℤ pos s = *ℤ_assoc d (pos q) (pos s) ∙ is ∙ ap (λ z. (c *ℤ pos s -ℤ z) *ℤ pos p) none ∙ ap (λ z. z *ℤ pos p) plain ∙ *ℤ_right_comm c (pos s) (pos p) in
    sym (same_from_product (d *ℤ pos q) (c *ℤ pos p) s some taken)

widened : (c : ℤ) (q s : ℕ) → c *ℤ pos (q * s) ≡ (c *ℤ pos s) *ℤ pos q
widened c q s = ap (λ z. c *ℤ pos z) (mul_comm q s) ∙ sym (*ℤ_assoc c (pos s) (pos q))

-- where the product v is taken from it
moved : (w v : Interval) (c d r : ℤ) (q s p : ℕ) (k : ℤ) → 0 < q → 0 < s → HoldsTimes w c q k → HoldsTimes v r (q * s) k → d *ℤ pos (q * s) ≡ (c *ℤ pos s -ℤ r) *ℤ pos p → HoldsTimes (interval_sub w v) d p k
moved w v c d r q s p k some some_s whole part is =
    times_moved (interval_sub w v) (c *ℤ pos s -ℤ r) d (q * s) p k (mul-pos some some_s) (sym is)
    (times_less w v (c *ℤ pos s) r (q * s) k (times_moved w c (c *ℤ pos s) q (q * s) k some (widened c q s) whole) part)

-- ---- normal equations
module _ (exponent : PlainId → ℤ) (old new : PlainId → Decimal) (neq : PlainNeq) (S T : NamedSystem) (sound : IsSound neq) (scaled : neq.scales ≡ map exponent neq.names) (valued : neq.apriori ≡ map old neq.names) (lies : LiesInNeq exponent neq S) (moves : Moves neq.names old new S T) where
  entry_lies : (one other : PlainId) → HoldsTimes (entry_in neq one other) (T.a one other) T.q (pos 18 -ℤ exponent one -ℤ exponent other)
  entry_lies one other = times_moved (entry_in neq one other) (S.a one other) (T.a one other) S.q T.q (pos 18 -ℤ exponent one -ℤ exponent other) lies.some (sym (moves.matrix one other)) (lies.entries one other)

  -- where the row of the matrix takes nothing from the right side
  right_stays : (id : PlainId) → row_times neq.names S.a id moves.x ≡ pos 0 → HoldsTimes (right_in neq id) (T.c id) T.q (pos 18 -ℤ exponent id)
  right_stays id none =
      times_moved (right_in neq id) (S.c id) (T.c id) S.q T.q (pos 18 -ℤ exponent id) lies.some
      (unmoved (S.c id) (T.c id) (row_times neq.names S.a id moves.x) S.q moves.s T.q moves.s_some none (moves.right id)) (lies.rights id)

  -- a name that is not there has a row of zeros
  row_missing : (id : PlainId) → (Contains neq.names id → ⊥) → row_times neq.names S.a id moves.x ≡ pos 0
  row_missing id none =
      sum_of_zeros neq.names (λ other. S.a id other *ℤ moves.x other) (λ other there.
      let zero : S.a id other ≡ pos 0 = zero_alone (S.a id other) S.q (pos 18 -ℤ exponent id -ℤ exponent other) (subst (λ w. HoldsTimes w (S.a id other) S.q (pos 18 -ℤ exponent id -ℤ exponent other)) (no_row neq id other none) (lies.entries id other)) in
      ap (λ z. z *ℤ moves.x other) zero ∙ zero-*ℤ (moves.x other))

  -- where all values are the same, all differences are zero
  row_unmoved : map new neq.names ≡ neq.apriori → (id : PlainId) → row_times neq.names S.a id moves.x ≡ pos 0
  row_unmoved same id =
      sum_of_zeros neq.names (λ other. S.a id other *ℤ moves.x other) (λ other there.
      let zero = none_apart (new other) (old other) (moves.x other) moves.s (same_value other there) (moves.differences other there) in
      ap (λ z. S.a id other *ℤ z) zero ∙ *ℤ-zero (S.a id other))
    where
      *ℤ-zero : (z : ℤ) → z *ℤ pos 0 ≡ pos 0
      *ℤ-zero z = omega (arith, ints)

      same_value : (other : PlainId) → Contains neq.names other → new other ≡ old other
      same_value other there =
          let lists : map new neq.names ≡ map old neq.names = same ∙ valued in
          ap new (sym there.2) ∙ sym (get_or-map new neq.names there.0 other (new other) there.1) ∙ ap (λ l. slice_index_or l there.0 (new other)) lists ∙ get_or-map old neq.names there.0 other (new other) there.1 ∙ ap old there.2

  -- ---- the products
  fractions : Fractions
  fractions = record { s = moves.s; x = λ j. moves.x (name_at neq.names j) }

  module _ (differences products : List Interval) (are : AreDifferences (map new neq.names) neq.apriori differences) (multiplied : IsProduct (factors_in neq differences) (Ok products)) where
    factors_held : HoldFactors (factors_in neq differences) (over neq.names S) fractions
    unfolding fractions
    factors_held =
        let rows = sound.rows in
        let stack = neq_lies_in_stack exponent neq S sound scaled lies in
        record {
          some = lies.some;
          plain_some = moves.s_some;
          entries = λ i j row col. stack.entries i j (omega arith) (omega arith);
          differences = λ j col.
              let there = name_there neq.names j (omega arith) in
              let id = there.0 in
              let word = difference_there (map new neq.names) neq.apriori differences j (new id) (old id) are (value_there new neq.names (map new neq.names) j id refl there.1) (value_there old neq.names neq.apriori j id valued there.1) in
              subst (λ o. HoldsTimes (slice_index_or differences j zero_interval) (moves.x o) moves.s (pos 20)) (sym (named neq.names j id there.1))
              (difference_holds (new id) (old id) (slice_index_or differences j zero_interval) (moves.x id) moves.s word (moves.differences id (contained neq.names j id there.1)));
        }

    product_lies : (i : ℕ) (id : PlainId) → slice_get neq.names i ≡ Some id → HoldsTimes (slice_index_or products i zero_interval) (row_times neq.names S.a id moves.x) (S.q * moves.s) (pos 18 -ℤ exponent id)
    unfolding fractions
    product_lies i id is =
        let rows = sound.rows in
        let within = slice_get_within neq.names i id is in
        let held = product_holds (factors_in neq differences) (over neq.names S) fractions products factors_held multiplied i (omega arith) in
        let by_place : row_by neq.table.size (over neq.names S).a i fractions.x ≡ row_times neq.names S.a id moves.x =
        ap (λ n. row_by n (over neq.names S).a i fractions.x) rows
        ∙ sum_by_place neq.names (λ other. S.a (name_at neq.names i) other *ℤ moves.x other)
        ∙ ap (λ o. row_times neq.names S.a o moves.x) (named neq.names i id is) in
        subst (λ t. HoldsTimes (slice_index_or products i zero_interval) (row_times neq.names S.a id moves.x) (S.q * moves.s) (pos 18 -ℤ t)) (exponent_there exponent neq.names neq.scales i id scaled is)
        (subst (λ z. HoldsTimes (slice_index_or products i zero_interval) z (S.q * moves.s) (pos 18 -ℤ at neq.scales i)) by_place held)

    -- the right side of a name, less its product
    right_less : (id : PlainId) → HoldsTimes (right_in (moved_to (map new neq.names) neq products) id) (T.c id) T.q (pos 18 -ℤ exponent id)
    right_less id =
        elim (place_cases neq.names id) [
          | inl h ↦
              let within = slice_get_within neq.names h.0 id h.1 in
              let rows = sound.rows in
              let rights = sound.rights in
              let many = products_length (factors_in neq differences) products multiplied in
              let here = right_there (moved_to (map new neq.names) neq products) h.0 id h.2 ∙ less_at neq.right products h.0 (omega arith) (omega arith) ∙ ap (λ w. interval_sub w (slice_index_or products h.0 zero_interval)) (sym (right_there neq h.0 id h.2)) in
              subst (λ w. HoldsTimes w (T.c id) T.q (pos 18 -ℤ exponent id)) (sym here)
              (moved (right_in neq id) (slice_index_or products h.0 zero_interval) (S.c id) (T.c id) (row_times neq.names S.a id moves.x) S.q moves.s T.q (pos 18 -ℤ exponent id) lies.some moves.s_some (lies.rights id) (product_lies h.0 id h.1) (moves.right id))
          | inr h ↦
              let zero : right_in neq id ≡ right_in (moved_to (map new neq.names) neq products) id = no_right neq id h.0 ∙ sym (no_right (moved_to (map new neq.names) neq products) id h.0) in
              subst (λ w. HoldsTimes w (T.c id) T.q (pos 18 -ℤ exponent id)) zero (right_stays id (row_missing id h.0))
        ]

    shifted : LiesInNeq exponent (moved_to (map new neq.names) neq products) T
    shifted = record { some = moves.some; entries = entry_lies; rights = right_less }

  -- at the values that they have
  kept : map new neq.names ≡ neq.apriori → LiesInNeq exponent neq T
  kept same = record { some = moves.some; entries = entry_lies; rights = λ id. right_stays id (row_unmoved same id) }

pub shift_holds : ShiftHolds
shift_holds exponent old new neq after S T sound scaled valued lies shift moves =
    elim shift [
      | inl same ↦ subst (λ n. LiesInNeq exponent n T) (sym (ok_same after neq same.1)) (kept exponent old new neq S T sound scaled valued lies moves same.0)
      | inr apart ↦ elim apart.1.2 [
        | inl h ↦ subst (λ n. LiesInNeq exponent n T) (sym h.onward.1) (shifted exponent old new neq S T sound scaled valued lies moves apart.1.0 h.gives apart.1.1 h.given)
        | inr h ↦ let e = h.is_cause in absurd (cc)
      ]
    ]
