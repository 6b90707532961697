-- What normal equations keep when conditions are added.
use Rattle.std.proofs.Common.{◌≡◌, ◌≤◌, ◌<◌, ◌+◌, ◌*◌, ◌^◌, ◌∙◌, inl, inr, ℕ, suc, ℤ, pos, ◌*ℤ◌, List, [], ◌∷◌, Result, Ok, All, length, sym, ap, subst, arith}
use Rattle.std.proofs.Math.IntN.{◌-ℤ◌}
use Rattle.std.proofs.lemmas.Bool.{cases_lt}
use Rattle.std.proofs.lemmas.Int.{ints}
use Rattle.stated_order.proofs.StepLaws.{ok_same}
use Rattle.stated_order.specs.First.{HoldsLower}
use Rattle.stated_order.specs.Steps.{Through}
use Rattle.whole_numbers.specs.Intervals.{Interval, interval_add, size}
use Rattle.whole_numbers.specs.Lists.{at}
use Rattle.whole_numbers.proofs.Ring.{*ℤ_comm}
use Rattle.inverse_squares.specs.Quotients.{IsOverSquare}
use Rattle.inverse_squares.proofs.Alone.{one_over_square}
use Rattle.sym_blocks.specs.Tables.{zero_interval}
use Rattle.decimal_e.specs.Fractions.{IsAtMost}
use Rattle.param_ids.specs.Order.{IsNames}
use Rattle.param_ids.specs.Tables.{IsScale}
use Rattle.control_doc.specs.declared.plans.Site.{Site}
use Rattle.neq_stack.specs.Neqs.{PlainNeq, IsSound}
use Rattle.neq_stack.specs.ByName.{AreAtMost, entry_in}
use Rattle.datum_rows.specs.Conditions.{Condition, reach}
use Rattle.datum_rows.specs.Additions.{coefficient_at, IsRowInterval, RowFits, IsWithRow, AddsRow}
use Rattle.datum_rows.proofs.NamedRows.{added_at, right_kept}

pub sound_after : (sites : List Site) (neq : PlainNeq) (condition : Condition) (after : PlainNeq) → IsWithRow sites neq condition after → IsSound neq → IsSound after
sound_after sites neq condition after with_row sound =
    let names = ap length (sym with_row.names) in
    record {
      names = subst IsNames (sym with_row.names) sound.names;
      rows = with_row.rows ∙ sound.rows ∙ names;
      entries = with_row.whole;
      rights = ap length with_row.right ∙ sound.rights ∙ names;
      values = ap length with_row.apriori ∙ sound.values ∙ names;
      named_units = ap length with_row.units ∙ sound.named_units ∙ names;
      exponents = ap length with_row.scales ∙ sound.exponents ∙ names;
      modest = subst (All (IsAtMost (10 ^ 12))) (sym with_row.apriori) sound.modest;
      scaled = subst (All IsScale) (sym with_row.scales) sound.scaled;
    }

-- ---- the two orders of a pair
turned_power : (r t u : ℤ) → pos 18 -ℤ r -ℤ t -ℤ u ≡ pos 18 -ℤ r -ℤ u -ℤ t
turned_power r t u = omega (arith, ints)

pub row_turned : (sites : List Site) (neq : PlainNeq) (condition : Condition) (i j : ℕ) (w : Interval) → IsRowInterval sites neq condition i j w → IsRowInterval sites neq condition j i w
row_turned sites neq condition i j w is =
    let a = coefficient_at sites neq condition i in
    let b = coefficient_at sites neq condition j in
    let r = pos (reach condition.motion) in
    subst (λ h. IsOverSquare h condition.sigma (pos 18 -ℤ r -ℤ at neq.scales j -ℤ at neq.scales i) w) (*ℤ_comm a b)
    (subst (λ z. IsOverSquare (a *ℤ b) condition.sigma z w) (turned_power r (at neq.scales i) (at neq.scales j)) is)

pub small_row : (sites : List Site) (neq : PlainNeq) (condition : Condition) (i j : ℕ) (w : Interval) → i < length neq.names → j < length neq.names → HoldsLower (length neq.names) (RowFits sites neq condition) → IsRowInterval sites neq condition i j w → size w ≤ 10 ^ 34
small_row sites neq condition i j w li lj fits is =
    elim (cases_lt i j) [
      | inl above ↦
          let there = fits j i lj (omega arith) in
          subst (λ v. size v ≤ 10 ^ 34) (row_is_one j i there.0 w there.1 (row_turned sites neq condition i j w is)) there.2
      | inr low ↦
          let there = fits i j li low in
          subst (λ v. size v ≤ 10 ^ 34) (row_is_one i j there.0 w there.1 is) there.2
    ]
  where
    row_is_one : (i j : ℕ) (v w : Interval) → IsRowInterval sites neq condition i j v → IsRowInterval sites neq condition i j w → v ≡ w
    row_is_one i j v w a b = one_over_square (coefficient_at sites neq condition i *ℤ coefficient_at sites neq condition j) condition.sigma (pos 18 -ℤ pos (reach condition.motion) -ℤ at neq.scales i -ℤ at neq.scales j) v w a b

-- ---- sizes
pub size_of_sum : (a b : Interval) (most : ℕ) → size a ≤ most → size b ≤ 10 ^ 34 → size (interval_add a b) ≤ most + 10 ^ 34
size_of_sum a b most one other = omega (arith, ints)

module _ (sites : List Site) (neq : PlainNeq) (condition : Condition) (after : PlainNeq) (most : ℕ) (fits : HoldsLower (length neq.names) (RowFits sites neq condition)) (with_row : IsWithRow sites neq condition after) (small : AreAtMost most neq) where
  grown : (e v w : Interval) → e ≡ interval_add v w → size v ≤ most → size w ≤ 10 ^ 34 → size e ≤ most + 10 ^ 34
  grown e v w is one other = subst (λ x. size x ≤ most + 10 ^ 34) (sym is) (size_of_sum v w most one other)

  pub modest_after : AreAtMost (most + 10 ^ 34) after
  modest_after = record {
    entries = λ one other.
        elim (added_at sites neq condition after with_row one other) [
          | inl h ↦ grown (entry_in after one other) (entry_in neq one other) h.interval h.added (small.entries one other) (small_row sites neq condition h.row h.col h.interval h.row_within h.col_within fits h.is_row)
          | inr h ↦ grown (entry_in after one other) (entry_in neq one other) zero_interval h.added (small.entries one other) (omega arith)
        ];
    rights = λ id. subst (λ w. size w ≤ most + 10 ^ 34) (sym (right_kept sites neq condition after with_row id)) (omega (arith, small.rights id));
  }

-- ---- one condition after another
pub sound_through : (sites : List Site) (neq after : PlainNeq) (list : List Condition) → Through (AddsRow sites) neq list (Ok after) → IsSound neq → IsSound after
sound_through sites neq after [] is sound = subst IsSound (ok_same neq after (sym is)) sound
sound_through sites neq after (c ∷ rest) is sound =
    elim is [
      | inl f ↦ sound_through sites f.gives after rest f.onward (sound_after sites neq c f.gives f.given.1 sound)
      | inr f ↦ let e = f.is_cause in cc
    ]

pub modest_through : (sites : List Site) (neq after : PlainNeq) (list : List Condition) (most : ℕ) → Through (AddsRow sites) neq list (Ok after) → AreAtMost most neq → AreAtMost (most + length list * 10 ^ 34) after
modest_through sites neq after [] most is small =
    let e : most ≡ most + 0 * 10 ^ 34 = omega arith in
    subst (λ n. AreAtMost n after) e (subst (AreAtMost most) (ok_same neq after (sym is)) small)
modest_through sites neq after (c ∷ rest) most is small =
    elim is [
      | inl f ↦
          let e : most + 10 ^ 34 + length rest * 10 ^ 34 ≡ most + suc (length rest) * 10 ^ 34 = omega arith in
          subst (λ n. AreAtMost n after) e (modest_through sites f.gives after rest (most + 10 ^ 34) f.onward (modest_after sites neq c f.gives most f.given.0 f.given.1 small))
      | inr f ↦ let e = f.is_cause in cc
    ]

-- all but the matrix is as before
pub record IsKept (neq after : PlainNeq) : Type 0 where
  pub names : after.names ≡ neq.names
  pub right : after.right ≡ neq.right
  pub apriori : after.apriori ≡ neq.apriori
  pub units : after.units ≡ neq.units
  pub scales : after.scales ≡ neq.scales

pub kept_through : (sites : List Site) (neq after : PlainNeq) (list : List Condition) → Through (AddsRow sites) neq list (Ok after) → IsKept neq after
kept_through sites neq after [] is =
    let same = ok_same after neq is in
    record { names = ap (λ n. n.names) same; right = ap (λ n. n.right) same; apriori = ap (λ n. n.apriori) same; units = ap (λ n. n.units) same; scales = ap (λ n. n.scales) same }
kept_through sites neq after (c ∷ rest) is =
    elim is [
      | inl f ↦
          let later = kept_through sites f.gives after rest f.onward in
          let first = f.given.1 in
          record { names = later.names ∙ first.names; right = later.right ∙ first.right; apriori = later.apriori ∙ first.apriori; units = later.units ∙ first.units; scales = later.scales ∙ first.scales }
      | inr f ↦ let e = f.is_cause in cc
    ]
