-- What the rows of a block keep.
use Rattle.std.proofs.Common.{◌≡◌, ◌∙◌, ◌++◌, ◌∷◌, ◌⊎◌, inl, inr, ℕ, if◌then◌else◌, ◌<◌, ◌^◌, Bool, true, false, List, [], length, Option, Some, None, Ok, sym, ap, refl, subst, arith}
use Rattle.std.specs.List.{slice_get}
use Rattle.std.proofs.lemmas.Bool.{leb-true, and_parts}
use Rattle.std.proofs.lemmas.List.{length_push, get_or_push, get_or_append_left}
use Rattle.std.proofs.lemmas.List.Elements.{All-push}
use Rattle.std.proofs.lemmas.Option.{slice_get_within, slice_get-get_or, get_or_from_slice_get}
use Rattle.std.proofs.Math.Decide.{dec_lt}
use Rattle.stated_order.proofs.StepLaws.{went_on, ok_same}
use Rattle.whole_numbers.proofs.Powers.{ten_le}
use Rattle.decimal_e.specs.Digits.{number}
use Rattle.decimal_e.specs.Decimals.{Decimal}
use Rattle.decimal_e.specs.Fractions.{IsAtMost}
use Rattle.snx_lines.specs.Lines.{PlainLine, columns}
use Rattle.snx_rows.proofs.Deviations.{IsShort, deviation_short}
use Rattle.snx_rows.proofs.Digits.{number_below, are_digits}
use Rattle.snx_rows.specs.Indices.{is_index, index_of, index_on}
use Rattle.snx_rows.specs.Rows.{IsRead, IsSized, or_cause}
use Rattle.snx_rows.specs.Blocks.{StandsOn, IsNextRow, IsIndex, AreDistinct, AreSized, HasShortDeviation, AreSound}
use Rattle.snx_rows.specs.declared.causes.Cause.TheVariants as causes
use Rattle.snx_rows.specs.declared.rows.Shape.{Shape}
use Rattle.snx_rows.specs.declared.rows.Shape.TheVariants.{Value, Vector}
use Rattle.snx_rows.specs.declared.rows.Row.{Row}

-- ---- indices
some_where : (b : Bool) (n m : ℕ) → (if b then Some n else None) ≡ Some m → (b ≡ true) × (n ≡ m)
some_where true n m h = (refl, cc)
some_where false n m h = cc

index_is : (text : List ℕ) (index : ℕ) → index_of text ≡ Some index → IsIndex index
index_is text index h =
    let w = some_where (is_index text) (number text) index h in
    let some = and_parts _ _ w.0 in
    let digits = and_parts _ _ some.0 in
    let most = ten_le (length text) 5 (leb-true _ _ digits.0) in
    let below = number_below text (are_digits text digits.1) in
    let first = leb-true _ _ some.1 in
    (omega (arith, first, w.1), omega (arith, below, most, w.1))

given_index : (o : Option ℕ) (index : ℕ) → Ok index ≡ or_cause causes.Index o → o ≡ Some index
given_index (Some x) index h = cc
given_index None index h = cc

-- ---- what a line says
read_says : (shape : Shape) (line : PlainLine) (row : Row) → IsRead shape line (Ok row) → (index_on line.text ≡ Some row.index) × HasShortDeviation row × ((value : Decimal) × IsSized shape value (Ok row.value))
read_says shape line row h =
    let index = went_on _ _ row h in
    let name = went_on _ _ row index.onward in
    let unit = went_on _ _ row name.onward in
    let value = went_on _ _ row unit.onward in
    let sized = went_on _ _ row value.onward in
    let deviation = went_on _ _ row sized.onward in
    let same = ok_same row _ deviation.onward in
    let its_index : row.index ≡ index.gives = ap (λ (r : Row). r.index) same in
    let its_value : row.value ≡ sized.gives = ap (λ (r : Row). r.value) same in
    let its_deviation : row.dev ≡ deviation.gives = ap (λ (r : Row). r.dev) same in (
      given_index (index_on line.text) index.gives index.given ∙ ap Some (sym its_index),
      subst IsShort (sym its_deviation) (deviation_short shape line.text deviation.gives deviation.given),
      (value.gives, subst (λ (d : Decimal). IsSized shape value.gives (Ok d)) (sym its_value) sized.given),
    )

-- ---- one row more
-- a row of the list is one of those before, or the last
last_or_before : (rows : List Row) (row one : Row) (i : ℕ) → slice_get (rows ++ row ∷ []) i ≡ Some one → (slice_get rows i ≡ Some one) ⊎ ((i ≡ length rows) × (one ≡ row))
last_or_before rows row one i h =
    elim (dec_lt i (length rows)) [
      | yes l ↦ inl (slice_get-get_or rows i one l ∙ ap Some (sym (get_or_append_left rows (row ∷ []) one i l) ∙ get_or_from_slice_get (rows ++ row ∷ []) i one one h))
      | no n ↦
          let w = slice_get_within (rows ++ row ∷ []) i one h in
          let e : length rows ≡ i = omega (arith, length_push rows row, w) in
          inr (sym e, sym (get_or_from_slice_get (rows ++ row ∷ []) i one one h) ∙ get_or_push rows row one i e)
    ]

module _ {X : Type 0} (f : Row → X) (rows : List Row) (row : Row) (apart : (i : ℕ) (other : Row) → slice_get rows i ≡ Some other → f other ≡ f row → ⊥) (distinct : AreDistinct f rows) where
  distinct_more : AreDistinct f (rows ++ row ∷ [])
  distinct_more i j one other at_i at_j same =
      elim (last_or_before rows row one i at_i) [
        | inl a ↦
            elim (last_or_before rows row other j at_j) [
              | inl b ↦ distinct i j one other a b same
              | inr b ↦ absurd (apart i one a (same ∙ ap f b.1))
            ]
        | inr a ↦
            elim (last_or_before rows row other j at_j) [
              | inl b ↦ absurd (apart j other b (sym same ∙ ap f a.1))
              | inr b ↦ a.0 ∙ sym b.0
            ]
      ]

sized_more : (shape : Shape) (rows : List Row) (row : Row) (value : Decimal) → AreSized shape rows → IsSized shape value (Ok row.value) → AreSized shape (rows ++ row ∷ [])
sized_more Value rows row value sized h = All-push (λ (r : Row). IsAtMost (10 ^ 12) r.value) rows row sized (subst (λ (d : Decimal). IsAtMost (10 ^ 12) d) (sym h.0) h.1)
sized_more Vector rows row value sized h = tt

module _ (shape : Shape) (rows : List Row) (row : Row) (sound : AreSound shape rows) where
  with_row : (line : PlainLine) → IsRead shape line (Ok row) → ¬ (StandsOn rows row) → length rows < 1000 → AreSound shape (rows ++ row ∷ [])
  with_row line read new room =
      let says = read_says shape line row read in
      record {
        few = omega (arith, length_push rows row, room);
        indexed = All-push (λ (r : Row). IsIndex r.index) rows row sound.indexed (index_is (columns line.text 2 6) row.index says.0);
        indices = distinct_more (λ r. r.index) rows row (λ i other a same. new (i, other, slice_get_within rows i other a, get_or_from_slice_get rows i other other a, inl same)) sound.indices;
        names = distinct_more (λ r. r.id) rows row (λ i other a same. new (i, other, slice_get_within rows i other a, get_or_from_slice_get rows i other other a, inr same)) sound.names;
        sized = sized_more shape rows row says.2.0 sound.sized says.2.1;
        deviations = All-push HasShortDeviation rows row sound.deviations says.1;
      }

  -- what comes next keeps it
  pub sound_more : (before : List Row) → before ≡ rows → (number : ℕ) (text : List ℕ) → IsNextRow shape before (record { number = number; kind = None; text = text }) (Ok row) → AreSound shape (rows ++ row ∷ [])
  sound_more before same number text h =
      let line : PlainLine = record { number = number; kind = None; text = text } in
      let read = went_on _ _ row h in
      let new = went_on _ _ row read.onward in
      let its_row : row ≡ read.gives = new.onward.0 ∙ new.given.0 in
      with_row line (subst (λ r. IsRead shape line (Ok r)) (sym its_row) read.given)
      (subst (λ l. ¬ (StandsOn l row)) same (subst (λ r. ¬ (StandsOn before r)) (sym its_row) new.given.1))
      (subst (λ l. length l < 1000) same new.onward.1)
