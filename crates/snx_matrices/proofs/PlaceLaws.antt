-- The place of the row of an index.
use Rattle.std.proofs.Common.{◌≡◌, ◌≤◌, ◌+◌, ◌∷◌, ◌∙◌, inl, inr, ℕ, suc, List, [], length, Option, Some, None, All, slice_get, eqb, arith, refl, sym, ap}
use Rattle.std.specs.List.{position_from}
use Rattle.std.proofs.lemmas.Bool.{cases_eq, eq-eqb, ne_eqb}
use Rattle.std.proofs.lemmas.List.Elements.{All-head, All-tail}
use Rattle.std.proofs.lemmas.Option.{slice_get_within, get_or_from_slice_get}
use Rattle.snx_rows.specs.Blocks.{IsIndex}
use Rattle.snx_rows.specs.declared.rows.Row.{Row}
use Rattle.snx_matrices.specs.Elements.{place_of}
use Rattle.snx_matrices.specs.Passing.{IsCalled}

-- the first place from i on
abbrev pub place_from : ℕ → List Row → ℕ → Option ℕ
place_from i rows index = position_from (λ (row : Row). eqb row.index index) i rows

-- one more row in front
pub here : (i : ℕ) (row : Row) (rest : List Row) (index : ℕ) → row.index ≡ index → place_from i (row ∷ rest) index ≡ Some i
here i row rest index e = rw (eq-eqb row.index index e) refl

pub further : (i : ℕ) (row : Row) (rest : List Row) (index : ℕ) → (row.index ≡ index → ⊥) → place_from i (row ∷ rest) index ≡ place_from (i + 1) rest index
further i row rest index n = rw (ne_eqb row.index index n) refl

-- no row has an index past the greatest
pub past : (i : ℕ) (rows : List Row) (index : ℕ) → All (λ row. IsIndex row.index) rows → 100000 ≤ index → place_from i rows index ≡ None
past i [] index all l = refl
past i (row ∷ rest) index all l =
    let one = All-head (λ (row : Row). IsIndex row.index) row rest all in
    further i row rest index (λ e. omega (arith, one.1)) ∙ past (i + 1) rest index (All-tail (λ (row : Row). IsIndex row.index) row rest all) l

-- the row at the place that is found has the index
pub record IsFound (i : ℕ) (rows : List Row) (index p : ℕ) : Type 0 where
  pub after : ℕ
  pub row : Row
  pub place : p ≡ i + after
  pub stands : slice_get rows after ≡ Some row
  pub same : row.index ≡ index

pub found : (i : ℕ) (rows : List Row) (index p : ℕ) → place_from i rows index ≡ Some p → IsFound i rows index p
found i [] index p e = let f : None ≡ Some p = e in absurd (cc)
found i (row ∷ rest) index p e =
    elim (cases_eq row.index index) [
      | inl same ↦ let f : Some i ≡ Some p = sym (here i row rest index same) ∙ e in let q : i ≡ p = cc in record { after = 0; row = row; place = omega arith; stands = refl; same = same }
      | inr other ↦
          let r = found (i + 1) rest index p (sym (further i row rest index other) ∙ e) in
          let s : p ≡ i + suc r.after = omega (arith, r.place) in
          record { after = suc r.after; row = r.row; place = s; stands = r.stands; same = r.same }
    ]

-- the row that is called is one of them, and its index is one of theirs
pub called_within : (rows : List Row) (index p : ℕ) → All (λ row. IsIndex row.index) rows → place_of rows index ≡ Some p → IsCalled (length rows) (record { index = index; place = p })
called_within rows index p all e =
    let f = found 0 rows index p e in
    let l = slice_get_within rows f.after f.row f.stands in
    let g = ap (λ (r : Row). r.index) (get_or_from_slice_get rows f.after f.row f.row f.stands) in
    let b : index ≤ 99999 = omega (arith, g, (all f.after f.row l).1, f.same) in
    record { index = b; place = omega (arith, l, f.place) }
