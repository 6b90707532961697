-- Rows that are matched, and the names of rows: each name has an a priori row, and each row has its name.
use Rattle.std.proofs.Common.{◌≡◌, ◌<◌, ◌∙◌, ℕ, Bool, true, false, not, List, Option, Some, None, Ok, All, length, get_or, slice_get, Contains, refl, sym, ap, arith}
use Rattle.std.specs.List.{find, list_any, position_or_len}
use Rattle.std.proofs.Math.Decide.{dec_lt}
use Rattle.std.proofs.lemmas.List.Folds.{find_at, list_any_none}
use Rattle.std.proofs.lemmas.List.Sums.{fails_before_first}
use Rattle.std.proofs.lemmas.List.Sorted.{Contains-permutation, IsPermutation-sym}
use Rattle.std.proofs.lemmas.Option.{none-some, slice_get-get_or, slice_get_within, get_or_from_slice_get}
use Rattle.param_ids.specs.Plain.{PlainId}
use Rattle.snx_rows.specs.Named.{is_row_of, row_of}
use Rattle.snx_rows.specs.declared.rows.Row.{Row}
use Rattle.snx_matrices.specs.Elements.{AreElementsOf}
use Rattle.snx_matrices.specs.declared.elements.Cell.{Cell}
use Rattle.named_tables.specs.Naming.{AreNamesOf, lacks_row, matched, matched_in}
use Rattle.named_tables.specs.Tables.{HasNames}
use Rattle.named_tables.proofs.NameLaws.{ids_in, contains_id, named_row}

-- the rows of a matrix have their names among the names of all
pub names_cover : (rows : List Row) (names : List PlainId) (cells : List Cell) → AreNamesOf rows names → AreElementsOf (length rows) cells → All (HasNames names rows) cells
names_cover rows names cells are elements k d l = record { row = λ row is. named (get_or cells k d).row row is; col = λ row is. named (get_or cells k d).col row is }
  where
    named : (at : ℕ) (row : Row) → slice_get rows at ≡ Some row → Contains names row.id
    named at row is = contains_id rows names at row are.0 (slice_get_within rows at row is) (sym (get_or_from_slice_get rows at row row is))

-- no row passes a test where none is found
none_passes : (P : Row → Bool) (rows : List Row) → find P rows ≡ None → (k : ℕ) (d : Row) → k < length rows → P (get_or rows k d) ≡ false
none_passes P rows none k d l =
    elim (dec_lt (position_or_len P rows) (length rows)) [
      | yes within ↦ absurd (none-some (get_or rows (position_or_len P rows) d) (sym none ∙ find_at P rows ∙ slice_get-get_or rows (position_or_len P rows) d within))
      | no past ↦ fails_before_first P rows k d (omega arith)
    ]

-- the row of a name, where some row has it
some_row : (apriori : List Row) (id : PlainId) (o : Option Row) → row_of apriori id ≡ o → list_any (is_row_of id) apriori ≡ true → (row : Row) × (row_of apriori id ≡ Some row)
some_row apriori id (Some row) is any = (row, is)
some_row apriori id None is any =
    let none : list_any (is_row_of id) apriori ≡ false = list_any_none (is_row_of id) apriori (λ k d l. none_passes (is_row_of id) apriori is k d l) in
    let clash : true ≡ false = sym any ∙ none in
    cc

none_found : (o : Option Row) → Ok tt ≡ matched_in o → o ≡ None
none_found None e = refl
none_found (Some row) e = cc

any_from : (b : Bool) → not b ≡ false → b ≡ true
any_from true e = refl
any_from false e = sym e

-- each name of matched rows has an a priori row
pub has_row : (apriori rows : List Row) (names : List PlainId) (id : PlainId) → Ok tt ≡ matched apriori rows → AreNamesOf rows names → Contains names id → (row : Row) × (row_of apriori id ≡ Some row)
has_row apriori rows names id all_matched are there =
    let given : Contains (ids_in rows) id = Contains-permutation names (ids_in rows) id (IsPermutation-sym (ids_in rows) names are.0) there in
    let row = named_row rows given.0 id (slice_get-get_or (ids_in rows) given.0 id given.1 ∙ ap (λ x. Some x) given.2) in
    let within : given.0 < length rows = slice_get_within rows given.0 row.0 row.1 in
    let fails : lacks_row apriori (get_or rows given.0 row.0) ≡ false = none_passes (lacks_row apriori) rows (none_found (find (lacks_row apriori) rows) all_matched) given.0 row.0 within in
    let named : (get_or rows given.0 row.0).id ≡ id = ap (λ (r : Row). r.id) (get_or_from_slice_get rows given.0 row.0 row.0 row.1) ∙ row.2 in
    some_row apriori id (row_of apriori id) refl (ap (λ x. list_any (is_row_of x) apriori) (sym named) ∙ any_from (list_any (is_row_of (get_or rows given.0 row.0).id) apriori) fails)
