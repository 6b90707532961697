-- There is one list of names, one table and one list of intervals, or one first number that does not fit.
use Rattle.std.proofs.Common.{◌≡◌, ◌<◌, ◌∙◌, ℕ, List, [], ◌∷◌, Ok, Err, length, get_or, slice_get, sym, ap, arith}
use Rattle.std.proofs.lemmas.List.Sorted.{Contains-permutation, IsPermutation-sym}
use Rattle.std.proofs.lemmas.Option.{slice_get-get_or, same_Some}
use Rattle.stated_order.specs.Steps.{IsOne}
use Rattle.stated_order.proofs.FirstLaws.{first_failure_is_one, first_failure_fails, first_lower_failure_is_one, first_lower_failure_fails}
use Rattle.decimal_e.specs.Decimals.{Decimal}
use Rattle.sym_blocks.specs.Tables.{SymTable, before}
use Rattle.sym_blocks.proofs.EqualTables.{equal_symmetric}
use Rattle.param_ids.specs.Plain.{PlainId}
use Rattle.param_ids.specs.Tables.{ScaleMap}
use Rattle.param_ids.proofs.Unions.{one_rising}
use Rattle.snx_rows.specs.declared.rows.Row.{Row}
use Rattle.snx_matrices.specs.declared.elements.Cell.{Cell}
use Rattle.snx_matrices.specs.declared.elements.Content.{Content}
use Rattle.snx_matrices.specs.declared.elements.Content.TheVariants.{Info}
use Rattle.named_tables.specs.Naming.{AreNamesOf}
use Rattle.named_tables.specs.Tables.{IsTable, IsTableOfContent, IsUnfitEntry, IsUnfitRow, ElementFits, ValueFits, OneTable, OneColumn}
use Rattle.named_tables.specs.declared.faults.RecoverFault.TheVariants.{Range}
use Rattle.named_tables.proofs.NameLaws.{ids_in}

-- names in order are one list
pub one_names : (rows : List Row) (ids more : List PlainId) → AreNamesOf rows ids → AreNamesOf rows more → ids ≡ more
one_names rows ids more a b =
    one_rising ids more a.1.0 b.1.0 (λ id. (
      λ there. Contains-permutation (ids_in rows) more id b.0 (Contains-permutation ids (ids_in rows) id (IsPermutation-sym (ids_in rows) ids a.0) there),
      λ there. Contains-permutation (ids_in rows) ids id a.0 (Contains-permutation more (ids_in rows) id (IsPermutation-sym (ids_in rows) more b.0) there),
    ))

some_name : (names : List PlainId) (k : ℕ) → k < length names → PlainId
some_name [] k l = absurd (omega arith)
some_name (id ∷ names) k l = id

tables_alone : (content : Content) (rows : List Row) (cells : List Cell) (weight : Decimal) (scales : ScaleMap) (names : List PlainId) (one other : SymTable) → IsTableOfContent content rows cells weight scales names one → IsTableOfContent content rows cells weight scales names other → one ≡ other
tables_alone content rows cells weight scales names one other a b =
    equal_symmetric (length names) one other a.size b.size (a.lower ∙ ap before a.size) (b.lower ∙ ap before b.size) (λ i j li lj.
    let d = some_name names i li in
    let here = slice_get-get_or names i d li in
    let there = slice_get-get_or names j d lj in
    a.entries i j (get_or names i d) (get_or names j d) here there ∙ sym (b.entries i j (get_or names i d) (get_or names j d) here there))

unfit_entry_alone : (names : List PlainId) (P : ℕ → ℕ → Type 0) (row col row' col' : PlainId) → IsUnfitEntry names P row col → IsUnfitEntry names P row' col' → (row ≡ row') × (col ≡ col')
unfit_entry_alone names P row col row' col' a b =
    let at = first_lower_failure_is_one (length names) P a.i a.j b.i b.j a.first b.first in (
      same_Some row row' (sym a.row_is ∙ ap (slice_get names) at.0 ∙ b.row_is),
      same_Some col col' (sym a.col_is ∙ ap (slice_get names) at.1 ∙ b.col_is),
    )

unfit_row_alone : (names : List PlainId) (P : ℕ → Type 0) (row col row' col' : PlainId) → IsUnfitRow names P row col → IsUnfitRow names P row' col' → (row ≡ row') × (col ≡ col')
unfit_row_alone names P row col row' col' a b =
    let at = first_failure_is_one (length names) P a.i b.i a.first b.first in
    let same = same_Some row row' (sym a.row_is ∙ ap (slice_get names) at ∙ b.row_is) in
    (same, a.twice ∙ same ∙ sym b.twice)

pub one_table_by : OneTable
one_table_by content rows cells weight scales names (Ok a) (Ok b) f g = ap Ok (tables_alone content rows cells weight scales names a b f.0 g.0)
one_table_by content rows cells weight scales names (Ok a) (Err (Range row col)) f g = absurd (first_lower_failure_fails (length names) (ElementFits content rows cells weight scales names) g.i g.j f.1 g.first)
one_table_by content rows cells weight scales names (Ok a) (Err _) f g = absurd g
one_table_by content rows cells weight scales names (Err (Range row col)) (Ok b) f g = absurd (first_lower_failure_fails (length names) (ElementFits content rows cells weight scales names) f.i f.j g.1 f.first)
one_table_by content rows cells weight scales names (Err (Range row col)) (Err (Range row' col')) f g =
    let e = unfit_entry_alone names (ElementFits content rows cells weight scales names) row col row' col' f g in let p : row ≡ row' = e.0 in let q : col ≡ col' = e.1 in cc
one_table_by content rows cells weight scales names (Err (Range row col)) (Err _) f g = absurd g
one_table_by content rows cells weight scales names (Err _) r f g = absurd f

-- of an information matrix
pub one_table : (rows : List Row) (cells : List Cell) (weight : Decimal) (scales : ScaleMap) (names : List PlainId) → IsOne (IsTable rows cells weight scales names)
one_table = one_table_by Info

pub one_column : OneColumn
one_column rows weight scales names (Ok a) (Ok b) f g = ap Ok (f.0 ∙ sym g.0)
one_column rows weight scales names (Ok a) (Err (Range row col)) f g = absurd (first_failure_fails (length names) (ValueFits rows weight scales names) g.i f.1 g.first)
one_column rows weight scales names (Ok a) (Err _) f g = absurd g
one_column rows weight scales names (Err (Range row col)) (Ok b) f g = absurd (first_failure_fails (length names) (ValueFits rows weight scales names) f.i g.1 f.first)
one_column rows weight scales names (Err (Range row col)) (Err (Range row' col')) f g =
    let e = unfit_row_alone names (ValueFits rows weight scales names) row col row' col' f g in let p : row ≡ row' = e.0 in let q : col ≡ col' = e.1 in cc
one_column rows weight scales names (Err (Range row col)) (Err _) f g = absurd g
one_column rows weight scales names (Err _) r f g = absurd f
