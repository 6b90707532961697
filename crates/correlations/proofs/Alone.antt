-- There is one table of covariances, or one first cause.
use Rattle.std.proofs.Common.{◌≡◌, ◌≤◌, ◌<◌, ◌∙◌, ℕ, ℤ, pos, ◌+ℤ◌, List, Ok, Err, length, slice_get, sym, ap, subst, arith}
use Rattle.std.proofs.Math.Decide.{dec_lt}
use Rattle.std.proofs.lemmas.Option.{none-some, same_Some, slice_get_within}
use Rattle.stated_order.specs.First.{HoldsBelow}
use Rattle.stated_order.proofs.FirstLaws.{neither_less}
use Rattle.whole_numbers.specs.Intervals.{Interval}
use Rattle.decimal_e.specs.Decimals.{Decimal}
use Rattle.decimal_e.specs.Scales.{decimal_interval}
use Rattle.sym_blocks.specs.Tables.{SymTable, before, entry_at}
use Rattle.sym_blocks.proofs.EqualTables.{equal_symmetric}
use Rattle.sym_blocks.proofs.Rows.{entry_sym}
use Rattle.param_ids.specs.Plain.{PlainId}
use Rattle.param_ids.specs.Tables.{ScaleMap}
use Rattle.snx_rows.specs.declared.rows.Row.{Row}
use Rattle.snx_matrices.specs.declared.elements.Cell.{Cell}
use Rattle.named_tables.specs.declared.faults.RecoverFault.TheVariants.{NoWeight, Range}
use Rattle.correlations.specs.Exact.{deviation_of}
use Rattle.correlations.specs.Correlations.{CovarianceFits, HasDeviation, IsCovarianceTable, IsProductOf, IsUnfitCovariance, IsUnweighted, OneCovariances, RowFits}
use Rattle.correlations.specs.Parts.{times_both}
use Rattle.correlations.proofs.DigitLaws.{digits_alone}
use Rattle.correlations.proofs.TableLaws.{name_is}

product_alone : (r s t : Decimal) (power : ℤ) (w v : Interval) → IsProductOf r s t power w → IsProductOf r s t power v → w ≡ v
product_alone r s t power w v a b =
    let c = decimal_interval r (pos 18) in
    let p = digits_alone s a.m b.m a.k b.k a.one b.one in
    let q = digits_alone t a.n b.n a.l b.l a.other b.other in
    a.is
    ∙ ap (λ x. times_both x a.n (a.k +ℤ a.l +ℤ power) c) p.0
    ∙ ap (λ y. times_both b.m y (a.k +ℤ a.l +ℤ power) c) q.0
    ∙ ap (λ x. times_both b.m b.n (x +ℤ a.l +ℤ power) c) p.1
    ∙ ap (λ y. times_both b.m b.n (b.k +ℤ y +ℤ power) c) q.1
    ∙ sym b.is

module _ (rows : List Row) (cells : List Cell) (scales : ScaleMap) (names : List PlainId) where
  tables_alone : (a b : SymTable) → IsCovarianceTable rows cells scales names a → IsCovarianceTable rows cells scales names b → HoldsBelow (length names) (RowFits rows cells scales names) → a ≡ b
  tables_alone a b one other fit = equal_symmetric (length names) a b one.size other.size (one.lower ∙ ap before one.size) (other.lower ∙ ap before other.size) both
    where
      lower_same : (i j : ℕ) → i < length names → j ≤ i → entry_at a i j ≡ entry_at b i j
      lower_same i j li l =
          let s = (fit i li).deviation in
          let t = (fit j (omega arith)).deviation in
          product_alone _ s.s t.s _ (entry_at a i j) (entry_at b i j) (one.entries i j s.s t.s li l s.is t.is) (other.entries i j s.s t.s li l s.is t.is)

      both : (i j : ℕ) → i < length names → j < length names → entry_at a i j ≡ entry_at b i j
      both i j li lj =
          elim (dec_lt i j) [
            | yes above ↦ entry_sym a i j ∙ lower_same j i lj (omega arith) ∙ entry_sym b j i
            | no below ↦ lower_same i j li (omega arith)
          ]

  bare_not_weighted : (id : PlainId) (u : IsUnweighted rows cells scales names id) → HasDeviation rows cells scales names u.i → ⊥
  bare_not_weighted id u has = none-some has.s (sym u.none ∙ ap (deviation_of rows cells names) (sym (name_is names u.i id u.id_is)) ∙ has.is)

  bare_not_table : (id : PlainId) → IsUnweighted rows cells scales names id → HoldsBelow (length names) (RowFits rows cells scales names) → ⊥
  bare_not_table id u fit = bare_not_weighted id u (fit u.i (slice_get_within names u.i id u.id_is)).deviation

  unfit_not_table : (row col : PlainId) → IsUnfitCovariance rows cells scales names row col → HoldsBelow (length names) (RowFits rows cells scales names) → ⊥
  unfit_not_table row col u fit = let lower = u.lower in u.fails ((fit u.i (slice_get_within names u.i row u.row_is)).covariances u.j (omega arith))

  unfit_not_before : (row col : PlainId) (k : ℕ) (u : IsUnfitCovariance rows cells scales names row col) → HoldsBelow k (RowFits rows cells scales names) → u.i < k → ⊥
  unfit_not_before row col k u fit l = let lower = u.lower in u.fails ((fit u.i l).covariances u.j (omega arith))

  bare_alone : (id id' : PlainId) → IsUnweighted rows cells scales names id → IsUnweighted rows cells scales names id' → id ≡ id'
  bare_alone id id' a b =
      let at : a.i ≡ b.i = neither_less a.i b.i (λ l. bare_not_weighted id a (b.rows_fit a.i l).deviation) (λ l. bare_not_weighted id' b (a.rows_fit b.i l).deviation) in
      same_Some id id' (sym a.id_is ∙ ap (slice_get names) at ∙ b.id_is)

  bare_not_unfit : (id row col : PlainId) → IsUnweighted rows cells scales names id → IsUnfitCovariance rows cells scales names row col → ⊥
  bare_not_unfit id row col a b =
      let at : a.i ≡ b.i = neither_less a.i b.i (λ l. bare_not_weighted id a (b.rows_fit a.i l).deviation) (λ l. unfit_not_before row col a.i b a.rows_fit l) in
      bare_not_weighted id a (subst (HasDeviation rows cells scales names) (sym at) b.deviation)

  unfit_alone : (row col row' col' : PlainId) → IsUnfitCovariance rows cells scales names row col → IsUnfitCovariance rows cells scales names row' col' → (row ≡ row') × (col ≡ col')
  unfit_alone row col row' col' a b =
      let at : a.i ≡ b.i = neither_less a.i b.i (λ l. unfit_not_before row col b.i a b.rows_fit l) (λ l. unfit_not_before row' col' a.i b a.rows_fit l) in
      let there : a.j ≡ b.j = neither_less a.j b.j (λ l. a.fails (subst (λ i. CovarianceFits rows cells scales names i a.j) (sym at) (b.left a.j l))) (λ l. b.fails (subst (λ i. CovarianceFits rows cells scales names i b.j) at (a.left b.j l))) in (
        same_Some row row' (sym a.row_is ∙ ap (slice_get names) at ∙ b.row_is),
        same_Some col col' (sym a.col_is ∙ ap (slice_get names) there ∙ b.col_is),
      )

pub one_covariances : OneCovariances
one_covariances rows cells scales names (Ok a) (Ok b) f g = ap Ok (tables_alone rows cells scales names a b f.0 g.0 f.1)
one_covariances rows cells scales names (Ok a) (Err (NoWeight id)) f g = absurd (bare_not_table rows cells scales names id g f.1)
one_covariances rows cells scales names (Ok a) (Err (Range row col)) f g = absurd (unfit_not_table rows cells scales names row col g f.1)
one_covariances rows cells scales names (Ok a) (Err _) f g = absurd g
one_covariances rows cells scales names (Err (NoWeight id)) (Ok b) f g = absurd (bare_not_table rows cells scales names id f g.1)
one_covariances rows cells scales names (Err (NoWeight id)) (Err (NoWeight id')) f g = let e = bare_alone rows cells scales names id id' f g in cc
one_covariances rows cells scales names (Err (NoWeight id)) (Err (Range row col)) f g = absurd (bare_not_unfit rows cells scales names id row col f g)
one_covariances rows cells scales names (Err (NoWeight id)) (Err _) f g = absurd g
one_covariances rows cells scales names (Err (Range row col)) (Ok b) f g = absurd (unfit_not_table rows cells scales names row col f g.1)
one_covariances rows cells scales names (Err (Range row col)) (Err (NoWeight id)) f g = absurd (bare_not_unfit rows cells scales names id row col g f)
one_covariances rows cells scales names (Err (Range row col)) (Err (Range row' col')) f g =
    let e = unfit_alone rows cells scales names row col row' col' f g in let p : row ≡ row' = e.0 in let q : col ≡ col' = e.1 in cc
one_covariances rows cells scales names (Err (Range row col)) (Err _) f g = absurd g
one_covariances rows cells scales names (Err _) r f g = absurd f
