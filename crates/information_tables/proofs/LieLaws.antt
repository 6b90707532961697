-- Exact information matrices lie in their tables.
use Rattle.std.proofs.Common.{◌≡◌, ◌<◌, ◌*◌, ◌∙◌, ◌||◌, ◌&&◌, ◌==◌, inl, inr, ℕ, ℤ, pos, ◌+ℤ◌, Bool, true, false, cond, List, [], ◌∷◌, Option, Some, All, length, slice_get, unwrap_or, refl, sym, ap, subst, arith}
use Rattle.std.specs.List.{find}
use Rattle.std.specs.Net.Reader.{map_or}
use Rattle.std.proofs.Math.IntN.{zero-*ℤ}
use Rattle.std.proofs.lemmas.Int.{ints}
use Rattle.std.proofs.lemmas.Option.{slice_get_within, same_Some}
use Rattle.whole_numbers.specs.Scaling.{ten_above, ten_below}
use Rattle.whole_numbers.proofs.EqualFractions.{same_from_product}
use Rattle.whole_numbers.proofs.Ring.{*ℤ_comm}
use Rattle.decimal_e.specs.Decimals.{Decimal, product}
use Rattle.decimal_e.specs.Fractions.{Means}
use Rattle.decimal_e.proofs.SameValues.{product_one}
use Rattle.decimal_e.proofs.Values.{decimal_by}
use Rattle.sym_blocks.specs.Tables.{SymTable, entry_at, zero_interval}
use Rattle.sys_model.specs.Scaling.{HoldsTimes}
use Rattle.sys_model.proofs.ScalingLaws.{ten_below_some}
use Rattle.param_ids.specs.Plain.{PlainId}
use Rattle.param_ids.specs.Order.{is_same_id, IsNames}
use Rattle.param_ids.specs.Tables.{ScaleMap}
use Rattle.param_ids.proofs.SameIds.{same_id}
use Rattle.snx_rows.specs.Blocks.{AreDistinct}
use Rattle.snx_rows.specs.Named.{zero_decimal, place_of}
use Rattle.snx_rows.specs.declared.rows.Row.{Row}
use Rattle.snx_matrices.specs.Elements.{AreElementsOf}
use Rattle.snx_matrices.specs.Named.{is_at, given_at, element_of}
use Rattle.snx_matrices.specs.declared.elements.Cell.{Cell}
use Rattle.snx_matrices.specs.declared.elements.Content.{Content}
use Rattle.snx_matrices.specs.declared.elements.Content.TheVariants.{Cova, Corr, Info}
use Rattle.neq_stack.specs.ByName.{entry_at_places, place_in}
use Rattle.neq_stack.specs.Systems.{NamedSystem, over, name_at, no_name}
use Rattle.neq_stack.proofs.MeaningLaws.{means_holds}
use Rattle.neq_stack.proofs.NameLaws.{contained, place_cases}
use Rattle.named_tables.specs.Tables.{HasNames, IsTableOf, IsTableOfContent, LiesInTable}
use Rattle.named_tables.specs.Weighted.{one_decimal, weighted_element, entry_power, element_power, scale_of}
use Rattle.named_tables.proofs.EntryLaws.{lies_in_table}
use Rattle.named_tables.proofs.TableLaws.{name_here}
use Rattle.correlations.specs.Exact.{correlation_of, IsCorrelated}
use Rattle.inv_enclose.specs.Inverses.{IsSymmetric, IsInverse}
use Rattle.information_tables.specs.Exact.{IsGiven, IsCovariance, HasCovariances, IsWeightOver}
use Rattle.information_tables.specs.Parts.{IsOfInverse}
use Rattle.information_tables.proofs.InverseLaws.{HoldsCovariances, inverse_lies}

-- ---- an information matrix as it stands
pub given_lies : (rows : List Row) (cells : List Cell) (weight : Decimal) (scales : ScaleMap) (names : List PlainId) (table : SymTable) (E : NamedSystem) → IsTableOf rows cells weight scales names table → AreDistinct (λ row. row.id) rows → AreElementsOf (length rows) cells → IsNames names → All (HasNames names rows) cells
    → IsGiven rows cells weight E → LiesInTable scales names table E
given_lies rows cells weight scales names table E are apart elements in_order has is = lies_in_table rows cells weight scales names table E are apart elements in_order has is.some is.elements

-- ---- covariances are the same in either order
test_sym : (a b : Bool) → (a || b) ≡ (b || a)
test_sym true true = refl
test_sym true false = refl
test_sym false true = refl
test_sym false false = refl

given_sym : (cells : List Cell) (i j : ℕ) → given_at cells i j ≡ given_at cells j i
given_sym [] i j = refl
given_sym (cell ∷ cells) i j =
    chosen (is_at i j cell) (find (is_at i j) cells)
    ∙ ap (λ b. cond b cell.value (given_at cells i j)) (test_sym ((cell.row == i) && (cell.col == j)) ((cell.row == j) && (cell.col == i)))
    ∙ ap (λ d. cond (is_at j i cell) cell.value d) (given_sym cells i j)
    ∙ sym (chosen (is_at j i cell) (find (is_at j i) cells))
  where
    chosen : (b : Bool) (o : Option Cell) → map_or (cond b (Some cell) o) zero_decimal (λ (x : Cell). x.value) ≡ cond b cell.value (map_or o zero_decimal (λ (x : Cell). x.value))
    chosen true o = refl
    chosen false o = refl

-- two tests that hold together are one
same_test : (a b : Bool) → (a ≡ true → b ≡ true) → (b ≡ true → a ≡ true) → a ≡ b
same_test true b to from = sym (to refl)
same_test false true to from = from refl
same_test false false to from = refl

id_sym : (one other : PlainId) → is_same_id one other ≡ is_same_id other one
id_sym one other = same_test (is_same_id one other) (is_same_id other one) (λ h. (same_id other one).1 (sym ((same_id one other).0 h))) (λ h. (same_id one other).1 (sym ((same_id other one).0 h)))

product_comm : (a b : Decimal) → product a b ≡ product b a
product_comm a b = decimal_by (product a b) (product b a) (*ℤ_comm a.mant b.mant) (omega (arith, ints))

means_alone : (d e : Decimal) (x y : ℤ) (q : ℕ) → d ≡ e → Means d x q → Means e y q → x ≡ y
means_alone d e x y q same one other = same_from_product x y (ten_below d.exp) (ten_below_some d.exp) (sym one ∙ subst (λ c. Means c y q) (sym same) other)

module _ (rows : List Row) (cells : List Cell) (names : List PlainId) where
  correlation_sym : (one other : PlainId) → correlation_of rows cells one other ≡ correlation_of rows cells other one
  correlation_sym one other =
      ap (λ (b : Bool). cond b one_decimal (element_of rows cells one other)) (id_sym one other)
      ∙ ap (λ d. cond (is_same_id other one) one_decimal d) (given_sym cells (place_of rows one) (place_of rows other))

  one_correlated : (one other : PlainId) (x y : ℤ) (q : ℕ) → IsCorrelated rows cells names one other x q → IsCorrelated rows cells names other one y q → x ≡ y
  one_correlated one other x y q a b =
      let first : a.s ≡ b.t = same_Some a.s b.t (sym a.s_is ∙ b.t_is) in
      let second : a.t ≡ b.s = same_Some a.t b.s (sym a.t_is ∙ b.s_is) in
      means_alone (product (correlation_of rows cells one other) (product a.s a.t)) (product (correlation_of rows cells other one) (product b.s b.t)) x y q
      (ap (λ d. product d (product a.s a.t)) (correlation_sym one other)
      ∙ ap (product (correlation_of rows cells other one)) (product_comm a.s a.t ∙ ap (λ d. product d a.s) second ∙ ap (product b.s) first)) a.means b.means

  one_covariance : (content : Content) (one other : PlainId) (x y : ℤ) (q : ℕ) → IsCovariance content rows cells names one other x q → IsCovariance content rows cells names other one y q → x ≡ y
  one_covariance Info one other x y q a b = absurd a
  one_covariance Cova one other x y q a b = means_alone (element_of rows cells one other) (element_of rows cells other one) x y q (given_sym cells (place_of rows one) (place_of rows other)) a b
  one_covariance Corr one other x y q a b = one_correlated one other x y q a b

  pub covariances_symmetric : (content : Content) (Q : NamedSystem) → HasCovariances content rows cells names Q → IsSymmetric (length names) (over names Q)
  covariances_symmetric content Q has i j row column =
      let one = name_at names i in
      let other = name_at names j in
      let here = contained names i one (name_here names i row) in
      let there = contained names j other (name_here names j column) in
      one_covariance content one other (Q.a one other) (Q.a other one) Q.q (has.elements one other here there) (has.elements other one there here)

-- ---- intervals of covariances
abbrev pub exponents_at : ScaleMap → List PlainId → ℕ → ℤ
exponents_at scales names i = scale_of scales (name_at names i)

module _ (rows : List Row) (cells : List Cell) (scales : ScaleMap) (names : List PlainId) (table : SymTable) (many : table.size ≡ length names) (Q : NamedSystem) where
  pub covariances_held : IsTableOfContent Cova rows cells one_decimal scales names table → HasCovariances Cova rows cells names Q → HoldsCovariances table.size (exponents_at scales names) table (over names Q)
  covariances_held are has = record { some = has.some; entries = each }
    where
      each : (i j : ℕ) → i < table.size → j < table.size → HoldsTimes (entry_at table i j) (Q.a (name_at names i) (name_at names j)) Q.q (pos 24 +ℤ scale_of scales (name_at names i) +ℤ scale_of scales (name_at names j))
      each i j row column =
          let one = name_at names i in
          let other = name_at names j in
          let here = name_here names i (omega arith) in
          let there = name_here names j (omega arith) in
          let k = element_power Cova scales one other in
          let means : Means (weighted_element rows cells one_decimal one other) (Q.a one other) Q.q = subst (λ d. Means d (Q.a one other) Q.q) (sym (product_one (element_of rows cells one other))) (has.elements one other (contained names i one here) (contained names j other there)) in
          subst (λ w. HoldsTimes w (Q.a one other) Q.q k) (sym (are.entries i j one other here there)) (means_holds (weighted_element rows cells one_decimal one other) (Q.a one other) Q.q k has.some means)

  pub correlations_held : ((i j : ℕ) (one other : PlainId) (x : ℤ) (q : ℕ) → slice_get names i ≡ Some one → slice_get names j ≡ Some other → 0 < q → IsCorrelated rows cells names one other x q → HoldsTimes (entry_at table i j) x q (element_power Cova scales one other))
      → HasCovariances Corr rows cells names Q → HoldsCovariances table.size (exponents_at scales names) table (over names Q)
  correlations_held holds has = record { some = has.some; entries = each }
    where
      each : (i j : ℕ) → i < table.size → j < table.size → HoldsTimes (entry_at table i j) (Q.a (name_at names i) (name_at names j)) Q.q (pos 24 +ℤ scale_of scales (name_at names i) +ℤ scale_of scales (name_at names j))
      each i j row column =
          let one = name_at names i in
          let other = name_at names j in
          let here = name_here names i (omega arith) in
          let there = name_here names j (omega arith) in
          holds i j one other (Q.a one other) Q.q here there has.some (has.elements one other (contained names i one here) (contained names j other there))

-- ---- inverses at any names
zero_holds : (q : ℕ) (k : ℤ) → HoldsTimes zero_interval (pos 0) q k
zero_holds q k =
    let left = zero-*ℤ (pos (q * ten_below k)) in
    let right = zero-*ℤ (pos (ten_above k)) in
    record { above = omega (arith, ints); below = omega (arith, ints) }

named_at : (names : List PlainId) (k : ℕ) (id : PlainId) → slice_get names k ≡ Some id → name_at names k ≡ id
named_at names k id is = ap (λ (o : Option PlainId). unwrap_or o no_name) is

module _ (scales : ScaleMap) (names : List PlainId) (covariances out : SymTable) (many : covariances.size ≡ length names) (weight : Decimal) (Q E : NamedSystem) (made : IsOfInverse weight covariances out) (same : IsSymmetric (length names) (over names Q)) (held : HoldsCovariances covariances.size (exponents_at scales names) covariances (over names Q)) (is : IsWeightOver names weight Q E) where
  at_places : (i j : ℕ) (one other : PlainId) → slice_get names i ≡ Some one → slice_get names j ≡ Some other → HoldsTimes (entry_at out i j) (E.a one other) E.q (entry_power scales one other)
  at_places i j one other here there =
      let S = over names Q in
      let li = slice_get_within names i one here in
      let lj = slice_get_within names j other there in
      let lies = inverse_lies (exponents_at scales names) covariances S held weight out is.inverse made (subst (λ n. IsSymmetric n S) (sym many) same) (subst (λ n. IsInverse n S is.inverse) (sym many) is.inverts) i j (E.a one other) E.q (omega arith) (omega arith) is.some (is.elements i j one other here there) in
      subst (λ id. HoldsTimes (entry_at out i j) (E.a one other) E.q (entry_power scales id other)) (named_at names i one here)
      (subst (λ id. HoldsTimes (entry_at out i j) (E.a one other) E.q (entry_power scales (name_at names i) id)) (named_at names j other there) lies)

  zero_there : (one other : PlainId) → E.a one other ≡ pos 0 → HoldsTimes zero_interval (E.a one other) E.q (entry_power scales one other)
  zero_there one other none = subst (λ x. HoldsTimes zero_interval x E.q (entry_power scales one other)) (sym none) (zero_holds E.q (entry_power scales one other))

  pub over_lies : LiesInTable scales names out E
  over_lies one other =
      elim (place_cases names one) [
        | inl h ↦ elim (place_cases names other) [
          | inl g ↦
              subst (λ w. HoldsTimes w (E.a one other) E.q (entry_power scales one other)) (sym (ap (λ p. entry_at_places out p (place_in names other)) h.2 ∙ ap (entry_at_places out (Some h.0)) g.2))
              (at_places h.0 g.0 one other h.1 g.1)
          | inr g ↦
              subst (λ w. HoldsTimes w (E.a one other) E.q (entry_power scales one other)) (sym (ap (λ p. entry_at_places out p (place_in names other)) h.2 ∙ ap (entry_at_places out (Some h.0)) g.1))
              (zero_there one other (is.no_column one other g.0))
        ]
        | inr h ↦
            subst (λ w. HoldsTimes w (E.a one other) E.q (entry_power scales one other)) (sym (ap (λ p. entry_at_places out p (place_in names other)) h.1)) (zero_there one other (is.no_row one other h.0))
      ]
