-- Tables and right sides read at any names: their intervals are those of the numbers, and zero at a name that is not there.
use Rattle.std.proofs.Common.{◌≡◌, ◌≤◌, ◌<◌, ◌∙◌, ◌⊎◌, ◌||◌, ◌&&◌, ◌==◌, ◌^◌, inl, inr, ℕ, ℤ, Bool, true, false, cond, List, [], ◌∷◌, Option, Some, None, Ok, All, length, map, get_or, slice_get, Contains, refl, sym, ap, subst, arith}
use Rattle.std.specs.List.{find, position_or_len}
use Rattle.std.specs.Net.Reader.{map_or}
use Rattle.std.proofs.Math.Dec.{ltb}
use Rattle.std.proofs.Math.Decide.{dec_lt}
use Rattle.std.proofs.lemmas.Bool.{lt-ltb}
use Rattle.std.proofs.lemmas.Bool.Decides.{nat_tests}
use Rattle.std.proofs.lemmas.Iterator.Adapters.{position_from-zero}
use Rattle.std.proofs.lemmas.List.{get_or-map}
use Rattle.std.proofs.lemmas.List.Elements.{All-head, All-tail}
use Rattle.std.proofs.lemmas.List.Folds.{find_at}
use Rattle.std.proofs.lemmas.List.Sums.{passes_at_first, fails_before_first}
use Rattle.std.proofs.lemmas.Option.{slice_get-get_or, slice_get_cases, get_or_from_slice_get}
use Rattle.whole_numbers.specs.Intervals.{Interval, size}
use Rattle.decimal_e.specs.Decimals.{Decimal, product}
use Rattle.decimal_e.specs.Fractions.{Means}
use Rattle.decimal_e.specs.Scales.{decimal_interval}
use Rattle.sym_blocks.specs.Tables.{SymTable, entry_at, zero_interval}
use Rattle.param_ids.specs.Plain.{PlainId}
use Rattle.param_ids.specs.Order.{is_same_id, IsNames}
use Rattle.param_ids.specs.Tables.{ScaleMap}
use Rattle.param_ids.proofs.SameIds.{itself, same_id}
use Rattle.snx_rows.specs.Blocks.{AreDistinct}
use Rattle.snx_rows.specs.Named.{zero_decimal, is_row_of, place_of, value_of}
use Rattle.snx_rows.specs.declared.rows.Row.{Row}
use Rattle.snx_matrices.specs.Elements.{AreElementsOf, IsPlaced}
use Rattle.snx_matrices.specs.Named.{is_at, given_at, element_of}
use Rattle.snx_matrices.specs.declared.elements.Cell.{Cell}
use Rattle.snx_matrices.specs.declared.elements.Content.{Content}
use Rattle.snx_matrices.specs.declared.elements.Content.TheVariants.{Info}
use Rattle.neq_stack.specs.ByName.{place_in, entry_at_places, right_at_place}
use Rattle.sys_model.specs.Scaling.{HoldsTimes}
use Rattle.neq_stack.specs.Systems.{NamedSystem, name_at}
use Rattle.neq_stack.proofs.MeaningLaws.{means_holds}
use Rattle.named_tables.specs.Naming.{AreNamesOf}
use Rattle.named_tables.specs.Weighted.{weighted_element, entry_power, element_power, right_power}
use Rattle.named_tables.specs.Tables.{HasNames, IsTable, IsTableOf, IsTableBy, IsTableOfContent, IsColumn, LiesInTable, value_interval}
use Rattle.named_tables.specs.Parts.{IsModest}
use Rattle.named_tables.proofs.CellLaws.{behind}
use Rattle.named_tables.proofs.NameLaws.{contains_id}
use Rattle.named_tables.proofs.RankLaws.{row_named}
use Rattle.named_tables.proofs.TableLaws.{each_modest, name_here}
use Rattle.named_tables.proofs.WeightLaws.{weighted_zero}

-- ---- the place of a name
pub record IsThere (names : List PlainId) (id : PlainId) : Type 0 where
  pub at : ℕ
  pub within : at < length names
  pub place : place_in names id ≡ Some at
  pub name : slice_get names at ≡ Some id

pub record IsAbsent (names : List PlainId) (id : PlainId) : Type 0 where
  pub place : place_in names id ≡ None
  pub lacks : Contains names id → ⊥

pub there_or_absent : (names : List PlainId) (id : PlainId) → IsThere names id ⊎ IsAbsent names id
there_or_absent names id =
    let p = position_or_len (is_same_id id) names in
    elim (dec_lt p (length names)) [
      | yes l ↦
          let same : id ≡ get_or names p id = (same_id id (get_or names p id)).0 (passes_at_first (is_same_id id) names id l) in
          inl (record {
            at = p;
            within = l;
            place = sym (position_from-zero (is_same_id id) names) ∙ ap (λ b. cond b (Some p) None) (lt-ltb p (length names) l);
            name = slice_get-get_or names p id l ∙ ap (λ x. Some x) (sym same);
          })
      | no g ↦
          let off : ltb p (length names) ≡ false = grind (arith, nat_tests) in
          inr (record {
            place = sym (position_from-zero (is_same_id id) names) ∙ ap (λ b. cond b (Some p) None) off;
            lacks = λ there. never there.0 (fails_before_first (is_same_id id) names there.0 id (let w = there.1 in omega arith)) there.2;
          })
    ]
  where
    never : (k : ℕ) → is_same_id id (get_or names k id) ≡ false → get_or names k id ≡ id → ⊥
    never k fails here = let e : true ≡ false = sym (itself id) ∙ ap (is_same_id id) (sym here) ∙ fails in cc

-- ---- a name that is not there
-- no element stands at the place of a name that no row of an element has
apart_place : (names : List PlainId) (rows : List Row) (r : ℕ) (id : PlainId) → r < length rows → ((row : Row) → slice_get rows r ≡ Some row → Contains names row.id) → (Contains names id → ⊥) → r ≡ place_of rows id → ⊥
apart_place names rows r id within has lacks same =
    elim ((slice_get_cases rows r).1) [
      | inl h ↦ lacks (subst (Contains names) (row_named rows id h.0 (ap (slice_get rows) (sym same) ∙ h.2)) (has h.0 h.2))
      | inr h ↦ absurd (omega (arith, h.0))
    ]

given_absent : (names : List PlainId) (rows : List Row) (id : PlainId) → (Contains names id → ⊥) → (cells : List Cell) (j : ℕ) → All (IsPlaced (length rows)) cells → All (HasNames names rows) cells → given_at cells (place_of rows id) j ≡ zero_decimal
given_absent names rows id lacks [] j placed has = refl
given_absent names rows id lacks (cell ∷ cells) j placed has =
    let here = All-head (IsPlaced (length rows)) cell cells placed in
    let named = All-head (HasNames names rows) cell cells has in
    behind cell cells (place_of rows id) j (not_at cell.row cell.col (place_of rows id) j (apart_place names rows cell.row id here.row named.row lacks) (apart_place names rows cell.col id here.col named.col lacks))
    ∙ given_absent names rows id lacks cells j (All-tail (IsPlaced (length rows)) cell cells placed) (All-tail (HasNames names rows) cell cells has)
  where
    neither : (b : Bool) → (b && false) ≡ false
    neither true = refl
    neither false = refl

    not_at : (row col i j : ℕ) → (row ≡ i → ⊥) → (col ≡ i → ⊥) → (((row == i) && (col == j)) || ((row == j) && (col == i))) ≡ false
    not_at row col i j r c =
        let first : (row == i) ≡ false = grind (arith, nat_tests) in
        let second : (col == i) ≡ false = grind (arith, nat_tests) in
        ap (λ b. (b && (col == j)) || ((row == j) && (col == i))) first ∙ ap (λ b. (row == j) && b) second ∙ neither (row == j)

-- an element is the same in either order
test_sym : (a b : Bool) → (a || b) ≡ (b || a)
test_sym true true = refl
test_sym true false = refl
test_sym false true = refl
test_sym false false = refl

given_sym : (cells : List Cell) (i j : ℕ) → given_at cells i j ≡ given_at cells j i
given_sym [] i j = refl
given_sym (cell ∷ cells) i j =
    chosen (is_at i j cell) (find (is_at i j) cells)
    ∙ ap (λ b. cond b cell.value (given_at cells i j)) (test_sym ((cell.row == i) && (cell.col == j)) ((cell.row == j) && (cell.col == i)))
    ∙ ap (λ d. cond (is_at j i cell) cell.value d) (given_sym cells i j)
    ∙ sym (chosen (is_at j i cell) (find (is_at j i) cells))
  where
    chosen : (b : Bool) (o : Option Cell) → map_or (cond b (Some cell) o) zero_decimal (λ (x : Cell). x.value) ≡ cond b cell.value (map_or o zero_decimal (λ (x : Cell). x.value))
    chosen true o = refl
    chosen false o = refl

zero_there : (weight d : Decimal) (k : ℤ) → d ≡ zero_decimal → zero_interval ≡ decimal_interval (product weight d) k
zero_there weight d k none = sym (weighted_zero weight k) ∙ ap (λ x. decimal_interval (product weight x) k) (sym none)

-- ---- a table at any names
module _ (content : Content) (rows : List Row) (cells : List Cell) (weight : Decimal) (scales : ScaleMap) (names : List PlainId) (table : SymTable) where
  pub elements_everywhere : IsTableOfContent content rows cells weight scales names table → AreDistinct (λ row. row.id) rows → AreElementsOf (length rows) cells → IsNames names → All (HasNames names rows) cells
      → (one other : PlainId) → entry_at_places table (place_in names one) (place_in names other) ≡ decimal_interval (weighted_element rows cells weight one other) (element_power content scales one other)
  elements_everywhere are apart elements in_order has one other =
      let power = element_power content scales one other in
      elim (there_or_absent names one) [
        | inl a ↦ elim (there_or_absent names other) [
          | inl b ↦
              ap (λ o. entry_at_places table o (place_in names other)) a.place ∙ ap (entry_at_places table (Some a.at)) b.place
              ∙ are.entries a.at b.at one other a.name b.name
          | inr b ↦
              ap (λ o. entry_at_places table o (place_in names other)) a.place ∙ ap (entry_at_places table (Some a.at)) b.place
              ∙ zero_there weight (element_of rows cells one other) power
              (given_sym cells (place_of rows one) (place_of rows other) ∙ given_absent names rows other b.lacks cells (place_of rows one) elements.placed has)
        ]
        | inr a ↦
            ap (λ o. entry_at_places table o (place_in names other)) a.place
            ∙ zero_there weight (element_of rows cells one other) power (given_absent names rows one a.lacks cells (place_of rows other) elements.placed has)
      ]

  -- none of its intervals passes the bound
  pub elements_at_most : IsTableBy content rows cells weight scales names (Ok table) → (one other : PlainId) → size (entry_at_places table (place_in names one) (place_in names other)) ≤ 10 ^ 34
  elements_at_most is one other =
      elim (there_or_absent names one) [
        | inl a ↦ elim (there_or_absent names other) [
          | inl b ↦ subst IsModest (sym (ap (λ o. entry_at_places table o (place_in names other)) a.place ∙ ap (entry_at_places table (Some a.at)) b.place)) (each_modest (length names) table lower a.at b.at a.within b.within)
          | inr b ↦ subst IsModest (sym (ap (λ o. entry_at_places table o (place_in names other)) a.place ∙ ap (entry_at_places table (Some a.at)) b.place)) zero_modest
        ]
        | inr a ↦ subst IsModest (sym (ap (λ o. entry_at_places table o (place_in names other)) a.place)) zero_modest
      ]
    where
      zero_modest : IsModest zero_interval
      zero_modest = omega arith

      lower : (i j : ℕ) → i < length names → j ≤ i → IsModest (entry_at table i j)
      lower i j l h =
          let fit = is.1 i j l h in
          subst IsModest (sym (is.0.entries i j (name_at names i) (name_at names j) (name_here names i l) (name_here names j (omega arith)))) fit.modest

-- the same of an information matrix
pub table_everywhere : (rows : List Row) (cells : List Cell) (weight : Decimal) (scales : ScaleMap) (names : List PlainId) (table : SymTable)
    → IsTableOf rows cells weight scales names table → AreDistinct (λ row. row.id) rows → AreElementsOf (length rows) cells → IsNames names → All (HasNames names rows) cells
    → (one other : PlainId) → entry_at_places table (place_in names one) (place_in names other) ≡ decimal_interval (weighted_element rows cells weight one other) (entry_power scales one other)
table_everywhere = elements_everywhere Info

pub table_at_most : (rows : List Row) (cells : List Cell) (weight : Decimal) (scales : ScaleMap) (names : List PlainId) (table : SymTable)
    → IsTable rows cells weight scales names (Ok table) → (one other : PlainId) → size (entry_at_places table (place_in names one) (place_in names other)) ≤ 10 ^ 34
table_at_most = elements_at_most Info

-- so a system lies in the table of its elements
pub lies_in_table : (rows : List Row) (cells : List Cell) (weight : Decimal) (scales : ScaleMap) (names : List PlainId) (table : SymTable) (E : NamedSystem)
    → IsTableOf rows cells weight scales names table → AreDistinct (λ row. row.id) rows → AreElementsOf (length rows) cells → IsNames names → All (HasNames names rows) cells
    → 0 < E.q → ((one other : PlainId) → Means (weighted_element rows cells weight one other) (E.a one other) E.q) → LiesInTable scales names table E
lies_in_table rows cells weight scales names table E are apart elements in_order has some means one other =
    subst (λ w. HoldsTimes w (E.a one other) E.q (entry_power scales one other)) (sym (table_everywhere rows cells weight scales names table are apart elements in_order has one other))
    (means_holds (weighted_element rows cells weight one other) (E.a one other) E.q (entry_power scales one other) some (means one other))

-- ---- a right side at any names
module _ (rows : List Row) (weight : Decimal) (scales : ScaleMap) (names : List PlainId) (right : List Interval) where
  at_there : right ≡ map (value_interval rows weight scales) names → (id : PlainId) (a : IsThere names id) → right_at_place right (place_in names id) ≡ value_interval rows weight scales id
  at_there is id a =
      ap (right_at_place right) a.place ∙ ap (λ r. get_or r a.at zero_interval) is
      ∙ get_or-map (value_interval rows weight scales) names a.at id zero_interval a.within
      ∙ ap (value_interval rows weight scales) (get_or_from_slice_get names a.at id id a.name)

  no_value : AreNamesOf rows names → (id : PlainId) → (Contains names id → ⊥) → value_of rows id ≡ zero_decimal
  no_value are id lacks =
      elim ((slice_get_cases rows (place_of rows id)).1) [
        | inl h ↦ absurd (lacks (subst (Contains names) (row_named rows id h.0 h.2) (contains_id rows names (place_of rows id) h.0 are.0 h.1 (sym h.3))))
        | inr h ↦ ap (λ o. map_or o zero_decimal (λ (r : Row). r.value)) (find_at (is_row_of id) rows ∙ h.1)
      ]

  pub column_everywhere : right ≡ map (value_interval rows weight scales) names → AreNamesOf rows names → (id : PlainId) → right_at_place right (place_in names id) ≡ value_interval rows weight scales id
  column_everywhere is are id =
      elim (there_or_absent names id) [
        | inl a ↦ at_there is id a
        | inr a ↦ ap (right_at_place right) a.place ∙ zero_there weight (value_of rows id) (right_power scales id) (no_value are id a.lacks)
      ]

  -- none of its intervals passes the bound
  pub column_at_most : IsColumn rows weight scales names (Ok right) → (id : PlainId) → size (right_at_place right (place_in names id)) ≤ 10 ^ 34
  column_at_most is id =
      elim (there_or_absent names id) [
        | inl a ↦ subst IsModest (sym (at_there is.0 id a)) (fits id a)
        | inr a ↦ subst IsModest (sym (ap (right_at_place right) a.place)) zero_modest
      ]
    where
      zero_modest : IsModest zero_interval
      zero_modest = omega arith

      fits : (id : PlainId) (a : IsThere names id) → IsModest (value_interval rows weight scales id)
      fits id a =
          let fit = is.1 a.at a.within in
          let named : Some (name_at names a.at) ≡ Some id = sym (name_here names a.at a.within) ∙ a.name in
          let same : name_at names a.at ≡ id = cc in
          subst (λ x. IsModest (value_interval rows weight scales x)) same fit.modest
