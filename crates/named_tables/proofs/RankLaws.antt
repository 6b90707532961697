-- Elements by the places of names are those by the places of rows.
use Rattle.std.proofs.Common.{◌≡◌, ◌<◌, ◌+◌, ◌∙◌, ◌||◌, ◌&&◌, ◌==◌, ◌++◌, inl, inr, ℕ, ℤ, pos, ◌+ℤ◌, ◌-ℤ◌, Bool, true, false, not, cond, List, [], ◌∷◌, Option, Some, All, Contains, length, map, get_or, slice_get, refl, sym, ap, subst, arith}
use Rattle.std.specs.List.{find}
use Rattle.std.specs.Net.Reader.{map_or}
use Rattle.std.proofs.Math.Decide.{ℕ_discrete}
use Rattle.std.proofs.lemmas.Bool.Decides.{nat_tests}
use Rattle.std.proofs.lemmas.List.{get_or-map}
use Rattle.std.proofs.lemmas.List.Elements.{All-head, All-tail}
use Rattle.std.proofs.lemmas.List.Sums.{position_or_len_is, prefix_len_stops}
use Rattle.std.proofs.lemmas.Option.{slice_get-get_or, slice_get_within, get_or_from_slice_get, slice_get_cases}
use Rattle.whole_numbers.specs.Lists.{at}
use Rattle.whole_numbers.proofs.ListLaws.{each_push}
use Rattle.decimal_e.specs.Decimals.{Decimal, product}
use Rattle.param_ids.specs.Plain.{PlainId}
use Rattle.param_ids.specs.Order.{is_same_id, IsRising}
use Rattle.param_ids.specs.Tables.{ScaleMap}
use Rattle.param_ids.proofs.SameIds.{itself, same_id}
use Rattle.snx_rows.specs.Blocks.{AreDistinct}
use Rattle.snx_rows.specs.Named.{zero_decimal, is_row_of, place_of}
use Rattle.snx_rows.specs.declared.rows.Row.{Row}
use Rattle.snx_matrices.specs.Elements.{IsPlaced}
use Rattle.snx_matrices.specs.Named.{is_at, given_at}
use Rattle.snx_matrices.specs.declared.elements.Cell.{Cell}
use Rattle.snx_matrices.specs.declared.elements.Content.{Content}
use Rattle.snx_matrices.specs.declared.elements.Content.TheVariants.{Cova, Corr, Info}
use Rattle.named_tables.specs.Tables.{HasNames}
use Rattle.named_tables.specs.Weighted.{weighted_element, element_power, scale_of}
use Rattle.named_tables.specs.Parts.{AreRanks, IsRanked, ranked, ranked_number, pair_power}
use Rattle.named_tables.proofs.NameLaws.{apart_names, one_rank}

-- ---- places, one by one
-- the place of the name of row k, where the name is there
abbrev pub IsRankIn : List PlainId → List Row → ℕ → ℕ → Type 0
IsRankIn names rows k rank = (row : Row) → slice_get rows k ≡ Some row → Contains names row.id → slice_get names rank ≡ Some row.id

pub rank_more : (names : List PlainId) (rows : List Row) (k : ℕ) (row : Row) (rank : ℕ) (ranks more : List ℕ) → length ranks ≡ k → row ≡ get_or rows k row → (Contains names row.id → slice_get names rank ≡ Some row.id) → more ≡ ranks ++ rank ∷ []
    → ((i : ℕ) → i < k → IsRankIn names rows i (get_or ranks i 0)) → (i : ℕ) → i < k + 1 → IsRankIn names rows i (get_or more i 0)
rank_more names rows k row rank ranks more len is found pushed before i l =
    subst (λ rs. IsRankIn names rows i (get_or rs i 0)) (sym pushed)
    (each_push (IsRankIn names rows) ranks k rank 0 len before (λ other there. subst (λ (r : Row). Contains names r.id → slice_get names rank ≡ Some r.id) (is ∙ get_or_from_slice_get rows k other row there) found) i l)

passes_unless : (b : Bool) → not b ≡ false → b ≡ true
passes_unless true e = refl
passes_unless false e = sym e

-- two tests of numbers agree where each implies the other
same_tests : (a b c d : ℕ) → (a ≡ b → c ≡ d) → (c ≡ d → a ≡ b) → (a == b) ≡ (c == d)
same_tests a b c d there back =
    elim (ℕ_discrete a b) [
      | yes e ↦ let f : c ≡ d = there e in grind (arith, nat_tests)
      | no e ↦ let f : c ≡ d → ⊥ = λ g. e (back g) in grind (arith, nat_tests)
    ]

-- a row at the place of a name has the name
pub row_named : (rows : List Row) (one : PlainId) (row : Row) → slice_get rows (place_of rows one) ≡ Some row → row.id ≡ one
row_named rows one row is =
    let within = slice_get_within rows (place_of rows one) row is in
    let read : get_or rows (place_of rows one) row ≡ row = get_or_from_slice_get rows (place_of rows one) row row is in
    ap (λ (r : Row). r.id) (sym read) ∙ (same_id (get_or rows (place_of rows one) row).id one).0 (passes_unless _ (prefix_len_stops (λ row. not (is_row_of one row)) rows row within))

module _ (names : List PlainId) (rows : List Row) (ranks : List ℕ) (apart : AreDistinct (λ row. row.id) rows) (rising : IsRising names) (are : AreRanks names rows ranks) where
  -- the place of the row of a name
  place_is : (r : ℕ) (row : Row) (one : PlainId) → slice_get rows r ≡ Some row → row.id ≡ one → place_of rows one ≡ r
  place_is r row one here is =
      let within = slice_get_within rows r row here in
      position_or_len_is (is_row_of one) rows r row (omega arith)
      (λ k before. apart_names (get_or rows k row).id one (λ same.
      let e : k ≡ r = apart k r (get_or rows k row) row (slice_get-get_or rows k row (omega arith)) here (same ∙ sym is) in
      absurd (omega (arith, e))))
      (λ _. ap (λ (x : Row). is_same_id x.id one) (get_or_from_slice_get rows r row row here) ∙ ap (λ id. is_same_id id one) is ∙ itself one)

  same_test : (r i : ℕ) (row : Row) (one : PlainId) → slice_get rows r ≡ Some row → Contains names row.id → slice_get names i ≡ Some one → (get_or ranks r 0 == i) ≡ (r == place_of rows one)
  same_test r i row one here there is =
      let rank : slice_get names (get_or ranks r 0) ≡ Some row.id = are.each r row here there in
      same_tests (get_or ranks r 0) i r (place_of rows one)
      (λ e.
      let named : Some row.id ≡ Some one = sym rank ∙ ap (slice_get names) e ∙ is in
      sym (place_is r row one here (let same : row.id ≡ one = cc in same)))
      (λ e.
      let named : row.id ≡ one = row_named rows one row (ap (slice_get rows) (sym e) ∙ here) in
      one_rank names one (get_or ranks r 0) i rising (rank ∙ ap (λ id. Some id) named) is)

  tests_agree : (cell : Cell) (i j : ℕ) (one other : PlainId) → IsPlaced (length rows) cell → HasNames names rows cell → slice_get names i ≡ Some one → slice_get names j ≡ Some other → is_at i j (ranked ranks cell) ≡ is_at (place_of rows one) (place_of rows other) cell
  tests_agree cell i j one other placed has here there =
      elim ((slice_get_cases rows cell.row).1) [
        | inl f ↦ elim ((slice_get_cases rows cell.col).1) [
          | inl g ↦
              let ri = same_test cell.row i f.0 one f.2 (has.row f.0 f.2) here in
              let cj = same_test cell.col j g.0 other g.2 (has.col g.0 g.2) there in
              let rj = same_test cell.row j f.0 other f.2 (has.row f.0 f.2) there in
              let ci = same_test cell.col i g.0 one g.2 (has.col g.0 g.2) here in
              let test : Bool → Bool → Bool → Bool → Bool = λ a b c d. (a && b) || (c && d) in
              ap (λ a. test a (get_or ranks cell.col 0 == j) (get_or ranks cell.row 0 == j) (get_or ranks cell.col 0 == i)) ri
              ∙ ap (λ b. test (cell.row == place_of rows one) b (get_or ranks cell.row 0 == j) (get_or ranks cell.col 0 == i)) cj
              ∙ ap (λ c. test (cell.row == place_of rows one) (cell.col == place_of rows other) c (get_or ranks cell.col 0 == i)) rj
              ∙ ap (λ d. test (cell.row == place_of rows one) (cell.col == place_of rows other) (cell.row == place_of rows other) d) ci
          | inr g ↦ let col = placed.col in absurd (omega (arith, g.0))
        ]
        | inr f ↦ let row = placed.row in absurd (omega (arith, f.0))
      ]

  given_same : (cells : List Cell) (i j : ℕ) (one other : PlainId) → All (IsPlaced (length rows)) cells → All (HasNames names rows) cells → slice_get names i ≡ Some one → slice_get names j ≡ Some other → given_at (map (ranked ranks) cells) i j ≡ given_at cells (place_of rows one) (place_of rows other)
  given_same [] i j one other placed has here there = refl
  given_same (cell ∷ cells) i j one other placed has here there =
      let rest = given_same cells i j one other (All-tail (IsPlaced (length rows)) cell cells placed) (All-tail (HasNames names rows) cell cells has) here there in
      let tests = tests_agree cell i j one other (All-head (IsPlaced (length rows)) cell cells placed) (All-head (HasNames names rows) cell cells has) here there in
      chosen (is_at i j (ranked ranks cell)) (ranked ranks cell) (find (is_at i j) (map (ranked ranks) cells))
      ∙ ap (λ b. cond b cell.value (given_at (map (ranked ranks) cells) i j)) tests
      ∙ ap (λ d. cond (is_at (place_of rows one) (place_of rows other) cell) cell.value d) rest
      ∙ sym (chosen (is_at (place_of rows one) (place_of rows other) cell) cell (find (is_at (place_of rows one) (place_of rows other)) cells))
    where
      chosen : (b : Bool) (c : Cell) (o : Option Cell) → map_or (cond b (Some c) o) zero_decimal (λ (x : Cell). x.value) ≡ cond b c.value (map_or o zero_decimal (λ (x : Cell). x.value))
      chosen true c o = refl
      chosen false c o = refl

  pub number_is : (cells : List Cell) (weight : Decimal) (i j : ℕ) (one other : PlainId) → All (IsPlaced (length rows)) cells → All (HasNames names rows) cells → slice_get names i ≡ Some one → slice_get names j ≡ Some other → ranked_number weight cells ranks i j ≡ weighted_element rows cells weight one other
  number_is cells weight i j one other placed has here there = ap (product weight) (given_same cells i j one other placed has here there)

  -- no place of an element is past the names
  one_ranked : (n : ℕ) (cell : Cell) → length names ≡ n → IsPlaced (length rows) cell → HasNames names rows cell → IsRanked n ranks cell
  one_ranked n cell count placed has =
      let len = are.len in
      let row = placed.row in
      let col = placed.col in
      elim ((slice_get_cases rows cell.row).1) [
        | inl f ↦ elim ((slice_get_cases rows cell.col).1) [
          | inl g ↦ record {
            row = omega arith;
            col = omega arith;
            row_rank = omega (arith, slice_get_within names (get_or ranks cell.row 0) f.0.id (are.each cell.row f.0 f.2 (has.row f.0 f.2)));
            col_rank = omega (arith, slice_get_within names (get_or ranks cell.col 0) g.0.id (are.each cell.col g.0 g.2 (has.col g.0 g.2)));
          }
          | inr g ↦ absurd (omega (arith, g.0))
        ]
        | inr f ↦ absurd (omega (arith, f.0))
      ]

  pub all_ranked : (n : ℕ) (cells : List Cell) → length names ≡ n → All (IsPlaced (length rows)) cells → All (HasNames names rows) cells → All (IsRanked n ranks) cells
  all_ranked n cells count placed has k d l = one_ranked n (get_or cells k d) count (placed k d l) (has k d l)

-- the scale exponent of the name at i
pub exponent_is : (scales : ScaleMap) (names : List PlainId) (exponents : List ℤ) (i : ℕ) (one : PlainId) → exponents ≡ map (scale_of scales) names → slice_get names i ≡ Some one → at exponents i ≡ scale_of scales one
exponent_is scales names exponents i one are is =
    ap (λ l. at l i) are ∙ get_or-map (scale_of scales) names i one (pos 0) (slice_get_within names i one is) ∙ ap (scale_of scales) (get_or_from_slice_get names i one one is)

pub power_is : (content : Content) (scales : ScaleMap) (names : List PlainId) (exponents : List ℤ) (i j : ℕ) (one other : PlainId) → exponents ≡ map (scale_of scales) names → slice_get names i ≡ Some one → slice_get names j ≡ Some other
    → pair_power content exponents i j ≡ element_power content scales one other
power_is Info scales names exponents i j one other scaled here there =
    ap (λ x. pos 18 -ℤ x -ℤ at exponents j) (exponent_is scales names exponents i one scaled here) ∙ ap (λ x. pos 18 -ℤ scale_of scales one -ℤ x) (exponent_is scales names exponents j other scaled there)
power_is Cova scales names exponents i j one other scaled here there =
    ap (λ x. pos 24 +ℤ x +ℤ at exponents j) (exponent_is scales names exponents i one scaled here) ∙ ap (λ x. pos 24 +ℤ scale_of scales one +ℤ x) (exponent_is scales names exponents j other scaled there)
power_is Corr scales names exponents i j one other scaled here there = refl
