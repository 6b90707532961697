-- Constrained rows without an estimate.
use Rattle.std.proofs.Common.{◌≡◌, ◌≤◌, ◌<◌, ◌+◌, ◌∙◌, ◌&&◌, ◌||◌, ◌==◌, inl, inr, ℕ, Bool, true, false, List, [], ◌∷◌, Option, Some, None, Ok, All, Contains, length, take, get_or, slice_get, IfSome, cond, int_lt, ℤ, pos, negsuc, ◌<ℤ◌, is_some, eq-eqb, refl, sym, ap, subst, arith}
use Rattle.std.specs.List.{find, list_any, position_or_len}
use Rattle.std.specs.Option.{option_and_then}
use Rattle.std.proofs.Math.Decide.{dec_lt}
use Rattle.std.proofs.lemmas.Int.{ints}
use borrow.Author.Tests.{ltb-true}
use Rattle.std.proofs.lemmas.Bool.{false≢true}
use Rattle.std.proofs.lemmas.List.{take_all, get_or_default}
use Rattle.std.proofs.lemmas.List.Folds.{list_any_at, find_at}
use Rattle.std.proofs.lemmas.List.Sums.{position_or_len_is, passes_at_first, fails_before_first}
use Rattle.std.proofs.lemmas.Option.{none-some, same_Some, slice_get_within, slice_get-get_or, get_or_from_slice_get}
use Rattle.decimal_e.specs.Decimals.{Decimal}
use Rattle.param_ids.specs.Plain.{PlainId}
use Rattle.param_ids.specs.Order.{is_same_id}
use Rattle.param_ids.proofs.SameIds.{itself, same_id}
use Rattle.snx_rows.specs.Blocks.{AreDistinct}
use Rattle.snx_rows.specs.Named.{is_row_of, row_of, place_of}
use Rattle.snx_rows.specs.declared.rows.Row.{Row}
use Rattle.snx_matrices.specs.declared.elements.Cell.{Cell}
use Rattle.snx_matrices.specs.declared.elements.Content.{Content}
use Rattle.named_tables.specs.Deviations.{positive, sigma_in, sigma_of, sigma_at}
use Rattle.named_tables.specs.Naming.{lacks_row, matched_in, AreNamesOf}
use Rattle.named_tables.specs.Tables.{HasNames}
use Rattle.named_tables.proofs.NameLaws.{lacks, apart_names}
use Rattle.neq_stack.proofs.NameLaws.{place_cases, contained}
use Rattle.recover_solution.specs.Solutions.{Matrix, Sigmas, PlainSolution, touches, is_touched, touched_names, is_constrained}
use Rattle.recover_solution.specs.Recovery.{estimated, AreDeviationsNamed}
use Rattle.recover_solution.proofs.TouchedLaws.{kept_name}

-- a row that is constrained and has no estimate
abbrev pub lacking : PlainSolution → Row → Bool
lacking solution row = is_constrained solution.constraint solution.apriori row && lacks_row solution.estimates row

-- ---- the row at a place
-- the row at a place is that of its name
pub own_place : (rows : List Row) (k : ℕ) (row : Row) → AreDistinct (λ row. row.id) rows → slice_get rows k ≡ Some row → place_of rows row.id ≡ k
own_place rows k row apart is =
    let within = slice_get_within rows k row is in
    position_or_len_is (is_row_of row.id) rows k row (omega arith)
    (λ j l. apart_names (get_or rows j row).id row.id (λ same.
    let e : j ≡ k = apart j k (get_or rows j row) row (slice_get-get_or rows j row (omega arith)) is same in
    absurd (omega arith)))
    (λ l. ap (λ (r : Row). is_same_id r.id row.id) (get_or_from_slice_get rows k row row is) ∙ itself row.id)

pub place_item : (rows : List Row) (k : ℕ) (row : Row) → AreDistinct (λ row. row.id) rows → k < length rows → row ≡ get_or rows k row → place_of rows row.id ≡ k
place_item rows k row apart l is = own_place rows k row apart (slice_get-get_or rows k row l ∙ ap (λ (r : Row). Some r) (sym is))

-- what a loop that looks for the row of a name shows
abbrev pub NoneBefore : List Row → PlainId → ℕ → Type 0
NoneBefore rows id k = (j : ℕ) (d : Row) → j < k → is_row_of id (get_or rows j d) ≡ false

pub none_before : (rows : List Row) (id : PlainId) (k : ℕ) (row : Row) → k < length rows → row ≡ get_or rows k row → NoneBefore rows id k → is_row_of id row ≡ false → NoneBefore rows id (k + 1)
none_before rows id k row l is before fails j d lj =
    elim (dec_lt j k) [
      | yes low ↦ before j d low
      | no high ↦
          let same : j ≡ k = omega arith in
          ap (λ n. is_row_of id (get_or rows n d)) same ∙ ap (is_row_of id) (get_or_default rows k d row l ∙ sym is) ∙ fails
    ]

pub first_place : (rows : List Row) (id : PlainId) (k : ℕ) (row : Row) → k < length rows → row ≡ get_or rows k row → NoneBefore rows id k → is_row_of id row ≡ true → k ≡ place_of rows id
first_place rows id k row l is before passes =
    sym (position_or_len_is (is_row_of id) rows k row (omega arith) (λ j lj. before j row lj) (λ lk. ap (is_row_of id) (sym is) ∙ passes))

pub no_place : (rows : List Row) (id : PlainId) → NoneBefore rows id (length rows) → length rows ≡ place_of rows id
no_place [] id before = refl
no_place (row ∷ rows) id before =
    sym (position_or_len_is (is_row_of id) (row ∷ rows) (length (row ∷ rows)) row (omega arith) (λ j lj. before j row lj) (λ lk. absurd (omega arith)))

-- ---- the first that lacks its estimate
pub none_and : (a b r : Bool) → r ≡ b → r ≡ false → false ≡ (a && b)
none_and true b r is none = sym none ∙ is
none_and false b r is none = refl

pub all_and : (a b r s : Bool) → r ≡ b → r ≡ true → s ≡ a → s ≡ (a && b)
all_and true b r s is told same = same ∙ sym told ∙ is
all_and false b r s is told same = same

-- what is said of all rows
pub none_lacking : (solution : PlainSolution) (k : ℕ) → length solution.apriori ≤ k → find (lacking solution) (take k solution.apriori) ≡ None → Ok tt ≡ estimated solution
none_lacking solution k all none = ap matched_in (sym none ∙ ap (find (lacking solution)) (take_all k solution.apriori all))

-- ---- standard deviations
-- the row of a name, with its place
row_there : (rows : List Row) (id : PlainId) (row : Row) → row_of rows id ≡ Some row → (k : ℕ) × (slice_get rows k ≡ Some row) × (row.id ≡ id)
row_there rows id row is =
    let k = position_or_len (is_row_of id) rows in
    let here : slice_get rows k ≡ Some row = sym (find_at (is_row_of id) rows) ∙ is in
    let within = slice_get_within rows k row here in
    let test = passes_at_first (is_row_of id) rows row within in
    (k, here, (same_id row.id id).0 (ap (λ (r : Row). is_same_id r.id id) (sym (get_or_from_slice_get rows k row row here)) ∙ test))

-- the row whose standard deviation it is
pub record HasSigma (rows : List Row) (id : PlainId) (s : Decimal) : Type 0 where
  pub place : ℕ
  pub row : Row
  pub there : slice_get rows place ≡ Some row
  pub named : row.id ≡ id
  pub is : sigma_in row ≡ Some s

sigma_from : (rows : List Row) (id : PlainId) (s : Decimal) (o : Option Row) → row_of rows id ≡ o → option_and_then sigma_in o ≡ Some s → HasSigma rows id s
sigma_from rows id s None is e = absurd (none-some s e)
sigma_from rows id s (Some row) is e = let h = row_there rows id row is in record { place = h.0; row = row; there = h.1; named = h.2; is = e }

pub sigma_row : (rows : List Row) (id : PlainId) (s : Decimal) → sigma_of rows id ≡ Some s → HasSigma rows id s
sigma_row rows id s is = sigma_from rows id s (row_of rows id) refl is

-- it is positive
above_zero : (z : ℤ) → int_lt (pos 0) z ≡ true → pos 0 <ℤ z
above_zero (pos n) e = let l : 0 < n = omega (arith, ltb-true 0 n e) in omega (arith, ints)
above_zero (negsuc n) e = absurd (false≢true e)

pub positive_in : (o : Option Decimal) (s : Decimal) → option_and_then positive o ≡ Some s → pos 0 <ℤ s.mant
positive_in None s e = absurd (none-some s e)
positive_in (Some d) s e = positive_is d s (int_lt (pos 0) d.mant) refl e
  where
    positive_is : (d s : Decimal) (b : Bool) → int_lt (pos 0) d.mant ≡ b → cond b (Some d) None ≡ Some s → pos 0 <ℤ s.mant
    positive_is d s true test e = let same : d ≡ s = same_Some d s e in subst (λ (x : Decimal). pos 0 <ℤ x.mant) same (above_zero d.mant test)
    positive_is d s false test e = absurd (none-some s e)

positive_if : (rows : List Row) (id : PlainId) (o : Option Decimal) → sigma_of rows id ≡ o → IfSome o (λ s. pos 0 <ℤ s.mant)
positive_if rows id None is = tt
positive_if rows id (Some s) is = let there = sigma_row rows id s is in positive_in there.row.dev s there.is

pub sigma_positive : (rows : List Row) (one other : PlainId) → IfSome (sigma_at rows one other) (λ s. pos 0 <ℤ s.mant)
sigma_positive rows one other = chosen (is_same_id one other) (sigma_of rows one) (positive_if rows one (sigma_of rows one) refl)
  where
    chosen : (b : Bool) (o : Option Decimal) → IfSome o (λ s. pos 0 <ℤ s.mant) → IfSome (cond b o None) (λ s. pos 0 <ℤ s.mant)
    chosen true o h = h
    chosen false o h = tt

-- two names of which one has none have none
pub sigma_none : (rows : List Row) (one other : PlainId) → sigma_of rows one ≡ None → sigma_at rows one other ≡ None
sigma_none rows one other none = chosen (is_same_id one other) (sigma_of rows one) none
  where
    chosen : (b : Bool) (o : Option Decimal) → o ≡ None → cond b o None ≡ None
    chosen true o h = h
    chosen false o h = refl

pub sigma_none_other : (rows : List Row) (one other : PlainId) → sigma_of rows other ≡ None → sigma_at rows one other ≡ None
sigma_none_other rows one other none = chosen (is_same_id one other) refl
  where
    chosen : (b : Bool) → is_same_id one other ≡ b → cond b (sigma_of rows one) None ≡ None
    chosen true test = ap (sigma_of rows) ((same_id one other).0 test) ∙ none
    chosen false test = refl

-- ---- what has no fault has its estimates
none_found : (o : Option Row) → Ok tt ≡ matched_in o → o ≡ None
none_found None e = refl
none_found (Some row) e = cc

-- no row passes a test where none is found
none_passes : (P : Row → Bool) (rows : List Row) → find P rows ≡ None → (k : ℕ) (d : Row) → k < length rows → P (get_or rows k d) ≡ false
none_passes P rows none k d l =
    elim (dec_lt (position_or_len P rows) (length rows)) [
      | yes within ↦ absurd (none-some (get_or rows (position_or_len P rows) d) (sym none ∙ find_at P rows ∙ slice_get-get_or rows (position_or_len P rows) d within))
      | no past ↦ fails_before_first P rows k d (omega arith)
    ]

not_lacking : (a b : Bool) → (a && b) ≡ false → a ≡ true → b ≡ false
not_lacking true b e is = e
not_lacking false b e is = absurd (false≢true is)

module _ (solution : PlainSolution) (names : List PlainId) (named : AreNamesOf solution.estimates names) (all_estimated : Ok tt ≡ estimated solution) where
  -- a constrained a priori row has an estimate
  pub estimate_of : (k : ℕ) (row : Row) → slice_get solution.apriori k ≡ Some row → is_constrained solution.constraint solution.apriori row ≡ true → Contains names row.id
  estimate_of k row is constrained =
      let found = none_passes (lacking solution) solution.apriori (none_found (find (lacking solution) solution.apriori) all_estimated) k row (slice_get_within solution.apriori k row is) in
      let here : lacking solution row ≡ false = ap (lacking solution) (sym (get_or_from_slice_get solution.apriori k row row is)) ∙ found in
      let has = not_lacking (is_constrained solution.constraint solution.apriori row) (lacks_row solution.estimates row) here constrained in
      elim (place_cases names row.id) [
        | inl h ↦ contained names h.0 row.id h.1
        | inr h ↦ absurd (false≢true (sym has ∙ lacks solution.estimates names row named.0 h.0))
      ]

  -- the names of the rows that an element of the constraints joins are among those that are touched
  module _ (content : Content) (cells : List Cell) (matrix : solution.constraint ≡ Matrix content cells) (apart : AreDistinct (λ row. row.id) solution.apriori) where
    row_touched : (place : ℕ) (row : Row) (j : ℕ) (d : Cell) → slice_get solution.apriori place ≡ Some row → j < length cells → touches place (get_or cells j d) ≡ true → is_touched solution.apriori cells row.id ≡ true
    row_touched place row j d is l here = ap (λ p. list_any (touches p) cells) (own_place solution.apriori place row apart is) ∙ list_any_at (touches place) cells j d l here

    touched : (place : ℕ) (row : Row) (j : ℕ) (d : Cell) → slice_get solution.apriori place ≡ Some row → j < length cells → touches place (get_or cells j d) ≡ true → Contains (touched_names solution.apriori cells names) row.id
    touched place row j d is l here =
        let passes = row_touched place row j d is l here in
        kept_name (is_touched solution.apriori cells) names row.id passes (estimate_of place row is (ap (λ c. is_constrained c solution.apriori row) matrix ∙ passes))

    pub cells_named : All (HasNames (touched_names solution.apriori cells names) solution.apriori) cells
    cells_named j d l = record {
      row = λ row is. touched (get_or cells j d).row row j d is l (touches_row (get_or cells j d));
      col = λ row is. touched (get_or cells j d).col row j d is l (touches_col (get_or cells j d));
    }
      where
        or_true : (a b : Bool) → b ≡ true → (a || b) ≡ true
        or_true true b e = refl
        or_true false b e = e

        true_or : (a b : Bool) → a ≡ true → (a || b) ≡ true
        true_or true b e = refl
        true_or false b e = absurd (false≢true e)

        same_place : (n : ℕ) → (n == n) ≡ true
        same_place n = eq-eqb n n refl

        touches_row : (cell : Cell) → touches cell.row cell ≡ true
        touches_row cell = true_or (cell.row == cell.row) (cell.col == cell.row) (same_place cell.row)

        touches_col : (cell : Cell) → touches cell.col cell ≡ true
        touches_col cell = or_true (cell.row == cell.col) (cell.col == cell.col) (same_place cell.col)

  -- so has a row with a positive standard deviation
  pub sigma_named : (id : PlainId) (s : Decimal) → solution.constraint ≡ Sigmas → sigma_of solution.apriori id ≡ Some s → Contains names id
  sigma_named id s sigmas is =
      let there = sigma_row solution.apriori id s is in
      subst (Contains names) there.named (estimate_of there.place there.row there.there (ap (λ c. is_constrained c solution.apriori there.row) sigmas ∙ ap is_some there.is))

  pub deviations_named : solution.constraint ≡ Sigmas → AreDeviationsNamed solution.apriori names
  deviations_named sigmas id s is = sigma_named id s sigmas is
