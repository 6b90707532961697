-- Rows by their names.
use Rattle.std.proofs.Common.{◌≡◌, ◌≤◌, ◌<◌, ◌+◌, ◌-◌, ◌∙◌, ◌||◌, ℕ, Bool, true, false, not, cond, List, [], ◌∷◌, Option, Some, None, Err, length, map, take, drop, set, get_or, replicate, slice_get, Contains, refl, sym, ap, subst, arith, inl, inr}
use Rattle.std.specs.List.{find, list_any}
use Rattle.std.specs.List.Sorted.{IsPermutation}
use Rattle.std.specs.Option.{option_map, option_or}
use Rattle.std.proofs.lemmas.Bool.{cases_eq}
use Rattle.std.proofs.lemmas.List.{take_more, take-append-drop, drop_more, drop_all, length-map, length-set, get_or-map, get_or-set_same, get_or-set_other, same_lists}
use Rattle.std.proofs.lemmas.List.Elements.{Contains-get_or}
use Rattle.std.proofs.lemmas.List.Folds.{find-append, list_any_at, list_any_none}
use Rattle.std.proofs.lemmas.List.Sorted.{list_any-IsPermutation, Contains-permutation, IsPermutation-refl}
use Rattle.std.proofs.lemmas.Option.{none-some, same_Some, slice_get-map, slice_get_within, slice_get_cases, slice_get-get_or, get_or_from_slice_get}
use Rattle.param_ids.specs.Plain.{PlainId}
use Rattle.param_ids.specs.Order.{is_same_id, IsRising}
use Rattle.param_ids.specs.Lists.{StandsTwice, IsLeastRepeat, IsListed}
use Rattle.param_ids.specs.declared.listing.NamesError.{NamesError}
use Rattle.param_ids.specs.declared.listing.NamesError.TheVariants.{Repeated, TooMany}
use Rattle.param_ids.proofs.Repeats.{none_moved}
use Rattle.param_ids.proofs.SameIds.{itself, same_id}
use Rattle.snx_rows.specs.Blocks.{AreDistinct}
use Rattle.snx_rows.specs.declared.rows.Row.{Row}
use Rattle.snx_rows.specs.Named.{is_row_of, row_of}
use Rattle.named_tables.specs.Naming.{lacks_row}

-- the names of rows, as they stand
abbrev pub ids_in : List Row → List PlainId
ids_in rows = map (λ (row : Row). row.id) rows

false_unless : (b : Bool) → (b ≡ true → ⊥) → b ≡ false
false_unless true never = absurd (never refl)
false_unless false never = refl

pub apart_names : (a b : PlainId) → (a ≡ b → ⊥) → is_same_id a b ≡ false
apart_names a b apart = false_unless (is_same_id a b) (λ t. apart ((same_id a b).0 t))

-- a list from the place before
pub drop_back : {X : Type 0} (xs : List X) (k : ℕ) (x : X) → 1 ≤ k → k ≤ length xs → x ≡ get_or xs (k - 1) x → drop (k - 1) xs ≡ x ∷ drop k xs
drop_back xs k x some within is =
    let next : k - 1 + 1 ≡ k = omega arith in
    drop_more xs (k - 1) x (omega arith) ∙ ap (λ n. get_or xs (k - 1) x ∷ drop n xs) next ∙ ap (λ y. y ∷ drop k xs) (sym is)

-- ---- names that stand once
-- the row of a name at a place
pub named_row : (rows : List Row) (k : ℕ) (id : PlainId) → slice_get (ids_in rows) k ≡ Some id → (row : Row) × (slice_get rows k ≡ Some row) × (row.id ≡ id)
named_row rows k id is =
    elim ((slice_get_cases rows k).1) [
      | inl h ↦ (h.0, h.2, same_Some h.0.id id (sym (slice_get-map (λ (row : Row). row.id) rows k ∙ ap (option_map (λ (row : Row). row.id)) h.2) ∙ is))
      | inr h ↦ absurd (none-some id (sym (slice_get-map (λ (row : Row). row.id) rows k ∙ ap (option_map (λ (row : Row). row.id)) h.1) ∙ is))
    ]

pub none_repeated : (rows : List Row) (id : PlainId) → AreDistinct (λ row. row.id) rows → StandsTwice (ids_in rows) id → ⊥
none_repeated rows id apart t =
    let one = named_row rows t.0 id t.3 in
    let other = named_row rows t.1 id t.4 in
    t.2 (apart t.0 t.1 one.0 other.0 one.1 other.1 (one.2 ∙ sym other.2))

-- a list of names has no fault where the rows are sound
pub no_repeat : (rows : List Row) (list : List PlainId) (fault : NamesError) (id : PlainId) → AreDistinct (λ row. row.id) rows → list ≡ ids_in rows → fault ≡ Repeated id → IsListed list (Err fault) → ⊥
no_repeat rows list fault id apart is repeated h =
    let least : IsLeastRepeat list id = subst (λ (x : NamesError). IsListed list (Err x)) repeated h in
    none_repeated rows id apart (subst (λ l. StandsTwice l id) is least.twice)

pub not_many : (rows : List Row) (list : List PlainId) (fault : NamesError) (count : ℕ) → length rows ≤ 1000 → list ≡ ids_in rows → fault ≡ TooMany count → IsListed list (Err fault) → ⊥
not_many rows list fault count few is many h =
    let over : IsListed list (Err (TooMany count)) = subst (λ (x : NamesError). IsListed list (Err x)) many h in
    omega (arith, over.1, ap length is, length-map rows (λ (row : Row). row.id))

-- a name stands at one place of names in order, and of a list that has them
pub one_place : (list names : List PlainId) (id : PlainId) (i j : ℕ) → IsPermutation list names → IsRising names → slice_get list i ≡ Some id → slice_get list j ≡ Some id → i ≡ j
one_place list names id i j p rising here there =
    elim (cases_eq i j) [
      | inl same ↦ same
      | inr apart ↦ absurd (none_moved list names p rising id (i, j, apart, here, there))
    ]

pub one_rank : (names : List PlainId) (id : PlainId) (i j : ℕ) → IsRising names → slice_get names i ≡ Some id → slice_get names j ≡ Some id → i ≡ j
one_rank names id i j = one_place names names id i j (IsPermutation-refl names)

pub contains_id : (rows : List Row) (names : List PlainId) (k : ℕ) (row : Row) → IsPermutation (ids_in rows) names → k < length rows → row ≡ get_or rows k row → Contains names row.id
contains_id rows names k row p l is =
    let named : get_or (ids_in rows) k row.id ≡ row.id = get_or-map (λ (r : Row). r.id) rows k row row.id l ∙ ap (λ (r : Row). r.id) (sym is) in
    Contains-permutation (ids_in rows) names row.id p (subst (Contains (ids_in rows)) named (Contains-get_or (ids_in rows) k row.id (omega (arith, length-map rows (λ (r : Row). r.id)))))

-- ---- a row without an a priori row of its name
list_any_ids : (rows : List Row) (id : PlainId) → list_any (is_row_of id) rows ≡ list_any (λ other. is_same_id other id) (ids_in rows)
list_any_ids [] id = refl
list_any_ids (row ∷ rows) id = ap (λ b. is_same_id row.id id || b) (list_any_ids rows id)

test_moves : (apriori : List Row) (names : List PlainId) (id : PlainId) → IsPermutation (ids_in apriori) names → list_any (is_row_of id) apriori ≡ list_any (λ other. is_same_id other id) names
test_moves apriori names id p = list_any_ids apriori id ∙ list_any-IsPermutation (λ other. is_same_id other id) (ids_in apriori) names p

pub has_value : (apriori : List Row) (names : List PlainId) (row : Row) (k : ℕ) → IsPermutation (ids_in apriori) names → slice_get names k ≡ Some row.id → lacks_row apriori row ≡ false
has_value apriori names row k p is =
    let here : is_same_id (get_or names k row.id) row.id ≡ true = ap (λ other. is_same_id other row.id) (get_or_from_slice_get names k row.id row.id is) ∙ itself row.id in
    ap not (test_moves apriori names row.id p ∙ list_any_at (λ other. is_same_id other row.id) names k row.id (slice_get_within names k row.id is) here)

pub lacks : (apriori : List Row) (names : List PlainId) (row : Row) → IsPermutation (ids_in apriori) names → (Contains names row.id → ⊥) → lacks_row apriori row ≡ true
lacks apriori names row p none =
    ap not (test_moves apriori names row.id p ∙ list_any_none (λ other. is_same_id other row.id) names (λ k d l.
    apart_names (get_or names k d) row.id (λ same. none (subst (Contains names) same (Contains-get_or names k d l)))))

-- ---- the first row that passes a test
pub none_more : (P : Row → Bool) (rows : List Row) (k : ℕ) (row : Row) → k < length rows → row ≡ get_or rows k row → find P (take k rows) ≡ None → P row ≡ false → find P (take (k + 1) rows) ≡ None
none_more P rows k row l is before fails =
    ap (find P) (take_more rows k row l) ∙ find-append P (take k rows) (get_or rows k row ∷ []) ∙ ap (λ o. option_or o (find P (get_or rows k row ∷ []))) before
    ∙ ap (λ r. find P (r ∷ [])) (sym is) ∙ ap (λ b. cond b (Some row) None) fails

pub first_here : (P : Row → Bool) (rows : List Row) (k : ℕ) (row : Row) → k < length rows → row ≡ get_or rows k row → find P (take k rows) ≡ None → P row ≡ true → find P rows ≡ Some row
first_here P rows k row l is before passes =
    ap (find P) (sym (take-append-drop k rows)) ∙ find-append P (take k rows) (drop k rows) ∙ ap (λ o. option_or o (find P (drop k rows))) before
    ∙ ap (find P) (drop_more rows k row l) ∙ ap (λ r. find P (r ∷ drop (k + 1) rows)) (sym is) ∙ ap (λ b. cond b (Some row) (find P (drop (k + 1) rows))) passes

-- ---- of each name the first row
nothing : (names : List PlainId) → replicate (length names) None ≡ map (row_of []) names
nothing [] = refl
nothing (id ∷ names) = ap (λ (l : List (Option Row)). None ∷ l) (nothing names)

pub found_none : (names : List PlainId) (rows : List Row) (k : ℕ) → length rows ≤ k → replicate (length names) None ≡ map (row_of (drop k rows)) names
found_none names rows k all = nothing names ∙ ap (λ l. map (row_of l) names) (sym (drop_all k rows all))

module _ (names : List PlainId) (rest : List Row) (row : Row) where
  at_name : (k : ℕ) (d : Option Row) → k < length names → get_or (map (row_of (row ∷ rest)) names) k d ≡ cond (is_same_id row.id (get_or names k row.id)) (Some row) (row_of rest (get_or names k row.id))
  at_name k d l = get_or-map (row_of (row ∷ rest)) names k row.id d l

  behind : (k : ℕ) (d : Option Row) → k < length names → (row.id ≡ get_or names k row.id → ⊥) → get_or (map (row_of rest) names) k d ≡ get_or (map (row_of (row ∷ rest)) names) k d
  behind k d l apart =
      get_or-map (row_of rest) names k row.id d l
      ∙ ap (λ b. cond b (Some row) (row_of rest (get_or names k row.id))) (sym (apart_names row.id (get_or names k row.id) apart))
      ∙ sym (at_name k d l)

  len : length (map (row_of rest) names) ≡ length (map (row_of (row ∷ rest)) names)
  len = length-map names (row_of rest) ∙ sym (length-map names (row_of (row ∷ rest)))

  pub found_same : (Contains names row.id → ⊥) → map (row_of rest) names ≡ map (row_of (row ∷ rest)) names
  found_same none =
      same_lists _ _ len (λ k d l.
      let within : k < length names = omega (arith, length-map names (row_of rest)) in
      behind k d within (λ same. none (subst (Contains names) (sym same) (Contains-get_or names k row.id within))))

  pub found_here : (rank : ℕ) → IsRising names → slice_get names rank ≡ Some row.id → set (map (row_of rest) names) rank (Some row) ≡ map (row_of (row ∷ rest)) names
  found_here rank rising is =
      same_lists _ _ (length-set (map (row_of rest) names) rank (Some row) ∙ len) (λ k d l.
      let within : k < length names = omega (arith, length-set (map (row_of rest) names) rank (Some row), length-map names (row_of rest)) in
      elim (cases_eq k rank) [
        | inl same ↦
            let here : get_or names k row.id ≡ row.id = ap (λ n. get_or names n row.id) same ∙ get_or_from_slice_get names rank row.id row.id is in
            ap (λ n. get_or (set (map (row_of rest) names) rank (Some row)) n d) same
            ∙ get_or-set_same (map (row_of rest) names) rank (Some row) d (omega (arith, length-map names (row_of rest), same))
            ∙ sym (at_name k d within ∙ ap (λ id. cond (is_same_id row.id id) (Some row) (row_of rest id)) here ∙ ap (λ b. cond b (Some row) (row_of rest row.id)) (itself row.id))
        | inr apart ↦
            get_or-set_other (map (row_of rest) names) rank k (Some row) d apart
            ∙ behind k d within (λ same. apart (one_rank names row.id k rank rising (slice_get-get_or names k row.id within ∙ ap (λ id. Some id) (sym same)) is))
      ])
