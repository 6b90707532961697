-- The flags of the elements that were given.
use Rattle.std.proofs.Common.{◌≡◌, ◌≤◌, ◌<◌, ◌+◌, ◌*◌, ◌/◌, ◌%◌, ◌∷◌, ◌++◌, ◌∙◌, ◌||◌, inl, inr, ℕ, List, [], length, Bool, true, false, All, set, get_or, eqb, arith, refl, sym, ap}
use Rattle.std.specs.List.{list_any}
use Rattle.std.proofs.lemmas.Bool.{cases_eq, eq-eqb, ne_eqb, and_parts, and_left, and_right, and_from, eqb-true, true≢false}
use Rattle.std.proofs.lemmas.Nat.{mul-add-lt, div-mul-add, mod-mul-add}
use Rattle.std.proofs.lemmas.List.{get_or_read, get_or-set_same, get_or-set_other, length-set}
use Rattle.std.proofs.lemmas.List.Folds.{list_any-append, Any-from_list_any, list_any-from_Any}
use Rattle.snx_matrices.specs.Elements.{IsGivenBefore}
use Rattle.snx_matrices.specs.Passing.{is_at, AreFlags}
use Rattle.snx_matrices.specs.declared.elements.Cell.{Cell}

-- a place is that of one row and column
pub one_place : (n row col r c : ℕ) → col < n → c < n → r * n + c ≡ row * n + col → (r ≡ row) × (c ≡ col)
one_place n row col r c l m e =
    (sym (div-mul-add r n c m) ∙ ap (λ x. x / n) e ∙ div-mul-add row n col l, sym (mod-mul-add r n c m) ∙ ap (λ x. x % n) e ∙ mod-mul-add row n col l)

-- no element was given
pub no_flags : (n : ℕ) (flags : List Bool) → n ≤ 1000 → length flags ≡ n * n → All (λ flag. flag ≡ false) flags → AreFlags n flags []
no_flags n flags few size none =
    record { few = few; square = size; marks = λ row col l m. none (row * n + col) false (omega (arith, size, mul-add-lt row n col n l m)) }

-- one more element
is_here : (cell : Cell) → is_at cell.row cell.col cell ≡ true
is_here cell = and_from (eqb cell.row cell.row) (eqb cell.col cell.col) (eq-eqb cell.row cell.row refl) (eq-eqb cell.col cell.col refl)

is_elsewhere : (cell : Cell) (row col : ℕ) → ((cell.row ≡ row) × (cell.col ≡ col) → ⊥) → is_at row col cell ≡ false
is_elsewhere cell row col n =
    elim (cases_eq cell.row row) [
      | inl same ↦ and_right (eqb cell.row row) (eqb cell.col col) (ne_eqb cell.col col (λ e. n (same, e)))
      | inr other ↦ and_left (eqb cell.row row) (eqb cell.col col) (ne_eqb cell.row row other)
    ]

or_true : (b : Bool) → (b || true) ≡ true
or_true true = refl
or_true false = refl

or_false : (b : Bool) → (b || false) ≡ b
or_false true = refl
or_false false = refl

one_more : (cells : List Cell) (cell : Cell) (row col : ℕ) (b : Bool) → is_at row col cell ≡ b → list_any (is_at row col) (cells ++ (cell ∷ [])) ≡ (list_any (is_at row col) cells || b)
one_more cells cell row col b e = list_any-append (is_at row col) cells (cell ∷ []) ∙ ap (λ x. list_any (is_at row col) cells || x) (or_false (is_at row col cell) ∙ e)

pub one_flag_more : (n : ℕ) (flags : List Bool) (cells : List Cell) (cell : Cell) → cell.row < n → cell.col < n → AreFlags n flags cells → AreFlags n (set flags (cell.row * n + cell.col) true) (cells ++ (cell ∷ []))
one_flag_more n flags cells cell row_in col_in h =
    let at = cell.row * n + cell.col in
    let within : at < length flags = omega (arith, h.square, mul-add-lt cell.row n cell.col n row_in col_in) in
    record {
      few = h.few;
      square = length-set flags at true ∙ h.square;
      marks = λ row col l m.
          elim (cases_eq (row * n + col) at) [
            | inl same ↦
                let e = one_place n cell.row cell.col row col col_in m same in
                let here : is_at row col cell ≡ true = rw (e.0, e.1) (is_here cell) in
                let set_is : get_or (set flags at true) (row * n + col) false ≡ true = rw same (get_or-set_same flags at true false within) in
                set_is ∙ sym (one_more cells cell row col true here ∙ or_true (list_any (is_at row col) cells))
            | inr other ↦
                let away = is_elsewhere cell row col (λ e. other (ap (λ x. x * n + col) (sym e.0) ∙ ap (λ x. cell.row * n + x) (sym e.1))) in
                get_or-set_other flags at (row * n + col) true false other ∙ h.marks row col l m ∙ sym (one_more cells cell row col false away ∙ or_false (list_any (is_at row col) cells))
          ];
    }

-- a flag that is read
pub read_true : (n : ℕ) (flags : List Bool) (cells : List Cell) (cell : Cell) → cell.row < n → cell.col < n → AreFlags n flags cells → (b : Bool) → b ≡ get_or flags (cell.row * n + cell.col) b → b ≡ true → get_or flags (cell.row * n + cell.col) false ≡ true
read_true n flags cells cell row_in col_in h b is e =
    let within : cell.row * n + cell.col < length flags = omega (arith, h.square, mul-add-lt cell.row n cell.col n row_in col_in) in
    sym (get_or_read flags (cell.row * n + cell.col) b within is false) ∙ e

pub read_false : (n : ℕ) (flags : List Bool) (cells : List Cell) (cell : Cell) → cell.row < n → cell.col < n → AreFlags n flags cells → (b : Bool) → b ≡ get_or flags (cell.row * n + cell.col) b → b ≡ false → get_or flags (cell.row * n + cell.col) false ≡ false
read_false n flags cells cell row_in col_in h b is e =
    let within : cell.row * n + cell.col < length flags = omega (arith, h.square, mul-add-lt cell.row n cell.col n row_in col_in) in
    sym (get_or_read flags (cell.row * n + cell.col) b within is false) ∙ e

-- what a flag says
same_place : (cell other : Cell) → is_at cell.row cell.col other ≡ true → (other.row ≡ cell.row) × (other.col ≡ cell.col)
same_place cell other e =
    let p = and_parts (eqb other.row cell.row) (eqb other.col cell.col) e in
    (eqb-true other.row cell.row p.0, eqb-true other.col cell.col p.1)

at_place : (cell other : Cell) → (other.row ≡ cell.row) × (other.col ≡ cell.col) → is_at cell.row cell.col other ≡ true
at_place cell other e = and_from (eqb other.row cell.row) (eqb other.col cell.col) (eq-eqb other.row cell.row e.0) (eq-eqb other.col cell.col e.1)

pub given_before : (n : ℕ) (flags : List Bool) (cells : List Cell) (cell : Cell) → cell.row < n → cell.col < n → AreFlags n flags cells → get_or flags (cell.row * n + cell.col) false ≡ true → IsGivenBefore cells cell
given_before n flags cells cell row_in col_in h e =
    let a = Any-from_list_any (is_at cell.row cell.col) cells (sym (h.marks cell.row cell.col row_in col_in) ∙ e) in
    (a.0, a.1, a.2, a.3, same_place cell a.1 a.4)

pub not_given : (n : ℕ) (flags : List Bool) (cells : List Cell) (cell : Cell) → cell.row < n → cell.col < n → AreFlags n flags cells → get_or flags (cell.row * n + cell.col) false ≡ false → IsGivenBefore cells cell → ⊥
not_given n flags cells cell row_in col_in h e a =
    true≢false (sym (h.marks cell.row cell.col row_in col_in ∙ list_any-from_Any (is_at cell.row cell.col) cells (a.0, a.1, a.2, a.3, at_place cell a.1 a.4)) ∙ e)
