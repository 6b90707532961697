-- Diagonal elements by the places of rows.
use Rattle.std.proofs.Common.{◌≡◌, ◌≤◌, ◌<◌, ◌+◌, ◌-◌, ◌∙◌, ℕ, Bool, true, false, cond, List, [], ◌∷◌, ◌++◌, Option, Some, length, map, take, drop, set, get_or, slice_get, refl, sym, ap, subst, arith}
use Rattle.std.specs.List.{find, list_all, position_or_len}
use Rattle.std.specs.Net.Reader.{map_or}
use Rattle.std.proofs.Math.Decide.{ℕ_discrete, dec_lt}
use Rattle.std.proofs.lemmas.Bool.Decides.{nat_tests}
use Rattle.std.proofs.lemmas.List.{drop_all, get_or_read, get_or-map, get_or-set_same, get_or-set_other, map_more}
use Rattle.std.proofs.lemmas.List.Folds.{list_all-map}
use Rattle.std.proofs.lemmas.Option.{slice_get_within, get_or_from_slice_get}
use Rattle.std.proofs.lemmas.List.Sums.{position_or_len_is}
use Rattle.decimal_e.specs.Decimals.{Decimal}
use Rattle.param_ids.specs.Plain.{PlainId}
use Rattle.snx_rows.specs.Named.{zero_decimal}
use Rattle.snx_rows.specs.declared.rows.Row.{Row}
use Rattle.snx_matrices.specs.Named.{is_at, given_at, element_of}
use Rattle.snx_matrices.specs.declared.elements.Cell.{Cell}
use Rattle.named_tables.specs.Deviations.{positive, sigma_of}
use Rattle.named_tables.proofs.CellLaws.{behind}
use Rattle.named_tables.proofs.NameLaws.{drop_back}
use Rattle.correlations.specs.Exact.{deviation_of, has_ones, is_one}
use Rattle.correlations.specs.Parts.{IsTyped}

here : (cell : Cell) (cells : List Cell) (i j : ℕ) → is_at i j cell ≡ true → given_at (cell ∷ cells) i j ≡ cell.value
here cell cells i j at = ap (λ b. map_or (cond b (Some cell) (find (is_at i j) cells)) zero_decimal (λ (c : Cell). c.value)) at

at_own : (cell : Cell) (p : ℕ) → cell.row ≡ p → cell.col ≡ p → is_at p p cell ≡ true
at_own cell p r c = grind (arith, nat_tests)

off_row : (cell : Cell) (p : ℕ) → (cell.row ≡ p → ⊥) → is_at p p cell ≡ false
off_row cell p r = grind (arith, nat_tests)

off_col : (cell : Cell) (p : ℕ) → (cell.col ≡ p → ⊥) → is_at p p cell ≡ false
off_col cell p r = elim (ℕ_discrete cell.row p) [ yes e ↦ grind (arith, nat_tests) | no e ↦ grind (arith, nat_tests) ]

pub none_given : (cells : List Cell) (k p : ℕ) → length cells ≤ k → given_at (drop k cells) p p ≡ zero_decimal
none_given cells k p all = ap (λ l. given_at l p p) (drop_all k cells all)

-- an element off the diagonal
pub off_diagonal : (cells : List Cell) (k : ℕ) (cell : Cell) (given : List Decimal) (n : ℕ) → 1 ≤ k → k ≤ length cells → cell ≡ get_or cells (k - 1) cell → (cell.row ≡ cell.col → ⊥)
    → ((p : ℕ) → p < n → get_or given p zero_decimal ≡ given_at (drop k cells) p p) → (p : ℕ) → p < n → get_or given p zero_decimal ≡ given_at (drop (k - 1) cells) p p
off_diagonal cells k cell given n some within is off before p l =
    before p l
    ∙ elim (ℕ_discrete cell.row p) [
      | yes e ↦ sym (behind cell (drop k cells) p p (off_col cell p (λ c. off (e ∙ sym c))))
      | no e ↦ sym (behind cell (drop k cells) p p (off_row cell p e))
    ]
    ∙ ap (λ cs. given_at cs p p) (sym (drop_back cells k cell some within is))

-- an element of the diagonal
pub on_diagonal : (cells : List Cell) (k : ℕ) (cell : Cell) (given more : List Decimal) (n : ℕ) → 1 ≤ k → k ≤ length cells → cell ≡ get_or cells (k - 1) cell → cell.row ≡ cell.col → length given ≡ n → cell.row < n
    → more ≡ set given cell.row cell.value → ((p : ℕ) → p < n → get_or given p zero_decimal ≡ given_at (drop k cells) p p) → (p : ℕ) → p < n → get_or more p zero_decimal ≡ given_at (drop (k - 1) cells) p p
on_diagonal cells k cell given more n some within is own len low pushed before p l =
    ap (λ xs. get_or xs p zero_decimal) pushed
    ∙ elim (ℕ_discrete cell.row p) [
      | yes e ↦ ap (λ r. get_or (set given r cell.value) p zero_decimal) e ∙ get_or-set_same given p cell.value zero_decimal (omega arith) ∙ sym (here cell (drop k cells) p p (at_own cell p e (sym own ∙ e)))
      | no e ↦ get_or-set_other given cell.row p cell.value zero_decimal (λ f. e (sym f)) ∙ before p l ∙ sym (behind cell (drop k cells) p p (off_row cell p e))
    ]
    ∙ ap (λ cs. given_at cs p p) (sym (drop_back cells k cell some within is))

pub typed_more : (cells : List Cell) (k : ℕ) (cell : Cell) → 1 ≤ k → cell ≡ get_or cells (k - 1) cell → IsTyped cell.value → ((j : ℕ) (d : Cell) → k ≤ j → j < length cells → IsTyped (get_or cells j d).value) → (j : ℕ) (d : Cell) → k - 1 ≤ j → j < length cells → IsTyped (get_or cells j d).value
typed_more cells k cell some is typed before j d low high =
    elim (dec_lt j k) [
      | yes l ↦
          let e : k - 1 ≡ j = omega arith in
          let read : cell ≡ get_or cells (k - 1) d = get_or_read cells (k - 1) cell (omega arith) is d in
          subst (λ (c : Cell). IsTyped c.value) (read ∙ ap (λ i. get_or cells i d) e) typed
      | no l ↦ before j d (omega arith) high
    ]

-- ---- places of rows
pub none_more : {X : Type 0} (p : X → Bool) (xs : List X) (k : ℕ) (x : X) → k < length xs → x ≡ get_or xs k x → p x ≡ false → ((j : ℕ) (d : X) → j < k → p (get_or xs j d) ≡ false) → (j : ℕ) (d : X) → j < k + 1 → p (get_or xs j d) ≡ false
none_more p xs k x within is apart before j d l =
    elim (dec_lt j k) [
      | yes low ↦ before j d low
      | no high ↦ let e : k ≡ j = omega arith in ap p (ap (λ i. get_or xs i d) (sym e) ∙ sym (get_or_read xs k x within is d)) ∙ apart
    ]

pub all_apart : {X : Type 0} (p : X → Bool) (xs : List X) → ((j : ℕ) (d : X) → j < length xs → p (get_or xs j d) ≡ false) → length xs ≡ position_or_len p xs
all_apart p [] none = refl
all_apart p (x ∷ xs) none = sym (position_or_len_is p (x ∷ xs) (length (x ∷ xs)) x (omega arith) (λ k l. none k x l) (λ l. absurd (omega arith)))

-- ---- lists by names
pub listed_more : {X Y : Type 0} (f : X → Y) (xs : List X) (k : ℕ) (x : X) (y : Y) (ds es : List Y) → slice_get xs k ≡ Some x → y ≡ f x → ds ≡ map f (take k xs) → es ≡ ds ++ y ∷ [] → es ≡ map f (take (k + 1) xs)
listed_more f xs k x y ds es at value before pushed =
    pushed ∙ ap (λ l. l ++ y ∷ []) before ∙ ap (λ z. map f (take k xs) ++ z ∷ []) (value ∙ ap f (sym (get_or_from_slice_get xs k x x at))) ∙ sym (map_more f xs k x (slice_get_within xs k x at))

pub deviation_here : (rows : List Row) (cells : List Cell) (names : List PlainId) (own : List Decimal) (k : ℕ) (id : PlainId) (d : Decimal) (ones : Bool) (r : Option Decimal) → own ≡ map (λ one. element_of rows cells one one) names → slice_get names k ≡ Some id
    → d ≡ get_or own k d → ones ≡ list_all is_one own → r ≡ (cond ones (sigma_of rows id) (positive d)) → r ≡ deviation_of rows cells names id
deviation_here rows cells names own k id d ones r own_is at read ones_is is =
    let within = slice_get_within names k id at in
    let value : d ≡ element_of rows cells id id =
    read ∙ ap (λ l. get_or l k d) own_is ∙ get_or-map (λ one. element_of rows cells one one) names k id d within ∙ ap (λ one. element_of rows cells one one) (get_or_from_slice_get names k id id at) in
    let all : ones ≡ has_ones rows cells names = ones_is ∙ ap (list_all is_one) own_is ∙ list_all-map is_one (λ one. element_of rows cells one one) names in
    is ∙ ap (λ b. cond b (sigma_of rows id) (positive d)) all ∙ ap (λ e. cond (has_ones rows cells names) (sigma_of rows id) (positive e)) value
