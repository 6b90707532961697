-- What elements keep.
use Rattle.std.proofs.Common.{◌≡◌, ◌≢◌, ◌+◌, ◌∷◌, ◌++◌, ◌∙◌, ◌⊎◌, inl, inr, ℕ, zero, suc, pos, List, [], length, Bool, true, false, Option, Some, None, Result, Ok, Err, All, slice_get, if◌then◌else◌, arith, refl, sym, ap, subst}
use Rattle.std.specs.Option.{ok_or}
use Rattle.std.specs.Ordering.{int_eq}
use Rattle.std.proofs.lemmas.Bool.{false≢true, leb-true}
use Rattle.std.proofs.lemmas.Bool.Decides.{Decides-int_eq}
use Rattle.std.proofs.lemmas.Option.{slice_get_within, get_or_from_slice_get, option_and_then_some}
use Rattle.std.proofs.lemmas.List.Elements.{All-nil, All-push, All-weaker}
use Rattle.stated_order.specs.Steps.{Then, Through, GoesOn}
use Rattle.snx_lines.specs.Lines.{PlainLine, columns}
use Rattle.decimal_e.specs.Decimals.{Decimal}
use Rattle.snx_rows.specs.Indices.{index_of}
use Rattle.snx_rows.specs.Rows.{IsNumber}
use Rattle.snx_rows.specs.Blocks.{AreDistinct}
use Rattle.snx_rows.specs.declared.causes.Cause.TheVariants as causes
use Rattle.snx_rows.specs.declared.rows.Row.{Row}
use Rattle.snx_matrices.specs.Elements.{place_of, called, called_by, is_within, unless_zero, value_columns, IsPairOn, IsGiven, IsGivenBefore, IsElement, WithValue, IsValueTaken, IsLineTaken, AreElements, IsPlaced, AreElementsOf}
use Rattle.snx_matrices.specs.declared.elements.Triangle.{Triangle}
use Rattle.snx_matrices.specs.declared.elements.Triangle.TheVariants.{Lower, Upper}
use Rattle.snx_matrices.specs.declared.elements.Called.{Called}
use Rattle.snx_matrices.specs.declared.elements.Pair.{Pair}
use Rattle.snx_matrices.specs.declared.elements.Cell.{Cell}
use Rattle.snx_matrices.proofs.PlaceLaws.{found}

-- ---- steps that give something
then_ok : {X Y C : Type 0} (first : Result X C → Type 0) (next : X → Result Y C → Type 0) (y : Y) → Then first next (Ok y) → GoesOn first next (Ok y)
then_ok first next y h = elim h [ inl f ↦ f | inr f ↦ let e = f.is_cause in cc ]

-- what each step keeps stands after a list, if it stood before
through_keeps : {S A C : Type 0} (step : S → A → Result S C → Type 0) (P : S → Type 0) → ((before : S) (a : A) (after : S) → P before → step before a (Ok after) → P after) → (before : S) (list : List A) (last : S) → P before → Through step before list (Ok last) → P last
through_keeps step P keeps before [] last p h = let same : before ≡ last = cc h in subst P same p
through_keeps step P keeps before (a ∷ rest) last p h =
    let f = then_ok (step before a) (λ after. Through step after rest) last h in
    through_keeps step P keeps f.gives rest last (keeps before a f.gives p f.given) f.onward

some_from_ok : {T E : Type 0} (o : Option T) (e : E) (x : T) → Ok x ≡ ok_or o e → o ≡ Some x
some_from_ok None e x h = cc h
some_from_ok (Some y) e x h = cc h

-- ---- rows that are called
stands_there : (rows : List Row) (index : ℕ) (c : Called) → called rows index ≡ Some c → place_of rows c.index ≡ Some c.place
stands_there rows index c e =
    option_and_then_some (λ place. Some (record { index = index; place = place })) (place_of rows index) c e (λ p is same.
    let made : Called = record { index = index; place = p } in
    let eq : made ≡ c = cc same in
    subst (λ (d : Called). place_of rows d.index ≡ Some d.place) eq is)

stands_by : (rows : List Row) (text : List ℕ) (c : Called) → called_by rows text ≡ Some c → place_of rows c.index ≡ Some c.place
stands_by rows text c e = option_and_then_some (called rows) (index_of text) c e (λ index is same. stands_there rows index c same)

row_of_pair : (rows : List Row) (text : List ℕ) (pair : Pair) → IsPairOn rows text (Ok pair) → place_of rows pair.row.index ≡ Some pair.row.place
row_of_pair rows text pair h =
    let f = then_ok (λ r. r ≡ ok_or (called_by rows (columns text 2 6)) causes.Index) _ pair h in
    let g = then_ok (λ r. r ≡ ok_or (called_by rows (columns text 8 12)) causes.Index) _ pair f.onward in
    let made : Pair = record { row = f.gives; column = g.gives } in
    let same : pair ≡ made = cc g.onward in
    let stands = stands_by rows (columns text 2 6) f.gives (some_from_ok (called_by rows (columns text 2 6)) causes.Index f.gives f.given) in
    subst (λ (p : Pair). place_of rows p.row.index ≡ Some p.row.place) (sym same) stands

-- ---- values that are given
not_zero : (b : Bool) (d value : Decimal) → int_eq d.mant (pos 0) ≡ b → Some value ≡ (if b then None else Some d) → value.mant ≢ pos 0
not_zero true d value e h = let n : Some value ≡ None = h in cc n
not_zero false d value e h =
    let same : value ≡ d = cc h in
    λ z. false≢true (sym e ∙ (Decides-int_eq d.mant (pos 0)).1 (ap (λ (x : Decimal). x.mant) (sym same) ∙ z))

given_not_zero : (text : List ℕ) (value : Decimal) → IsGiven text (Ok (Some value)) → value.mant ≢ pos 0
given_not_zero [] value h = let n : Some value ≡ None = cc h in cc n
given_not_zero (b ∷ bs) value h =
    let f = then_ok (IsNumber (b ∷ bs)) (λ d r. r ≡ Ok (unless_zero d)) (Some value) h in
    let same : Some value ≡ unless_zero f.gives = cc f.onward in
    not_zero (int_eq f.gives.mant (pos 0)) f.gives value refl same

-- ---- elements of a triangle
-- the element is placed, and stands in the triangle by the indices of its rows
pub record IsKept (triangle : Triangle) (rows : List Row) (cell : Cell) : Type 0 where
  pub placed : IsPlaced (length rows) cell
  pub one : Row
  pub other : Row
  pub one_is : slice_get rows cell.row ≡ Some one
  pub other_is : slice_get rows cell.col ≡ Some other
  pub within : is_within triangle one.index other.index ≡ true

pub record AreKept (triangle : Triangle) (rows : List Row) (cells : List Cell) : Type 0 where
  pub each : All (IsKept triangle rows) cells
  pub once : (i j : ℕ) (one other : Cell) → slice_get cells i ≡ Some one → slice_get cells j ≡ Some other → one.row ≡ other.row → one.col ≡ other.col → i ≡ j

-- the row at a place
pub record IsRowAt (rows : List Row) (index place : ℕ) : Type 0 where
  pub row : Row
  pub stands : slice_get rows place ≡ Some row
  pub same : row.index ≡ index

row_at : (rows : List Row) (index place : ℕ) → place_of rows index ≡ Some place → IsRowAt rows index place
row_at rows index place e =
    let f = found 0 rows index place e in
    let p : f.after ≡ place = omega (arith, f.place) in
    record { row = f.row; stands = subst (λ (k : ℕ). slice_get rows k ≡ Some f.row) p f.stands; same = f.same }

-- one more element
any_at : (cells : List Cell) (cell : Cell) (i : ℕ) (one : Cell) → slice_get cells i ≡ Some one → one.row ≡ cell.row → one.col ≡ cell.col → IsGivenBefore cells cell
any_at cells cell i one e r c = (i, one, slice_get_within cells i one e, get_or_from_slice_get cells i one one e, (r, c))

push_cases : (cells : List Cell) (cell : Cell) (i : ℕ) (one : Cell) → slice_get (cells ++ (cell ∷ [])) i ≡ Some one → (slice_get cells i ≡ Some one) ⊎ ((i ≡ length cells) × (one ≡ cell))
push_cases [] cell zero one e = let same : one ≡ cell = cc e in inr (refl, same)
push_cases [] cell (suc i) one e = let n : None ≡ Some one = e in cc n
push_cases (x ∷ rest) cell zero one e = inl e
push_cases (x ∷ rest) cell (suc i) one e = elim (push_cases rest cell i one e) [ inl old ↦ inl old | inr new ↦ inr (ap suc new.0, new.1) ]

keeps_more : (triangle : Triangle) (rows : List Row) (cells : List Cell) (cell : Cell) → AreKept triangle rows cells → IsKept triangle rows cell → (IsGivenBefore cells cell → ⊥) → AreKept triangle rows (cells ++ (cell ∷ []))
keeps_more triangle rows cells cell h k new =
    record {
      each = All-push (IsKept triangle rows) cells cell h.each k;
      once = λ i j one other e f r c.
          elim (push_cases cells cell i one e) [
            | inl a ↦
                elim (push_cases cells cell j other f) [
                  | inl b ↦ h.once i j one other a b r c
                  | inr b ↦ absurd (new (any_at cells cell i one a (r ∙ ap (λ (x : Cell). x.row) b.1) (c ∙ ap (λ (x : Cell). x.col) b.1)))
                ]
            | inr a ↦
                elim (push_cases cells cell j other f) [
                  | inl b ↦ absurd (new (any_at cells cell j other b (sym r ∙ ap (λ (x : Cell). x.row) a.1) (sym c ∙ ap (λ (x : Cell). x.col) a.1)))
                  | inr b ↦ a.0 ∙ sym b.0
                ]
          ];
    }

-- ---- the steps
within_true : (b : Bool) (column within : Called) → Ok within ≡ (if b then Ok column else Err causes.Triangle) → (b ≡ true) × (within ≡ column)
within_true true column within h = (refl, cc h)
within_true false column within h = let n : Ok within ≡ Err causes.Triangle = h in cc n

module _ (triangle : Triangle) (rows : List Row) where
  element_keeps : (before : List Cell) (row : Called) (index : ℕ) (value : Decimal) (cell : Cell) → place_of rows row.index ≡ Some row.place → value.mant ≢ pos 0 → IsElement triangle rows before row index value (Ok cell)
      → IsKept triangle rows cell × (IsGivenBefore before cell → ⊥)
  element_keeps before row index value cell has_row given h =
      let f = then_ok (λ r. r ≡ ok_or (called rows index) causes.Index) _ cell h in
      let g = then_ok (λ r. r ≡ (if is_within triangle row.index f.gives.index then Ok f.gives else Err causes.Triangle)) _ cell f.onward in
      let t = within_true (is_within triangle row.index f.gives.index) f.gives g.gives g.given in
      let made : Cell = record { row = row.place; col = g.gives.place; value = value } in
      let at_row = row_at rows row.index row.place has_row in
      let has_column = stands_there rows index f.gives (some_from_ok (called rows index) causes.Index f.gives f.given) in
      let at_col = row_at rows f.gives.index f.gives.place has_column in
      let col_is : slice_get rows g.gives.place ≡ Some at_col.row = subst (λ (c : Called). slice_get rows c.place ≡ Some at_col.row) (sym t.1) at_col.stands in
      let kept : IsKept triangle rows made =
      record {
        placed = record { row = slice_get_within rows row.place at_row.row at_row.stands; col = slice_get_within rows g.gives.place at_col.row col_is; given = given };
        one = at_row.row;
        other = at_col.row;
        one_is = at_row.stands;
        other_is = col_is;
        within = ap (λ (a : ℕ). is_within triangle a at_col.row.index) at_row.same ∙ ap (λ (a : ℕ). is_within triangle row.index a) at_col.same ∙ t.0;
      }
      in
      (subst (IsKept triangle rows) (sym g.onward.0) kept, subst (λ (x : Cell). IsGivenBefore before x → ⊥) (sym g.onward.0) g.onward.1)

  with_keeps : (row : Called) (index : ℕ) (before after : List Cell) (given : Option Decimal) (text : List ℕ) → place_of rows row.index ≡ Some row.place → IsGiven text (Ok given) → AreKept triangle rows before → WithValue triangle rows row index before given (Ok after)
      → AreKept triangle rows after
  with_keeps row index before after None text has_row is p h = let same : before ≡ after = cc h in subst (AreKept triangle rows) same p
  with_keeps row index before after (Some value) text has_row is p h =
      let f = then_ok (IsElement triangle rows before row index value) (λ cell r. r ≡ Ok (before ++ (cell ∷ []))) after h in
      let k = element_keeps before row index value f.gives has_row (given_not_zero text value is) f.given in
      let same : after ≡ before ++ (f.gives ∷ []) = cc f.onward in
      subst (AreKept triangle rows) (sym same) (keeps_more triangle rows before f.gives p k.0 k.1)

  value_keeps : (text : List ℕ) (pair : Pair) → place_of rows pair.row.index ≡ Some pair.row.place → (before : List Cell) (k : ℕ) (after : List Cell) → AreKept triangle rows before → IsValueTaken triangle rows text pair before k (Ok after) → AreKept triangle rows after
  value_keeps text pair has_row before k after p h =
      let f = then_ok (IsGiven (value_columns text k)) (WithValue triangle rows pair.row (pair.column.index + k) before) after h in
      with_keeps pair.row (pair.column.index + k) before after f.gives (value_columns text k) has_row f.given p f.onward

  line_keeps : (before : List Cell) (line : PlainLine) (after : List Cell) → AreKept triangle rows before → IsLineTaken triangle rows before line (Ok after) → AreKept triangle rows after
  line_keeps before line after p h =
      let f = then_ok (IsPairOn rows line.text) (λ pair. Through (IsValueTaken triangle rows line.text pair) before (0 ∷ 1 ∷ 2 ∷ [])) after h in
      through_keeps (IsValueTaken triangle rows line.text f.gives) (AreKept triangle rows) (value_keeps line.text f.gives (row_of_pair rows line.text f.gives f.given)) before (0 ∷ 1 ∷ 2 ∷ []) after p f.onward

  lines_keep : (lines : List PlainLine) (cells : List Cell) → AreElements triangle rows lines (Ok cells) → AreKept triangle rows cells
  lines_keep lines cells h =
      let none : AreKept triangle rows [] = record { each = All-nil (IsKept triangle rows); once = λ i j one other e f r c. let n : None ≡ Some one = e in cc n } in
      through_keeps (IsLineTaken triangle rows) (AreKept triangle rows) line_keeps [] lines cells none h

  -- ---- what they keep
  both_within : (t : Triangle) (a b : ℕ) → is_within t a b ≡ true → is_within t b a ≡ true → a ≡ b
  both_within Lower a b h g = omega (arith, leb-true b a h, leb-true a b g)
  both_within Upper a b h g = omega (arith, leb-true a b h, leb-true b a g)

  same_row : (k : ℕ) (l : ℕ) (a b : Row) → slice_get rows k ≡ Some a → slice_get rows l ≡ Some b → k ≡ l → a ≡ b
  same_row k l a b e f s = let g : Some a ≡ Some b = sym e ∙ ap (slice_get rows) s ∙ f in cc g

  crossed : AreDistinct (λ row. row.index) rows → (x y : Cell) → IsKept triangle rows x → IsKept triangle rows y → x.row ≡ y.col → x.col ≡ y.row → (x.row ≡ y.row) × (x.col ≡ y.col)
  crossed distinct x y kx ky r c =
      let a = same_row x.row y.col kx.one ky.other kx.one_is ky.other_is r in
      let b = same_row x.col y.row kx.other ky.one kx.other_is ky.one_is c in
      let turned : is_within triangle kx.other.index kx.one.index ≡ true = ap (λ (z : Row). is_within triangle z.index kx.one.index) b ∙ ap (λ (z : Row). is_within triangle ky.one.index z.index) a ∙ ky.within in
      let diagonal = distinct x.row x.col kx.one kx.other kx.one_is kx.other_is (both_within triangle kx.one.index kx.other.index kx.within turned) in
      (diagonal ∙ c, sym diagonal ∙ r)

  kept_at : (cells : List Cell) → All (IsKept triangle rows) cells → (i : ℕ) (x : Cell) → slice_get cells i ≡ Some x → IsKept triangle rows x
  kept_at cells all i x e = subst (IsKept triangle rows) (get_or_from_slice_get cells i x x e) (all i x (slice_get_within cells i x e))

  pub elements_keep : AreDistinct (λ row. row.index) rows → (lines : List PlainLine) (cells : List Cell) → AreElements triangle rows lines (Ok cells) → AreElementsOf (length rows) cells
  elements_keep distinct lines cells h =
      let k = lines_keep lines cells h in
      record {
        placed = All-weaker (IsKept triangle rows) (IsPlaced (length rows)) (λ x p. p.placed) cells k.each;
        apart = λ i j one other e f apart. (
          λ same. apart (k.once i j one other e f same.0 same.1),
          λ cross.
              let s = crossed distinct one other (kept_at cells k.each i one e) (kept_at cells k.each j other f) cross.0 cross.1 in
              apart (k.once i j one other e f s.0 s.1),
        );
      }
