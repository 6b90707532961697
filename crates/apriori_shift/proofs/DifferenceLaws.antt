-- Values of names, and the differences of two lists of values.
use Rattle.std.proofs.Common.{◌≡◌, ◌<◌, ◌+◌, ◌∙◌, ◌++◌, ◌∷◌, ℕ, zero, suc, List, [], length, get_or, take, map, slice_get, Some, refl, sym, ap, subst}
use Rattle.std.specs.Prelude.{slice_index_or}
use Rattle.std.proofs.lemmas.List.{map_more, take_more}
use Rattle.std.proofs.lemmas.Option.{slice_get_within, get_or_from_slice_get}
use Rattle.whole_numbers.specs.Intervals.{Interval}
use Rattle.sym_blocks.specs.Tables.{zero_interval}
use Rattle.decimal_e.specs.Decimals.{Decimal}
use Rattle.apriori_shift.specs.Shifts.{IsDifference, AreDifferences}

-- ---- values
-- of one more name its value
pub value_more : {X Y : Type 0} (f : X → Y) (names : List X) (k : ℕ) (id : X) (y : Y) (ys pushed : List Y) → slice_get names k ≡ Some id → y ≡ f id → ys ≡ map f (take k names) → pushed ≡ ys ++ y ∷ [] → pushed ≡ map f (take (k + 1) names)
value_more f names k id y ys pushed here value before last =
    last ∙ ap (λ l. l ++ y ∷ []) before ∙ ap (λ z. map f (take k names) ++ z ∷ []) (value ∙ ap f (sym (get_or_from_slice_get names k id id here)))
    ∙ sym (map_more f names k id (slice_get_within names k id here))

-- ---- differences
differences_push : (vs os : List Decimal) (ws : List Interval) (v o : Decimal) (w : Interval) → AreDifferences vs os ws → IsDifference v o w → AreDifferences (vs ++ v ∷ []) (os ++ o ∷ []) (ws ++ w ∷ [])
differences_push [] [] [] v o w are is = (is, tt)
differences_push [] [] (x ∷ ws) v o w are is = absurd are
differences_push [] (p ∷ os) ws v o w are is = absurd are
differences_push (u ∷ vs) [] ws v o w are is = absurd are
differences_push (u ∷ vs) (p ∷ os) [] v o w are is = absurd are
differences_push (u ∷ vs) (p ∷ os) (x ∷ ws) v o w are is = (are.0, differences_push vs os ws v o w are.1 is)

pub differences_more : (values olds : List Decimal) (ws pushed : List Interval) (k : ℕ) (to from : Decimal) (w : Interval) → k < length values → k < length olds → to ≡ get_or values k to → from ≡ get_or olds k from
    → AreDifferences (take k values) (take k olds) ws → IsDifference to from w → pushed ≡ ws ++ w ∷ [] → AreDifferences (take (k + 1) values) (take (k + 1) olds) pushed
differences_more values olds ws pushed k to from w lv lo to_is from_is are is last =
    let front : take k values ++ (to ∷ []) ≡ take (k + 1) values = ap (λ y. take k values ++ (y ∷ [])) to_is ∙ sym (take_more values k to lv) in
    let old_front : take k olds ++ (from ∷ []) ≡ take (k + 1) olds = ap (λ y. take k olds ++ (y ∷ [])) from_is ∙ sym (take_more olds k from lo) in
    subst (λ l. AreDifferences l (take (k + 1) olds) pushed) front
    (subst (λ l. AreDifferences (take k values ++ (to ∷ [])) l pushed) old_front
    (subst (λ l. AreDifferences (take k values ++ (to ∷ [])) (take k olds ++ (from ∷ [])) l) (sym last) (differences_push (take k values) (take k olds) ws to from w are is)))

pub differences_length : (vs os : List Decimal) (ws : List Interval) → AreDifferences vs os ws → length ws ≡ length vs
differences_length [] [] [] are = refl
differences_length [] [] (x ∷ ws) are = absurd are
differences_length [] (p ∷ os) ws are = absurd are
differences_length (u ∷ vs) [] ws are = absurd are
differences_length (u ∷ vs) (p ∷ os) [] are = absurd are
differences_length (u ∷ vs) (p ∷ os) (x ∷ ws) are = ap suc (differences_length vs os ws are.1)

-- the difference at a place
pub difference_there : (vs os : List Decimal) (ws : List Interval) (k : ℕ) (v o : Decimal) → AreDifferences vs os ws → slice_get vs k ≡ Some v → slice_get os k ≡ Some o → IsDifference v o (slice_index_or ws k zero_interval)
difference_there [] os ws k v o are here there = absurd (cc)
difference_there (u ∷ vs) [] ws k v o are here there = absurd are
difference_there (u ∷ vs) (p ∷ os) [] k v o are here there = absurd are
difference_there (u ∷ vs) (p ∷ os) (x ∷ ws) zero v o are here there =
    let same : u ≡ v = cc in
    let same_old : p ≡ o = cc in
    subst (λ d. IsDifference d o x) same (subst (λ d. IsDifference u d x) same_old are.0)
difference_there (u ∷ vs) (p ∷ os) (x ∷ ws) (suc k) v o are here there = difference_there vs os ws k v o are.1 here there
