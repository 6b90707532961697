-- Names that are counted and searched, and a priori values in whole numbers.
use Rattle.std.proofs.Common.{◌≡◌, ◌≤◌, ◌<◌, ◌+◌, ◌-◌, ◌^◌, ◌∙◌, inl, inr, ℕ, pos, ◌+ℤ◌, Bool, true, false, cond, List, Some, All, length, filter, take, ◌++◌, ◌∷◌, [], slice_get, slice_index_or, get_or, unsigned_abs, sym, ap, subst, arith}
use Rattle.std.specs.List.{position_or_len}
use Rattle.std.proofs.lemmas.Bool.{cases_lt}
use Rattle.std.proofs.lemmas.Int.{ints, to_z-of_z}
use Rattle.std.proofs.lemmas.List.{get_or_past, get_or_append_left, get_or-append_right, length_push}
use Rattle.std.proofs.lemmas.List.Filters.{length-filter_more}
use Rattle.std.proofs.lemmas.List.Sums.{position_or_len_is}
use Rattle.std.proofs.lemmas.Option.{slice_get_within, get_or_from_slice_get}
use Rattle.whole_numbers.specs.Scaling.{floor_scaled}
use Rattle.decimal_e.specs.Decimals.{Decimal}
use Rattle.decimal_e.specs.Fractions.{IsAtMost}
use Rattle.decimal_e.proofs.SizeLaws.{within, ends_ordered}
use Rattle.datum_rows.specs.Sites.{zero_decimal}

module _ {X : Type 0} (p : X → Bool) (xs : List X) (k : ℕ) (x : X) (there : slice_get xs k ≡ Some x) where
  pub count_more : (count next : ℕ) → count ≡ length (filter p (take k xs)) → next ≡ count + cond (p x) 1 0 → next ≡ length (filter p (take (k + 1) xs))
  count_more count next so_far is =
      is ∙ ap (λ n. n + cond (p x) 1 0) so_far ∙ ap (λ y. length (filter p (take k xs)) + cond (p y) 1 0) (sym (get_or_from_slice_get xs k x x there))
      ∙ sym (length-filter_more p xs k x (slice_get_within xs k x there))

  pub first_found : ((i : ℕ) (d : X) → i < k → p (get_or xs i d) ≡ false) → p x ≡ true → k ≡ position_or_len p xs
  first_found before here =
      let lt = slice_get_within xs k x there in
      sym (position_or_len_is p xs k x (omega arith) (λ i l. before i x l) (λ l. ap p (get_or_from_slice_get xs k x x there) ∙ here))

  pub one_more_fails : ((i : ℕ) (d : X) → i < k → p (get_or xs i d) ≡ false) → p x ≡ false → (i : ℕ) (d : X) → i < k + 1 → p (get_or xs i d) ≡ false
  one_more_fails before here i d lt =
      elim (cases_lt i k) [
        | inl l ↦ before i d l
        | inr g ↦ let same : k ≡ i = omega arith in subst (λ j. p (get_or xs j d) ≡ false) same (ap p (get_or_from_slice_get xs k x d there) ∙ here)
      ]

pub none_found : {X : Type 0} (p : X → Bool) (xs : List X) (k n : ℕ) (d : X) → n ≡ length xs → n ≤ k → ((i : ℕ) (d : X) → i < k → p (get_or xs i d) ≡ false) → n ≡ position_or_len p xs
none_found p xs k n d all past fails =
    sym (position_or_len_is p xs n d (omega arith) (λ i l. fails i d (omega arith)) (λ l. absurd (omega arith)))

-- ---- values
pub floor_near : (d : Decimal) → IsAtMost (10 ^ 12) d → unsigned_abs (floor_scaled d.mant (d.exp +ℤ pos 0)) ≤ 10 ^ 12
floor_near d small =
    let w = within (10 ^ 12) d small in
    let o = ends_ordered d.mant (d.exp +ℤ pos 0) in
    omega (arith, ints, w.low_end, w.high_end, o)

pub ruleset floor_rules = (to_z-of_z, floor_near)

zero_modest : IsAtMost (10 ^ 12) zero_decimal
zero_modest = omega arith

pub value_modest : (xs : List Decimal) (k : ℕ) → All (IsAtMost (10 ^ 12)) xs → IsAtMost (10 ^ 12) (slice_index_or xs k zero_decimal)
value_modest xs k modest =
    elim (cases_lt k (length xs)) [
      | inl l ↦ modest k zero_decimal l
      | inr g ↦ subst (IsAtMost (10 ^ 12)) (sym (get_or_past xs k zero_decimal g)) zero_modest
    ]

-- ---- one more member
pub read_more : {X : Type 0} (P : ℕ → X → Type 0) (xs ys : List X) (x d : X) (n : ℕ) → length xs ≡ n → ys ≡ xs ++ x ∷ [] → ((k : ℕ) → k < n → P k (slice_index_or xs k d)) → P n x → (k : ℕ) → k < n + 1 → P k (slice_index_or ys k d)
read_more P xs ys x d n few is before here k lt =
    subst (λ zs. P k (slice_index_or zs k d)) (sym is)
    (elim (cases_lt k n) [
      | inl l ↦ subst (P k) (sym (get_or_append_left xs (x ∷ []) d k (omega arith))) (before k l)
      | inr g ↦
          let same : n ≡ k = omega arith in
          subst (λ j. P j (slice_index_or (xs ++ x ∷ []) j d)) same (subst (P n) (sym (get_or-append_right xs (x ∷ []) n n d few (omega arith) ∙ ap (λ j. get_or (x ∷ []) j d) none)) here)
    ])
  where
    none : n - n ≡ 0
    none = omega arith

pub length_next : {X : Type 0} (xs ys : List X) (x : X) (n : ℕ) → length xs ≡ n → ys ≡ xs ++ x ∷ [] → length ys ≡ n + 1
length_next xs ys x n few is = ap (λ l. length l) is ∙ length_push xs x ∙ ap (λ m. m + 1) few
