-- Names that stand twice.
use Rattle.std.proofs.Common.{◌≡◌, ◌≤◌, ◌<◌, ◌+◌, ◌-◌, ◌==◌, not, ℕ, Bool, true, false, List, [], ◌∷◌, Some, length, take, get_or, refl, sym, ap, ◌∙◌, subst, arith, inl, inr}
use Rattle.std.specs.List.{AllAdjacentBelow, slice_get, swap}
use Rattle.std.specs.List.Sorted.{IsSorted, IsPermutation, IsStrictlySortedBy}
use Rattle.std.specs.Ordering.{is_lt, ordering_index, ordering_reverse}
use Rattle.std.specs.declared.cmp.Ordering.{Ordering}
use Rattle.std.specs.declared.cmp.Ordering.TheVariants.{Less, Equal, Greater}
use Rattle.std.proofs.lemmas.Bool.{cases_lt, cases_eq, cases_order, both_ways}
use Rattle.std.proofs.lemmas.Cmp.{tied_itself}
use Rattle.std.proofs.lemmas.List.{get_or-take, length-take-le, get_or_read}
use Rattle.std.proofs.lemmas.List.Edits.{swapped_from_swap, length-swap}
use Rattle.std.proofs.lemmas.List.Sorted.{IsPermutation-keeps, IsPermutation-sym, sorted_far, ranks_by, all_adjacent_more}
use Rattle.std.proofs.lemmas.Map.Keys.{sorted_from_all_adjacent, Less-from_sorted}
use Rattle.std.proofs.lemmas.Option.{slice_get-get_or, slice_get_within, get_or_from_slice_get}
use Rattle.param_ids.specs.Plain.{PlainId}
use Rattle.param_ids.specs.Order.{id_cmp, IsRising}
use Rattle.param_ids.specs.Lists.{StandsTwice, IsLeastRepeat}
use Rattle.param_ids.proofs.Ordered.{id_total, id_exact}

-- each of the first n names stands below the next
abbrev pub RisesTo : List PlainId → ℕ → Type 0
RisesTo ids n = AllAdjacentBelow (λ a b. id_cmp a b ≡ Less) ids n

pub rising_from_all : (ids : List PlainId) → RisesTo ids (length ids) → IsRising ids
unfolding IsStrictlySortedBy
rising_from_all [] rises = tt
rising_from_all (id ∷ ids) rises = sorted_from_all_adjacent id_total (id ∷ ids) id (λ k lt. rises k id lt)

-- the place k is found again from the place k' to which it went when a and b were exchanged
record Back (a b k k' : ℕ) : Type 0 where
  at_a : k' ≡ a → k ≡ b
  at_b : k' ≡ b → k ≡ a
  other : (k' ≡ a → ⊥) → (k' ≡ b → ⊥) → k ≡ k'

goes : (ids : List PlainId) (a b k : ℕ) (id : PlainId) → a < length ids → b < length ids → slice_get ids k ≡ Some id → (k' : ℕ) × (slice_get (swap ids a b) k' ≡ Some id) × Back a b k k'
goes ids a b k id in_a in_b is =
    let exchanged = swapped_from_swap ids (swap ids a b) a b id in_a in_b refl in
    let here : get_or ids k id ≡ id = get_or_from_slice_get ids k id id is in
    let in_k : k < length ids = slice_get_within ids k id is in
    let len = length-swap ids a b in
    elim (cases_eq k a) [
      | inl at_a ↦ (
        b,
        slice_get-get_or (swap ids a b) b id (omega (arith, len)) ∙ ap (λ x. Some x) (exchanged.1 ∙ (ap (λ n. get_or ids n id) (sym at_a) ∙ here)),
        record { at_a = λ e. at_a ∙ sym e; at_b = λ _. at_a; other = λ _ ne. absurd (ne refl) },
      )
      | inr not_a ↦ elim (cases_eq k b) [
        | inl at_b ↦ (
          a,
          slice_get-get_or (swap ids a b) a id (omega (arith, len)) ∙ ap (λ x. Some x) (exchanged.0 ∙ (ap (λ n. get_or ids n id) (sym at_b) ∙ here)),
          record { at_a = λ _. at_b; at_b = λ e. at_b ∙ sym e; other = λ ne _. absurd (ne refl) },
        )
        | inr not_b ↦ (
          k,
          slice_get-get_or (swap ids a b) k id (omega (arith, len)) ∙ ap (λ x. Some x) (exchanged.2 k not_a not_b ∙ here),
          record { at_a = λ e. absurd (not_a e); at_b = λ e. absurd (not_b e); other = λ _ _. refl },
        )
      ]
    ]

one_origin : (a b i j m : ℕ) → Back a b i m → Back a b j m → i ≡ j
one_origin a b i j m first second =
    elim (cases_eq m a) [
      | inl at_a ↦ first.at_a at_a ∙ sym (second.at_a at_a)
      | inr not_a ↦ elim (cases_eq m b) [
        | inl at_b ↦ first.at_b at_b ∙ sym (second.at_b at_b)
        | inr not_b ↦ first.other not_a not_b ∙ sym (second.other not_a not_b)
      ]
    ]

twice_swapped : (id : PlainId) (ids : List PlainId) (a b : ℕ) → a < length ids → b < length ids → StandsTwice ids id → StandsTwice (swap ids a b) id
twice_swapped id ids a b in_a in_b t =
    let one = goes ids a b t.0 id in_a in_b t.3 in
    let two = goes ids a b t.1 id in_a in_b t.4 in
    (one.0, two.0, λ same. t.2 (one_origin a b t.0 t.1 two.0 (subst (Back a b t.0) same one.2) two.2), one.1, two.1)

-- a name that stands twice does so in each order of the list
pub twice_moved : (ids moved : List PlainId) (id : PlainId) → IsPermutation ids moved → StandsTwice ids id → StandsTwice moved id
twice_moved ids moved id p t = IsPermutation-keeps ids (λ l. StandsTwice l id) t (λ l a b in_a in_b. twice_swapped id l a b in_a in_b) moved p

-- in names that rise up to n no two places below n have the same name
pub apart_below : (ids : List PlainId) (n i j : ℕ) (id : PlainId) → n ≤ length ids → RisesTo ids n → i < j → j < n → get_or ids i id ≡ id → get_or ids j id ≡ id → ⊥
apart_below ids n i j id within rises lt below here there =
    let len : length (take n ids) ≡ n = length-take-le n ids within in
    let rising : IsRising (take n ids) = rising_from_all (take n ids) (λ k d more. subst (λ y. y ≡ Less) (sym (ap (λ x. id_cmp x (get_or (take n ids) (k + 1) d)) (get_or-take n ids k d (omega (arith, len))) ∙ ap (λ x. id_cmp (get_or ids k d) x) (get_or-take n ids (k + 1) d (omega (arith, len))))) (rises k d (omega (arith, len)))) in
    let less : id_cmp (get_or (take n ids) i id) (get_or (take n ids) j id) ≡ Less = Less-from_sorted id_cmp (take n ids) i j id rising lt (omega (arith, len)) in
    let at_i : get_or (take n ids) i id ≡ id = get_or-take n ids i id (omega arith) ∙ here in
    let at_j : get_or (take n ids) j id ≡ id = get_or-take n ids j id below ∙ there in
    let tied : id_cmp id id ≡ Less = subst (λ x. id_cmp x id ≡ Less) at_i (subst (λ x. id_cmp (get_or (take n ids) i id) x ≡ Less) at_j less) in
    let apart : Less ≡ Equal = sym tied ∙ tied_itself id_total id in
    cc

-- a list that rises has no name twice
pub none_twice : (ids : List PlainId) (id : PlainId) → RisesTo ids (length ids) → StandsTwice ids id → ⊥
none_twice ids id rises t =
    let at_i = get_or_from_slice_get ids t.0 id id t.3 in
    let at_j = get_or_from_slice_get ids t.1 id id t.4 in
    elim (cases_order t.0 t.1) [
      | inl same ↦ t.2 same
      | inr apart ↦ elim apart [
        | inl before ↦ apart_below ids (length ids) t.0 t.1 id (omega arith) rises before (slice_get_within ids t.1 id t.4) at_i at_j
        | inr after ↦ apart_below ids (length ids) t.1 t.0 id (omega arith) rises after (slice_get_within ids t.0 id t.3) at_j at_i
      ]
    ]

-- what is neither below nor above is the same
tied : (o p : Ordering) → p ≡ ordering_reverse o → is_lt p ≡ false → (o ≡ Less → ⊥) → o ≡ Equal
tied Less p back above below = absurd (below refl)
tied Equal p back above below = refl
tied Greater p back above below = absurd (both_ways (is_lt p) above (ap is_lt back))

-- in a list in order, the first name that is not below the next is the least that stands twice
pub repeat_at : (ids : List PlainId) (i : ℕ) (x y z : PlainId) → IsSorted id_cmp ids → 1 ≤ i → i < length ids → RisesTo ids i → x ≡ get_or ids (i - 1) x → y ≡ get_or ids i y → z ≡ get_or ids (i - 1) z → (id_cmp x y ≡ Less → ⊥) → IsLeastRepeat ids z
repeat_at ids i x y z sorted low lt rises ex ey ez stops =
    let next : i - 1 + 1 ≡ i = omega arith in
    let xz : x ≡ z = get_or_read ids (i - 1) x (omega arith) ex z ∙ sym ez in
    let yi : y ≡ get_or ids i z = get_or_read ids i y lt ey z in
    let above : is_lt (id_cmp (get_or ids i z) (get_or ids (i - 1) z)) ≡ false = subst (λ n. is_lt (id_cmp (get_or ids n z) (get_or ids (i - 1) z)) ≡ false) next (sorted (i - 1) z (omega arith) (omega arith)) in
    let yx : is_lt (id_cmp y x) ≡ false = subst (λ a. is_lt (id_cmp a x) ≡ false) (sym yi) (subst (λ b. is_lt (id_cmp (get_or ids i z) b) ≡ false) (sym ez ∙ sym xz) above) in
    let xy : x ≡ y = id_exact x y (tied (id_cmp x y) (id_cmp y x) (id_total.antisymm y x) yx stops) in
    let first : get_or ids (i - 1) z ≡ z = sym ez in
    let second : get_or ids i z ≡ z = sym yi ∙ (sym xy ∙ xz) in
    record {
      twice = (i - 1, i, λ e. absurd (omega (arith, e)), slice_get-get_or ids (i - 1) z (omega arith) ∙ ap (λ a. Some a) first, slice_get-get_or ids i z lt ∙ ap (λ a. Some a) second);
      least = λ other t less.
          let before = λ (k : ℕ) (is : slice_get ids k ≡ Some other). below_place ids (i - 1) k z other sorted (omega arith) first is less in
          let at_p = get_or_from_slice_get ids t.0 other other t.3 in
          let at_q = get_or_from_slice_get ids t.1 other other t.4 in
          let low_p : t.0 < i - 1 = before t.0 t.3 in
          let low_q : t.1 < i - 1 = before t.1 t.4 in
          elim (cases_order t.0 t.1) [
            | inl same ↦ t.2 same
            | inr apart ↦ elim apart [
              | inl p_first ↦ apart_below ids i t.0 t.1 other (omega arith) rises p_first (omega arith) at_p at_q
              | inr q_first ↦ apart_below ids i t.1 t.0 other (omega arith) rises q_first (omega arith) at_q at_p
            ]
          ];
    }
  where
    -- a lesser name stands before
    below_place : (ids : List PlainId) (i k : ℕ) (z other : PlainId) → IsSorted id_cmp ids → i < length ids → get_or ids i z ≡ z → slice_get ids k ≡ Some other → id_cmp other z ≡ Less → k < i
    below_place ids i k z other sorted lt first is less =
        elim (cases_lt k i) [
          | inl before ↦ before
          | inr after ↦
              let far : is_lt (id_cmp (get_or ids k z) (get_or ids i z)) ≡ false = sorted_far (λ a b. is_lt (id_cmp a b)) (ranks_by id_total (λ a. a)) ids sorted i k z after (slice_get_within ids k other is) in
              let here : is_lt (id_cmp other z) ≡ false = subst (λ a. is_lt (id_cmp a z) ≡ false) (get_or_from_slice_get ids k other z is) (subst (λ b. is_lt (id_cmp (get_or ids k z) b) ≡ false) first far) in
              absurd (both_ways (is_lt (id_cmp other z)) here (ap is_lt less))
        ]

-- one more name that is above those before
pub rises_step : (ids : List PlainId) (i : ℕ) (x y : PlainId) → 1 ≤ i → i < length ids → RisesTo ids i → x ≡ get_or ids (i - 1) x → y ≡ get_or ids i y → id_cmp x y ≡ Less → RisesTo ids (i + 1)
rises_step ids i x y low lt rises ex ey less =
    all_adjacent_more ids (λ a b. id_cmp a b ≡ Less) i low rises (λ d. subst (λ b. id_cmp (get_or ids (i - 1) d) b ≡ Less) (get_or_read ids i y lt ey d) (subst (λ a. id_cmp a y ≡ Less) (get_or_read ids (i - 1) x (omega arith) ex d) less))

-- the least repeat of a list is that of the list in order
pub least_moved : (list ids : List PlainId) (id : PlainId) → IsPermutation list ids → IsLeastRepeat ids id → IsLeastRepeat list id
least_moved list ids id p repeat = record {
  twice = twice_moved ids list id (IsPermutation-sym list ids p) repeat.twice;
  least = λ other t. repeat.least other (twice_moved list ids other p t);
}

-- where the list in order rises, no name stands twice
pub none_moved : (list ids : List PlainId) → IsPermutation list ids → IsRising ids → (id : PlainId) → StandsTwice list id → ⊥
none_moved list ids p rising id t = none_twice ids id (λ k d lt. Less-from_sorted id_cmp ids k (k + 1) d rising (omega arith) lt) (twice_moved list ids id p t)

-- what `!= Less` tests
pub not_less : (o : Ordering) (b : Bool) → b ≡ not (ordering_index o == 0) → b ≡ true → o ≡ Less → ⊥
not_less Less b e t less = both_ways b e t
not_less Equal b e t less = let f : Equal ≡ Less = less in cc
not_less Greater b e t less = let f : Greater ≡ Less = less in cc

pub less_from : (o : Ordering) (b : Bool) → b ≡ not (ordering_index o == 0) → b ≡ false → o ≡ Less
less_from Less b e f = refl
less_from Equal b e f = absurd (both_ways b f e)
less_from Greater b e f = absurd (both_ways b f e)
