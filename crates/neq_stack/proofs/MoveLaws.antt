-- The order of the parts changes nothing.
use Rattle.std.proofs.Common.{◌≡◌, ◌<◌, ◌∙◌, inl, inr, ℕ, zero, suc, List, [], ◌∷◌, Contains, length, map, get_or, set, refl, sym, ap, arith}
use Rattle.std.specs.List.{Any, swap}
use Rattle.std.specs.List.Sorted.{IsPermutation}
use Rattle.std.proofs.lemmas.Bool.{cases_eq}
use Rattle.std.proofs.lemmas.Int.{ints}
use Rattle.std.proofs.lemmas.List.{length-set, get_or-set_same, get_or-set_other}
use Rattle.std.proofs.lemmas.List.Edits.{swap_is}
use Rattle.std.proofs.lemmas.List.Sorted.{Contains-permutation, IsPermutation-keeps, IsPermutation-sym}
use Rattle.whole_numbers.specs.Intervals.{Interval, interval_add}
use Rattle.neq_stack.specs.Neqs.{PlainNeq}
use Rattle.neq_stack.specs.ByName.{HasParameter, entry_in, right_in}
use Rattle.neq_stack.specs.Stacks.{StacksMove, sum_of_intervals}
use Rattle.neq_stack.proofs.AnyLaws.{any_member}
use Rattle.neq_stack.proofs.SumLaws.{same_interval, add_assoc}

-- ---- sums of intervals
add_turned : (w v e : Interval) → interval_add (interval_add w e) v ≡ interval_add (interval_add v e) w
add_turned w v e = same_interval (interval_add (interval_add w e) v) (interval_add (interval_add v e) w) (omega (arith, ints)) (omega (arith, ints))

add_cancel : (w v e : Interval) → interval_add w e ≡ interval_add v e → w ≡ v
add_cancel w v e same = same_interval w v (omega (arith, ints, ap (λ x. x.lo) same)) (omega (arith, ints, ap (λ x. x.hi) same))

module _ {X : Type 0} (f : X → Interval) where
  sum : List X → Interval
  sum xs = sum_of_intervals (map f xs)

  sum_set : (xs : List X) (i : ℕ) (y d : X) → i < length xs → interval_add (sum (set xs i y)) (f (get_or xs i d)) ≡ interval_add (sum xs) (f y)
  unfolding sum
  sum_set [] i y d lt = absurd (omega arith)
  sum_set (x ∷ xs) zero y d lt = add_turned (f y) (f x) (sum_of_intervals (map f xs))
  sum_set (x ∷ xs) (suc i) y d lt =
      add_assoc (f x) (sum_of_intervals (map f (set xs i y))) (f (get_or xs i d))
      ∙ ap (interval_add (f x)) (sum_set xs i y d (omega arith))
      ∙ sym (add_assoc (f x) (sum_of_intervals (map f xs)) (f y))

  was_there : (xs : List X) (i j : ℕ) (d : X) → i < length xs → get_or (set xs i (get_or xs j d)) j d ≡ get_or xs j d
  was_there xs i j d lt =
      elim (cases_eq j i) [
        | inl same ↦ ap (λ k. get_or (set xs i (get_or xs j d)) k d) same ∙ get_or-set_same xs i (get_or xs j d) d lt
        | inr apart ↦ get_or-set_other xs i j (get_or xs j d) d apart
      ]

  sum_swap : (xs : List X) (i j : ℕ) (d : X) → i < length xs → j < length xs → sum (swap xs i j) ≡ sum xs
  sum_swap xs i j d li lj =
      let a = get_or xs i d in
      let b = get_or xs j d in
      let first = sum_set xs i b d li in
      let second = sum_set (set xs i b) j a d (omega (arith, length-set xs i b)) in
      ap sum (sym (swap_is xs i j d li lj))
      ∙ add_cancel (sum (set (set xs i b) j a)) (sum xs) (f b) (ap (λ x. interval_add (sum (set (set xs i b) j a)) (f x)) (sym (was_there xs i j d li)) ∙ second ∙ first)

  pub sum_moved : (xs ys : List X) → IsPermutation xs ys → sum_of_intervals (map f xs) ≡ sum_of_intervals (map f ys)
  unfolding sum
  sum_moved xs ys moved = IsPermutation-keeps xs (λ l. sum_of_intervals (map f xs) ≡ sum_of_intervals (map f l)) refl (λ l i j li lj same. same ∙ sym (swapped l i j li lj)) ys moved
    where
      swapped : (l : List X) (i j : ℕ) → i < length l → j < length l → sum_of_intervals (map f (swap l i j)) ≡ sum_of_intervals (map f l)
      swapped [] i j li lj = absurd (omega arith)
      swapped (x ∷ l) i j li lj = sum_swap (x ∷ l) i j x li lj

-- ---- what some part has
any_moved : (P : PlainNeq → Type 0) (parts moved : List PlainNeq) → IsPermutation parts moved → Any P parts → Any P moved
any_moved P parts moved turned h = any_member P moved h.1 (Contains-permutation parts moved h.1 turned (h.0, h.2, h.3)) h.4

pub stacks_move : StacksMove
stacks_move parts moved neq turned of =
    let back = IsPermutation-sym parts moved turned in
    record {
      sound = of.sound;
      names = record {
        rising = of.names.rising;
        same = λ id. (
          λ there. any_moved (λ part. Contains part.names id) parts moved turned ((of.names.same id).0 there),
          λ any. (of.names.same id).1 (any_moved (λ part. Contains part.names id) moved parts back any),
        );
      };
      parameters = λ id p. (
        λ h. any_moved (λ part. HasParameter part id p) parts moved turned ((of.parameters id p).0 h),
        λ any. (of.parameters id p).1 (any_moved (λ part. HasParameter part id p) moved parts back any),
      );
      entries = λ one other. of.entries one other ∙ sum_moved (λ part. entry_in part one other) parts moved turned;
      rights = λ id. of.rights id ∙ sum_moved (λ part. right_in part id) parts moved turned;
    }
