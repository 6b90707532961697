-- How great the intervals of a stack can be.
use Rattle.std.proofs.Common.{◌≤◌, ◌+◌, ◌*◌, ℕ, List, [], ◌∷◌, All, length, map, sym, subst, arith}
use Rattle.std.proofs.lemmas.Int.{ints}
use Rattle.std.proofs.lemmas.List.Elements.{All-tail}
use Rattle.whole_numbers.specs.Intervals.{Interval, interval_add, size}
use Rattle.neq_stack.specs.ByName.{entry_in, right_in}
use Rattle.neq_stack.specs.Stacks.{StackIsAtMost, sum_of_intervals}

size_of_sum : (a b : Interval) → size (interval_add a b) ≤ size a + size b
size_of_sum a b = omega (arith, ints)

sum_at_most : {X : Type 0} (f : X → Interval) (most : ℕ) (xs : List X) → All (λ x. size (f x) ≤ most) xs → size (sum_of_intervals (map f xs)) ≤ length xs * most
sum_at_most f most [] small = omega arith
sum_at_most f most (x ∷ xs) small =
    omega (arith, size_of_sum (f x) (sum_of_intervals (map f xs)), small 0 x (omega arith), sum_at_most f most xs (All-tail (λ x. size (f x) ≤ most) x xs small))

pub stack_is_at_most : StackIsAtMost
stack_is_at_most most parts neq small of = record {
  entries = λ one other. subst (λ w. size w ≤ length parts * most) (sym (of.entries one other)) (sum_at_most (λ part. entry_in part one other) most parts (λ k d lt. (small k d lt).entries one other));
  rights = λ id. subst (λ w. size w ≤ length parts * most) (sym (of.rights id)) (sum_at_most (λ part. right_in part id) most parts (λ k d lt. (small k d lt).rights id));
}
