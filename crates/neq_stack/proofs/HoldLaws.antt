-- Sums of systems lie in stacks, and systems by name in intervals in order.
use Rattle.std.proofs.Common.{◌≡◌, ◌<◌, ◌*◌, ◌∙◌, ℕ, ℤ, pos, ◌+ℤ◌, ◌*ℤ◌, List, [], ◌∷◌, Option, Some, All, length, map, slice_get, sym, ap, subst, arith}
use Rattle.std.specs.Prelude.{slice_index_or, unwrap_or}
use Rattle.std.proofs.Math.IntN.{◌-ℤ◌, zero-*ℤ}
use Rattle.std.proofs.lemmas.Int.{ints}
use Rattle.std.proofs.lemmas.List.{get_or-map}
use Rattle.std.proofs.lemmas.List.Elements.{All-tail}
use Rattle.std.proofs.lemmas.Option.{get_or_from_slice_get}
use Rattle.stated_order.specs.Lists.{AreEach}
use Rattle.whole_numbers.specs.Intervals.{Interval, Holds, interval_add}
use Rattle.whole_numbers.specs.Lists.{at}
use Rattle.whole_numbers.specs.Scaling.{ten_above, ten_below}
use Rattle.whole_numbers.proofs.IntervalLaws.{holds_add}
use Rattle.whole_numbers.proofs.Ring.{+ℤ-*ℤ}
use Rattle.sym_blocks.specs.Tables.{entry_at, zero_interval}
use Rattle.sys_model.specs.Scaling.{HoldsTimes}
use Rattle.param_ids.specs.Plain.{PlainId}
use Rattle.neq_stack.specs.Neqs.{PlainNeq, IsSound}
use Rattle.neq_stack.specs.ByName.{entry_in, right_in}
use Rattle.neq_stack.specs.Stacks.{sum_of_intervals}
use Rattle.neq_stack.specs.Systems.{NamedSystem, LiesInNeq, StackHolds, NeqLiesInStack, name_at, no_name, sum_of}
use Rattle.neq_stack.proofs.NameLaws.{place_found}
use Rattle.neq_stack.proofs.PlaceLaws.{name_there}
use Rattle.neq_stack.proofs.PlacedLaws.{entry_there, right_there}
use Rattle.neq_stack.proofs.RegroupLaws.{each_weaker}

-- ---- sums
zero_holds : (q : ℕ) (k : ℤ) → HoldsTimes zero_interval (pos 0) q k
zero_holds q k =
    let left = zero-*ℤ (pos (q * ten_below k)) in
    let right = zero-*ℤ (pos (ten_above k)) in
    record { above = omega (arith, ints); below = omega (arith, ints) }

sum_holds : (w v : Interval) (x y : ℤ) (q : ℕ) (k : ℤ) → HoldsTimes w x q k → HoldsTimes v y q k → HoldsTimes (interval_add w v) (x +ℤ y) q k
sum_holds w v x y q k one other =
    subst (λ z. Holds (interval_add w v) z (q * ten_below k)) (sym (+ℤ-*ℤ x y (pos (ten_above k)))) (holds_add w v (x *ℤ pos (ten_above k)) (y *ℤ pos (ten_above k)) (q * ten_below k) one other)

sums_hold : (f : PlainNeq → Interval) (g : NamedSystem → ℤ) (q : ℕ) (k : ℤ) (parts : List PlainNeq) (systems : List NamedSystem)
    → AreEach (λ part system. HoldsTimes (f part) (g system) system.q k) parts systems → All (λ system. system.q ≡ q) systems → HoldsTimes (sum_of_intervals (map f parts)) (sum_of (map g systems)) q k
sums_hold f g q k [] [] each one = zero_holds q k
sums_hold f g q k (p ∷ ps) (s ∷ ss) each one =
    sum_holds (f p) (sum_of_intervals (map f ps)) (g s) (sum_of (map g ss)) q k
    (subst (λ r. HoldsTimes (f p) (g s) r k) (one 0 s (omega arith)) each.0)
    (sums_hold f g q k ps ss each.1 (All-tail (λ system. system.q ≡ q) s ss one))
sums_hold f g q k [] (s ∷ ss) each one = absurd each
sums_hold f g q k (p ∷ ps) [] each one = absurd each

pub stack_holds : StackHolds
stack_holds exponent parts systems neq S each of sum =
    let held : (f : PlainNeq → Interval) (g : NamedSystem → ℤ) (k : ℤ) (w : Interval) (x : ℤ) → ((part : PlainNeq) (system : NamedSystem) → LiesInNeq exponent part system → HoldsTimes (f part) (g system) system.q k)
    → w ≡ sum_of_intervals (map f parts) → x ≡ sum_of (map g systems) → HoldsTimes w x S.q k =
    λ f g k w x lies sum_is total_is.
    subst (λ v. HoldsTimes v x S.q k) (sym sum_is) (subst (λ y. HoldsTimes (sum_of_intervals (map f parts)) y S.q k) (sym total_is)
    (sums_hold f g S.q k parts systems (each_weaker (LiesInNeq exponent) (λ part system. HoldsTimes (f part) (g system) system.q k) lies parts systems each) sum.denominators)) in
    record {
      some = sum.some;
      entries = λ one other. held (λ part. entry_in part one other) (λ system. system.a one other) (pos 18 -ℤ exponent one -ℤ exponent other) (entry_in neq one other) (S.a one other) (λ part system lies. lies.entries one other) (of.entries one other) (sum.matrix one other);
      rights = λ id. held (λ part. right_in part id) (λ system. system.c id) (pos 18 -ℤ exponent id) (right_in neq id) (S.c id) (λ part system lies. lies.rights id) (of.rights id) (sum.right id);
    }

-- ---- systems in order
module _ (neq : PlainNeq) (sound : IsSound neq) where
  named : (k : ℕ) → k < length neq.names → slice_get neq.names k ≡ Some (name_at neq.names k)
  named k lt = let there = name_there neq.names k lt in there.1 ∙ ap (λ x. Some x) (sym (ap (λ (o : Option PlainId). unwrap_or o no_name) there.1))

  entry_named : (i j : ℕ) → i < length neq.names → j < length neq.names → entry_in neq (name_at neq.names i) (name_at neq.names j) ≡ entry_at neq.table i j
  entry_named i j li lj =
      entry_there neq i j (name_at neq.names i) (name_at neq.names j) (place_found neq.names (name_at neq.names i) i sound.names.0 (named i li)) (place_found neq.names (name_at neq.names j) j sound.names.0 (named j lj))

  right_named : (i : ℕ) → i < length neq.names → right_in neq (name_at neq.names i) ≡ slice_index_or neq.right i zero_interval
  right_named i li = right_there neq i (name_at neq.names i) (place_found neq.names (name_at neq.names i) i sound.names.0 (named i li))

  exponent_named : (exponent : PlainId → ℤ) → neq.scales ≡ map exponent neq.names → (k : ℕ) → k < length neq.names → exponent (name_at neq.names k) ≡ at neq.scales k
  exponent_named exponent is k lt =
      let id = name_at neq.names k in
      ap exponent (sym (get_or_from_slice_get neq.names k id id (named k lt))) ∙ sym (ap (λ xs. at xs k) is ∙ get_or-map exponent neq.names k id (pos 0) lt)

pub neq_lies_in_stack : NeqLiesInStack
neq_lies_in_stack exponent neq S sound is lies = record {
  some = lies.some;
  entries = λ i j li lj.
      let a = S.a (name_at neq.names i) (name_at neq.names j) in
      subst (λ w. HoldsTimes w a S.q (pos 18 -ℤ at neq.scales i -ℤ at neq.scales j)) (entry_named neq sound i j li lj)
      (subst (λ t. HoldsTimes (entry_in neq (name_at neq.names i) (name_at neq.names j)) a S.q (pos 18 -ℤ at neq.scales i -ℤ t)) (exponent_named neq sound exponent is j lj)
      (subst (λ t. HoldsTimes (entry_in neq (name_at neq.names i) (name_at neq.names j)) a S.q (pos 18 -ℤ t -ℤ exponent (name_at neq.names j))) (exponent_named neq sound exponent is i li)
      (lies.entries (name_at neq.names i) (name_at neq.names j))));
  rights = λ i li.
      subst (λ w. HoldsTimes w (S.c (name_at neq.names i)) S.q (pos 18 -ℤ at neq.scales i)) (right_named neq sound i li)
      (subst (λ t. HoldsTimes (right_in neq (name_at neq.names i)) (S.c (name_at neq.names i)) S.q (pos 18 -ℤ t)) (exponent_named neq sound exponent is i li)
      (lies.rights (name_at neq.names i)));
}
