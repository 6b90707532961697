-- What lies in normal equations lies, with the system of a datum, in those with its rows.
use Rattle.std.proofs.Common.{◌≡◌, ◌<◌, ◌*◌, ◌∙◌, inl, inr, ℕ, ℤ, pos, neg_ℤ, ◌+ℤ◌, ◌*ℤ◌, List, [], ◌∷◌, Some, Ok, map, slice_get, refl, sym, ap, subst, arith}
use Rattle.std.proofs.Math.IntN.{◌-ℤ◌}
use Rattle.std.proofs.Math.Nat.{mul-pos}
use Rattle.std.proofs.lemmas.Int.{ints}
use Rattle.std.proofs.lemmas.List.{get_or-map}
use Rattle.std.proofs.lemmas.Option.{get_or_from_slice_get, slice_get_within}
use Rattle.stated_order.proofs.StepLaws.{ok_same}
use Rattle.stated_order.specs.Lists.{AreEach}
use Rattle.stated_order.specs.Steps.{Through}
use Rattle.whole_numbers.specs.Intervals.{Interval, Holds, interval_add}
use Rattle.whole_numbers.specs.Lists.{at}
use Rattle.whole_numbers.specs.Scaling.{ten_above, ten_below}
use Rattle.whole_numbers.proofs.EqualFractions.{holds_same}
use Rattle.whole_numbers.proofs.IntervalLaws.{holds_add}
use Rattle.whole_numbers.proofs.Ring.{*ℤ_assoc, +ℤ-*ℤ}
use Rattle.decimal_e.specs.Decimals.{Decimal}
use Rattle.sys_model.specs.Scaling.{TimesPower, HoldsTimes}
use Rattle.sys_model.proofs.ScalingLaws.{times_then, ten_below_some}
use Rattle.inverse_squares.specs.Quotients.{IsOverSquare, square, power_left}
use Rattle.inverse_squares.proofs.HoldLaws.{over_square_holds}
use Rattle.sym_blocks.specs.Tables.{zero_interval}
use Rattle.param_ids.specs.Plain.{PlainId}
use Rattle.control_doc.specs.Valid.{IsPositiveAndShort}
use Rattle.control_doc.specs.declared.plans.Site.{Site}
use Rattle.neq_stack.specs.Neqs.{PlainNeq}
use Rattle.neq_stack.specs.ByName.{entry_in, right_in, place_in}
use Rattle.neq_stack.specs.Systems.{NamedSystem, LiesInNeq, name_at, sum_of}
use Rattle.datum_rows.specs.Conditions.{Condition, conditions, reach}
use Rattle.datum_rows.specs.Sites.{coefficient_of, coefficient_in}
use Rattle.datum_rows.specs.Additions.{IsWithRow, AddsRow}
use Rattle.datum_rows.specs.Exact.{IsConditionSystem, DatumHolds}
use Rattle.datum_rows.proofs.ExistLaws.{each_of_all}
use Rattle.datum_rows.proofs.NamedRows.{AtPlaces, name_is, added_at, right_kept}
use Rattle.datum_rows.proofs.SameLaws.{coefficient_there, named_same}
use Rattle.datum_rows.proofs.Sigmas.{Each, IsFine, fine_conditions, sigma_some, square_some}
use Rattle.datum_rows.proofs.ZeroLaws.{zero_over_square}

-- ---- the interval over a square holds the fraction that a system has
own_power : (x : ℤ) (q : ℕ) (k : ℤ) → TimesPower x q k (x *ℤ pos (ten_above k)) (q * ten_below k)
own_power x q k =
    let turned : ten_above k * (q * ten_below k) ≡ (q * ten_below k) * ten_above k = omega arith in
    *ℤ_assoc x (pos (ten_above k)) (pos (q * ten_below k)) ∙ ap (λ n. x *ℤ pos n) turned

power_sum : (e r t u : ℤ) → neg_ℤ r -ℤ e -ℤ e +ℤ (pos 18 -ℤ t -ℤ u) ≡ pos 18 -ℤ r -ℤ t -ℤ u -ℤ e -ℤ e
power_sum e r t u = omega (arith, ints)

pub square_holds : (h : ℤ) (s : Decimal) (w : Interval) (x : ℤ) (q r : ℕ) (t u : ℤ) → IsPositiveAndShort s → 0 < q
    → TimesPower h (square s) (power_left s (neg_ℤ (pos r))) x q → IsOverSquare h s (pos 18 -ℤ pos r -ℤ t -ℤ u) w → HoldsTimes w x q (pos 18 -ℤ t -ℤ u)
square_holds h s w x q r t u fine some system is =
    let p = pos 18 -ℤ t -ℤ u in
    let P = power_left s (pos 18 -ℤ pos r -ℤ t -ℤ u) in
    let m = square s in
    let y = x *ℤ pos (ten_above p) in
    let n = q * ten_below p in
    let both : TimesPower h m (power_left s (neg_ℤ (pos r)) +ℤ p) y n = times_then h x y m q n (power_left s (neg_ℤ (pos r))) p some system (own_power x q p) in
    let there : TimesPower h m P y n = subst (λ k. TimesPower h m k y n) (power_sum s.exp (pos r) t u) both in
    let turned : ten_above P * n ≡ n * ten_above P = omega arith in
    let nonzero = sigma_some s fine in
    holds_same w (h *ℤ pos (ten_above P)) y (m * ten_below P) n (mul-pos (square_some s fine) (ten_below_some P))
    (*ℤ_assoc h (pos (ten_above P)) (pos n) ∙ ap (λ k. h *ℤ pos k) turned ∙ sym there)
    (over_square_holds h s (pos 18 -ℤ pos r -ℤ t -ℤ u) w nonzero is)

sum_holds : (w v : Interval) (x y : ℤ) (q : ℕ) (k : ℤ) → HoldsTimes w x q k → HoldsTimes v y q k → HoldsTimes (interval_add w v) (x +ℤ y) q k
sum_holds w v x y q k one other =
    subst (λ z. Holds (interval_add w v) z (q * ten_below k)) (sym (+ℤ-*ℤ x y (pos (ten_above k)))) (holds_add w v (x *ℤ pos (ten_above k)) (y *ℤ pos (ten_above k)) (q * ten_below k) one other)

-- ---- one condition
abbrev pub plus : NamedSystem → NamedSystem → NamedSystem
plus S R = record { q = S.q; a = λ one other. S.a one other +ℤ R.a one other; c = λ id. S.c id +ℤ R.c id }

-- a condition's interval at two names, in their own exponents
pub record RowAt (exponent : PlainId → ℤ) (sites : List Site) (neq : PlainNeq) (condition : Condition) (after : PlainNeq) (one other : PlainId) : Type 0 where
  pub interval : Interval
  pub is_row : IsOverSquare (coefficient_in sites neq condition.motion one *ℤ coefficient_in sites neq condition.motion other) condition.sigma (pos 18 -ℤ pos (reach condition.motion) -ℤ exponent one -ℤ exponent other) interval
  pub added : entry_in after one other ≡ interval_add (entry_in neq one other) interval

module _ (exponent : PlainId → ℤ) (sites : List Site) (neq : PlainNeq) (condition : Condition) (after : PlainNeq) (scales : neq.scales ≡ map exponent neq.names) (with_row : IsWithRow sites neq condition after) where
  exponent_there : (k : ℕ) (id : PlainId) → slice_get neq.names k ≡ Some id → at neq.scales k ≡ exponent id
  exponent_there k id is = ap (λ xs. at xs k) scales ∙ get_or-map exponent neq.names k id (pos 0) (slice_get_within neq.names k id is) ∙ ap exponent (get_or_from_slice_get neq.names k id id is)

  coefficient_named : (k : ℕ) (id : PlainId) → slice_get neq.names k ≡ Some id → place_in neq.names id ≡ Some k → coefficient_of sites neq condition.motion (name_at neq.names k) ≡ coefficient_in sites neq condition.motion id
  coefficient_named k id is place = ap (coefficient_of sites neq condition.motion) (name_is neq.names k id is) ∙ sym (coefficient_there sites neq condition.motion id k place)

  placed_row : (one other : PlainId) (h : AtPlaces sites neq condition after one other) → IsOverSquare (coefficient_in sites neq condition.motion one *ℤ coefficient_in sites neq condition.motion other) condition.sigma (pos 18 -ℤ pos (reach condition.motion) -ℤ exponent one -ℤ exponent other) h.interval
  placed_row one other h =
      let a = coefficient_in sites neq condition.motion one in
      let b = coefficient_in sites neq condition.motion other in
      let c = coefficient_of sites neq condition.motion (name_at neq.names h.row) in
      let d = coefficient_of sites neq condition.motion (name_at neq.names h.col) in
      let r = pos (reach condition.motion) in
      let s = condition.sigma in
      subst (λ t. IsOverSquare (a *ℤ b) s (pos 18 -ℤ r -ℤ exponent one -ℤ t) h.interval) (exponent_there h.col other h.col_named)
      (subst (λ t. IsOverSquare (a *ℤ b) s (pos 18 -ℤ r -ℤ t -ℤ at neq.scales h.col) h.interval) (exponent_there h.row one h.row_named)
      (subst (λ x. IsOverSquare (a *ℤ x) s (pos 18 -ℤ r -ℤ at neq.scales h.row -ℤ at neq.scales h.col) h.interval) (coefficient_named h.col other h.col_named h.col_place)
      (subst (λ x. IsOverSquare (x *ℤ d) s (pos 18 -ℤ r -ℤ at neq.scales h.row -ℤ at neq.scales h.col) h.interval) (coefficient_named h.row one h.row_named h.row_place) h.is_row)))

  pub row_at : (one other : PlainId) → RowAt exponent sites neq condition after one other
  row_at one other =
      elim (added_at sites neq condition after with_row one other) [
        | inl h ↦ record { interval = h.interval; is_row = placed_row one other h; added = h.added }
        | inr h ↦ record {
          interval = zero_interval;
          is_row = zero_over_square (coefficient_in sites neq condition.motion one *ℤ coefficient_in sites neq condition.motion other) condition.sigma (pos 18 -ℤ pos (reach condition.motion) -ℤ exponent one -ℤ exponent other) h.none;
          added = h.added;
        }
      ]

  pub condition_holds : (S R : NamedSystem) → IsFine condition → LiesInNeq exponent neq S → IsConditionSystem sites neq condition R → R.q ≡ S.q → LiesInNeq exponent after (plus S R)
  condition_holds S R fine lies system same = record {
    some = lies.some;
    entries = λ one other.
        let row = row_at one other in
        let k = pos 18 -ℤ exponent one -ℤ exponent other in
        let held = square_holds (coefficient_in sites neq condition.motion one *ℤ coefficient_in sites neq condition.motion other) condition.sigma row.interval (R.a one other) R.q (reach condition.motion) (exponent one) (exponent other) fine system.some (system.matrix one other) row.is_row in
        subst (λ w. HoldsTimes w (S.a one other +ℤ R.a one other) S.q k) (sym row.added)
        (sum_holds (entry_in neq one other) row.interval (S.a one other) (R.a one other) S.q k (lies.entries one other) (subst (λ q. HoldsTimes row.interval (R.a one other) q k) same held));
    rights = λ id.
        let k = pos 18 -ℤ exponent id in
        let e : S.c id ≡ S.c id +ℤ R.c id = omega (arith, ints, system.right id) in
        subst (λ x. HoldsTimes (right_in after id) x S.q k) e (subst (λ w. HoldsTimes w (S.c id) S.q k) (sym (right_kept sites neq condition after with_row id)) (lies.rights id));
  }

-- ---- all conditions
system_moves : (sites : List Site) (neq before : PlainNeq) (condition : Condition) (R : NamedSystem) → neq.names ≡ before.names → neq.apriori ≡ before.apriori → IsConditionSystem sites neq condition R → IsConditionSystem sites before condition R
system_moves sites neq before condition R names apriori is = record {
  some = is.some;
  matrix = λ one other.
      let P = power_left condition.sigma (neg_ℤ (pos (reach condition.motion))) in
      subst (λ x. TimesPower (coefficient_in sites before condition.motion one *ℤ x) (square condition.sigma) P (R.a one other) R.q) (named_same neq before names apriori sites condition.motion other)
      (subst (λ x. TimesPower (x *ℤ coefficient_in sites neq condition.motion other) (square condition.sigma) P (R.a one other) R.q) (named_same neq before names apriori sites condition.motion one) (is.matrix one other));
  right = is.right;
}

-- T is the sum of S and of the systems
record IsMore (S : NamedSystem) (systems : List NamedSystem) (T : NamedSystem) : Type 0 where
  q_is : T.q ≡ S.q
  matrix : (one other : PlainId) → T.a one other ≡ S.a one other +ℤ sum_of (map (λ part. part.a one other) systems)
  right : (id : PlainId) → T.c id ≡ S.c id +ℤ sum_of (map (λ part. part.c id) systems)

lies_same : (exponent : PlainId → ℤ) (neq : PlainNeq) (S T : NamedSystem) → IsMore S [] T → LiesInNeq exponent neq S → LiesInNeq exponent neq T
lies_same exponent neq S T more lies = record {
  some = subst (λ q. 0 < q) (sym more.q_is) lies.some;
  entries = λ one other.
      let e : S.a one other ≡ T.a one other = omega (arith, ints, more.matrix one other) in
      let k = pos 18 -ℤ exponent one -ℤ exponent other in
      subst (λ q. HoldsTimes (entry_in neq one other) (T.a one other) q k) (sym more.q_is) (subst (λ x. HoldsTimes (entry_in neq one other) x S.q k) e (lies.entries one other));
  rights = λ id.
      let e : S.c id ≡ T.c id = omega (arith, ints, more.right id) in
      let k = pos 18 -ℤ exponent id in
      subst (λ q. HoldsTimes (right_in neq id) (T.c id) q k) (sym more.q_is) (subst (λ x. HoldsTimes (right_in neq id) x S.q k) e (lies.rights id));
}

module _ (exponent : PlainId → ℤ) (sites : List Site) (neq : PlainNeq) where
  lies_through : (before after : PlainNeq) (list : List Condition) (systems : List NamedSystem) (S T : NamedSystem)
      → neq.names ≡ before.names → neq.apriori ≡ before.apriori → before.scales ≡ map exponent before.names → Each IsFine list → LiesInNeq exponent before S
      → Through (AddsRow sites) before list (Ok after) → AreEach (IsConditionSystem sites neq) list systems → Each (λ part. part.q ≡ S.q) systems → IsMore S systems T → LiesInNeq exponent after T
  lies_through before after [] [] S T names apriori scales fine lies through each one more =
      subst (λ n. LiesInNeq exponent n T) (ok_same before after (sym through)) (lies_same exponent before S T more lies)
  lies_through before after (c ∷ list) (R ∷ systems) S T names apriori scales fine lies through each one more =
      elim through [
        | inl f ↦
            let w = f.given.1 in
            lies_through f.gives after list systems (plus S R) T (names ∙ sym w.names) (apriori ∙ sym w.apriori) (w.scales ∙ scales ∙ ap (map exponent) (sym w.names)) fine.1
            (condition_holds exponent sites before c f.gives scales w S R fine.0 lies (system_moves sites neq before c R names apriori each.0) one.0)
            f.onward each.1 one.1
            (record {
              q_is = more.q_is;
              matrix = λ a b. let e = more.matrix a b in omega (arith, ints);
              right = λ id. let e = more.right id in omega (arith, ints);
            })
        | inr f ↦ let e = f.is_cause in cc
      ]
  lies_through before after [] (R ∷ systems) S T names apriori scales fine lies through each one more = absurd each
  lies_through before after (c ∷ list) [] S T names apriori scales fine lies through each one more = absurd each

pub datum_holds_in : DatumHolds
datum_holds_in exponent datum neq after S D T sound scales fine lies addition is sum =
    elim addition [
      | inl f ↦
          let at_first : S.q ≡ T.q = sum.denominators 0 S (omega arith) in
          let at_second : D.q ≡ T.q = sum.denominators 1 S (omega arith) in
          let parts = each_of_all (λ part. part.q ≡ D.q) is.systems is.sum.denominators in
          lies_through exponent datum.sites neq neq after (conditions datum) is.systems S T refl refl scales (fine_conditions datum fine) lies f.onward is.each
          (subst (λ q. Each (λ part. part.q ≡ q) is.systems) (at_second ∙ sym at_first) parts)
          (record {
            q_is = sym at_first;
            matrix = λ a b. let e = sum.matrix a b in let d = is.sum.matrix a b in omega (arith, ints);
            right = λ id. let e = sum.right id in let d = is.sum.right id in omega (arith, ints);
          })
      | inr f ↦ let e = f.is_cause in cc
    ]
