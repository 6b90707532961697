-- A datum has an exact system, and with it each multiple.
use Rattle.std.proofs.Common.{◌≡◌, ◌<◌, ◌*◌, ◌∙◌, ℕ, ℤ, pos, neg_ℤ, ◌+ℤ◌, ◌*ℤ◌, List, [], ◌∷◌, All, map, refl, sym, ap, arith}
use Rattle.std.proofs.Math.IntN.{zero-*ℤ}
use Rattle.std.proofs.Math.Nat.{mul-pos}
use Rattle.std.proofs.lemmas.List.Elements.{All-nil, All-cons, All-tail}
use Rattle.stated_order.specs.Lists.{AreEach}
use Rattle.whole_numbers.specs.Scaling.{ten_above, ten_below}
use Rattle.whole_numbers.proofs.Ring.{*ℤ_assoc, *ℤ_left_comm, *ℤ-+ℤ, *ℤ_comm}
use Rattle.sys_model.specs.Scaling.{TimesPower}
use Rattle.sys_model.proofs.ScalingLaws.{ten_below_some}
use Rattle.inverse_squares.specs.Quotients.{square, power_left}
use Rattle.param_ids.specs.Plain.{PlainId}
use Rattle.control_doc.specs.declared.plans.Site.{Site}
use Rattle.neq_stack.specs.Neqs.{PlainNeq}
use Rattle.neq_stack.specs.Systems.{NamedSystem, multiple, sum_of}
use Rattle.datum_rows.specs.Conditions.{Condition, conditions, reach}
use Rattle.datum_rows.specs.Sites.{coefficient_in}
use Rattle.datum_rows.specs.Exact.{IsConditionSystem, DatumExists, DatumMultiples}
use Rattle.datum_rows.proofs.Sigmas.{Each, IsFine, fine_conditions, square_some}

-- ---- one condition
module _ (sites : List Site) (neq : PlainNeq) where
  abbrev power_of : Condition → ℤ
  power_of condition = power_left condition.sigma (neg_ℤ (pos (reach condition.motion)))

  abbrev product_of : Condition → PlainId → PlainId → ℤ
  product_of condition one other = coefficient_in sites neq condition.motion one *ℤ coefficient_in sites neq condition.motion other

  -- what its products are over
  abbrev denominator_of : Condition → ℕ
  denominator_of condition = square condition.sigma * ten_below (power_of condition)

  denominator_some : (condition : Condition) → IsFine condition → 0 < denominator_of condition
  denominator_some condition fine = mul-pos (square_some condition.sigma fine) (ten_below_some (power_of condition))

  -- its system over that times another number
  abbrev system_of : Condition → ℕ → NamedSystem
  system_of condition more = record { q = denominator_of condition * more; a = λ one other. product_of condition one other *ℤ pos (ten_above (power_of condition) * more); c = λ id. pos 0 }

  over_more : (x : ℤ) (q A B more : ℕ) → (x *ℤ pos (A * more)) *ℤ pos (q * B) ≡ x *ℤ pos (((q * B) * more) * A)
  over_more x q A B more =
      let turned : (A * more) * (q * B) ≡ ((q * B) * more) * A = omega arith in
      *ℤ_assoc x (pos (A * more)) (pos (q * B)) ∙ ap (λ n. x *ℤ pos n) turned

  is_system : (condition : Condition) (more : ℕ) → IsFine condition → 0 < more → IsConditionSystem sites neq condition (system_of condition more)
  is_system condition more fine some = record {
    some = mul-pos (denominator_some condition fine) some;
    matrix = λ one other. over_more (product_of condition one other) (square condition.sigma) (ten_above (power_of condition)) (ten_below (power_of condition)) more;
    right = λ id. refl;
  }

  times_multiple : (x y : ℤ) (q r k : ℕ) (p : ℤ) → TimesPower x q p y r → TimesPower x q p (pos k *ℤ y) (k * r)
  times_multiple x y q r k p t =
      let turned : k * (r * ten_above p) ≡ (k * r) * ten_above p = omega arith in
      *ℤ_assoc (pos k) y (pos (q * ten_below p)) ∙ ap (λ z. pos k *ℤ z) t ∙ *ℤ_left_comm (pos k) x (pos (r * ten_above p)) ∙ ap (λ n. x *ℤ pos n) turned

  multiple_is_system : (condition : Condition) (S : NamedSystem) (k : ℕ) → 0 < k → IsConditionSystem sites neq condition S → IsConditionSystem sites neq condition (multiple k S)
  multiple_is_system condition S k some is = record {
    some = mul-pos some is.some;
    matrix = λ one other. times_multiple (product_of condition one other) (S.a one other) (square condition.sigma) S.q k (power_of condition) (is.matrix one other);
    right = λ id. ap (λ x. pos k *ℤ x) (is.right id) ∙ *ℤ_comm (pos k) (pos 0) ∙ zero-*ℤ (pos k);
  }

  -- ---- lists
  multiples_are_each : (k : ℕ) (list : List Condition) (systems : List NamedSystem) → 0 < k → AreEach (IsConditionSystem sites neq) list systems → AreEach (IsConditionSystem sites neq) list (map (multiple k) systems)
  multiples_are_each k [] [] some each = each
  multiples_are_each k (c ∷ list) (S ∷ systems) some each = (multiple_is_system c S k some each.0, multiples_are_each k list systems some each.1)
  multiples_are_each k [] (S ∷ systems) some each = absurd each
  multiples_are_each k (c ∷ list) [] some each = absurd each

  -- systems over one denominator
  pub record OverOne (list : List Condition) : Type 0 where
    pub q : ℕ
    pub systems : List NamedSystem
    pub some : 0 < q
    pub each : AreEach (IsConditionSystem sites neq) list systems
    pub denominators : Each (λ part. part.q ≡ q) systems

pub one_denominator : (k q : ℕ) (systems : List NamedSystem) → Each (λ part. part.q ≡ q) systems → Each (λ part. part.q ≡ k * q) (map (multiple k) systems)
one_denominator k q [] each = tt
one_denominator k q (S ∷ systems) each = (ap (λ n. k * n) each.0, one_denominator k q systems each.1)

over_one : (sites : List Site) (neq : PlainNeq) (list : List Condition) → Each IsFine list → OverOne sites neq list
over_one sites neq [] fine = record { q = 1; systems = []; some = omega arith; each = tt; denominators = tt }
over_one sites neq (c ∷ list) fine =
    let rest = over_one sites neq list fine.1 in
    let d = denominator_of sites neq c in
    let some = denominator_some sites neq c fine.0 in
    record {
      q = d * rest.q;
      systems = system_of sites neq c rest.q ∷ map (multiple d) rest.systems;
      some = mul-pos some rest.some;
      each = (is_system sites neq c rest.q fine.0 rest.some, multiples_are_each sites neq d list rest.systems some rest.each);
      denominators = (refl, one_denominator d rest.q rest.systems rest.denominators);
    }

-- what each member has, all have; and the other way round
pub all_of_each : {X : Type 0} (P : X → Type 0) (xs : List X) → Each P xs → All P xs
all_of_each P [] each = All-nil P
all_of_each P (x ∷ xs) each = All-cons P x xs each.0 (all_of_each P xs each.1)

pub each_of_all : {X : Type 0} (P : X → Type 0) (xs : List X) → All P xs → Each P xs
each_of_all P [] all = tt
each_of_all P (x ∷ xs) all = (all 0 x (omega arith), each_of_all P xs (All-tail P x xs all))

pub datum_exists : DatumExists
datum_exists datum neq fine =
    let over = over_one datum.sites neq (conditions datum) (fine_conditions datum fine) in (
      record { q = over.q; a = λ one other. sum_of (map (λ part. part.a one other) over.systems); c = λ id. sum_of (map (λ part. part.c id) over.systems) },
      record {
        systems = over.systems;
        each = over.each;
        sum = record { some = over.some; denominators = all_of_each (λ part. part.q ≡ over.q) over.systems over.denominators; matrix = λ one other. refl; right = λ id. refl };
      },
    )

-- ---- multiples
sum_multiple : (k : ℕ) (f : NamedSystem → ℤ) → ((S : NamedSystem) → f (multiple k S) ≡ pos k *ℤ f S) → (systems : List NamedSystem) → pos k *ℤ sum_of (map f systems) ≡ sum_of (map f (map (multiple k) systems))
sum_multiple k f is [] = *ℤ_comm (pos k) (pos 0) ∙ zero-*ℤ (pos k)
sum_multiple k f is (S ∷ systems) =
    *ℤ-+ℤ (pos k) (f S) (sum_of (map f systems)) ∙ ap (λ x. x +ℤ pos k *ℤ sum_of (map f systems)) (sym (is S)) ∙ ap (λ x. f (multiple k S) +ℤ x) (sum_multiple k f is systems)

pub datum_multiples : DatumMultiples
datum_multiples datum neq S k some is = record {
  systems = map (multiple k) is.systems;
  each = multiples_are_each datum.sites neq k (conditions datum) is.systems some is.each;
  sum = record {
    some = mul-pos some is.sum.some;
    denominators = all_of_each (λ part. part.q ≡ k * S.q) (map (multiple k) is.systems) (one_denominator k S.q is.systems (each_of_all (λ part. part.q ≡ S.q) is.systems is.sum.denominators));
    matrix = λ one other. ap (λ x. pos k *ℤ x) (is.sum.matrix one other) ∙ sum_multiple k (λ part. part.a one other) (λ T. refl) is.systems;
    right = λ id. ap (λ x. pos k *ℤ x) (is.sum.right id) ∙ sum_multiple k (λ part. part.c id) (λ T. refl) is.systems;
  };
}
