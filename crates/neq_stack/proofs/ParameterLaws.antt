-- Parameters by their places.
use Rattle.std.proofs.Common.{◌≡◌, ◌<◌, ◌∙◌, ◌⊎◌, inl, inr, ℕ, zero, suc, List, [], ◌∷◌, Option, Some, None, All, length, slice_get, slice_index_or, refl, sym, ap, subst, arith}
use Rattle.std.specs.Option.{option_or}
use Rattle.std.proofs.lemmas.Option.{same_Some, slice_get-get_or, slice_get_within, get_or_from_slice_get}
use Rattle.param_ids.specs.Plain.{PlainId}
use Rattle.param_ids.specs.Order.{IsRising}
use Rattle.neq_stack.specs.Neqs.{PlainNeq, IsSound}
use Rattle.neq_stack.specs.ByName.{Parameter, HasParameter}
use Rattle.neq_stack.specs.Joining.{first_value, value_at, place_at, AreFirst}
use Rattle.neq_stack.proofs.NameLaws.{one_rank}

-- the parameter at a place
pub record StandsAt (neq : PlainNeq) (k : ℕ) (parameter : Parameter) : Type 0 where
  pub value_is : slice_get neq.apriori k ≡ Some parameter.value
  pub unit_is : slice_get neq.units k ≡ Some parameter.unit
  pub exponent_is : slice_get neq.scales k ≡ Some parameter.exponent

pub has_there : (neq : PlainNeq) (k : ℕ) (id : PlainId) (p : Parameter) → slice_get neq.names k ≡ Some id → StandsAt neq k p → HasParameter neq id p
has_there neq k id p is s = record { place = k; name = is; value_is = s.value_is; unit_is = s.unit_is; exponent_is = s.exponent_is }

pub stands_there : (neq : PlainNeq) (id : PlainId) (p : Parameter) → (h : HasParameter neq id p) → StandsAt neq h.place p
stands_there neq id p h = record { value_is = h.value_is; unit_is = h.unit_is; exponent_is = h.exponent_is }

pub same_parts : (p q : Parameter) → p.value ≡ q.value → p.unit ≡ q.unit → p.exponent ≡ q.exponent → p ≡ q
same_parts p q value unit exponent = λ i. record { value = value i; unit = unit i; exponent = exponent i }

pub one_stands : (neq : PlainNeq) (k : ℕ) (p q : Parameter) → StandsAt neq k p → StandsAt neq k q → p ≡ q
one_stands neq k p q s t =
    same_parts p q (same_Some p.value q.value (sym s.value_is ∙ t.value_is)) (same_Some p.unit q.unit (sym s.unit_is ∙ t.unit_is)) (same_Some p.exponent q.exponent (sym s.exponent_is ∙ t.exponent_is))

-- a name in order has one parameter
pub one_parameter : (neq : PlainNeq) (id : PlainId) (p q : Parameter) → IsRising neq.names → HasParameter neq id p → HasParameter neq id q → p ≡ q
one_parameter neq id p q rising h g =
    one_stands neq g.place p q (subst (λ k. StandsAt neq k p) (one_rank neq.names id h.place g.place rising h.name g.name) (stands_there neq id p h)) (stands_there neq id q g)

pub item_there : {X : Type 0} (xs : List X) (k : ℕ) → k < length xs → (x : X) × (slice_get xs k ≡ Some x)
item_there [] k lt = absurd (omega arith)
item_there (x ∷ xs) zero lt = (x, refl)
item_there (x ∷ xs) (suc k) lt = item_there xs k (omega arith)

-- sound normal equations have a parameter at each place
pub some_stands : (neq : PlainNeq) (k : ℕ) → IsSound neq → k < length neq.names → (p : Parameter) × StandsAt neq k p
some_stands neq k sound lt =
    let value = item_there neq.apriori k (omega (arith, sound.values)) in
    let unit = item_there neq.units k (omega (arith, sound.named_units)) in
    let exponent = item_there neq.scales k (omega (arith, sound.exponents)) in
    (record { value = value.0; unit = unit.0; exponent = exponent.0 }, record { value_is = value.1; unit_is = unit.1; exponent_is = exponent.1 })

-- ---- what stands first
module _ {X : Type 0} where
  pub first_here : (xs ys : List X) (p q : Option ℕ) (i : ℕ) (x : X) → p ≡ Some i → slice_get xs i ≡ Some x → first_value xs ys p q ≡ Some x
  first_here xs ys p q i x at is = ap (λ o. first_value xs ys o q) at ∙ ap (λ o. option_or o (value_at ys q)) is

  pub first_there : (xs ys : List X) (p q : Option ℕ) (j : ℕ) (y : X) → p ≡ None → q ≡ Some j → slice_get ys j ≡ Some y → first_value xs ys p q ≡ Some y
  first_there xs ys p q j y none at is = ap (λ o. first_value xs ys o q) none ∙ ap (λ o. value_at ys o) at ∙ is

  or_cases : (o r : Option X) (x : X) → option_or o r ≡ Some x → (o ≡ Some x) ⊎ (r ≡ Some x)
  or_cases (Some y) r x is = inl is
  or_cases None r x is = inr is

  all_said : (P : X → Type 0) (xs : List X) (p : Option ℕ) (x : X) → All P xs → value_at xs p ≡ Some x → P x
  all_said P xs None x all is = absurd (let none : None ≡ Some x = is in cc)
  all_said P xs (Some i) x all is = subst P (get_or_from_slice_get xs i x x is) (all i x (slice_get_within xs i x is))

  first_all : (P : X → Type 0) (xs ys : List X) (p q : Option ℕ) (x : X) → All P xs → All P ys → first_value xs ys p q ≡ Some x → P x
  first_all P xs ys p q x one other is = elim (or_cases (value_at xs p) (value_at ys q) x is) [ inl h ↦ all_said P xs p x one h | inr h ↦ all_said P ys q x other h ]

  -- what each of two lists has, the list of what stands first has
  pub all_first : (P : X → Type 0) (xs ys list : List X) (ones others : List (Option ℕ)) → All P xs → All P ys → length list ≡ length ones → AreFirst xs ones ys others list → All P list
  all_first P xs ys list ones others one other len each k d lt =
      first_all P xs ys (place_at ones k) (place_at others k) (slice_index_or list k d) one other (sym (each k (omega arith)) ∙ slice_get-get_or list k d lt)
