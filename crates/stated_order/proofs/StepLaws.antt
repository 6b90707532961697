-- Steps in a stated order have one result at most, and some result where their parts have one.
use Rattle.std.proofs.Common.{◌≡◌, inl, inr, ◌∙◌, ◌++◌, ◌∷◌, List, [], Result, Ok, Err, sym, subst, refl, ap}
use Rattle.stated_order.specs.Steps.{IsOne, HasOne, GoesOn, Then, Renamed, InTurn, Through}

-- a step that gives something does not refuse
pub gives_or_refuses : {X C : Type 0} (first : Result X C → Type 0) (x : X) (c : C) → IsOne first → first (Ok x) → first (Err c) → ⊥
gives_or_refuses first x c one a b = let e : Ok x ≡ Err c = one (Ok x) (Err c) a b in cc

gives_same : {X C : Type 0} (first : Result X C → Type 0) (x y : X) → IsOne first → first (Ok x) → first (Ok y) → x ≡ y
gives_same first x y one a b = let e = one (Ok x) (Ok y) a b in cc

-- one step and then the next have one result, where each of them has
pub then_is_one : {X Y C : Type 0} (first : Result X C → Type 0) (next : X → Result Y C → Type 0) → IsOne first → ((x : X) → first (Ok x) → IsOne (next x)) → IsOne (Then first next)
then_is_one {X = X} {Y = Y} {C = C} first next one onward r s a b =
    elim a [
      | inl f ↦
          elim b [
            | inl g ↦ onward g.gives g.given r s (subst (λ x. next x r) (gives_same first f.gives g.gives one f.given g.given) f.onward) g.onward
            | inr g ↦ absurd (gives_or_refuses first f.gives g.cause one f.given g.refused)
          ]
      | inr f ↦
          elim b [
            | inl g ↦ absurd (gives_or_refuses first g.gives f.cause one g.given f.refused)
            | inr g ↦ f.is_cause ∙ same_cause f.cause g.cause (one (Err f.cause) (Err g.cause) f.refused g.refused) ∙ sym g.is_cause
          ]
    ]
  where
    same_cause : (c d : C) → (let r : Result X C = Err c in let s : Result X C = Err d in r ≡ s) → (let r : Result Y C = Err c in let s : Result Y C = Err d in r ≡ s)
    same_cause c d e = cc

-- so has a list in turn, where the step of each member has one
pub in_turn_is_one : {A B C : Type 0} (step : List B → A → Result B C → Type 0) → ((before : List B) (a : A) → IsOne (step before a)) → (before : List B) (list : List A) → IsOne (InTurn step before list)
in_turn_is_one step one before [] = λ r s a b. a ∙ sym b
in_turn_is_one step one before (a ∷ rest) =
    then_is_one (step before a) (λ b. InTurn step (before ++ (b ∷ [])) rest) (one before a) (λ b given. in_turn_is_one step one (before ++ (b ∷ [])) rest)

-- so does what stands after a list
pub through_is_one : {S A C : Type 0} (step : S → A → Result S C → Type 0) → ((before : S) (a : A) → IsOne (step before a)) → (before : S) (list : List A) → IsOne (Through step before list)
through_is_one step one before [] = λ r s a b. a ∙ sym b
through_is_one step one before (a ∷ rest) = then_is_one (step before a) (λ after. Through step after rest) (one before a) (λ after given. through_is_one step one after rest)

-- ---- results that are equal give the same
pub ok_same : {X E : Type 0} (x y : X) → (let r : Result X E = Ok x in let s : Result X E = Ok y in r ≡ s) → x ≡ y
ok_same x y e = cc

pub err_same : {X E : Type 0} (c d : E) → (let r : Result X E = Err c in let s : Result X E = Err d in r ≡ s) → c ≡ d
err_same c d e = cc

-- ---- other names
-- a step has one result with other names for its refusals, where it has one
pub renamed_is_one : {X E C : Type 0} (rename : E → C) (step : Result X E → Type 0) → IsOne step → IsOne (Renamed rename step)
renamed_is_one rename step one (Ok x) (Ok y) a b = ap Ok (ok_same x y (one (Ok x) (Ok y) a b))
renamed_is_one rename step one (Ok x) (Err d) a b = absurd (gives_or_refuses step x b.0 one a b.1)
renamed_is_one rename step one (Err c) (Ok y) a b = absurd (gives_or_refuses step y a.0 one b a.1)
renamed_is_one rename step one (Err c) (Err d) a b = ap Err (a.2 ∙ ap rename (err_same a.0 b.0 (one (Err a.0) (Err b.0) a.1 b.1)) ∙ sym b.2)

pub renamed_refusal : {X E C : Type 0} (rename : E → C) (step : Result X E → Type 0) (fault : E) → step (Err fault) → Renamed rename step (Err (rename fault))
renamed_refusal rename step fault h = (fault, h, refl)

-- ---- what a body with `?` shows: one step and then the next
pub then_gives : {X Y C : Type 0} (first : Result X C → Type 0) (next : X → Result Y C → Type 0) (x : X) (r : Result Y C) → first (Ok x) → next x r → Then first next r
then_gives first next x r given onward = inl (record { gives = x; given = given; onward = onward })

pub then_stops : {X Y C : Type 0} (first : Result X C → Type 0) (next : X → Result Y C → Type 0) (c : C) → first (Err c) → Then first next (Err c)
then_stops first next c refused = inr (record { cause = c; refused = refused; is_cause = refl })

-- where the second step gave something, the first went on to it
pub went_on : {X Y C : Type 0} (first : Result X C → Type 0) (next : X → Result Y C → Type 0) (y : Y) → Then first next (Ok y) → GoesOn first next (Ok y)
went_on first next y h = elim h [ inl f ↦ f | inr f ↦ let e = f.is_cause in absurd (cc) ]

-- ---- what a loop shows: the members so far, and one more
pub in_turn_more : {A B C : Type 0} (step : List B → A → Result B C → Type 0) (before given : List B) (list : List A) (a : A) (b : B) → InTurn step before list (Ok given) → step given a (Ok b) → InTurn step before (list ++ (a ∷ [])) (Ok (given ++ (b ∷ [])))
in_turn_more step before given [] a b so_far here = let same : before ≡ given = ok_same before given (sym so_far) in subst (λ l. InTurn step l (a ∷ []) (Ok (given ++ (b ∷ [])))) (sym same) (then_gives (step given a) (λ x. InTurn step (given ++ (x ∷ [])) []) b (Ok (given ++ (b ∷ []))) here refl)
in_turn_more step before given (x ∷ rest) a b so_far here =
    elim so_far [
      | inl f ↦ then_gives (step before x) (λ y. InTurn step (before ++ (y ∷ [])) (rest ++ (a ∷ []))) f.gives (Ok (given ++ (b ∷ []))) f.given (in_turn_more step (before ++ (f.gives ∷ [])) given rest a b f.onward here)
      | inr f ↦ let e = f.is_cause in cc
    ]

-- whatever follows the member that is refused
pub in_turn_stops : {A B C : Type 0} (step : List B → A → Result B C → Type 0) (before given : List B) (list rest : List A) (a : A) (c : C) → InTurn step before list (Ok given) → step given a (Err c) → InTurn step before (list ++ (a ∷ rest)) (Err c)
in_turn_stops step before given [] rest a c so_far here = let same : before ≡ given = ok_same before given (sym so_far) in subst (λ l. InTurn step l (a ∷ rest) (Err c)) (sym same) (then_stops (step given a) (λ x. InTurn step (given ++ (x ∷ [])) rest) c here)
in_turn_stops step before given (x ∷ list) rest a c so_far here =
    elim so_far [
      | inl f ↦ then_gives (step before x) (λ y. InTurn step (before ++ (y ∷ [])) (list ++ (a ∷ rest))) f.gives (Err c) f.given (in_turn_stops step (before ++ (f.gives ∷ [])) given list rest a c f.onward here)
      | inr f ↦ let e = f.is_cause in cc
    ]

pub through_more : {S A C : Type 0} (step : S → A → Result S C → Type 0) (before so_far : S) (list : List A) (a : A) (r : Result S C) → Through step before list (Ok so_far) → step so_far a r → Through step before (list ++ (a ∷ [])) r
through_more step before so_far [] a r stands here =
    let same : before ≡ so_far = ok_same before so_far (sym stands) in
    subst (λ s. Through step s (a ∷ []) r) (sym same) (one_step step so_far a r here)
  where
    one_step : {S A C : Type 0} (step : S → A → Result S C → Type 0) (s : S) (a : A) (r : Result S C) → step s a r → Through step s (a ∷ []) r
    one_step step s a (Ok t) h = then_gives (step s a) (λ t. Through step t []) t (Ok t) h refl
    one_step step s a (Err c) h = then_stops (step s a) (λ t. Through step t []) c h
through_more step before so_far (x ∷ list) a r stands here =
    elim stands [
      | inl f ↦ then_gives (step before x) (λ t. Through step t (list ++ (a ∷ []))) f.gives r f.given (through_more step f.gives so_far list a r f.onward here)
      | inr f ↦ let e = f.is_cause in cc
    ]

pub through_stops : {S A C : Type 0} (step : S → A → Result S C → Type 0) (before so_far : S) (list rest : List A) (a : A) (c : C) → Through step before list (Ok so_far) → step so_far a (Err c) → Through step before (list ++ (a ∷ rest)) (Err c)
through_stops step before so_far [] rest a c stands here =
    let same : before ≡ so_far = ok_same before so_far (sym stands) in
    subst (λ s. Through step s (a ∷ rest) (Err c)) (sym same) (then_stops (step so_far a) (λ t. Through step t rest) c here)
through_stops step before so_far (x ∷ list) rest a c stands here =
    elim stands [
      | inl f ↦ then_gives (step before x) (λ t. Through step t (list ++ (a ∷ rest))) f.gives (Err c) f.given (through_stops step f.gives so_far list rest a c f.onward here)
      | inr f ↦ let e = f.is_cause in cc
    ]

-- ---- some result
-- what follows a first step that has a result
onward_has_one : {X Y C : Type 0} (first : Result X C → Type 0) (next : X → Result Y C → Type 0) → ((x : X) → first (Ok x) → HasOne (next x)) → (r : Result X C) → first r → HasOne (Then first next)
onward_has_one first next onward (Ok x) h = let n = onward x h in (n.0, inl (record { gives = x; given = h; onward = n.1 }))
onward_has_one first next onward (Err c) h = (Err c, inr (record { cause = c; refused = h; is_cause = refl }))

pub then_has_one : {X Y C : Type 0} (first : Result X C → Type 0) (next : X → Result Y C → Type 0) → HasOne first → ((x : X) → first (Ok x) → HasOne (next x)) → HasOne (Then first next)
then_has_one first next some onward = onward_has_one first next onward some.0 some.1

pub in_turn_has_one : {A B C : Type 0} (step : List B → A → Result B C → Type 0) → ((before : List B) (a : A) → HasOne (step before a)) → (before : List B) (list : List A) → HasOne (InTurn step before list)
in_turn_has_one step some before [] = (Ok before, refl)
in_turn_has_one step some before (a ∷ rest) =
    then_has_one (step before a) (λ b. InTurn step (before ++ (b ∷ [])) rest) (some before a) (λ b given. in_turn_has_one step some (before ++ (b ∷ [])) rest)

pub through_has_one : {S A C : Type 0} (step : S → A → Result S C → Type 0) → ((before : S) (a : A) → HasOne (step before a)) → (before : S) (list : List A) → HasOne (Through step before list)
through_has_one step some before [] = (Ok before, refl)
through_has_one step some before (a ∷ rest) =
    then_has_one (step before a) (λ after. Through step after rest) (some before a) (λ after given. through_has_one step some after rest)
