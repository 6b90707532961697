-- Steps in a stated order, whose first refusal is the answer.
--
-- A step is a relation on results: Ok with what the step gives, or Err with the cause for which it refuses.
use Rattle.std.specs.Prelude.{◌≡◌, ◌⊎◌, ◌++◌, ◌∷◌, List, [], Result, Ok, Err}

-- the relation holds of one result at most
abbrev pub IsOne : {X : Type 0} → (X → Type 0) → Type 0
IsOne {X = X} R = (one other : X) → R one → R other → one ≡ other

-- the relation holds of some result
abbrev pub HasOne : {X : Type 0} → (X → Type 0) → Type 0
HasOne {X = X} R = (x : X) × R x

-- the first step gives x, and the result is that of the step after it
pub record GoesOn {X Y C : Type 0} (first : Result X C → Type 0) (next : X → Result Y C → Type 0) (result : Result Y C) : Type 0 where
  pub gives : X
  pub given : first (Ok gives)
  pub onward : next gives result

-- the first step refuses, and its cause is the result
pub record Stops {X Y C : Type 0} (first : Result X C → Type 0) (result : Result Y C) : Type 0 where
  pub cause : C
  pub refused : first (Err cause)
  pub is_cause : result ≡ Err cause

-- one step and then the next: the result is the first step's refusal, or what the next makes of what the first gives
abbrev pub Then : {X Y C : Type 0} → (Result X C → Type 0) → (X → Result Y C → Type 0) → Result Y C → Type 0
Then first next result = GoesOn first next result ⊎ Stops first result

-- the step, with other names for its refusals
abbrev pub Renamed : {X E C : Type 0} → (E → C) → (Result X E → Type 0) → Result X C → Type 0
Renamed rename step (Ok x) = step (Ok x)
Renamed {E = E} rename step (Err cause) = (fault : E) × step (Err fault) × (cause ≡ rename fault)

-- a list in turn: the step of each member, which sees what the members before it gave, and whose first refusal is the result
abbrev pub InTurn : {A B C : Type 0} → (List B → A → Result B C → Type 0) → List B → List A → Result (List B) C → Type 0
InTurn step before [] result = result ≡ Ok before
InTurn step before (a ∷ rest) result = Then (step before a) (λ b. InTurn step (before ++ (b ∷ [])) rest) result

-- what stands after a list: the step of each member makes of what stands before it what stands after it, and the first refusal
-- is the result
abbrev pub Through : {S A C : Type 0} → (S → A → Result S C → Type 0) → S → List A → Result S C → Type 0
Through step before [] result = result ≡ Ok before
Through step before (a ∷ rest) result = Then (step before a) (λ after. Through step after rest) result
