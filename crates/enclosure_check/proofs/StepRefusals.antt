-- A refusal of a step is one of the chain, but for want of memory.
use Rattle.std.proofs.Common.{◌≡◌, ◌⊎◌, ◌∙◌, inl, inr, Result, Ok, Err, ap}
use Rattle.stated_order.specs.Steps.{Then, Renamed}
use Rattle.stated_order.proofs.StepLaws.{then_gives, then_stops, renamed_refusal}

-- the cause is want of memory, or the step's refusal
abbrev pub MemoryOr : {X C : Type 0} → C → (Result X C → Type 0) → C → Type 0
MemoryOr memory step cause = (cause ≡ memory) ⊎ step (Err cause)

module _ {C : Type 0} (memory : C) where
  pub renamed_or : {X E : Type 0} (rename : E → C) (wanting : E) (step : Result X E → Type 0) (x : E) → rename wanting ≡ memory → MemoryOr wanting step x → MemoryOr memory (Renamed rename step) (rename x)
  renamed_or rename wanting step x is h = elim h [ inl e ↦ inl (ap rename e ∙ is) | inr r ↦ inr (renamed_refusal rename step x r) ]

  pub stops_or : {X Y : Type 0} (first : Result X C → Type 0) (next : X → Result Y C → Type 0) (cause : C) → MemoryOr memory first cause → MemoryOr memory (Then first next) cause
  stops_or first next cause h = elim h [ inl e ↦ inl e | inr r ↦ inr (then_stops first next cause r) ]

  pub goes_or : {X Y : Type 0} (first : Result X C → Type 0) (next : X → Result Y C → Type 0) (x : X) (cause : C) → first (Ok x) → MemoryOr memory (next x) cause → MemoryOr memory (Then first next) cause
  goes_or first next x cause given h = elim h [ inl e ↦ inl e | inr r ↦ inr (then_gives first next x (Err cause) given r) ]
