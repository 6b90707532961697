-- A refusal of a step is one of the chain, but for want of memory.
use Rattle.std.proofs.Common.{◌≡◌, ◌⊎◌, ◌∙◌, inl, inr, Result, Ok, Err, ap}
use Rattle.stated_order.specs.Steps.{Then, Renamed}
use Rattle.stated_order.proofs.StepLaws.{then_gives, then_stops, renamed_refusal}
use Rattle.inv_enclose.specs.declared.InvError.{InvError}
use Rattle.inv_enclose.specs.declared.InvError.TheVariants.{Memory}

-- want of memory, or the step's refusal
abbrev pub MemoryOr : {X : Type 0} → (Result X InvError → Type 0) → InvError → Type 0
MemoryOr step cause = (cause ≡ Memory) ⊎ step (Err cause)

pub renamed_or : {X E : Type 0} (rename : E → InvError) (memory : E) (step : Result X E → Type 0) (x : E) → rename memory ≡ Memory → (x ≡ memory) ⊎ step (Err x) → MemoryOr (Renamed rename step) (rename x)
renamed_or rename memory step x is h = elim h [ inl e ↦ inl (ap rename e ∙ is) | inr r ↦ inr (renamed_refusal rename step x r) ]

pub stops_or : {X Y : Type 0} (first : Result X InvError → Type 0) (next : X → Result Y InvError → Type 0) (cause : InvError) → MemoryOr first cause → MemoryOr (Then first next) cause
stops_or first next cause h = elim h [ inl e ↦ inl e | inr r ↦ inr (then_stops first next cause r) ]

pub goes_or : {X Y : Type 0} (first : Result X InvError → Type 0) (next : X → Result Y InvError → Type 0) (x : X) (cause : InvError) → first (Ok x) → MemoryOr (next x) cause → MemoryOr (Then first next) cause
goes_or first next x cause given h = elim h [ inl e ↦ inl e | inr r ↦ inr (then_gives first next x (Err cause) given r) ]
