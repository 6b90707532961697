-- A run that refuses, from what its refusal's line came to.
use Rattle.std.proofs.Common.{◌≡◌, ◌≢◌, ◌≤◌, ◌⊎◌, ◌∙◌, inl, inr, ℕ, List, Result, Ok, Err, IfOk, OnErr, subst, sym, ap, arith}
use Rattle.std.proofs.Math.Decide.{dec_lt}
use Rattle.desk_io.specs.Content.{Content, KeepsAll}
use Rattle.desk_io.specs.Desk.{HasCause, Says}
use Rattle.desk_io.specs.declared.desk.DeskError.{DeskError}
use Rattle.desk_io.specs.declared.desk.DeskError.TheVariants.{Fault, Memory}
use Rattle.refusal_lines.specs.Refusals.{IsStatus, status_of, line_of}
use Rattle.refusal_lines.specs.declared.refusal.Refusal.{Refusal}
use Rattle.run_inputs.specs.Views.{HasStatusCause, IfTold}
use Rattle.combine_cli.specs.Verdict.{Outcome, IsVerdict}
use Rattle.combine_cli.specs.Runs.{HasVerdict, Leaves, SaysPart, StoppedAt}
use Rattle.combine_cli.proofs.RunLaws.{done_saying, cut_before, cut_saying}

-- a status that is told is the refusal's
abbrev pub IsToldStatus : ℕ → ℕ → Type 0
IsToldStatus n status = (status ≡ n) × IsStatus status × (status ≢ 0) × (status ≢ 4) × (status ≢ 5)

pub status_told : (r : Result ℕ DeskError) (n : ℕ) → IfOk r (IsToldStatus n) → IfOk r (λ status. IsStatus status × (status ≢ 4) × (status ≢ 5))
status_told (Ok status) n h = (h.1, h.3, h.4)
status_told (Err e) n h = tt

equal_or_not : (n m : ℕ) → (n ≡ m) ⊎ (n ≢ m)
equal_or_not n m =
    elim (dec_lt n m) [
      | yes l ↦ inr (λ e. omega arith)
      | no l ↦ elim (dec_lt m n) [
        | yes k ↦ inr (λ e. omega arith)
        | no k ↦ inl (omega arith)
      ]
    ]

-- ---- the count of faults
cause_told_on : (r : Result ℕ DeskError) (n old mid new : ℕ) → n ≢ 5 → HasStatusCause old mid n → IfOk r (IsToldStatus n) → HasCause mid new r → HasCause old new r
cause_told_on (Ok status) n old mid new other before told h =
    let kept : mid ≡ old = before.unchanged (λ e. told.3 (told.0 ∙ e)) other in
    record { later = omega (arith, h.later, before.later); unchanged = h.unchanged ∙ kept; fault = λ e. let not : ⊥ = cc in absurd not }
cause_told_on (Err Fault) n old mid new other before told h = record { later = omega (arith, h.later, before.later); unchanged = tt; fault = λ e. let rose = h.fault e in omega (arith, rose, before.later) }
cause_told_on (Err Memory) n old mid new other before told h = record { later = omega (arith, h.later, before.later); unchanged = tt; fault = λ e. let not : ⊥ = cc in absurd not }

pub cause_told : (r : Result ℕ DeskError) (n old mid new : ℕ) → HasStatusCause old mid n → IfOk r (IsToldStatus n) → (n ≢ 5 → HasCause mid new r) → (n ≡ 5 → (r ≡ Err Fault) × (new ≡ mid)) → HasCause old new r
cause_told r n old mid new before told cause fault =
    elim (equal_or_not n 5) [
      | inl e ↦
          let stands = fault e in
          subst (λ (r : Result ℕ DeskError). HasCause old new r) (sym stands.0)
          (record { later = omega (arith, stands.1, before.later); unchanged = tt; fault = λ k. let rose = before.fault e in omega (arith, rose, stands.1) })
      | inr other ↦ cause_told_on r n old mid new other before told (cause other)
    ]

-- ---- what it leaves
module _ (words : List (List ℕ)) (refusal : Refusal) (old mid new : Content) (keeps : KeepsAll old mid) (refused : IfTold (λ r. IsVerdict words old.files (Err r)) refusal) where
  pub done_told : (r : Result ℕ DeskError) → IfOk r (IsToldStatus (status_of refusal)) → IfOk r (λ status. Says (line_of refusal) mid new (Ok tt))
      → IfOk r (λ status. HasVerdict words old.files (λ outcome. Leaves status outcome old new))
  done_told (Ok status) told says = done_saying words refusal status old mid new tt told.0 (refused (λ e. told.3 (told.0 ∙ e)) (λ e. told.4 (told.0 ∙ e))) keeps says
  done_told (Err e) told says = tt

  cut_by : SaysPart (line_of refusal) mid new → ((status_of refusal ≡ 4) ⊎ (status_of refusal ≡ 5) → new ≡ mid) → (outcome : Outcome) → IsVerdict words old.files outcome → StoppedAt outcome old new
  cut_by part silent outcome verdict =
      elim (equal_or_not (status_of refusal) 4) [
        | inl e ↦ nothing (inl e)
        | inr not_memory ↦ elim (equal_or_not (status_of refusal) 5) [
          | inl e ↦ nothing (inr e)
          | inr not_fault ↦ cut_saying words outcome refusal old mid new verdict (refused not_memory not_fault) keeps part
        ]
      ]
    where
      nothing : (status_of refusal ≡ 4) ⊎ (status_of refusal ≡ 5) → StoppedAt outcome old new
      nothing h = subst (λ (content : Content). StoppedAt outcome old content) (sym (silent h)) (cut_before outcome old mid keeps)

  pub cut_told : (r : Result ℕ DeskError) → SaysPart (line_of refusal) mid new → ((status_of refusal ≡ 4) ⊎ (status_of refusal ≡ 5) → new ≡ mid)
      → OnErr r ((outcome : Outcome) → IsVerdict words old.files outcome → StoppedAt outcome old new)
  cut_told (Ok status) part silent = tt
  cut_told (Err e) part silent = cut_by part silent
