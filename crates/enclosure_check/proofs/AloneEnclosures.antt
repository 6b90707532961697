-- There is one enclosure by a pilot or its transpose, or one refusal.
use Rattle.std.proofs.Common.{◌≡◌, ◌∙◌, inl, inr, ℕ, ℤ, Result, Ok, Err, sym, subst}
use Rattle.stated_order.specs.Steps.{IsOne}
use Rattle.stated_order.proofs.StepLaws.{gives_or_refuses, then_is_one, renamed_is_one}
use Rattle.sys_model.specs.Systems.{Table}
use Rattle.enclosures.specs.Pilots.{PilotTable}
use Rattle.enclosure_check.specs.EnclosureErrors.{of_pilot, of_vector, of_check}
use Rattle.enclosure_check.specs.Enclosures.{FirstGiven, IsTransposed, IsEnclosureBy, IsEnclosureByTransposed, IsEnclosureByEither, IsEnclosureStep}
use Rattle.enclosure_check.specs.Steps.{IsPilotStep, IsVectorStep, IsCertificateStep}
use Rattle.enclosure_check.proofs.AloneSteps.{pilot_is_one, vector_is_one, certificate_is_one}
use Rattle.enclosure_check.proofs.EqualTables.{equal_square}

-- ---- two tries
module _ {X C : Type 0} (first second : Result X C → Type 0) (one : IsOne first) (other : IsOne second) where
  not_both : (x : X) (c : C) → FirstGiven first second (Ok x) → FirstGiven first second (Err c) → ⊥
  not_both x c a b =
      elim a [
        | inl given ↦ gives_or_refuses first x c one given b.0
        | inr given ↦ gives_or_refuses second x b.1.0 other given.2 b.1.1
      ]

  pub first_given_is_one : IsOne (FirstGiven first second)
  first_given_is_one (Ok x) (Ok y) a b =
      elim a [
        | inl given ↦ elim b [
          | inl too ↦ one (Ok x) (Ok y) given too
          | inr late ↦ absurd (gives_or_refuses first x late.0 one given late.1)
        ]
        | inr given ↦ elim b [
          | inl early ↦ absurd (gives_or_refuses first y given.0 one early given.1)
          | inr too ↦ other (Ok x) (Ok y) given.2 too.2
        ]
      ]
  first_given_is_one (Ok x) (Err d) a b = absurd (not_both x d a b)
  first_given_is_one (Err c) (Ok y) a b = absurd (not_both y c b a)
  first_given_is_one (Err c) (Err d) a b = one (Err c) (Err d) a.0 b.0

-- ---- the pilot transposed
pub transposed_is_one : (p q r : PilotTable) → IsTransposed p q → IsTransposed p r → q ≡ r
transposed_is_one p q r a b =
    equal_square p.size q r a.size b.size a.square b.square (a.scale ∙ sym b.scale)
    (λ i k row column. a.entries i k row column ∙ sym (b.entries i k row column))

-- ---- enclosures
module _ (n : ℕ) (t : Table) where
  enclosure_by_is_one : (p : PilotTable) → IsOne (IsEnclosureBy n t p)
  enclosure_by_is_one p =
      then_is_one _ _ (renamed_is_one of_vector (IsVectorStep n t p) (vector_is_one n t p)) (λ y of_y.
      then_is_one _ _ (renamed_is_one of_check (IsCertificateStep n t p y) (certificate_is_one n t p y)) (λ c of_c r s a b. a ∙ sym b))

  by_transposed_is_one : (p : PilotTable) → IsOne (IsEnclosureByTransposed n t p)
  by_transposed_is_one p r s a b =
      enclosure_by_is_one b.0 r s (subst (λ q. IsEnclosureBy n t q r) (transposed_is_one p a.0 b.0 a.1 b.1) a.2) b.2

  by_either_is_one : (p : PilotTable) → IsOne (IsEnclosureByEither n t p)
  by_either_is_one p = first_given_is_one (IsEnclosureBy n t p) (IsEnclosureByTransposed n t p) (enclosure_by_is_one p) (by_transposed_is_one p)

  pub enclosure_is_one : (m : ℕ → ℕ → ℤ) → IsOne (IsEnclosureStep n t m)
  enclosure_is_one m =
      then_is_one _ _ (renamed_is_one of_pilot (IsPilotStep n m) (pilot_is_one n m)) (λ p of_p. by_either_is_one p)
