-- What the calls answer is the enclosure, or its refusal but for want of memory.
use Rattle.std.proofs.Common.{◌≡◌, ◌*◌, ℕ, ℤ, List, Ok, length, refl}
use Rattle.stated_order.proofs.StepLaws.{then_gives}
use Rattle.sys_model.specs.Systems.{Table}
use Rattle.whole_numbers.specs.Lists.{at}
use Rattle.chol_guess.specs.Pilots.{IsPilot}
use Rattle.chol_guess.specs.Refusals.{IsRefused}
use Rattle.chol_guess.specs.declared.PilotError.{PilotError}
use Rattle.chol_guess.specs.declared.PilotError.TheVariants as pilot
use Rattle.enclosures.specs.Pilots.{PilotTable}
use Rattle.enclosures.specs.declared.Radius.{Radius}
use Rattle.enclosure_check.specs.Answers.{IsVectorRefused, IsCheckRefused}
use Rattle.enclosure_check.specs.Certificates.{IsCertified}
use Rattle.enclosure_check.specs.EnclosureErrors.{of_pilot, of_vector, of_check}
use Rattle.enclosure_check.specs.Enclosures.{Enclosure, IsEnclosureBy, IsEnclosureByEither, IsEnclosureStep}
use Rattle.enclosure_check.specs.Steps.{IsPilotStep, IsVectorOf, IsVectorStep, certificate_of, IsCertificateStep}
use Rattle.enclosure_check.specs.Vectors.{IsStartVector}
use Rattle.enclosure_check.specs.declared.VectorError.{VectorError}
use Rattle.enclosure_check.specs.declared.VectorError.TheVariants as vector
use Rattle.enclosure_check.specs.declared.CheckError.{CheckError}
use Rattle.enclosure_check.specs.declared.CheckError.TheVariants as check
use Rattle.enclosure_check.specs.declared.EncloseError.{EncloseError}
use Rattle.enclosure_check.specs.declared.EncloseError.TheVariants.{Memory}
use Rattle.enclosure_check.proofs.StepCalls.{is_pilot, pilot_refused, is_vector, vector_refused, is_certificate, check_refused}
use Rattle.enclosure_check.proofs.StepRefusals.{MemoryOr, renamed_or, stops_or, goes_or}

-- ---- one table in the place of the pilot
module _ (n : ℕ) (t : Table) (p : PilotTable) where
  pub vector_refuses : (x : VectorError) → IsVectorRefused n t p x → MemoryOr Memory (IsEnclosureBy n t p) (of_vector x)
  vector_refuses x refused = stops_or Memory _ _ (of_vector x) (renamed_or Memory of_vector vector.Memory (IsVectorStep n t p) x refl (vector_refused n n refl t p x refused))

  module _ (y : List ℤ) (len : length y ≡ n) (is : IsStartVector n t p (at y)) where
    of_y : IsVectorOf n t p y
    of_y = is_vector n n refl t p y len is

    pub check_refuses : (x : CheckError) → IsCheckRefused n t p (at y) x → MemoryOr Memory (IsEnclosureBy n t p) (of_check x)
    check_refuses x refused =
        goes_or Memory _ _ y (of_check x) of_y
        (stops_or Memory _ _ (of_check x) (renamed_or Memory of_check check.Memory (IsCertificateStep n t p y) x refl (check_refused n n refl t p y x refused)))

    pub encloses_by : (v : Radius) → IsCertified n t p (at y) v → IsEnclosureBy n t p (Ok (record { pilot = p; vector = y; certificate = certificate_of v }))
    encloses_by v certified = then_gives _ _ y _ of_y (then_gives _ _ (certificate_of v) _ (is_certificate n n refl t p y v certified) refl)

-- ---- the pilot, and what encloses by it or its transpose
module _ (n : ℕ) (t : Table) (m : ℕ → ℕ → ℤ) where
  pub pilot_refuses : (x : PilotError) → IsRefused n m x → MemoryOr Memory (IsEnclosureStep n t m) (of_pilot x)
  pilot_refuses x refused = stops_or Memory _ _ (of_pilot x) (renamed_or Memory of_pilot pilot.Memory (IsPilotStep n m) x refl (pilot_refused n n refl m x refused))

  module _ (p : PilotTable) (is : IsPilot n m p) (square : length p.entries ≡ p.size * p.size) where
    pub encloses : (e : Enclosure) → IsEnclosureByEither n t p (Ok e) → IsEnclosureStep n t m (Ok e)
    encloses e h = then_gives _ _ p (Ok e) (is_pilot n n refl m p is square) h

    pub either_refuses : (x : EncloseError) → MemoryOr Memory (IsEnclosureByEither n t p) x → MemoryOr Memory (IsEnclosureStep n t m) x
    either_refuses x h = goes_or Memory _ _ p x (is_pilot n n refl m p is square) h
