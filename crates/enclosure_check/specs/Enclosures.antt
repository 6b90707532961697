-- Enclosures of a working table: a start vector and its certificate by the pilot R or, where R is refused, by R transposed.
--
-- Each column of R is made to leave little of a column of the identity, and the certificate asks this of the rows. Of a loose network only
-- the columns do; the transpose has them as its rows. That the certificate encloses holds for any table in the place of R. (Rump,
-- Verification methods, 2010. The second try is this program's own.)
use Rattle.std.specs.Prelude.{◌≡◌, ◌<◌, ◌⊎◌, ◌*◌, ℕ, ℤ, List, length, Result, Ok, Err}
use Rattle.stated_order.specs.Steps.{Then, Renamed}
use Rattle.sys_model.specs.Systems.{Table}
use Rattle.enclosures.specs.Pilots.{PilotTable, pilot_entry}
use Rattle.enclosures.specs.declared.Enclosed.{Enclosed}
use Rattle.enclosure_check.specs.EnclosureErrors.{of_pilot, of_vector, of_check}
use Rattle.enclosure_check.specs.Steps.{IsPilotStep, IsVectorStep, Certificate, certificate_of, IsCertificateStep}
use Rattle.enclosure_check.specs.declared.EncloseError.{EncloseError}

-- ---- two tries
-- what the first step gives or, where it is refused, what the second gives; where both are refused, the first one's refusal
abbrev pub FirstGiven : {X C : Type 0} → (Result X C → Type 0) → (Result X C → Type 0) → Result X C → Type 0
FirstGiven {C = C} first second (Ok x) = first (Ok x) ⊎ ((cause : C) × first (Err cause) × second (Ok x))
FirstGiven {C = C} first second (Err cause) = first (Err cause) × ((other : C) × second (Err other))

-- q is p with rows and columns exchanged, at the same scale
pub record IsTransposed (p q : PilotTable) : Type 0 where
  pub scale : q.g ≡ p.g
  pub size : q.size ≡ p.size
  pub square : length q.entries ≡ p.size * p.size
  pub entries : (i k : ℕ) → i < p.size → k < p.size → pilot_entry q i k ≡ pilot_entry p k i

-- ---- enclosures
-- a table in the place of R, its start vector, and their certificate
pub record Enclosure : Type 0 where
  pub pilot : PilotTable
  pub vector : List ℤ
  pub certificate : Certificate

-- the enclosure in memory
abbrev pub enclosure_of : Enclosed → Enclosure
enclosure_of e = record { pilot = e.pilot; vector = e.y.items; certificate = certificate_of e.radius }

-- p encloses: its start vector and then the certificate at it, or the first refusal of these two
abbrev pub IsEnclosureBy : ℕ → Table → PilotTable → Result Enclosure EncloseError → Type 0
IsEnclosureBy n t p =
    Then (Renamed of_vector (IsVectorStep n t p)) (λ y.
    Then (Renamed of_check (IsCertificateStep n t p y)) (λ c result.
    result ≡ Ok (record { pilot = p; vector = y; certificate = c })))

-- p transposed encloses
abbrev pub IsEnclosureByTransposed : ℕ → Table → PilotTable → Result Enclosure EncloseError → Type 0
IsEnclosureByTransposed n t p result = (q : PilotTable) × IsTransposed p q × IsEnclosureBy n t q result

-- p encloses, or p is refused and p transposed encloses; where both are refused, the refusal is that of p
abbrev pub IsEnclosureByEither : ℕ → Table → PilotTable → Result Enclosure EncloseError → Type 0
IsEnclosureByEither n t p = FirstGiven (IsEnclosureBy n t p) (IsEnclosureByTransposed n t p)

-- The enclosure of n rows of a working table with these middles, or the refusal: first the pilot of the middles, and then what encloses by
-- the pilot or its transpose.
abbrev pub IsEnclosureStep : ℕ → Table → (ℕ → ℕ → ℤ) → Result Enclosure EncloseError → Type 0
IsEnclosureStep n t m = Then (Renamed of_pilot (IsPilotStep n m)) (IsEnclosureByEither n t)
