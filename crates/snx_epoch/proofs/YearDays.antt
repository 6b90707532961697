-- The day numbers of the years from 1951 to 2050.
use Rattle.std.proofs.Common.{◌≡◌, ◌≤◌, ◌<◌, ℕ, ℤ, pos, negsuc, ◌+ℤ◌, ◌-ℤ◌, ◌≤ℤ◌, refl, sym, ap, ◌∙◌, arith, true, Option, Some, None, IfSome, is_some, inl, inr}
use Rattle.std.proofs.lemmas.Bool.{and_parts, and_from, leb-true, le-leb, cases_eq, cases_order}
use Rattle.std.proofs.lemmas.Int.{by_lt_z}
use Rattle.jiff_core.specs.Calendar.{days_from_civil, day_of_year, day_count, days_in_year, IsCivilDate}
use Rattle.jiff_core.proofs.SignedLemmas.{signed_arith}
use Rattle.jiff_core.proofs.MarchLemmas.{day_count-early}
use Rattle.jiff_core.proofs.CalendarLemmas.{days_from_civil-day_count, day_count-day_of_year, day_count-next_year, day_count-later_year, day_count-lt_year, day_of_year_bound}
use Rattle.snx_epoch.specs.Moments.{day_number, has_day, IsDayOf}

pub from_new_year : (y : ℤ) (m d n : ℕ) → 1 ≤ d → day_of_year y m d ≡ n → days_from_civil y m d ≡ days_from_civil y 1 1 +ℤ (pos n -ℤ pos 1)
from_new_year y m d n first e = omega (arith, signed_arith, days_from_civil-day_count y m d, days_from_civil-day_count y 1 1, day_count-day_of_year y m d first)

count-1951 : day_count (pos 1951) 1 1 ≡ 4_365_013
count-1951 = day_count-early (pos 1951) 11950 1 1 refl (omega arith) (omega arith) (omega arith)

count-2050 : day_count (pos 2050) 1 1 ≡ 4_401_173
count-2050 = day_count-early (pos 2050) 12049 1 1 refl (omega arith) (omega arith) (omega arith)

-- a year from 1951 on begins no earlier than 1951, and one up to 2050 ends no later than 2050
begins-after : (year : ℕ) → 1951 ≤ year → 4_365_013 ≤ day_count (pos year) 1 1
begins-after year low =
    elim (cases_eq year 1951) [
      | inl e ↦ rw e (omega (arith, count-1951))
      | inr ne ↦ omega (arith, signed_arith, count-1951, day_count-later_year (pos 1951) (pos year) (omega (arith, signed_arith)) (omega (arith, signed_arith)))
    ]

days-2050 : days_in_year (pos 2050) ≡ 365
days-2050 = refl

-- the first day of 1951, and the day after the last of 2050
pub first-1951 : day_number 1951 1 ≡ negsuc 6939
first-1951 = omega (arith, signed_arith, count-1951, days_from_civil-day_count (pos 1951) 1 1)

pub first-2051 : day_number 2051 1 ≡ pos 29585
first-2051 =
    omega (arith, signed_arith, count-2050, days-2050, days_from_civil-day_count (pos 2051) 1 1, day_count-next_year (pos 2050) (pos 2051) (omega (arith, signed_arith)) refl)

pub has_bounds : (year place : ℕ) → has_day year place ≡ true → (1 ≤ place) × (place ≤ days_in_year (pos year))
has_bounds year place has = let p = and_parts _ _ has in (leb-true 1 place p.0, leb-true place (days_in_year (pos year)) p.1)

pub low_day : (year place : ℕ) → 1951 ≤ year → has_day year place ≡ true → negsuc 6939 ≤ℤ day_number year place
low_day year place low has =
    let p = has_bounds year place has in
    omega (arith, signed_arith, begins-after year low, days_from_civil-day_count (pos year) 1 1, p.0)

pub last_day : (year place : ℕ) → year ≤ 2050 → has_day year place ≡ true → (year ≡ 2050 → place ≡ 365 → ⊥) → day_number year place ≤ℤ pos 29583
last_day year place high has other =
    let p = has_bounds year place has in
    elim (cases_eq year 2050) [
      | inl e ↦
          let few : place ≤ 365 = omega (arith, p.1, ap (λ y. days_in_year (pos y)) e, days-2050) in
          let ne : place ≡ 365 → ⊥ = other e in
          let fewer : place < 365 = elim (cases_order place 365) [ inl same ↦ absurd (ne same) | inr lt ↦ elim lt [ inl l ↦ l | inr g ↦ absurd (omega arith) ] ] in
          rw e (omega (arith, signed_arith, count-2050, days_from_civil-day_count (pos 2050) 1 1))
      | inr ne ↦ omega (arith, signed_arith, count-2050, days_from_civil-day_count (pos year) 1 1, p.0, p.1, day_count-later_year (pos year) (pos 2050) (omega (arith, signed_arith)) (omega (arith, signed_arith)))
    ]

pub high_day : (year place : ℕ) → year ≤ 2050 → has_day year place ≡ true → day_number year place ≤ℤ pos 29584
high_day year place high has =
    let p = has_bounds year place has in
    elim (cases_eq year 2050) [
      | inl e ↦
          let few : place ≤ 365 = omega (arith, p.1, ap (λ y. days_in_year (pos y)) e, days-2050) in
          rw e (omega (arith, signed_arith, count-2050, days_from_civil-day_count (pos 2050) 1 1))
      | inr ne ↦ omega (arith, signed_arith, count-2050, days_from_civil-day_count (pos year) 1 1, p.0, p.1, day_count-later_year (pos year) (pos 2050) (omega (arith, signed_arith)) (omega (arith, signed_arith)))
    ]

-- the year of a day from 1951-01-01 to 2050-12-31
pub low_year : (y : ℤ) (m d : ℕ) → IsCivilDate y m d → negsuc 6939 ≤ℤ days_from_civil y m d → pos 1951 ≤ℤ y
low_year y m d civil low =
    by_lt_z y (pos 1951)
    (λ lt. absurd (omega (arith, signed_arith, count-1951, days_from_civil-day_count y m d, day_count-lt_year y m d (pos 1951) 1 1 civil (omega arith) lt)))
    (λ le. le)

pub high_year : (y : ℤ) (m d : ℕ) → IsCivilDate y m d → days_from_civil y m d ≤ℤ pos 29584 → y ≤ℤ pos 2050
high_year y m d civil high =
    by_lt_z (pos 2050) y
    (λ lt. absurd (omega (arith, signed_arith, count-2050, days-2050, days_from_civil-day_count y m d, day_count-day_of_year y m d civil.2.0, day_count-later_year (pos 2050) y (omega (arith, signed_arith)) lt)))
    (λ le. le)

-- the place of a day in the year of its date
pub place_is : (y : ℤ) (m d year n : ℕ) (day : ℤ) → IsCivilDate y m d → y ≡ pos year → day_of_year y m d ≡ n → days_from_civil y m d ≡ day → IsDayOf day year n
place_is y m d year n day civil same place number =
    let most : n ≤ days_in_year (pos year) = omega (arith, place, day_of_year_bound y m d civil, ap days_in_year same) in
    let least : 1 ≤ n = omega (arith, place, civil.2.0) in
    record {
      has = and_from _ _ (le-leb 1 n least) (le-leb n (days_in_year (pos year)) most);
      number = sym number ∙ (from_new_year y m d n civil.2.0 place ∙ ap (λ z. days_from_civil z 1 1 +ℤ (pos n -ℤ pos 1)) same);
    }

-- the range of a day that the calendar may have found
pub ranged : (o : Option ℤ) (year place : ℕ) → 1951 ≤ year → year ≤ 2050 → IfSome o (λ n. n ≡ day_number year place) → is_some o ≡ has_day year place
    → IfSome o (λ n. negsuc 6939 ≤ℤ n) × IfSome o (λ n. n ≤ℤ pos 29584) × IfSome o (λ n. (year ≡ 2050 → place ≡ 365 → ⊥) → n ≤ℤ pos 29583)
ranged None year place low high value has = (tt, tt, tt)
ranged (Some n) year place low high value has =
    (rw value (low_day year place low (sym has)), rw value (high_day year place high (sym has)), λ other. rw value (last_day year place high (sym has) other))
