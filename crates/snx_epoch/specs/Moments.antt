-- Moments of a SINEX text: `YY:DDD:SSSSS`, a year of two digits, the day in the year and the second in the day (SINEX 2.02 format description).
-- Days are counted from 1970-01-01 by the Gregorian calendar of `jiff_core`.
use Rattle.std.specs.Prelude.{◌≡◌, ◌≤◌, ◌+◌, ◌-◌, ◌*◌, ◌/◌, ◌%◌, ℕ, Bool, true, ◌&&◌, ◌==◌, nat_le, nat_lt, if◌then◌else◌, List, [], ◌∷◌, drop, length, Result, Ok, Err, ℤ, pos, negsuc, ◌+ℤ◌, ◌-ℤ◌, ◌*ℤ◌, ◌≤ℤ◌, int_le, int_lt, unsigned_abs, unwrap_or, slice_index, IsTrue}
use Rattle.std.specs.List.{list_all, find, range_with_len}
use Rattle.std.specs.Char.{is_ascii_digit}
use Rattle.std.specs.Ordering.{nat_cmp, int_cmp, ordering_then}
use Rattle.std.specs.declared.cmp.Ordering.{Ordering}
use Rattle.std.specs.declared.cmp.Ordering.TheVariants.{Less, Equal, Greater}
use Rattle.blanks.specs.Blanks.{is_blank_text, front_trimmed}
use Rattle.jiff_core.specs.Calendar.{days_from_civil, days_in_year}
use Rattle.snx_epoch.specs.declared.Epoch.{Epoch}
use Rattle.snx_epoch.specs.declared.Epoch.TheVariants.{Never, At}
use Rattle.snx_epoch.specs.declared.EpochFault.{EpochFault}
use Rattle.snx_epoch.specs.declared.EpochFault.TheVariants as faults

-- a day from 1951-01-01 to 2050-12-31 and a second of it
abbrev pub is_moment : Epoch → Bool
is_moment Never = true
is_moment (At day second) = int_le (negsuc 6939) day && int_le day (pos 29584) && nat_le second 86399

abbrev pub IsMoment : Epoch → Type 0
IsMoment e = IsTrue (is_moment e)

-- years up to 50 are those from 2000 on
abbrev pub full_year : ℕ → ℕ
full_year year = if nat_le year 50 then 2000 + year else 1900 + year

-- the day number of a place in a year
abbrev pub day_number : ℕ → ℕ → ℤ
day_number year day = days_from_civil (pos year) 1 1 +ℤ (pos day -ℤ pos 1)

-- the year has a day of that place
abbrev pub has_day : ℕ → ℕ → Bool
has_day year day = nat_le 1 day && nat_le day (days_in_year (pos year))

-- second 86400 is second 0 of the next day, which 2050-12-31 has not
abbrev pub at_second : ℕ → ℕ → ℕ → Result Epoch EpochFault
at_second year day second =
    if nat_lt 86400 second then Err faults.Second
    else (if second == 86400
    then (if (year == 50) && (day == 365) then Err faults.Second else Ok (At (day_number (full_year year) day +ℤ pos 1) 0))
    else Ok (At (day_number (full_year year) day) second))

-- the moment of a year of two digits, a day of the year and a second, or the first fault
abbrev pub moment : ℕ → ℕ → ℕ → Result Epoch EpochFault
moment year day second =
    if (year == 0) && (day == 0) && (second == 0) then Ok Never
    else (if has_day (full_year year) day then at_second year day second else Err faults.Day)

-- the byte at an index is a digit, and which
abbrev pub has_digit : List ℕ → ℕ → Bool
has_digit text i = is_ascii_digit (slice_index text i)

abbrev pub digit_in : List ℕ → ℕ → ℕ
digit_in text i = slice_index text i - 48

-- where it has its digits
abbrev pub digit_places : List ℕ
digit_places = 0 ∷ 1 ∷ 3 ∷ 4 ∷ 5 ∷ 7 ∷ 8 ∷ 9 ∷ 10 ∷ 11 ∷ []

-- a text begins with `YY:DDD:SSSSS`, and blanks alone follow
abbrev pub is_time : List ℕ → Bool
is_time text =
    nat_le 12 (length text)
    && (slice_index text 2 == 58) && (slice_index text 6 == 58)
    && list_all (has_digit text) digit_places
    && is_blank_text (drop 12 text)

-- its year of two digits, its day and its second
abbrev pub year_in : List ℕ → ℕ
year_in text = 10 * digit_in text 0 + digit_in text 1

abbrev pub day_in : List ℕ → ℕ
day_in text = 100 * digit_in text 3 + 10 * digit_in text 4 + digit_in text 5

abbrev pub second_in : List ℕ → ℕ
second_in text = 10000 * digit_in text 7 + 1000 * digit_in text 8 + 100 * digit_in text 9 + 10 * digit_in text 10 + digit_in text 11

-- the moment of a text that begins with no blank
abbrev pub epoch_from : List ℕ → Result Epoch EpochFault
epoch_from [] = Ok Never
epoch_from (first ∷ rest) =
    if is_time (first ∷ rest) then moment (year_in (first ∷ rest)) (day_in (first ∷ rest)) (second_in (first ∷ rest))
    else Err faults.Shape

-- the moment that a text writes, with blanks around it, or its first fault; blanks alone are Never
abbrev pub epoch_in : List ℕ → Result Epoch EpochFault
epoch_in text = epoch_from (front_trimmed text)

-- the byte of a decimal digit
abbrev pub byte_of : ℕ → ℕ
byte_of digit = 48 + digit

-- `YY:DDD:SSSSS`
abbrev pub time_text : ℕ → ℕ → ℕ → List ℕ
time_text year day second =
    byte_of (year / 10 % 10) ∷ byte_of (year % 10) ∷ 58
    ∷ byte_of (day / 100 % 10) ∷ byte_of (day / 10 % 10) ∷ byte_of (day % 10) ∷ 58
    ∷ byte_of (second / 10000 % 10) ∷ byte_of (second / 1000 % 10) ∷ byte_of (second / 100 % 10) ∷ byte_of (second / 10 % 10) ∷ byte_of (second % 10) ∷ []

-- the place of a day in its year
pub record IsDayOf (day : ℤ) (year place : ℕ) : Type 0 where
  pub has : has_day year place ≡ true
  pub number : day ≡ day_number year place

-- the text of a moment, by a year and a place in it
abbrev pub IsTextOf : Epoch → List ℕ → Type 0
IsTextOf Never text = text ≡ time_text 0 0 0
IsTextOf (At day second) text = (year : ℕ) × (place : ℕ) × (1951 ≤ year) × (year ≤ 2050) × IsDayOf day year place × (text ≡ time_text (year % 100) place second)

-- a day lies in a year: from its 1 January on, and before that of the next
abbrev pub lies_in : ℤ → ℕ → Bool
lies_in day year = int_le (day_number year 1) day && int_lt day (day_number (year + 1) 1)

-- the year of a day, of the hundred from 1951 on
unfoldable pub calendar_year : ℤ → ℕ
calendar_year day = unwrap_or (find (lies_in day) (range_with_len 1951 100)) 0

-- its place in that year, from 1
abbrev pub place_in_year : ℤ → ℕ
place_in_year day = unsigned_abs (day -ℤ day_number (calendar_year day) 1) + 1

-- the text of a moment; `IsTextOf` holds of it and of no other (`proofs/Printed.antt`)
abbrev pub epoch_text : Epoch → List ℕ
epoch_text Never = time_text 0 0 0
epoch_text (At day second) = time_text (calendar_year day % 100) (place_in_year day) second

-- seconds from 1970-01-01 on
abbrev pub instant : ℤ → ℕ → ℤ
instant day second = day *ℤ pos 86400 +ℤ pos second

-- the moment of an instant
abbrev pub IsMomentAt : ℤ → Epoch → Type 0
IsMomentAt seconds Never = ⊥
IsMomentAt seconds (At day second) = (second ≤ 86399) × (instant day second ≡ seconds)

-- a moment is that of half of a sum of two instants, floored to a second
abbrev pub IsHalfOf : ℤ → Epoch → Type 0
IsHalfOf sum m = (half : ℤ) × IsMomentAt half m × ((half +ℤ half) ≤ℤ sum) × (sum ≤ℤ (half +ℤ half +ℤ pos 1))

-- the moment half way between two; Never where either is Never
abbrev pub IsMiddleOf : Epoch → Epoch → Epoch → Type 0
IsMiddleOf Never b m = m ≡ Never
IsMiddleOf a Never m = m ≡ Never
IsMiddleOf (At d s) (At e t) m = IsHalfOf (instant d s +ℤ instant e t) m

-- the order of moments: Never first, then by day and second
abbrev pub epoch_cmp : Epoch → Epoch → Ordering
epoch_cmp Never Never = Equal
epoch_cmp Never (At e t) = Less
epoch_cmp (At d s) Never = Greater
epoch_cmp (At d s) (At e t) = ordering_then (int_cmp d e) (nat_cmp s t)
