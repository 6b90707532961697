-- What a text of a moment reads as is a moment: a day from 1951-01-01 to 2050-12-31 and a second of it, or Never.
use Rattle.std.proofs.Common.{◌≡◌, ◌≤◌, ◌<◌, ◌+◌, ◌-◌, ◌*◌, ℕ, ℤ, pos, negsuc, ◌+ℤ◌, ◌≤ℤ◌, Bool, true, false, ◌&&◌, if◌then◌else◌, nat_le, nat_lt, List, [], ◌∷◌, length, Some, None, Result, Ok, Err, refl, subst, arith}
use Rattle.std.specs.Prelude.{◌==◌, int_le, slice_index}
use Rattle.std.specs.Char.{is_ascii_digit}
use Rattle.std.proofs.lemmas.Bool.{and_parts, and_from, le-leb, leb-true, leb-false, ltb-false, eqb-false, eq-eqb}
use Rattle.std.proofs.lemmas.Int.{ints}
use Rattle.blanks.specs.Blanks.{front_trimmed}
use Rattle.snx_epoch.specs.Moments.{IsMoment, full_year, day_number, has_day, at_second, moment, digit_in, is_time, year_in, day_in, second_in, epoch_from, epoch_in}
use Rattle.snx_epoch.specs.declared.Epoch.{Epoch}
use Rattle.snx_epoch.specs.declared.Epoch.TheVariants.{Never, At}
use Rattle.snx_epoch.specs.declared.EpochFault.{EpochFault}
use Rattle.snx_epoch.specs.declared.EpochFault.TheVariants as faults
use Rattle.snx_epoch.proofs.Times.{time_digits}
use Rattle.snx_epoch.proofs.YearDays.{low_day, last_day, high_day}
use Rattle.control_doc.specs.Texts.{moment_of, created_text}

-- a day and a second in their ranges
in_range : (day : ℤ) (second : ℕ) → negsuc 6939 ≤ℤ day → day ≤ℤ pos 29584 → second ≤ 86399 → IsMoment (At day second)
in_range day second low high most =
    let from : int_le (negsuc 6939) day ≡ true = yes_unless (int_le (negsuc 6939) day) (λ e. absurd (omega (arith, ints, low, e))) in
    let to : int_le day (pos 29584) ≡ true = yes_unless (int_le day (pos 29584)) (λ e. absurd (omega (arith, ints, high, e))) in
    and_from _ _ (and_from _ _ from to) (le-leb second 86399 most)
  where
    yes_unless : (b : Bool) → (b ≡ false → ⊥) → b ≡ true
    yes_unless true unless = refl
    yes_unless false unless = absurd (unless refl)

-- ---- years of two digits
full_range : (year : ℕ) → year < 100 → (1951 ≤ full_year year) × ((full_year year ≤ 2050) × (full_year year ≡ 2050 → year ≡ 50))
full_range year two = by_test (nat_le year 50) refl
  where
    by_test : (b : Bool) → nat_le year 50 ≡ b → (let full = if b then 2000 + year else 1900 + year in (1951 ≤ full) × ((full ≤ 2050) × (full ≡ 2050 → year ≡ 50)))
    by_test true p = let le : year ≤ 50 = leb-true year 50 p in (omega arith, (omega arith, λ e. omega arith))
    by_test false p = let gt : 50 < year = leb-false year 50 p in (omega arith, (omega arith, λ e. absurd (omega arith)))

year_range : (text : List ℕ) → is_time text ≡ true → year_in text < 100
year_range text time =
    let d = time_digits text time in
    two (digit_in text 0) (digit_in text 1) (one_digit (slice_index text 0) d.d0) (one_digit (slice_index text 1) d.d1)
  where
    one_digit : (byte : ℕ) → is_ascii_digit byte ≡ true → byte - 48 < 10
    one_digit byte e = let p = and_parts (nat_le 48 byte) (nat_le byte 57) e in let high : byte ≤ 57 = leb-true byte 57 p.1 in omega arith

    two : (a b : ℕ) → a < 10 → b < 10 → 10 * a + b < 100
    two a b la lb = omega arith

-- ---- the moment of three numbers
second_value : (year day second : ℕ) (e : Epoch) → year < 100 → has_day (full_year year) day ≡ true → at_second year day second ≡ Ok e → IsMoment e
second_value year day second e two has h = by_test (nat_lt 86400 second) (second == 86400) ((year == 50) && (day == 365)) refl refl refl h
  where
    n : ℤ
    n = day_number (full_year year) day

    full : (1951 ≤ full_year year) × ((full_year year ≤ 2050) × (full_year year ≡ 2050 → year ≡ 50))
    full = full_range year two

    both : (a b : Bool) → a ≡ true → b ≡ true → (a && b) ≡ false → ⊥
    both true true p q r = absurd (cc)
    both true false p q r = absurd (cc)
    both false b p q r = absurd (cc)

    not_last : ((year == 50) && (day == 365)) ≡ false → full_year year ≡ 2050 → day ≡ 365 → ⊥
    not_last p y d = both (year == 50) (day == 365) (eq-eqb year 50 (full.1.1 y)) (eq-eqb day 365 d) p

    by_test : (a b c : Bool) → nat_lt 86400 second ≡ a → (second == 86400) ≡ b → ((year == 50) && (day == 365)) ≡ c
        → (let r : Result Epoch EpochFault = if a then Err faults.Second else (if b then (if c then Err faults.Second else Ok (At (n +ℤ pos 1) 0)) else Ok (At n second)) in r ≡ Ok e) → IsMoment e
    by_test true b c p q r h = absurd (cc)
    by_test false true true p q r h = absurd (cc)
    by_test false true false p q r h =
        let low = low_day (full_year year) day full.0 has in
        let high = last_day (full_year year) day full.1.0 has (not_last r) in
        let same : At (n +ℤ pos 1) 0 ≡ e = cc in
        subst IsMoment same (in_range (n +ℤ pos 1) 0 (omega (arith, ints, low)) (omega (arith, ints, high)) (omega arith))
    by_test false false c p q r h =
        let low = low_day (full_year year) day full.0 has in
        let high = high_day (full_year year) day full.1.0 has in
        let most : second ≤ 86400 = ltb-false 86400 second p in
        let other : second ≡ 86400 → ⊥ = eqb-false second 86400 q in
        let same : At n second ≡ e = cc in
        subst IsMoment same (in_range n second low high (omega arith))

moment_value : (year day second : ℕ) (e : Epoch) → year < 100 → moment year day second ≡ Ok e → IsMoment e
moment_value year day second e two h = by_test ((year == 0) && (day == 0) && (second == 0)) (has_day (full_year year) day) refl h
  where
    by_test : (a b : Bool) → has_day (full_year year) day ≡ b → (let r : Result Epoch EpochFault = if a then Ok Never else (if b then at_second year day second else Err faults.Day) in r ≡ Ok e) → IsMoment e
    by_test true b p h = let same : Never ≡ e = cc in subst IsMoment same refl
    by_test false true p h = second_value year day second e two p h
    by_test false false p h = absurd (cc)

-- ---- the moment of a text
from_value : (text : List ℕ) (e : Epoch) → epoch_from text ≡ Ok e → IsMoment e
from_value [] e h = let same : Never ≡ e = cc in subst IsMoment same refl
from_value (first ∷ rest) e h = by_test (is_time (first ∷ rest)) refl h
  where
    by_test : (a : Bool) → is_time (first ∷ rest) ≡ a
        → (let r : Result Epoch EpochFault = if a then moment (year_in (first ∷ rest)) (day_in (first ∷ rest)) (second_in (first ∷ rest)) else Err faults.Shape in r ≡ Ok e) → IsMoment e
    by_test true p h = moment_value (year_in (first ∷ rest)) (day_in (first ∷ rest)) (second_in (first ∷ rest)) e (year_range (first ∷ rest) p) h
    by_test false p h = absurd (cc)

of_value : (r : Result Epoch EpochFault) (e : Epoch) → moment_of r ≡ Some e → r ≡ Ok e
of_value (Ok m) e h = cc
of_value (Err fault) e h = absurd (cc)

pub created_value : (text : List ℕ) (e : Epoch) → created_text text ≡ Some e → IsMoment e
created_value text e h = by_test (nat_le 12 (length text) && nat_le (length text) 12) h
  where
    by_test : (a : Bool) → (if a then moment_of (epoch_in text) else None) ≡ Some e → IsMoment e
    by_test true h = from_value (front_trimmed text) e (of_value (epoch_in text) e h)
    by_test false h = absurd (cc)
