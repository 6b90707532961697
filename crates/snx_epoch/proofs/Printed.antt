-- The text of a moment is that of its year and its place in it, and there is one.
use Rattle.std.proofs.Common.{◌≡◌, ◌≤◌, ◌<◌, ◌+◌, ◌%◌, ℕ, zero, suc, ℤ, pos, negsuc, ◌+ℤ◌, ◌-ℤ◌, ◌≤ℤ◌, ◌<ℤ◌, ◌&&◌, Bool, true, false, List, Some, refl, sym, ap, ◌∙◌, subst, arith, inl, inr}
use Rattle.std.specs.Prelude.{int_le, int_lt, nat_le, unsigned_abs, unwrap_or}
use Rattle.std.specs.List.{find, range_with_len}
use Rattle.std.proofs.lemmas.Bool.{and_parts, and_from, and_right, cond-true, cond-false, cases_eq, le-leb}
use Rattle.std.proofs.lemmas.Int.{by_lt_z}
use Rattle.jiff_core.specs.Calendar.{days_in_year}
use Rattle.jiff_core.proofs.SignedLemmas.{signed_arith}
use Rattle.jiff_core.proofs.CalendarLemmas.{days_from_civil-day_count, day_count-next_year, day_count-later_year}
use Rattle.snx_epoch.specs.Moments.{IsMoment, day_number, time_text, IsDayOf, IsTextOf, lies_in, calendar_year, place_in_year, epoch_text}
use Rattle.snx_epoch.specs.declared.Epoch.{Epoch}
use Rattle.snx_epoch.specs.declared.Epoch.TheVariants.{Never, At}
use Rattle.snx_epoch.proofs.YearDays.{has_bounds, first-1951, first-2051}

-- ---- the first number that passes a test
found : (test : ℕ → Bool) (from count n : ℕ) → from ≤ n → n < from + count → test n ≡ true → ((before : ℕ) → before < n → test before ≡ false) → find test (range_with_len from count) ≡ Some n
found test from zero n low high passes fails = absurd (omega arith)
found test from (suc count) n low high passes fails =
    elim (cases_eq from n) [
      | inl e ↦ cond-true _ _ _ (subst (λ x. test x ≡ true) (sym e) passes) ∙ ap Some e
      | inr ne ↦ cond-false _ _ _ (fails from (omega arith)) ∙ found test (from + 1) count n (omega arith) (omega arith) passes fails
    ]

-- ---- the year of a day
next_first : (year : ℕ) → day_number (year + 1) 1 ≡ day_number year 1 +ℤ pos (days_in_year (pos year))
next_first year =
    omega (arith, signed_arith, days_from_civil-day_count (pos year) 1 1, days_from_civil-day_count (pos (year + 1)) 1 1, day_count-next_year (pos year) (pos (year + 1)) (omega (arith, signed_arith)) (omega (arith, signed_arith)))

later_first : (year later : ℕ) → year < later → day_number (year + 1) 1 ≤ℤ day_number later 1
later_first year later lt =
    omega (arith, signed_arith, days_from_civil-day_count (pos year) 1 1, days_from_civil-day_count (pos later) 1 1, next_first year, day_count-later_year (pos year) (pos later) (omega (arith, signed_arith)) (omega (arith, signed_arith)))

yes_unless : (b : Bool) → (b ≡ false → ⊥) → b ≡ true
yes_unless true unless = refl
yes_unless false unless = absurd (unless refl)

no_unless : (b : Bool) → (b ≡ true → ⊥) → b ≡ false
no_unless true unless = absurd (unless refl)
no_unless false unless = refl

size_of : (z : ℤ) → pos 0 ≤ℤ z → pos (unsigned_abs z) ≡ z
size_of (pos n) low = refl
size_of (negsuc n) low = absurd (omega (arith, signed_arith, low))

module _ (day : ℤ) (year place : ℕ) (is : IsDayOf day year place) where
  first_below : day_number year 1 ≤ℤ day
  first_below = let b = has_bounds year place is.has in omega (arith, signed_arith, is.number, b.0)

  before_next : day <ℤ day_number (year + 1) 1
  before_next = let b = has_bounds year place is.has in omega (arith, signed_arith, is.number, b.0, b.1, next_first year)

  lies_there : lies_in day year ≡ true
  lies_there =
      and_from _ _ (yes_unless (int_le (day_number year 1) day) (λ e. absurd (omega (arith, signed_arith, first_below, e))))
      (yes_unless (int_lt day (day_number (year + 1) 1)) (λ e. absurd (omega (arith, signed_arith, before_next, e))))

  lies_not_before : (other : ℕ) → other < year → lies_in day other ≡ false
  lies_not_before other lt = and_right _ _ (no_unless (int_lt day (day_number (other + 1) 1)) (λ e. absurd (omega (arith, signed_arith, first_below, later_first other year lt, e))))

  year_is : 1951 ≤ year → year ≤ 2050 → calendar_year day ≡ year
  unfolding calendar_year
  year_is low high = ap (λ o. unwrap_or o 0) (found (lies_in day) 1951 100 year low (omega arith) lies_there lies_not_before)

  place_is : 1951 ≤ year → year ≤ 2050 → place_in_year day ≡ place
  place_is low high =
      let b = has_bounds year place is.has in
      ap (λ y. unsigned_abs (day -ℤ day_number y 1) + 1) (year_is low high) ∙ omega (arith, signed_arith, is.number, b.0, size_of (day -ℤ day_number year 1) (omega (arith, signed_arith, first_below)))

  text_at : 1951 ≤ year → year ≤ 2050 → (second : ℕ) → time_text (year % 100) place second ≡ epoch_text (At day second)
  text_at low high second = ap (λ y. time_text (y % 100) place second) (sym (year_is low high)) ∙ ap (λ p. time_text (calendar_year day % 100) p second) (sym (place_is low high))

-- ---- the relation holds of no other text
pub text_is : (e : Epoch) (text : List ℕ) → IsTextOf e text → text ≡ epoch_text e
text_is Never text is = is
text_is (At day second) text is = is.5 ∙ text_at day is.0 is.1 is.4 is.2 is.3 second

pub one_text : (e : Epoch) (one other : List ℕ) → IsTextOf e one → IsTextOf e other → one ≡ other
one_text e one other first second = text_is e one first ∙ sym (text_is e other second)

-- ---- and it holds of that text
-- the year of a day before a year
year_before : (day : ℤ) (count end : ℕ) → end ≡ 1951 + count → day_number 1951 1 ≤ℤ day → day <ℤ day_number end 1
    → (year : ℕ) × (1951 ≤ year) × (year < end) × (day_number year 1 ≤ℤ day) × (day <ℤ day_number (year + 1) 1)
year_before day zero end is low high = let there : day <ℤ day_number 1951 1 = subst (λ y. day <ℤ day_number y 1) (omega arith) high in absurd (omega (arith, signed_arith))
year_before day (suc count) end is low high =
    by_lt_z day (day_number (1951 + count) 1)
    (λ lt. let r = year_before day count (1951 + count) refl low lt in (r.0, r.1, omega (arith, r.2), r.3, r.4))
    (λ le. (1951 + count, omega arith, omega arith, le, subst (λ y. day <ℤ day_number y 1) (omega arith) high))

day_lies : (day : ℤ) (year : ℕ) → day_number year 1 ≤ℤ day → day <ℤ day_number (year + 1) 1 → IsDayOf day year (unsigned_abs (day -ℤ day_number year 1) + 1)
day_lies day year low high =
    let size = size_of (day -ℤ day_number year 1) (omega (arith, signed_arith)) in
    record {
      has = and_from _ _ (le-leb 1 (unsigned_abs (day -ℤ day_number year 1) + 1) (omega arith)) (le-leb (unsigned_abs (day -ℤ day_number year 1) + 1) (days_in_year (pos year)) (omega (arith, signed_arith, size, next_first year)));
      number = omega (arith, signed_arith, size);
    }

dated : (day : ℤ) (second year place : ℕ) → 1951 ≤ year → year ≤ 2050 → IsDayOf day year place → IsTextOf (At day second) (epoch_text (At day second))
dated day second year place low high is = (year, place, low, high, is, sym (text_at day year place is low high second))

pub has_text : (e : Epoch) → IsMoment e → IsTextOf e (epoch_text e)
has_text Never is = refl
has_text (At day second) is =
    let range = and_parts (int_le (negsuc 6939) day && int_le day (pos 29584)) (nat_le second 86399) is in
    let ends = and_parts (int_le (negsuc 6939) day) (int_le day (pos 29584)) range.0 in
    let y = year_before day 100 2051 refl (omega (arith, signed_arith, first-1951, ends.0)) (omega (arith, signed_arith, first-2051, ends.1)) in
    let of_year = day_lies day y.0 y.3 y.4 in
    let high : y.0 ≤ 2050 = omega (arith, y.2) in
    dated day second y.0 (unsigned_abs (day -ℤ day_number y.0 1) + 1) y.1 high of_year
