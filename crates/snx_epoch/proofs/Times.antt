-- What the text of a moment reads as, and the middle of two.
use Rattle.std.proofs.Common.{◌≡◌, ◌≤◌, ◌<◌, ◌+◌, ◌-◌, ◌*◌, ◌/◌, ◌%◌, ℕ, ℤ, pos, negsuc, ◌+ℤ◌, ◌-ℤ◌, ◌≤ℤ◌, true, false, cond, nat_le, nat_lt, ◌&&◌, List, [], ◌∷◌, drop, Result, Ok, refl, sym, ap, ◌∙◌, subst, arith, inl, inr}
use Rattle.std.specs.Prelude.{◌==◌, int_le}
use Rattle.std.specs.List.{list_all, prefix_len}
use Rattle.std.specs.Char.{is_ascii_digit}
use Rattle.std.proofs.lemmas.Bool.{and_parts, and_from, and_left, and_right, or_from, ne_eqb, le-leb, le-ltb, leb-true, leb-false, cond-true, cond-false, cases_Bool}
use Rattle.jiff_core.proofs.SignedLemmas.{signed_arith}
use Rattle.jiff_core.proofs.CalendarLemmas.{days_in_year_bounds}
use Rattle.blanks.specs.Blanks.{is_blank, front_trimmed}
use Rattle.snx_epoch.specs.Moments.{IsMoment, full_year, day_number, has_day, moment, has_digit, digit_places, is_time, year_in, day_in, second_in, epoch_from, epoch_in, byte_of, time_text, IsTextOf, instant, IsMomentAt, IsMiddleOf}
use Rattle.snx_epoch.specs.declared.Epoch.{Epoch}
use Rattle.snx_epoch.specs.declared.Epoch.TheVariants.{At}
use Rattle.snx_epoch.specs.declared.EpochFault.{EpochFault}
use Rattle.snx_epoch.proofs.YearDays.{has_bounds}

-- the digits of a time
pub record TimeDigits (text : List ℕ) : Type 0 where
  pub d0 : has_digit text 0 ≡ true
  pub d1 : has_digit text 1 ≡ true
  pub d3 : has_digit text 3 ≡ true
  pub d4 : has_digit text 4 ≡ true
  pub d5 : has_digit text 5 ≡ true
  pub d7 : has_digit text 7 ≡ true
  pub d8 : has_digit text 8 ≡ true
  pub d9 : has_digit text 9 ≡ true
  pub d10 : has_digit text 10 ≡ true
  pub d11 : has_digit text 11 ≡ true

pub time_digits : (text : List ℕ) → is_time text ≡ true → TimeDigits text
time_digits text e =
    let all : list_all (has_digit text) digit_places ≡ true = (and_parts _ _ (and_parts _ _ e).0).1 in
    let p0 = and_parts (has_digit text 0) _ all in
    let p1 = and_parts (has_digit text 1) _ p0.1 in
    let p3 = and_parts (has_digit text 3) _ p1.1 in
    let p4 = and_parts (has_digit text 4) _ p3.1 in
    let p5 = and_parts (has_digit text 5) _ p4.1 in
    let p7 = and_parts (has_digit text 7) _ p5.1 in
    let p8 = and_parts (has_digit text 8) _ p7.1 in
    let p9 = and_parts (has_digit text 9) _ p8.1 in
    let p10 = and_parts (has_digit text 10) _ p9.1 in
    let p11 = and_parts (has_digit text 11) _ p10.1 in
    record { d0 = p0.0; d1 = p1.0; d3 = p3.0; d4 = p4.0; d5 = p5.0; d7 = p7.0; d8 = p8.0; d9 = p9.0; d10 = p10.0; d11 = p11.0 }

-- a text that is a time reads as the moment of its numbers
pub time_read : (rest : List ℕ) → is_time rest ≡ true → epoch_from rest ≡ moment (year_in rest) (day_in rest) (second_in rest)
time_read [] e = cc
time_read (first ∷ rest) e = cond-true _ _ _ e

pub read_is : (text rest : List ℕ) (y d s : ℕ) (r : Result Epoch EpochFault) → rest ≡ front_trimmed text → is_time rest ≡ true → y ≡ year_in rest → d ≡ day_in rest → s ≡ second_in rest → r ≡ moment y d s → r ≡ epoch_in text
read_is text rest y d s r same e year day second is =
    is ∙ (ap (λ n. moment n d s) year ∙ (ap (λ n. moment (year_in rest) n s) day ∙ (ap (λ n. moment (year_in rest) (day_in rest) n) second ∙ (sym (time_read rest e) ∙ ap epoch_from same))))

-- the byte of a digit is one, and no blank
digit_byte : (k : ℕ) → k < 10 → is_ascii_digit (byte_of k) ≡ true
digit_byte k lt = and_from _ _ (le-leb 48 (48 + k) (omega arith)) (le-leb (48 + k) 57 (omega arith))

digit_no_blank : (k : ℕ) → is_blank (byte_of k) ≡ false
digit_no_blank k = or_from _ _ (ne_eqb (48 + k) 32 (λ e. absurd (omega arith))) (ne_eqb (48 + k) 9 (λ e. absurd (omega arith)))

below_ten : (n : ℕ) → n % 10 < 10
below_ten n = omega arith

text_is_time : (y d s : ℕ) → is_time (time_text y d s) ≡ true
text_is_time y d s =
    and_from _ _ (and_from _ _ refl
    (and_from _ _ (digit_byte _ (below_ten (y / 10))) (and_from _ _ (digit_byte _ (below_ten y))
    (and_from _ _ (digit_byte _ (below_ten (d / 100))) (and_from _ _ (digit_byte _ (below_ten (d / 10))) (and_from _ _ (digit_byte _ (below_ten d))
    (and_from _ _ (digit_byte _ (below_ten (s / 10000))) (and_from _ _ (digit_byte _ (below_ten (s / 1000))) (and_from _ _ (digit_byte _ (below_ten (s / 100))) (and_from _ _ (digit_byte _ (below_ten (s / 10))) (and_from _ _ (digit_byte _ (below_ten s)) refl)))))))))))
    refl

year_digits : (y : ℕ) → y < 100 → 10 * (byte_of (y / 10 % 10) - 48) + (byte_of (y % 10) - 48) ≡ y
year_digits y lt = omega arith

day_digits : (d : ℕ) → d < 1000 → 100 * (byte_of (d / 100 % 10) - 48) + 10 * (byte_of (d / 10 % 10) - 48) + (byte_of (d % 10) - 48) ≡ d
day_digits d lt = omega arith

tens_of : (s : ℕ) → s / 10 ≡ 10 * (s / 100) + s / 10 % 10
tens_of s = omega arith

hundreds_of : (s : ℕ) → s / 100 ≡ 10 * (s / 1000) + s / 100 % 10
hundreds_of s = omega arith

thousands_of : (s : ℕ) → s / 1000 ≡ 10 * (s / 10000) + s / 1000 % 10
thousands_of s = omega arith

shift_back : (k : ℕ) → byte_of k - 48 ≡ k
shift_back k = omega arith

top_digit : (s : ℕ) → s < 100000 → s / 10000 % 10 ≡ s / 10000
top_digit s lt = omega arith

ones_of : (s : ℕ) → s ≡ 10 * (s / 10) + s % 10
ones_of s = omega arith

second_sum : (s a b c e f : ℕ) → s < 100000 → a ≡ s / 10000 % 10 → b ≡ s / 1000 % 10 → c ≡ s / 100 % 10 → e ≡ s / 10 % 10 → f ≡ s % 10 → 10000 * a + 1000 * b + 100 * c + 10 * e + f ≡ s
second_sum s a b c e f lt ea eb ec ee ef =
    let q4 = s / 10000 in
    let top : a ≡ s / 10000 = ea ∙ top_digit s lt in
    let b3 : s / 1000 ≡ 10 * (s / 10000) + b = thousands_of s ∙ ap (λ k. 10 * (s / 10000) + k) (sym eb) in
    let c2 : s / 100 ≡ 10 * (s / 1000) + c = hundreds_of s ∙ ap (λ k. 10 * (s / 1000) + k) (sym ec) in
    let e1 : s / 10 ≡ 10 * (s / 100) + e = tens_of s ∙ ap (λ k. 10 * (s / 100) + k) (sym ee) in
    let f0 : s ≡ 10 * (s / 10) + f = ones_of s ∙ ap (λ k. 10 * (s / 10) + k) (sym ef) in
    linear s (s / 10) (s / 100) (s / 1000) (s / 10000) a b c e f top b3 c2 e1 f0
  where
    linear : (s q1 q2 q3 q4 a b c e f : ℕ) → a ≡ q4 → q3 ≡ 10 * q4 + b → q2 ≡ 10 * q3 + c → q1 ≡ 10 * q2 + e → s ≡ 10 * q1 + f → 10000 * a + 1000 * b + 100 * c + 10 * e + f ≡ s
    linear s q1 q2 q3 q4 a b c e f ea eb ec ee ef = omega arith

second_digits : (s : ℕ) → s < 100000 → 10000 * (byte_of (s / 10000 % 10) - 48) + 1000 * (byte_of (s / 1000 % 10) - 48) + 100 * (byte_of (s / 100 % 10) - 48) + 10 * (byte_of (s / 10 % 10) - 48) + (byte_of (s % 10) - 48) ≡ s
second_digits s lt = second_sum s _ _ _ _ _ lt (shift_back (s / 10000 % 10)) (shift_back (s / 1000 % 10)) (shift_back (s / 100 % 10)) (shift_back (s / 10 % 10)) (shift_back (s % 10))

-- the text of three numbers reads as their moment
pub reads_time : (y d s : ℕ) → y < 100 → d < 1000 → s < 100000 → epoch_in (time_text y d s) ≡ moment y d s
reads_time y d s ly ld ls =
    let no_blanks : front_trimmed (time_text y d s) ≡ time_text y d s = ap (λ b. drop (cond b (1 + prefix_len is_blank (drop 1 (time_text y d s))) 0) (time_text y d s)) (digit_no_blank (y / 10 % 10)) in
    ap epoch_from no_blanks ∙ (time_read (time_text y d s) (text_is_time y d s) ∙ (ap (λ n. moment n (day_in (time_text y d s)) (second_in (time_text y d s))) (year_digits y ly)
    ∙ (ap (λ n. moment y n (second_in (time_text y d s))) (day_digits d ld) ∙ ap (λ n. moment y d n) (second_digits s ls))))

full_is : (year : ℕ) → 1951 ≤ year → year ≤ 2050 → full_year (year % 100) ≡ year
full_is year low high =
    elim (cases_Bool (nat_le (year % 100) 50)) [
      | inl e ↦ let le : year % 100 ≤ 50 = leb-true (year % 100) 50 e in rw e (omega arith)
      | inr e ↦ let lt : 50 < year % 100 = leb-false (year % 100) 50 e in rw e (omega arith)
    ]

-- the moment of a day of a year and a second
moment_is : (year place second : ℕ) → 1951 ≤ year → year ≤ 2050 → has_day year place ≡ true → second ≤ 86399 → moment (year % 100) place second ≡ Ok (At (day_number year place) second)
moment_is year place second low high has most =
    let least : 1 ≤ place = (has_bounds year place has).0 in
    let full = full_is year low high in
    let some : ((year % 100 == 0) && (place == 0) && (second == 0)) ≡ false = and_left _ _ (and_right _ _ (ne_eqb place 0 (λ e. absurd (omega arith)))) in
    let here : has_day (full_year (year % 100)) place ≡ true = ap (λ y. has_day y place) full ∙ has in
    let below : nat_lt 86400 second ≡ false = le-ltb 86400 second (omega arith) in
    let ne : (second == 86400) ≡ false = ne_eqb second 86400 (λ e. absurd (omega arith)) in
    cond-false _ _ _ some ∙ (cond-true _ _ _ here ∙ (cond-false _ _ _ below ∙ (cond-false _ _ _ ne ∙ ap (λ y. Ok (At (day_number y place) second)) full)))

pub reads_text : (day : ℤ) (second : ℕ) (text : List ℕ) → IsMoment (At day second) → IsTextOf (At day second) text → epoch_in text ≡ Ok (At day second)
reads_text day second text m t =
    let most : second ≤ 86399 = leb-true second 86399 (and_parts (int_le (negsuc 6939) day && int_le day (pos 29584)) (nat_le second 86399) m).1 in
    let b = has_bounds t.0 t.1 t.4.has in
    let few : t.1 < 1000 = omega (arith, b.1, (days_in_year_bounds (pos t.0)).0) in
    let century : t.0 % 100 < 100 = omega arith in
    ap epoch_in t.5 ∙ (reads_time (t.0 % 100) t.1 second century few (omega arith) ∙ (moment_is t.0 t.1 second t.2 t.3 t.4.has most ∙ ap (λ z. Ok (At z second)) (sym t.4.number)))

-- half of the sum of two numbers of seconds, as instants
half_of : (a b : ℤ) (x y : ℕ) → pos x ≡ a +ℤ pos 599616000 → pos y ≡ b +ℤ pos 599616000
    → let half = pos ((x + y) / 2) -ℤ pos 599616000 in ((half +ℤ half) ≤ℤ (a +ℤ b)) × ((a +ℤ b) ≤ℤ (half +ℤ half +ℤ pos 1))
half_of a b x y ea eb = (omega (arith, signed_arith), omega (arith, signed_arith))

pub middle_is : (other m : Epoch) (d : ℤ) (s : ℕ) (e : ℤ) (t x y : ℕ) → other ≡ At e t → pos x ≡ instant d s +ℤ pos 599616000 → pos y ≡ instant e t +ℤ pos 599616000 → IsMomentAt (pos ((x + y) / 2) -ℤ pos 599616000) m → IsMiddleOf (At d s) other m
middle_is other m d s e t x y is ex ey at =
    let h = half_of (instant d s) (instant e t) x y ex ey in
    subst (λ o. IsMiddleOf (At d s) o m) (sym is) (pos ((x + y) / 2) -ℤ pos 599616000, at, h.0, h.1)
