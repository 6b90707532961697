-- Digits, and the numbers that they write.
use Rattle.std.proofs.Common.{◌≡◌, ◌∷◌, ◌++◌, ℕ, suc, ◌+◌, ◌-◌, ◌*◌, ◌≤◌, ◌<◌, ◌^◌, List, [], length, get_or, true, ap, arith}
use Rattle.std.specs.List.{AllByRecursion, list_all}
use Rattle.std.specs.Char.{is_ascii_digit}
use Rattle.std.proofs.lemmas.Bool.{leb-true, and_parts}
use Rattle.std.proofs.lemmas.Nat.{pow-add}
use Rattle.std.proofs.lemmas.List.Sums.{AllPass-from_list_all}
use Rattle.std.proofs.Math.Nat.{mul-le-mul_right}
use Rattle.decimal_e.specs.Digits.{number}

pub digit_below : (b : ℕ) → is_ascii_digit b ≡ true → b - 48 ≤ 9
digit_below b h = omega (arith, leb-true b 57 (and_parts _ _ h).1)

pub digit_at : (text : List ℕ) (i : ℕ) → list_all is_ascii_digit text ≡ true → i < length text → get_or text i 0 - 48 ≤ 9
digit_at text i all within = digit_below (get_or text i 0) (AllPass-from_list_all is_ascii_digit text all i 0 within)

pub one_more : (n places digit : ℕ) → n < 10 ^ places → digit ≤ 9 → n * 10 + digit < 10 ^ (places + 1)
one_more n places digit h l = let p : 10 ^ (places + 1) ≡ 10 ^ places * 10 = pow-add 10 places 1 in omega (arith, p)

-- ---- whole texts of digits
abbrev pub AreDigits : List ℕ → Type 0
AreDigits text = AllByRecursion (λ b. (48 ≤ b) × (b ≤ 57)) text

pub are_digits : (text : List ℕ) → list_all is_ascii_digit text ≡ true → AreDigits text
are_digits [] all = tt
are_digits (b ∷ bs) all =
    let here = and_parts (is_ascii_digit b) (list_all is_ascii_digit bs) all in
    let range = and_parts _ _ here.0 in
    ((leb-true 48 b range.0, leb-true b 57 range.1), are_digits bs here.1)

pub digits_append : (front back : List ℕ) → AreDigits front → AreDigits back → AreDigits (front ++ back)
digits_append [] back first second = second
digits_append (b ∷ bs) back first second = (first.0, digits_append bs back first.1 second)

first_digit : (n d m : ℕ) → d ≤ 9 → m < 10 ^ n → d * 10 ^ n + m < 10 ^ suc n
first_digit n d m h l =
    let e : 10 ^ suc n ≡ 10 ^ (n + 1) = ap (λ x. 10 ^ x) (omega arith) in
    omega (arith, e, pow-add 10 n 1, mul-le-mul_right (10 ^ n) h)

pub number_below : (text : List ℕ) → AreDigits text → number text < 10 ^ length text
number_below [] all = omega arith
number_below (b ∷ bs) all = first_digit (length bs) (b - 48) (number bs) (omega (arith, all.0)) (number_below bs all.1)
