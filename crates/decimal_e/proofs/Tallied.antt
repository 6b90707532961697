-- What a tally says with one digit more.
use Rattle.std.proofs.Common.{◌≡◌, ◌≢◌, ℕ, ◌+◌, ◌-◌, ◌*◌, ◌≤◌, ◌<◌, ◌^◌, List, [], ◌∷◌, ◌++◌, length, get_or, refl, ap, sym, ◌∙◌, arith}
use Rattle.std.proofs.lemmas.List.{length_push, get_or_push, get_or_append_left}
use Rattle.std.proofs.lemmas.Nat.{pow-add}
use Rattle.std.proofs.Math.Decide.{dec_lt}
use Rattle.decimal_e.specs.declared.digits.Tally.{Tally}
use Rattle.decimal_e.specs.Digits.{IsTooLong}
use Rattle.decimal_e.specs.Tallies.{Tallies}
use Rattle.decimal_e.proofs.Numbers.{number_push, with_digit}

pub none_tallied : Tallies (record { digits = 0; value = 0; zeros = 0 }) []
none_tallied = record {
  leading = 0;
  total = refl;
  inside = λ i l ne. absurd (omega arith);
  first = λ l. absurd (omega arith);
  last = λ l. absurd (omega arith);
  none = λ e. (refl, refl);
  value = λ l. refl;
  end = λ l. absurd (omega arith);
  small = λ l. omega arith;
}

-- a place in a list with one element more is one before, or the last
old : (xs : List ℕ) (b i : ℕ) → i < length xs → get_or (xs ++ b ∷ []) i 0 ≡ get_or xs i 0
old xs b i l = get_or_append_left xs (b ∷ []) 0 i l

new : (xs : List ℕ) (b i : ℕ) → i ≡ length xs → get_or (xs ++ b ∷ []) i 0 ≡ b
new xs b i e = get_or_push xs b 0 i (sym e)

-- a digit that is not 0 stands among the old ones
among : (xs : List ℕ) (b i : ℕ) → b ≡ 48 → i < length (xs ++ b ∷ []) → get_or (xs ++ b ∷ []) i 0 ≢ 48 → (i < length xs) × (get_or xs i 0 ≢ 48)
among xs b i z l ne =
    elim (dec_lt i (length xs)) [
      | yes h ↦ (h, λ e. ne (old xs b i h ∙ e))
      | no n ↦ let s = length_push xs b in absurd (ne (new xs b i (omega arith) ∙ z))
    ]

pub zero_first : (t : Tally) (xs : List ℕ) (b : ℕ) → b ≡ 48 → t.digits ≡ 0 → Tallies t xs → Tallies (record { digits = t.digits; value = t.value; zeros = 0 }) (xs ++ b ∷ [])
zero_first t xs b z none h =
    let s = length_push xs b in
    let v = h.none none in
    let p = number_push xs b in
    let w = h.value (omega arith) in
    let m = ap (λ x. x * 10 ^ t.zeros) v.0 in
    record {
      leading = h.leading + 1;
      total = omega (arith, h.total, v.1);
      inside = λ i l ne. let a = among xs b i z l ne in let q = h.inside i a.0 a.1 in absurd (omega (arith, q));
      first = λ l. absurd (omega arith);
      last = λ l. absurd (omega arith);
      none = λ e. (v.0, refl);
      value = λ l. omega (arith, p, w, m, v.0);
      end = λ l. absurd (omega arith);
      small = h.small;
    }

pub zero_more : (t : Tally) (xs : List ℕ) (b : ℕ) → b ≡ 48 → t.digits ≢ 0 → Tallies t xs → Tallies (record { digits = t.digits; value = t.value; zeros = t.zeros + 1 }) (xs ++ b ∷ [])
zero_more t xs b z some h =
    let s = length_push xs b in
    let p = number_push xs b in
    let q = pow-add 10 t.zeros 1 in
    record {
      leading = h.leading;
      total = omega (arith, h.total);
      inside = λ i l ne. let a = among xs b i z l ne in h.inside i a.0 a.1;
      first = λ l e. h.first l (sym (old xs b h.leading (omega (arith, h.total))) ∙ e);
      last = λ l e. h.last l (sym (old xs b (h.leading + t.digits - 1) (omega (arith, h.total))) ∙ e);
      none = λ e. absurd (some e);
      value = λ l. let w = h.value l in omega (arith, p, w, ap (λ x. t.value * x) q);
      end = h.end;
      small = h.small;
    }

pub other_digit : (t : Tally) (xs : List ℕ) (b v : ℕ) → b ≢ 48 → 48 ≤ b → b ≤ 57 → (t.digits + t.zeros < 18 → v ≡ t.value * 10 ^ (t.zeros + 1) + (b - 48)) → Tallies t xs → Tallies (record { digits = t.digits + t.zeros + 1; value = v; zeros = 0 }) (xs ++ b ∷ [])
other_digit t xs b v ne lo hi e h =
    let s = length_push xs b in
    let p = number_push xs b in
    let q = pow-add 10 t.zeros 1 in
    let m = ap (λ x. t.value * x) q in
    record {
      leading = h.leading;
      total = omega (arith, h.total);
      inside = λ i l n. elim (dec_lt i (length xs)) [
        | yes k ↦ let g = h.inside i k (λ z. n (old xs b i k ∙ z)) in (g.0, omega (arith, g))
        | no k ↦ (omega (arith, h.total), omega (arith, h.total))
      ];
      first = λ _ z. elim (dec_lt 0 t.digits) [
        | yes k ↦ h.first k (sym (old xs b h.leading (omega (arith, h.total))) ∙ z)
        | no k ↦ let y = h.none (omega arith) in ne (sym (new xs b h.leading (omega (arith, h.total, y))) ∙ z)
      ];
      last = λ _ z. ne (sym (new xs b (h.leading + (t.digits + t.zeros + 1) - 1) (omega (arith, h.total))) ∙ z);
      none = λ z. absurd (omega arith);
      value = λ l. let w = h.value (omega arith) in let f = e (omega arith) in omega (arith, p, w, f, m);
      end = λ _ l. let f = e (omega arith) in omega (arith, f, m);
      small = λ l. let f = e (omega arith) in let g = with_digit t.value t.digits t.zeros (b - 48) (h.small (omega arith)) (omega arith) in omega (arith, f, g);
    }

-- more than 18 digits from the first that is not 0 to the last
pub too_long : (t : Tally) (xs : List ℕ) → Tallies t xs → 18 < t.digits → IsTooLong xs
too_long t xs h l = (h.leading, h.leading + t.digits - 1, (omega arith, omega (arith, h.total), h.first (omega arith), h.last (omega arith)))

pub not_too_long : (t : Tally) (xs : List ℕ) → Tallies t xs → t.digits ≤ 18 → IsTooLong xs → ⊥
not_too_long t xs h l (i, j, (apart, within, first, last)) =
    let a = h.inside i (omega arith) first in
    let b = h.inside j within last in
    omega (arith, a, b)
