use Rattle.std.proofs.Common.{◌≡◌, ◌≢◌, ℕ, List, [], ◌∷◌, length, true, false, refl, subst, sym, arith, ap, ◌∙◌, ◌++◌}
use Rattle.std.proofs.lemmas.List.{append-nil, nil_from_length}
use Rattle.std.specs.Prelude.{◌==◌}
use Rattle.decimal_e.specs.Cuts.{mantissa_of, power_of}
use Rattle.decimal_e.specs.Answers.{IsFault}
use Rattle.decimal_e.proofs.Stuck.{fault_mantissa, fault_power, fault_rest, spelled_by}
use Rattle.decimal_e.proofs.cut.cut_numeral.Goals as goal

some_of : (xs : List ℕ) → false ≡ (length xs == 0) → xs ≢ []
some_of [] e = absurd cc
some_of (x ∷ xs) e = λ n. cc

none_of : (xs : List ℕ) → true ≡ (length xs == 0) → xs ≡ []
none_of xs e = let z : length xs ≡ 0 = grind arith in nil_from_length xs z

pub returns-then-not-has_digits : goal.returns-then-not-has_digits
returns-then-not-has_digits c =
    subst (IsFault c.args.text.now) (sym c.left_at.ensures)
    (fault_mantissa c.args.text.now _ _ (mantissa_of c.cut_mantissa.result.0) _ _ c.cut_run.ensures (some_of _ c.if-is_empty.ensures) c.cut_mantissa.ensures c.if-not-has_digits.ensures refl)

pub returns-then-is_open : goal.returns-then-is_open
returns-then-is_open c =
    subst (IsFault c.args.text.now) (sym c.left_at-then-is_open.ensures)
    (fault_power c.args.text.now _ _ (mantissa_of c.cut_mantissa.result.0) _ (power_of c.cut_power.result.0) _ _ c.cut_run.ensures (some_of _ c.if-is_empty.ensures) c.cut_mantissa.ensures c.if-not-has_digits.ensures c.cut_power.ensures c.if-is_open.ensures.0 c.if-is_open.ensures.1 refl)

pub returns-then-not-is_empty : goal.returns-then-not-is_empty
returns-then-not-is_empty c =
    subst (IsFault c.args.text.now) (sym c.left_at-then-not-is_empty.ensures)
    (fault_rest c.args.text.now _ _ (mantissa_of c.cut_mantissa.result.0) _ (power_of c.cut_power.result.0) _ _ _ _ c.cut_run.ensures (some_of _ c.if-is_empty.ensures) c.cut_mantissa.ensures c.if-not-has_digits.ensures c.cut_power.ensures c.if-is_open.ensures c.cut_run-2.ensures (some_of _ c.if-not-is_empty.ensures) refl)

pub returns : goal.returns
returns c =
    spelled_by c.args.text.now _ _ (mantissa_of c.cut_mantissa.result.0) _ (power_of c.cut_power.result.0) _ _ c.cut_run.ensures c.cut_mantissa.ensures c.if-not-has_digits.ensures c.cut_power.ensures c.if-is_open.ensures
    (ended _ _ _ c.cut_run-2.ensures.whole (none_of _ c.if-not-is_empty.ensures)) c.cut_run-2.ensures.run
  where
    ended : (text front rest : List ℕ) → text ≡ front ++ rest → rest ≡ [] → text ≡ front
    ended text front rest e n = e ∙ ap (λ t. front ++ t) n ∙ append-nil front
