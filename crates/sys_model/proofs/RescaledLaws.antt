-- Systems in other units: they have the solutions in other units, and each system and each list of fractions has one.
use Rattle.std.proofs.Common.{◌≡◌, ◌+◌, ◌*◌, ◌^◌, ◌<◌, ◌∙◌, ℕ, ℤ, pos, neg_ℤ, ◌+ℤ◌, ◌*ℤ◌, unsigned_abs, arith, sym, ap}
use Rattle.std.specs.Prelude.{◌↔◌}
use Rattle.std.proofs.Math.IntN.{◌-ℤ◌, zero-*ℤ}
use Rattle.std.proofs.Math.Nat.{mul-pos}
use Rattle.std.proofs.lemmas.Int.{ints}
use Rattle.whole_numbers.specs.Sum.{total_to}
use Rattle.whole_numbers.specs.Scaling.{ten_above, ten_below}
use Rattle.whole_numbers.proofs.EqualFractions.{same_from_product}
use Rattle.whole_numbers.proofs.Powers.{ten_pow_above}
use Rattle.whole_numbers.proofs.Sums.{le-total_to}
use Rattle.sys_model.specs.Scaling.{TimesPower, IsRescaled, AreRescaled, LiesInStack}
use Rattle.sys_model.specs.Systems.{System, Fractions, Table, LiesIn, Solves, row_by, residual}
use Rattle.sys_model.proofs.ScalingLaws.{ten_below_some, times_product, times_then, times_back, times_same, times_whole, times_sum, times_difference, times_over, holds_named}

-- ---- solutions
-- what fractions leave of row i, in the two units
pub residual_rescaled : (n : ℕ) (k m : ℤ) (s : ℕ → ℤ) (S T : System) (v y : Fractions) (i : ℕ) → IsRescaled n k m s S T → AreRescaled n m s v y → i < n
    → TimesPower (residual n S v i) (S.q * v.s) (k +ℤ m -ℤ s i) (residual n T y i) (T.q * y.s)
residual_rescaled n k m s S T v y i system fractions row =
    let power = k +ℤ m -ℤ s i in
    let products = times_sum n (λ j. S.a i j *ℤ v.x j) (λ j. T.a i j *ℤ y.x j) (S.q * v.s) (T.q * y.s) power
    (λ j column. times_same (S.a i j *ℤ v.x j) (T.a i j *ℤ y.x j) (S.q * v.s) (T.q * y.s) ((k -ℤ s i -ℤ s j) +ℤ (m +ℤ s j)) power (omega (arith, ints))
    (times_product (S.a i j) (T.a i j) (v.x j) (y.x j) S.q T.q v.s y.s (k -ℤ s i -ℤ s j) (m +ℤ s j) (system.entries i j row column) (fractions.rows j column))) in
    let right = times_same (S.c i *ℤ pos v.s) (T.c i *ℤ pos y.s) (S.q * v.s) (T.q * y.s) (power +ℤ pos 0) power (omega (arith, ints))
    (times_product (S.c i) (T.c i) (pos v.s) (pos y.s) S.q T.q v.s y.s power (pos 0) (system.rights i row) (times_whole v.s y.s)) in
    times_difference (row_by n S.a i v.x) (row_by n T.a i y.x) (S.c i *ℤ pos v.s) (T.c i *ℤ pos y.s) (S.q * v.s) (T.q * y.s) power products right

-- a fraction is 0 where its product with a power of ten is
zero_carries : (x y : ℤ) (q r : ℕ) (k : ℤ) → 0 < q → TimesPower x q k y r → x ≡ pos 0 → y ≡ pos 0
zero_carries x y q r k some t e =
    let d = q * ten_below k in
    same_from_product y (pos 0) d (mul-pos some (ten_below_some k)) (t ∙ ap (λ z. z *ℤ pos (r * ten_above k)) e ∙ zero-*ℤ (pos (r * ten_above k)) ∙ sym (zero-*ℤ (pos d)))

pub solves_there : (n : ℕ) (k m : ℤ) (s : ℕ → ℤ) (S T : System) (v y : Fractions) → IsRescaled n k m s S T → AreRescaled n m s v y → Solves n S v → Solves n T y
solves_there n k m s S T v y system fractions sol = record {
  some = fractions.some;
  rows = λ i row. zero_carries (residual n S v i) (residual n T y i) (S.q * v.s) (T.q * y.s) (k +ℤ m -ℤ s i) (mul-pos system.plain_some fractions.plain_some) (residual_rescaled n k m s S T v y i system fractions row) (sol.rows i row);
}

pub solves_back : (n : ℕ) (k m : ℤ) (s : ℕ → ℤ) (S T : System) (v y : Fractions) → IsRescaled n k m s S T → AreRescaled n m s v y → Solves n T y → Solves n S v
solves_back n k m s S T v y system fractions sol = record {
  some = fractions.plain_some;
  rows = λ i row. zero_carries (residual n T y i) (residual n S v i) (T.q * y.s) (S.q * v.s) (neg_ℤ (k +ℤ m -ℤ s i)) (mul-pos system.some fractions.some)
      (times_back (residual n S v i) (residual n T y i) (S.q * v.s) (T.q * y.s) (k +ℤ m -ℤ s i) (residual_rescaled n k m s S T v y i system fractions row)) (sol.rows i row);
}

-- A system in other units has the fractions in other units as a solution exactly where the system has the fractions.
pub solves_rescaled : (n : ℕ) (k m : ℤ) (s : ℕ → ℤ) (S T : System) (v y : Fractions) → IsRescaled n k m s S T → AreRescaled n m s v y → Solves n S v ↔ Solves n T y
solves_rescaled n k m s S T v y system fractions = (λ sol. solves_there n k m s S T v y system fractions sol, λ sol. solves_back n k m s S T v y system fractions sol)

-- ---- one change of units after another
pub rescaled_twice : (n : ℕ) (k m l p : ℤ) (s u : ℕ → ℤ) (S T W : System) → IsRescaled n k m s S T → IsRescaled n l p u T W → IsRescaled n (k +ℤ l) (m +ℤ p) (λ i. u i +ℤ s i) S W
rescaled_twice n k m l p s u S T W one two = record {
  plain_some = one.plain_some;
  some = two.some;
  entries = λ i j row column. times_same (S.a i j) (W.a i j) S.q W.q ((k -ℤ s i -ℤ s j) +ℤ (l -ℤ u i -ℤ u j)) ((k +ℤ l) -ℤ (u i +ℤ s i) -ℤ (u j +ℤ s j)) (omega (arith, ints))
      (times_then (S.a i j) (T.a i j) (W.a i j) S.q T.q W.q (k -ℤ s i -ℤ s j) (l -ℤ u i -ℤ u j) one.some (one.entries i j row column) (two.entries i j row column));
  rights = λ i row. times_same (S.c i) (W.c i) S.q W.q ((k +ℤ m -ℤ s i) +ℤ (l +ℤ p -ℤ u i)) ((k +ℤ l) +ℤ (m +ℤ p) -ℤ (u i +ℤ s i)) (omega (arith, ints))
      (times_then (S.c i) (T.c i) (W.c i) S.q T.q W.q (k +ℤ m -ℤ s i) (l +ℤ p -ℤ u i) one.some (one.rights i row) (two.rights i row));
}

-- ---- each system and each list of fractions has one
-- at least the size of each power of ten in n rows
abbrev enough : ℕ → ℤ → ℤ → (ℕ → ℤ) → ℕ
enough n k m s = unsigned_abs k + unsigned_abs m + 2 * total_to n (λ i. unsigned_abs (s i))

pub rescaled_system : (n : ℕ) (k m : ℤ) (s : ℕ → ℤ) (S : System) → 0 < S.q → (T : System) × IsRescaled n k m s S T
rescaled_system n k m s S some =
    let K = enough n k m s in
    let each = λ (i : ℕ). λ (row : i < n). le-total_to n (λ j. unsigned_abs (s j)) i row in (
      record {
        q = S.q * 10 ^ K;
        a = λ i j. S.a i j *ℤ pos (10 ^ unsigned_abs (pos K +ℤ (k -ℤ s i -ℤ s j)));
        c = λ i. S.c i *ℤ pos (10 ^ unsigned_abs (pos K +ℤ (k +ℤ m -ℤ s i)));
      },
      record {
        plain_some = some;
        some = mul-pos some (ten_pow_above K);
        entries = λ i j row column. times_over (S.a i j) S.q K (k -ℤ s i -ℤ s j) (omega (arith, ints, each i row, each j column));
        rights = λ i row. times_over (S.c i) S.q K (k +ℤ m -ℤ s i) (omega (arith, ints, each i row));
      },
    )

pub rescaled_fractions : (n : ℕ) (m : ℤ) (s : ℕ → ℤ) (v : Fractions) → 0 < v.s → (y : Fractions) × AreRescaled n m s v y
rescaled_fractions n m s v some =
    let K = enough n (pos 0) m s in (
      record { s = v.s * 10 ^ K; x = λ i. v.x i *ℤ pos (10 ^ unsigned_abs (pos K +ℤ (m +ℤ s i))) },
      record {
        plain_some = some;
        some = mul-pos some (ten_pow_above K);
        rows = λ i row. times_over (v.x i) v.s K (m +ℤ s i) (omega (arith, ints, le-total_to n (λ j. unsigned_abs (s j)) i row));
      },
    )

-- and each list of fractions is one in other units
pub plain_fractions : (n : ℕ) (m : ℤ) (s : ℕ → ℤ) (y : Fractions) → 0 < y.s → (v : Fractions) × AreRescaled n m s v y
plain_fractions n m s y some =
    let K = enough n (pos 0) m s in
    let x = λ (i : ℕ). y.x i *ℤ pos (10 ^ unsigned_abs (pos K +ℤ neg_ℤ (m +ℤ s i))) in (
      record { s = y.s * 10 ^ K; x = x },
      record {
        plain_some = mul-pos some (ten_pow_above K);
        some = some;
        rows = λ i row. times_same (x i) (y.x i) (y.s * 10 ^ K) y.s (neg_ℤ (neg_ℤ (m +ℤ s i))) (m +ℤ s i) (omega (arith, ints))
            (times_back (y.x i) (x i) y.s (y.s * 10 ^ K) (neg_ℤ (m +ℤ s i)) (times_over (y.x i) y.s K (neg_ℤ (m +ℤ s i)) (omega (arith, ints, le-total_to n (λ j. unsigned_abs (s j)) i row))));
      },
    )

-- ---- the stack
-- a system in the stack, in the stack's units, lies in its intervals
pub stack_lies : (n : ℕ) (stack : Table) (t : ℕ → ℤ) (S T : System) → LiesInStack n stack t S → IsRescaled n (pos 18) (pos 0) t S T → LiesIn n stack T
stack_lies n stack t S T lies system = record {
  some = system.some;
  entries = λ i j row column. holds_named (stack.entry i j) (S.a i j) (T.a i j) S.q T.q (pos 18 -ℤ t i -ℤ t j) lies.some (system.entries i j row column) (lies.entries i j row column);
  rights = λ i row. holds_named (stack.right i) (S.c i) (T.c i) S.q T.q (pos 18 -ℤ t i) lies.some (system.rights i row) (lies.rights i row);
}
