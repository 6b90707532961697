-- Covariances in intervals: what their enclosed inverse times the weight holds, and that there is an inverse.
use Rattle.std.proofs.Common.{◌≡◌, ◌<◌, ◌*◌, ◌∙◌, ℕ, ℤ, pos, neg_ℤ, ◌+ℤ◌, ◌*ℤ◌, sym, ap, subst, arith}
use Rattle.std.proofs.Math.IntN.{◌-ℤ◌}
use Rattle.std.proofs.Math.Nat.{mul-pos}
use Rattle.std.proofs.lemmas.Int.{ints}
use Rattle.stated_order.specs.Steps.{HasOne}
use Rattle.whole_numbers.specs.Intervals.{Interval, Holds, interval_scale}
use Rattle.whole_numbers.specs.Scaling.{ten_above, ten_below}
use Rattle.whole_numbers.proofs.IntervalLaws.{holds_scale}
use Rattle.whole_numbers.proofs.Ring.{*ℤ_assoc, *ℤ_comm}
use Rattle.decimal_e.specs.Decimals.{Decimal}
use Rattle.decimal_e.specs.Fractions.{numerator, denominator}
use Rattle.sym_blocks.specs.Tables.{SymTable, entry_at}
use Rattle.sys_model.specs.Scaling.{TimesPower, HoldsTimes}
use Rattle.sys_model.specs.Systems.{System}
use Rattle.sys_model.proofs.ScalingLaws.{ten_below_some, times_then, times_back, times_same, holds_power, holds_named}
use Rattle.named_tables.specs.Weighted.{weighted_interval}
use Rattle.inv_enclose.specs.Inverses.{IsSymmetric, IsInverse, HoldsMatrix, HaveInverses}
use Rattle.information_tables.specs.Parts.{IsOfInverse}
use Rattle.information_tables.proofs.ScaledLaws.{gathered, own_power, times_alone, times_digits, AreTimes, covariance_power, times_opposite, raised, lowered, inverse_lowered, inverse_raised}

-- the intervals hold the covariances times their powers of ten
pub record HoldsCovariances (n : ℕ) (t : ℕ → ℤ) (table : SymTable) (S : System) : Type 0 where
  pub some : 0 < S.q
  pub entries : (i j : ℕ) → i < n → j < n → HoldsTimes (entry_at table i j) (S.a i j) S.q (covariance_power t i j)

-- x / q is a weight times y / r
abbrev pub IsTimesWeight : Decimal → ℤ → ℕ → ℤ → ℕ → Type 0
IsTimesWeight weight x q y r = x *ℤ pos (r * denominator weight) ≡ (y *ℤ numerator weight) *ℤ pos q

-- as a power of ten
weight_power : (weight : Decimal) (x y : ℤ) (q r : ℕ) → IsTimesWeight weight x q y r → TimesPower (weight.mant *ℤ y) r weight.exp x q
weight_power weight x y q r is =
    let A = ten_above weight.exp in
    let turned : A * q ≡ q * A = omega arith in
    is
    ∙ ap (λ z. z *ℤ pos q) (sym (*ℤ_assoc y weight.mant (pos A)) ∙ ap (λ z. z *ℤ pos A) (*ℤ_comm y weight.mant))
    ∙ gathered (weight.mant *ℤ y) A q
    ∙ ap (λ n. (weight.mant *ℤ y) *ℤ pos n) turned

-- powers in another order
turned_power : (a b : ℤ) → neg_ℤ (pos 42) +ℤ neg_ℤ (neg_ℤ (pos 24 +ℤ a +ℤ b)) ≡ neg_ℤ (pos 18 -ℤ a -ℤ b)
turned_power a b = omega (arith, ints)

last_power : (e k : ℤ) → (neg_ℤ k +ℤ e) +ℤ k ≡ e
last_power e k = omega (arith, ints)

-- an interval that holds an element of the inverse of the table times 10^42 holds, times the weight, that of the inverse of the covariances
-- times its power of ten
pub weighted_holds : (weight : Decimal) (v : Interval) (a b : ℤ) (g f x : ℤ) (gq fq q : ℕ) → 0 < gq → 0 < fq → 0 < q
    → TimesPower f fq (neg_ℤ (pos 24 +ℤ a +ℤ b)) g gq → HoldsTimes v g gq (pos 42) → IsTimesWeight weight x q f fq
    → HoldsTimes (weighted_interval weight v) x q (pos 18 -ℤ a -ℤ b)
weighted_holds weight v a b g f x gq fq q g_some f_some some times holds is =
    let k = pos 18 -ℤ a -ℤ b in
    let y = g *ℤ pos (ten_above (pos 42)) in
    let r = gq * ten_below (pos 42) in
    let r_some : 0 < r = mul-pos g_some (ten_below_some (pos 42)) in
    let m = weight.mant in
    let digits : Holds (interval_scale m v) (m *ℤ y) r = holds_scale m v y r holds in
    let down : TimesPower y r (neg_ℤ (pos 42)) g gq = times_back g y gq r (pos 42) (own_power g gq (pos 42)) in
    let up : TimesPower g gq (neg_ℤ (neg_ℤ (pos 24 +ℤ a +ℤ b))) f fq = times_back f g fq gq (neg_ℤ (pos 24 +ℤ a +ℤ b)) times in
    let both : TimesPower y r (neg_ℤ k) f fq = times_same y f r fq (neg_ℤ (pos 42) +ℤ neg_ℤ (neg_ℤ (pos 24 +ℤ a +ℤ b))) (neg_ℤ k) (turned_power a b) (times_then y g f r gq fq (neg_ℤ (pos 42)) (neg_ℤ (neg_ℤ (pos 24 +ℤ a +ℤ b))) g_some down up) in
    let weighed : TimesPower (m *ℤ y) r (neg_ℤ k +ℤ weight.exp) x q = times_then (m *ℤ y) (m *ℤ f) x r fq q (neg_ℤ k) weight.exp f_some (times_digits m y f r fq (neg_ℤ k) both) (weight_power weight x f q fq is) in
    let whole = times_then (m *ℤ y) x (x *ℤ pos (ten_above k)) r q (q * ten_below k) (neg_ℤ k +ℤ weight.exp) k some weighed (own_power x q k) in
    holds_power (interval_scale m v) (m *ℤ y) (x *ℤ pos (ten_above k)) r (q * ten_below k) weight.exp r_some
    (times_same (m *ℤ y) (x *ℤ pos (ten_above k)) r (q * ten_below k) ((neg_ℤ k +ℤ weight.exp) +ℤ k) weight.exp (last_power weight.exp k) whole) digits

module _ (t : ℕ → ℤ) (table : SymTable) (S : System) (holds : HoldsCovariances table.size t table S) where
  -- the covariances times their powers of ten lie in the table
  held : (T : System) → AreTimes table.size (covariance_power t) S T → HoldsMatrix table.size (entry_at table) T
  held T times = record {
    some = times.some;
    entries = λ i j row column. holds_named (entry_at table i j) (S.a i j) (T.a i j) S.q T.q (covariance_power t i j) holds.some (times.entries i j row column) (holds.entries i j row column);
  }

  turned : (i j : ℕ) → covariance_power t j i ≡ covariance_power t i j
  turned i j = omega (arith, ints)

  symmetric : (T : System) → AreTimes table.size (covariance_power t) S T → IsSymmetric table.size S → IsSymmetric table.size T
  symmetric T times same i j row column =
      times_alone (S.a i j) (T.a i j) (T.a j i) S.q T.q (covariance_power t i j) holds.some (times.entries i j row column)
      (subst (λ x. TimesPower x S.q (covariance_power t i j) (T.a j i) T.q) (same j i column row)
      (times_same (S.a j i) (T.a j i) S.q T.q (covariance_power t j i) (covariance_power t i j) (turned i j) (times.entries j i column row)))

  -- an inverse of the covariances, times the weight, lies in the table of the answer
  pub inverse_lies : (weight : Decimal) (out : SymTable) (F : System) → IsOfInverse weight table out → IsSymmetric table.size S → IsInverse table.size S F
      → (i j : ℕ) (x : ℤ) (q : ℕ) → i < table.size → j < table.size → 0 < q → IsTimesWeight weight x q (F.a i j) F.q → HoldsTimes (entry_at out i j) x q (pos 18 -ℤ t i -ℤ t j)
  inverse_lies weight out F made same inverse i j x q row column some is =
      let up = raised table.size t S holds.some in
      let down = lowered table.size t F inverse.some in
      let other : IsInverse table.size up.0 down.0 = inverse_lowered table.size t S up.0 F down.0 up.1 down.1 inverse in
      let lies : HoldsTimes (entry_at made.inverse i j) (down.0.a i j) down.0.q (pos 42) = made.holds up.0 down.0 (held up.0 up.1) (symmetric up.0 up.1 same) other i j row column in
      let rows = made.size in
      subst (λ w. HoldsTimes w x q (pos 18 -ℤ t i -ℤ t j)) (sym (made.weighted.entries i j (omega arith) (omega arith)))
      (weighted_holds weight (entry_at made.inverse i j) (t i) (t j) (down.0.a i j) (F.a i j) x down.0.q F.q q down.1.some inverse.some some (down.1.entries i j row column) lies is)

  -- the covariances have an inverse
  pub inverse_exists : HaveInverses table → HasOne (IsInverse table.size S)
  inverse_exists have =
      let up = raised table.size t S holds.some in
      let found = have up.0 (held up.0 up.1) in
      let back = raised table.size t found.0 found.1.some in
      (back.0, inverse_raised table.size t up.0 S found.0 back.0 (times_opposite table.size (covariance_power t) S up.0 up.1) back.1 found.1)
