-- The covariances of all pairs of names are fractions over one power of ten.
use Rattle.std.proofs.Common.{◌≡◌, ◌≤◌, ◌<◌, ◌+◌, ◌*◌, ◌^◌, ◌∙◌, ℕ, zero, suc, ℤ, pos, ◌+ℤ◌, ◌*ℤ◌, Bool, true, false, cond, List, [], ◌∷◌, Option, Some, None, All, Contains, length, get_or, unsigned_abs, sym, ap, subst, arith}
use Rattle.std.proofs.Math.Nat.{mul-pos}
use Rattle.std.proofs.lemmas.Int.{ints}
use Rattle.std.proofs.lemmas.Option.{slice_get_within}
use Rattle.stated_order.specs.First.{HoldsBelow}
use Rattle.stated_order.specs.Steps.{HasOne}
use Rattle.whole_numbers.proofs.Powers.{ten_pow_above}
use Rattle.decimal_e.specs.Decimals.{Decimal, product}
use Rattle.decimal_e.specs.Fractions.{Means}
use Rattle.sys_model.proofs.ScalingLaws.{times_over}
use Rattle.param_ids.specs.Plain.{PlainId}
use Rattle.param_ids.specs.Order.{is_same_id}
use Rattle.param_ids.specs.Tables.{ScaleMap}
use Rattle.snx_rows.specs.Named.{place_of}
use Rattle.snx_rows.specs.declared.rows.Row.{Row}
use Rattle.snx_matrices.specs.Named.{element_of}
use Rattle.snx_matrices.specs.declared.elements.Cell.{Cell}
use Rattle.neq_stack.proofs.NameLaws.{some_place}
use Rattle.named_tables.specs.Weighted.{one_decimal}
use Rattle.correlations.specs.Exact.{AreCorrelatedBy, correlation_of, deviation_of}
use Rattle.correlations.specs.Correlations.{RowFits}
use Rattle.correlations.specs.Parts.{IsTyped}
use Rattle.correlations.proofs.HoldLaws.{power_means}
use Rattle.correlations.proofs.NameLaws.{given_typed}
use Rattle.correlations.proofs.TableLaws.{name_is}

-- ---- the powers of the standard deviations
power_of : Option Decimal → ℕ
power_of None = 0
power_of (Some d) = unsigned_abs d.exp

powers : (PlainId → Option Decimal) → List PlainId → ℕ
powers f [] = 0
powers f (id ∷ ids) = power_of (f id) + powers f ids

within_powers : (f : PlainId → Option Decimal) (names : List PlainId) (id : PlainId) (k : ℕ) → k < length names → get_or names k id ≡ id → power_of (f id) ≤ powers f names
unfolding powers
within_powers f [] id k l is = absurd (omega arith)
within_powers f (x ∷ xs) id zero l is = let e = ap (λ n. power_of (f n)) is in omega (arith, e)
within_powers f (x ∷ xs) id (suc k) l is = let r = within_powers f xs id k (omega arith) is in omega (arith, r)

power_bound : (f : PlainId → Option Decimal) (names : List PlainId) (id : PlainId) (s : Decimal) → Contains names id → f id ≡ Some s → unsigned_abs s.exp ≤ powers f names
unfolding power_of
power_bound f names id s there is = let p = within_powers f names id there.0 there.1 there.2 in let e : power_of (f id) ≡ unsigned_abs s.exp = ap power_of is in omega (arith, p, e)

-- ---- covariances over one denominator
over_by : ℕ → Decimal → ℤ
over_by K d = d.mant *ℤ pos (10 ^ unsigned_abs (pos K +ℤ d.exp))

covariance_over : ℕ → Decimal → Option Decimal → Option Decimal → ℤ
covariance_over K r None other = pos 0
covariance_over K r (Some s) None = pos 0
covariance_over K r (Some s) (Some t) = over_by K (product r (product s t))

over_means : (K : ℕ) (d : Decimal) → unsigned_abs d.exp ≤ K → Means d (over_by K d) (1 * 10 ^ K)
unfolding over_by
over_means K d l = power_means d (d.mant *ℤ pos (10 ^ unsigned_abs (pos K +ℤ d.exp))) (1 * 10 ^ K) (times_over d.mant 1 K d.exp l)

covariance_means : (K : ℕ) (r s t : Decimal) (one other : Option Decimal) → one ≡ Some s → other ≡ Some t → unsigned_abs (r.exp +ℤ (s.exp +ℤ t.exp)) ≤ K → Means (product r (product s t)) (covariance_over K r one other) (1 * 10 ^ K)
unfolding covariance_over
covariance_means K r s t one other s_is t_is l =
    subst (λ b. Means (product r (product s t)) (covariance_over K r one b) (1 * 10 ^ K)) (sym t_is) (subst (λ a. Means (product r (product s t)) (covariance_over K r a (Some t)) (1 * 10 ^ K)) (sym s_is) (over_means K (product r (product s t)) l))

sum_bound : (a b c : ℤ) (T : ℕ) → unsigned_abs a ≤ 800 → unsigned_abs b ≤ T → unsigned_abs c ≤ T → unsigned_abs (a +ℤ (b +ℤ c)) ≤ 800 + (T + T)
sum_bound a b c T p q r = omega (arith, ints)

typed_power : (d : Decimal) → IsTyped d → unsigned_abs d.exp ≤ 800
typed_power d typed = let low = typed.bounded.low in let high = typed.bounded.high in omega (arith, ints, low, high)

chosen_power : (b : Bool) (d : Decimal) → unsigned_abs d.exp ≤ 800 → unsigned_abs (cond b one_decimal d).exp ≤ 800
chosen_power true d l = omega arith
chosen_power false d l = l

module _ (rows : List Row) (cells : List Cell) (scales : ScaleMap) (names : List PlainId) (typed : All (λ (cell : Cell). IsTyped cell.value) cells) (fit : HoldsBelow (length names) (RowFits rows cells scales names)) where
  some_deviation : (id : PlainId) → Contains names id → (s : Decimal) × (deviation_of rows cells names id ≡ Some s)
  some_deviation id there =
      let place = some_place names id there in
      let has = (fit place.0 (slice_get_within names place.0 id place.1)).deviation in
      (has.s, ap (deviation_of rows cells names) (sym (name_is names place.0 id place.1)) ∙ has.is)

  correlation_power : (one other : PlainId) → unsigned_abs (correlation_of rows cells one other).exp ≤ 800
  correlation_power one other = chosen_power (is_same_id one other) (element_of rows cells one other) (typed_power (element_of rows cells one other) (given_typed cells (place_of rows one) (place_of rows other) typed))

  pub covariances_exist : (q : ℕ) × HasOne (AreCorrelatedBy rows cells names q)
  covariances_exist =
      let f = deviation_of rows cells names in
      let T = powers f names in
      let K = 800 + (T + T) in
      let one_some : 0 < 1 = omega arith in (
        1 * 10 ^ K,
        (
          λ one other. covariance_over K (correlation_of rows cells one other) (f one) (f other),
          record {
            some = mul-pos one_some (ten_pow_above K);
            each = λ one other here there.
                let s = some_deviation one here in
                let t = some_deviation other there in
                record {
                  s = s.0;
                  t = t.0;
                  s_is = s.1;
                  t_is = t.1;
                  means = covariance_means K (correlation_of rows cells one other) s.0 t.0 (f one) (f other) s.1 t.1
                      (sum_bound (correlation_of rows cells one other).exp s.0.exp t.0.exp T (correlation_power one other) (power_bound f names one s.0 here s.1) (power_bound f names other t.0 there t.1));
                };
          },
        ),
      )
