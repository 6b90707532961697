-- The intervals hold the exact covariances.
use Rattle.std.proofs.Common.{◌≡◌, ◌≤◌, ◌<◌, ◌+◌, ◌*◌, ◌^◌, ◌∙◌, ◌||◌, ◌&&◌, ◌==◌, ℕ, ℤ, pos, negsuc, neg_ℤ, ◌+ℤ◌, ◌*ℤ◌, List, [], ◌∷◌, Option, Some, Bool, true, false, cond, slice_get, refl, sym, ap, subst, arith}
use Rattle.std.specs.List.{find}
use Rattle.std.specs.Net.Reader.{map_or}
use Rattle.std.proofs.Math.Decide.{dec_lt}
use Rattle.std.proofs.Math.Nat.{mul-pos}
use Rattle.std.proofs.lemmas.Int.{ints}
use Rattle.std.proofs.lemmas.Nat.{pow-add}
use Rattle.std.proofs.lemmas.Option.{slice_get_within}
use Rattle.whole_numbers.specs.Intervals.{Interval, interval_scale}
use Rattle.whole_numbers.specs.Scaling.{interval_scale10, ten_above, ten_below}
use Rattle.whole_numbers.proofs.IntervalLaws.{holds_scale}
use Rattle.whole_numbers.proofs.Ring.{*ℤ_assoc, *ℤ_comm, ring}
use Rattle.decimal_e.specs.Decimals.{Decimal, product}
use Rattle.decimal_e.specs.Fractions.{Means}
use Rattle.decimal_e.specs.Scales.{decimal_interval}
use Rattle.decimal_e.proofs.Values.{holds_word}
use Rattle.sym_blocks.specs.Tables.{SymTable, entry_at}
use Rattle.sym_blocks.proofs.Rows.{entry_sym}
use Rattle.sys_model.specs.Scaling.{HoldsTimes, TimesPower}
use Rattle.sys_model.proofs.ScalingLaws.{holds_power, ten_below_some, times_back, times_raised, times_same, times_then}
use Rattle.param_ids.specs.Plain.{PlainId}
use Rattle.param_ids.specs.Order.{IsRising}
use Rattle.param_ids.specs.Tables.{ScaleMap}
use Rattle.snx_rows.specs.Named.{zero_decimal, place_of}
use Rattle.snx_rows.specs.declared.rows.Row.{Row}
use Rattle.snx_matrices.specs.Named.{element_of, given_at, is_at}
use Rattle.snx_matrices.specs.declared.elements.Cell.{Cell}
use Rattle.snx_matrices.specs.declared.elements.Content.TheVariants.{Cova}
use Rattle.neq_stack.specs.Systems.{name_at}
use Rattle.named_tables.specs.Weighted.{element_power, one_decimal}
use Rattle.named_tables.proofs.NameLaws.{apart_names, one_rank}
use Rattle.correlations.specs.Exact.{IsCorrelated, correlation_of, deviation_of}
use Rattle.correlations.specs.Correlations.{IsCovarianceTable, IsProductOf}
use Rattle.correlations.proofs.TableLaws.{name_is}

-- ---- fractions
gathered : (x : ℤ) (a b : ℕ) → (x *ℤ pos a) *ℤ pos b ≡ x *ℤ pos (a * b)
gathered x a b = *ℤ_assoc x (pos a) (pos b)

-- a number times a power of ten, as the fraction
own_power : (x : ℤ) (q : ℕ) (k : ℤ) → TimesPower x q k (x *ℤ pos (ten_above k)) (q * ten_below k)
own_power x q k =
    let turned : ten_above k * (q * ten_below k) ≡ (q * ten_below k) * ten_above k = omega arith in
    gathered x (ten_above k) (q * ten_below k) ∙ ap (λ n. x *ℤ pos n) turned

word_power : (x : ℤ) (k : ℤ) → TimesPower x 1 k (x *ℤ pos (ten_above k)) (ten_below k)
word_power x k =
    let turned : ten_above k * (1 * ten_below k) ≡ ten_below k * ten_above k = omega arith in
    gathered x (ten_above k) (1 * ten_below k) ∙ ap (λ n. x *ℤ pos n) turned

times_number : (z x y : ℤ) (q r : ℕ) (k : ℤ) → TimesPower x q k y r → TimesPower (z *ℤ x) q k (z *ℤ y) r
times_number z x y q r k h = *ℤ_assoc z y (pos (q * ten_below k)) ∙ ap (λ w. z *ℤ w) h ∙ sym (*ℤ_assoc z x (pos (r * ten_above k)))

-- a decimal as a whole number times a power of ten, and back
pub means_power : (d : Decimal) (x : ℤ) (q : ℕ) → Means d x q → TimesPower d.mant 1 d.exp x q
means_power d x q h =
    let one : 1 * ten_below d.exp ≡ ten_below d.exp = omega arith in
    let turned : ten_above d.exp * q ≡ q * ten_above d.exp = omega arith in
    ap (λ n. x *ℤ pos n) one ∙ sym h ∙ gathered d.mant (ten_above d.exp) q ∙ ap (λ n. d.mant *ℤ pos n) turned

pub power_means : (d : Decimal) (x : ℤ) (q : ℕ) → TimesPower d.mant 1 d.exp x q → Means d x q
power_means d x q h =
    let one : 1 * ten_below d.exp ≡ ten_below d.exp = omega arith in
    let turned : ten_above d.exp * q ≡ q * ten_above d.exp = omega arith in
    gathered d.mant (ten_above d.exp) q ∙ ap (λ n. d.mant *ℤ pos n) turned ∙ sym h ∙ ap (λ n. x *ℤ pos n) one

-- ---- products
-- both digits times a number
both_digits : (r s t m n : ℤ) (a b : ℕ) → m ≡ s *ℤ pos (10 ^ a) → n ≡ t *ℤ pos (10 ^ b) → n *ℤ (m *ℤ r) ≡ (r *ℤ (s *ℤ t)) *ℤ pos (10 ^ (a + b))
both_digits r s t m n a b m_is n_is =
    ap (λ z. z *ℤ (m *ℤ r)) n_is ∙ ap (λ z. (t *ℤ pos (10 ^ b)) *ℤ (z *ℤ r)) m_is ∙ joined r s t (pos (10 ^ a)) (pos (10 ^ b)) ∙ ap (λ z. (r *ℤ (s *ℤ t)) *ℤ pos z) (sym (pow-add 10 a b))
  where
    joined : (r s t A B : ℤ) → (t *ℤ B) *ℤ ((s *ℤ A) *ℤ r) ≡ (r *ℤ (s *ℤ t)) *ℤ (A *ℤ B)
    joined r s t A B = simp ring refl

pub product_holds : (r s t : Decimal) (power : ℤ) (w : Interval) (x : ℤ) (q : ℕ) → 0 < q → IsProductOf r s t power w → Means (product r (product s t)) x q → HoldsTimes w x q power
product_holds r s t power w x q some p means =
    let M = r.mant *ℤ (s.mant *ℤ t.mant) in
    let E = r.exp +ℤ (s.exp +ℤ t.exp) in
    let e = r.exp +ℤ pos 18 in
    let a = p.one.more in
    let b = p.other.more in
    let y = r.mant *ℤ pos (ten_above e) in
    let d = ten_below e in
    let held = holds_scale (pos p.m) (decimal_interval r (pos 18)) y d (holds_word r (pos 18)) in
    let first = times_number (pos p.m) r.mant y 1 d e (word_power r.mant e) in
    let y2 = (pos p.m *ℤ y) *ℤ pos (ten_above (negsuc 17)) in
    let d2 = d * ten_below (negsuc 17) in
    let d2_some : 0 < d2 = mul-pos (ten_below_some e) (ten_below_some (negsuc 17)) in
    let lowered = own_power (pos p.m *ℤ y) d (negsuc 17) in
    let part = holds_power (interval_scale (pos p.m) (decimal_interval r (pos 18))) (pos p.m *ℤ y) y2 d d2 (negsuc 17) (ten_below_some e) lowered held in
    let e2 = e +ℤ negsuc 17 in
    let second = times_then (pos p.m *ℤ r.mant) (pos p.m *ℤ y) y2 1 d d2 e (negsuc 17) (ten_below_some e) first lowered in
    let N = pos p.n *ℤ (pos p.m *ℤ r.mant) in
    let y3 = pos p.n *ℤ y2 in
    let third : TimesPower N 1 e2 y3 d2 = times_number (pos p.n) (pos p.m *ℤ r.mant) y2 1 d2 e2 second in
    let whole = holds_scale (pos p.n) (interval_scale10 (interval_scale (pos p.m) (decimal_interval r (pos 18))) (negsuc 17)) y2 d2 part in
    let digits : N ≡ M *ℤ pos (10 ^ (a + b)) = both_digits r.mant s.mant t.mant (pos p.m) (pos p.n) a b p.one.digits p.other.digits in
    let raised : TimesPower M 1 (pos (a + b)) N 1 = subst (λ z. TimesPower M 1 (pos (a + b)) z 1) (sym digits) (times_raised M 1 (a + b)) in
    let one : 0 < 1 = omega arith in
    let value = times_then N M x 1 1 q (neg_ℤ (pos (a + b))) E one (times_back M N 1 1 (pos (a + b)) raised) (means_power (product r (product s t)) x q means) in
    let X = x *ℤ pos (ten_above power) in
    let Q = q * ten_below power in
    let scaled = times_then N x X 1 q Q (neg_ℤ (pos (a + b)) +ℤ E) power some value (own_power x q power) in
    let all = times_then y3 N X d2 1 Q (neg_ℤ e2) ((neg_ℤ (pos (a + b)) +ℤ E) +ℤ power) one (times_back N y3 1 d2 e2 third) scaled in
    let k_is = p.one.power in
    let l_is = p.other.power in
    let left : neg_ℤ e2 +ℤ ((neg_ℤ (pos (a + b)) +ℤ E) +ℤ power) ≡ p.k +ℤ p.l +ℤ power = omega (arith, ints, k_is, l_is) in
    let last = times_same y3 X d2 Q (neg_ℤ e2 +ℤ ((neg_ℤ (pos (a + b)) +ℤ E) +ℤ power)) (p.k +ℤ p.l +ℤ power) left all in
    subst (λ v. HoldsTimes v x q power) (sym p.is) (holds_power _ y3 X d2 Q (p.k +ℤ p.l +ℤ power) d2_some last whole)

-- ---- both orders of two names
test_turned : (a b : Bool) → (a || b) ≡ (b || a)
test_turned true true = refl
test_turned true false = refl
test_turned false true = refl
test_turned false false = refl

given_turned : (cells : List Cell) (i j : ℕ) → given_at cells i j ≡ given_at cells j i
given_turned [] i j = refl
given_turned (cell ∷ cells) i j =
    chosen (is_at i j cell) (find (is_at i j) cells)
    ∙ ap (λ b. cond b cell.value (given_at cells i j)) (test_turned ((cell.row == i) && (cell.col == j)) ((cell.row == j) && (cell.col == i)))
    ∙ ap (λ d. cond (is_at j i cell) cell.value d) (given_turned cells i j)
    ∙ sym (chosen (is_at j i cell) (find (is_at j i) cells))
  where
    chosen : (b : Bool) (o : Option Cell) → map_or (cond b (Some cell) o) zero_decimal (λ (x : Cell). x.value) ≡ cond b cell.value (map_or o zero_decimal (λ (x : Cell). x.value))
    chosen true o = refl
    chosen false o = refl

turned_correlation : (rows : List Row) (cells : List Cell) (one other : PlainId) → (one ≡ other → ⊥) → correlation_of rows cells one other ≡ correlation_of rows cells other one
turned_correlation rows cells one other apart =
    ap (λ b. cond b one_decimal (element_of rows cells one other)) (apart_names one other apart)
    ∙ given_turned cells (place_of rows one) (place_of rows other)
    ∙ ap (λ b. cond b one_decimal (element_of rows cells other one)) (sym (apart_names other one (λ e. apart (sym e))))

turned_product : (r u s t : Decimal) (x : ℤ) (q : ℕ) → r ≡ u → Means (product r (product s t)) x q → Means (product u (product t s)) x q
turned_product r u s t x q same h =
    let mant : s.mant *ℤ t.mant ≡ t.mant *ℤ s.mant = *ℤ_comm s.mant t.mant in
    let exp : s.exp +ℤ t.exp ≡ t.exp +ℤ s.exp = omega (arith, ints) in
    let made : ℤ → ℤ → Decimal = λ m e. record { mant = m; exp = e } in
    let turned : product s t ≡ product t s = ap (λ m. made m (s.exp +ℤ t.exp)) mant ∙ ap (λ e. made (t.mant *ℤ s.mant) e) exp in
    subst (λ d. Means (product d (product t s)) x q) same (subst (λ d. Means (product r d) x q) turned h)

turned : (rows : List Row) (cells : List Cell) (names : List PlainId) (one other : PlainId) (x : ℤ) (q : ℕ) → (one ≡ other → ⊥) → IsCorrelated rows cells names one other x q → IsCorrelated rows cells names other one x q
turned rows cells names one other x q apart h = record {
  s = h.t;
  t = h.s;
  s_is = h.t_is;
  t_is = h.s_is;
  means = turned_product (correlation_of rows cells one other) (correlation_of rows cells other one) h.s h.t x q (turned_correlation rows cells one other apart) h.means;
}

-- ---- the table
module _ (rows : List Row) (cells : List Cell) (scales : ScaleMap) (names : List PlainId) (table : SymTable) (is : IsCovarianceTable rows cells scales names table) (rising : IsRising names) where
  lower_holds : (i j : ℕ) (one other : PlainId) (x : ℤ) (q : ℕ) → slice_get names i ≡ Some one → slice_get names j ≡ Some other → j ≤ i → 0 < q → IsCorrelated rows cells names one other x q → HoldsTimes (entry_at table i j) x q (element_power Cova scales one other)
  lower_holds i j one other x q here there lower some h =
      let ni = name_is names i one here in
      let nj = name_is names j other there in
      let made = is.entries i j h.s h.t (slice_get_within names i one here) lower (ap (deviation_of rows cells names) ni ∙ h.s_is) (ap (deviation_of rows cells names) nj ∙ h.t_is) in
      let of_names : IsProductOf (correlation_of rows cells one other) h.s h.t (element_power Cova scales one other) (entry_at table i j) =
      subst (λ b. IsProductOf (correlation_of rows cells one b) h.s h.t (element_power Cova scales one b) (entry_at table i j)) nj
      (subst (λ a. IsProductOf (correlation_of rows cells a (name_at names j)) h.s h.t (element_power Cova scales a (name_at names j)) (entry_at table i j)) ni made) in
      product_holds (correlation_of rows cells one other) h.s h.t (element_power Cova scales one other) (entry_at table i j) x q some of_names h.means

  pub table_holds : (i j : ℕ) (one other : PlainId) (x : ℤ) (q : ℕ) → slice_get names i ≡ Some one → slice_get names j ≡ Some other → 0 < q → IsCorrelated rows cells names one other x q → HoldsTimes (entry_at table i j) x q (element_power Cova scales one other)
  table_holds i j one other x q here there some h =
      elim (dec_lt i j) [
        | yes above ↦
            let apart : one ≡ other → ⊥ = λ e. let at = one_rank names other i j rising (here ∙ ap (λ id. Some id) e) there in absurd (omega arith) in
            let power : element_power Cova scales other one ≡ element_power Cova scales one other = omega (arith, ints) in
            subst (λ k. HoldsTimes (entry_at table i j) x q k) power
            (subst (λ v. HoldsTimes v x q (element_power Cova scales other one)) (entry_sym table j i) (lower_holds j i other one x q there here (omega arith) some (turned rows cells names one other x q apart h)))
        | no below ↦ lower_holds i j one other x q here there (omega arith) some h
      ]
