-- The product holds the exact one.
use Rattle.std.proofs.Common.{◌≡◌, ◌<◌, ◌*◌, ◌^◌, ◌∙◌, inl, inr, ℕ, zero, suc, ℤ, pos, ◌+ℤ◌, ◌*ℤ◌, neg_ℤ, List, length, All, slice_index_or, replicate, arith, refl, ap, sym, subst}
use Rattle.std.proofs.Math.IntN.{◌-ℤ◌, zero-*ℤ}
use Rattle.std.proofs.Math.Nat.{mul-pos}
use Rattle.std.proofs.lemmas.Int.{ints}
use Rattle.std.proofs.Math.Decide.{dec_lt}
use Rattle.std.proofs.lemmas.List.{get_or-replicate, get_or_past}
use Rattle.std.proofs.lemmas.List.Elements.{All-get_or}
use Rattle.whole_numbers.specs.Scaling.{interval_scale10, ten_above, ten_below}
use Rattle.whole_numbers.specs.Lists.{at}
use Rattle.whole_numbers.specs.Intervals.{Interval, Holds, interval_mul}
use Rattle.whole_numbers.proofs.Fractions.{holds_mul}
use Rattle.whole_numbers.proofs.IntervalLaws.{holds_sum}
use Rattle.whole_numbers.proofs.EqualFractions.{same_from_product}
use Rattle.whole_numbers.proofs.Powers.{ten_pow_above}
use Rattle.whole_numbers.proofs.Ring.{*ℤ_assoc}
use Rattle.sym_blocks.specs.Tables.{entry_at, zero_interval}
use Rattle.sys_model.specs.Scaling.{TimesPower, HoldsTimes, IsRescaled, AreRescaled}
use Rattle.sys_model.specs.Systems.{System, Fractions, row_by}
use Rattle.sys_model.proofs.RescaledLaws.{rescaled_system, rescaled_fractions}
use Rattle.sys_model.proofs.ScalingLaws.{ten_below_some, times_product, times_then, times_back, times_same, times_sum, holds_power}
use Rattle.equil.specs.Tables.{working_entry}
use Rattle.difference_products.specs.Products.{Factors, difference_at, scaled_difference, row_sum, row_product, AreZero}
use Rattle.difference_products.specs.Exact.{HoldFactors, ProductHolds}

-- ---- fractions times powers
-- x times 10^k, written out
times_out : (x : ℤ) (q : ℕ) (k : ℤ) → TimesPower x q k (x *ℤ pos (ten_above k)) (q * ten_below k)
times_out x q k =
    let e : ten_above k * (q * ten_below k) ≡ (q * ten_below k) * ten_above k = omega arith in
    *ℤ_assoc x (pos (ten_above k)) (pos (q * ten_below k)) ∙ ap (λ z. x *ℤ pos z) e

-- the interval of x / q times 10^k, scaled by 10^l, holds x / q times 10^(k + l)
pub holds_further : (w : Interval) (x y : ℤ) (q r : ℕ) (k l m : ℤ) → m ≡ k +ℤ l → 0 < q → TimesPower x q m y r → HoldsTimes w x q k → Holds (interval_scale10 w l) y r
holds_further w x y q r k l m is some t h =
    let u = x *ℤ pos (ten_above k) in
    let p = q * ten_below k in
    let there = times_then u x y p q r (neg_ℤ k) m some (times_back x u q p k (times_out x q k)) t in
    holds_power w u y p r l (mul-pos some (ten_below_some k)) (times_same u y p r (neg_ℤ k +ℤ m) l (omega (arith, ints)) there) h

-- ---- one row; W is the system and y the fractions in the units of the working table
abbrev powers : Factors → (ℕ → ℤ) → ℕ → ℤ
powers f e j = e j +ℤ at f.scales j

module _ (f : Factors) (e : ℕ → ℤ) (S W : System) (v y : Fractions) (hold : HoldFactors f S v) (system : IsRescaled f.table.size (pos 18) (pos 12) (powers f e) S W) (numbers : AreRescaled f.table.size (pos 12) (powers f e) v y) where
  entry_holds : (i j : ℕ) → i < f.table.size → j < f.table.size → Holds (working_entry (entry_at f.table) e i j) (W.a i j) W.q
  entry_holds i j row column =
      holds_further (entry_at f.table i j) (S.a i j) (W.a i j) S.q W.q (pos 18 -ℤ at f.scales i -ℤ at f.scales j) (neg_ℤ (e i) -ℤ e j) (pos 18 -ℤ powers f e i -ℤ powers f e j) (omega (arith, ints)) hold.some (system.entries i j row column) (hold.entries i j row column)

  difference_holds : (j : ℕ) → j < f.table.size → Holds (scaled_difference f e j) (y.x j) y.s
  difference_holds j column =
      holds_further (difference_at f j) (v.x j) (y.x j) v.s y.s (pos 20) (at f.scales j +ℤ e j -ℤ pos 8) (pos 12 +ℤ powers f e j) (omega (arith, ints)) hold.plain_some (numbers.rows j column) (hold.differences j column)

  sum_holds : (i : ℕ) → i < f.table.size → Holds (row_sum f e i) (row_by f.table.size W.a i y.x) (W.q * y.s)
  sum_holds i row =
      holds_sum f.table.size (λ j. interval_mul (working_entry (entry_at f.table) e i j) (scaled_difference f e j)) (λ j. W.a i j *ℤ y.x j) (W.q * y.s)
      (λ j column. holds_mul (working_entry (entry_at f.table) e i j) (scaled_difference f e j) (W.a i j) (y.x j) W.q y.s (entry_holds i j row column) (difference_holds j column))

  -- the exact row in the two units
  row_times : (i : ℕ) → i < f.table.size → TimesPower (row_by f.table.size S.a i v.x) (S.q * v.s) (pos 30 -ℤ powers f e i) (row_by f.table.size W.a i y.x) (W.q * y.s)
  row_times i row =
      times_sum f.table.size (λ j. S.a i j *ℤ v.x j) (λ j. W.a i j *ℤ y.x j) (S.q * v.s) (W.q * y.s) (pos 30 -ℤ powers f e i)
      (λ j column. times_same (S.a i j *ℤ v.x j) (W.a i j *ℤ y.x j) (S.q * v.s) (W.q * y.s) ((pos 18 -ℤ powers f e i -ℤ powers f e j) +ℤ (pos 12 +ℤ powers f e j)) (pos 30 -ℤ powers f e i) (omega (arith, ints))
      (times_product (S.a i j) (W.a i j) (v.x j) (y.x j) S.q W.q v.s y.s (pos 18 -ℤ powers f e i -ℤ powers f e j) (pos 12 +ℤ powers f e j) (system.entries i j row column) (numbers.rows j column)))

  product_in : (i : ℕ) → i < f.table.size → HoldsTimes (row_product f e i) (row_by f.table.size S.a i v.x) (S.q * v.s) (pos 18 -ℤ at f.scales i)
  product_in i row =
      let x = row_by f.table.size S.a i v.x in
      let z = row_by f.table.size W.a i y.x in
      let q = S.q * v.s in
      let r = W.q * y.s in
      let k = pos 18 -ℤ at f.scales i in
      let u = x *ℤ pos (ten_above k) in
      let p = q * ten_below k in
      let l = pos 30 -ℤ powers f e i in
      let there = times_then z x u r q p (neg_ℤ l) k (mul-pos hold.some hold.plain_some) (times_back x z q r l (row_times i row)) (times_out x q k) in
      holds_power (row_sum f e i) z u r p (e i -ℤ pos 12) (mul-pos system.some numbers.some) (times_same z u r p (neg_ℤ l +ℤ k) (e i -ℤ pos 12) (omega (arith, ints)) there) (sum_holds i row)

row_product_holds : (f : Factors) (e : ℕ → ℤ) (S : System) (v : Fractions) → HoldFactors f S v → (i : ℕ) → i < f.table.size → HoldsTimes (row_product f e i) (row_by f.table.size S.a i v.x) (S.q * v.s) (pos 18 -ℤ at f.scales i)
row_product_holds f e S v hold i row =
    let W = rescaled_system f.table.size (pos 18) (pos 12) (powers f e) S hold.some in
    let Y = rescaled_fractions f.table.size (pos 12) (powers f e) v hold.plain_some in
    product_in f e S W.0 v Y.0 hold W.1 Y.1 i row

-- ---- all differences are zero
zero_at : (ds : List Interval) (j : ℕ) → All (λ w. w ≡ zero_interval) ds → slice_index_or ds j zero_interval ≡ zero_interval
zero_at ds j h = elim (dec_lt j (length ds)) [
  | yes l ↦ All-get_or (λ w. w ≡ zero_interval) ds j zero_interval l h
  | no l ↦ get_or_past ds j zero_interval (omega arith)
]

-- a fraction in the interval of zero is zero
zero_in : (x : ℤ) (q m : ℕ) → 0 < m → Holds zero_interval (x *ℤ pos m) q → x ≡ pos 0
zero_in x q m some h = same_from_product x (pos 0) m some (omega (arith, ints, zero-*ℤ (pos m), h.above, h.below))

zero_row : (n : ℕ) (a : ℕ → ℕ → ℤ) (i : ℕ) (x : ℕ → ℤ) → ((j : ℕ) → j < n → x j ≡ pos 0) → row_by n a i x ≡ pos 0
zero_row zero a i x h = refl
zero_row (suc n) a i x h =
    let last = ap (λ z. a i n *ℤ z) (h n (omega arith)) in
    let before = zero_row n a i x (λ j l. h j (omega arith)) in
    omega (arith, ints, last, before)

zeros_hold : (f : Factors) (S : System) (v : Fractions) → HoldFactors f S v → AreZero f → (i : ℕ) → HoldsTimes zero_interval (row_by f.table.size S.a i v.x) (S.q * v.s) (pos 18 -ℤ at f.scales i)
zeros_hold f S v hold none i =
    let k = pos 18 -ℤ at f.scales i in
    let x : (j : ℕ) → j < f.table.size → v.x j ≡ pos 0 = λ j column. zero_in (v.x j) v.s (10 ^ 20) (ten_pow_above 20) (zero_held f S v hold none j column) in
    let is = ap (λ z. z *ℤ pos (ten_above k)) (zero_row f.table.size S.a i v.x x) ∙ zero-*ℤ (pos (ten_above k)) in
    subst (λ z. Holds zero_interval z ((S.q * v.s) * ten_below k)) (sym is) (record { above = omega (arith, ints); below = omega (arith, ints) })
  where
    zero_held : (f : Factors) (S : System) (v : Fractions) → HoldFactors f S v → AreZero f → (j : ℕ) → j < f.table.size → Holds zero_interval (v.x j *ℤ pos (10 ^ 20)) v.s
    zero_held f S v hold none j column =
        let one : v.s * 1 ≡ v.s = omega arith in
        rw one at (subst (λ w. HoldsTimes w (v.x j) v.s (pos 20)) (zero_at f.differences j none) (hold.differences j column))

zero_list : (n i : ℕ) (ps : List Interval) → ps ≡ replicate n zero_interval → i < n → slice_index_or ps i zero_interval ≡ zero_interval
zero_list n i ps is row = ap (λ l. slice_index_or l i zero_interval) is ∙ get_or-replicate n i zero_interval zero_interval row

pub product_holds : ProductHolds
product_holds f S v products hold is i row =
    elim is [
      | inl none ↦ subst (λ w. HoldsTimes w (row_by f.table.size S.a i v.x) (S.q * v.s) (pos 18 -ℤ at f.scales i)) (sym (zero_list f.table.size i products none.1 row)) (zeros_hold f S v hold none.0 i)
      | inr some ↦ subst (λ w. HoldsTimes w (row_by f.table.size S.a i v.x) (S.q * v.s) (pos 18 -ℤ at f.scales i)) (sym (some.1.each i row)) (row_product_holds f some.1.e S v hold i row)
    ]
