-- There are exact information matrices, and each multiple of one is one.
use Rattle.std.proofs.Common.{◌≡◌, ◌<◌, ◌*◌, ◌∙◌, ℕ, ℤ, pos, ◌*ℤ◌, List, Option, Some, None, length, ap, subst, refl, arith}
use Rattle.std.proofs.Math.IntN.{zero-*ℤ}
use Rattle.std.proofs.Math.Nat.{mul-pos}
use Rattle.std.proofs.lemmas.Int.{ints}
use Rattle.stated_order.specs.Steps.{HasOne}
use Rattle.whole_numbers.proofs.Ring.{*ℤ_assoc, *ℤ_comm}
use Rattle.decimal_e.specs.Decimals.{Decimal}
use Rattle.decimal_e.specs.Fractions.{numerator, denominator, Means}
use Rattle.decimal_e.proofs.SameValues.{product_one}
use Rattle.sys_model.specs.Systems.{System}
use Rattle.sys_model.proofs.ScalingLaws.{ten_below_some}
use Rattle.param_ids.specs.Plain.{PlainId}
use Rattle.param_ids.specs.Order.{IsRising}
use Rattle.snx_rows.specs.declared.rows.Row.{Row}
use Rattle.snx_matrices.specs.Named.{element_of}
use Rattle.snx_matrices.specs.declared.elements.Cell.{Cell}
use Rattle.snx_matrices.specs.declared.elements.Content.{Content}
use Rattle.snx_matrices.specs.declared.elements.Content.TheVariants.{Cova, Corr, Info}
use Rattle.neq_stack.specs.ByName.{place_in}
use Rattle.neq_stack.specs.Systems.{NamedSystem, over, multiple}
use Rattle.neq_stack.proofs.MeaningLaws.{means_multiple}
use Rattle.neq_stack.proofs.NameLaws.{place_found, place_missing}
use Rattle.named_tables.specs.Weighted.{one_decimal, weighted_element}
use Rattle.named_tables.proofs.MeaningLaws.{element_means}
use Rattle.correlations.specs.Exact.{AreCorrelatedBy}
use Rattle.inv_enclose.specs.Inverses.{IsInverse}
use Rattle.information_tables.specs.Exact.{IsGiven, HasCovariances, IsWeightOver, IsOverCovariances, MultiplesAreInformation}

-- ---- as it stands
pub given_exists : (rows : List Row) (cells : List Cell) (weight : Decimal) → HasOne (IsGiven rows cells weight)
given_exists rows cells weight =
    let over_one = element_means rows cells weight in (
      record { q = over_one.0; a = λ one other. (over_one.2 one other).0; c = λ id. pos 0 },
      record { some = over_one.1; elements = λ one other. (over_one.2 one other).1; right = λ id. refl },
    )

-- ---- covariances
pub covariances_exist : (rows : List Row) (cells : List Cell) (names : List PlainId) → HasOne (HasCovariances Cova rows cells names)
covariances_exist rows cells names =
    let over_one = element_means rows cells one_decimal in (
      record { q = over_one.0; a = λ one other. (over_one.2 one other).0; c = λ id. pos 0 },
      record {
        some = over_one.1;
        elements = λ one other here there. subst (λ d. Means d (over_one.2 one other).0 over_one.0) (product_one (element_of rows cells one other)) (over_one.2 one other).1;
      },
    )

pub correlations_exist : (rows : List Row) (cells : List Cell) (names : List PlainId) → (q : ℕ) × HasOne (AreCorrelatedBy rows cells names q) → HasOne (HasCovariances Corr rows cells names)
correlations_exist rows cells names (q, one) = (record { q = q; a = one.0; c = λ id. pos 0 }, record { some = one.1.some; elements = one.1.each })

-- ---- the inverse at names
-- the elements of a matrix at two places, zero where one of them is none
abbrev number_at : System → Option ℕ → Option ℕ → ℤ
number_at F (Some i) (Some j) = F.a i j
number_at F i j = pos 0

none_there : (F : System) (p : Option ℕ) → number_at F p None ≡ pos 0
none_there F (Some i) = refl
none_there F None = refl

module _ (names : List PlainId) (rising : IsRising names) (weight : Decimal) (Q : NamedSystem) (F : System) (inverts : IsInverse (length names) (over names Q) F) where
  -- the weight times the inverse
  abbrev weighed_by : NamedSystem
  weighed_by = record { q = F.q * denominator weight; a = λ one other. number_at F (place_in names one) (place_in names other) *ℤ numerator weight; c = λ id. pos 0 }

  pub weight_over : HasOne (IsWeightOver names weight Q)
  weight_over = (
    weighed_by,
    record {
      some = mul-pos inverts.some (ten_below_some weight.exp);
      inverse = F;
      inverts = inverts;
      elements = λ i j one other here there.
          ap (λ p. (number_at F p (place_in names other) *ℤ numerator weight) *ℤ pos (F.q * denominator weight)) (place_found names one i rising here)
          ∙ ap (λ p. (number_at F (Some i) p *ℤ numerator weight) *ℤ pos (F.q * denominator weight)) (place_found names other j rising there);
      no_row = λ one other none. ap (λ p. number_at F p (place_in names other) *ℤ numerator weight) (place_missing names one none) ∙ zero-*ℤ (numerator weight);
      no_column = λ one other none. ap (λ p. number_at F (place_in names one) p *ℤ numerator weight) (place_missing names other none) ∙ ap (λ x. x *ℤ numerator weight) (none_there F (place_in names one)) ∙ zero-*ℤ (numerator weight);
      right = λ id. refl;
    },
  )

-- ---- multiples
times_zero : (k : ℕ) (x : ℤ) → x ≡ pos 0 → pos k *ℤ x ≡ pos 0
times_zero k x none = ap (λ z. pos k *ℤ z) none ∙ zero k
  where
    zero : (k : ℕ) → pos k *ℤ pos 0 ≡ pos 0
    zero k = omega (arith, ints)

times_both : (k q d : ℕ) (x y : ℤ) → x *ℤ pos d ≡ y *ℤ pos q → (pos k *ℤ x) *ℤ pos d ≡ y *ℤ pos (k * q)
times_both k q d x y is =
    let turned : q * k ≡ k * q = omega arith in
    *ℤ_assoc (pos k) x (pos d) ∙ ap (λ z. pos k *ℤ z) is ∙ behind k (y *ℤ pos q) ∙ *ℤ_assoc y (pos q) (pos k) ∙ ap (λ n. y *ℤ pos n) turned
  where
    behind : (k : ℕ) (z : ℤ) → pos k *ℤ z ≡ z *ℤ pos k
    behind k z = *ℤ_comm (pos k) z

given_multiple : (rows : List Row) (cells : List Cell) (weight : Decimal) (E : NamedSystem) (k : ℕ) → 0 < k → IsGiven rows cells weight E → IsGiven rows cells weight (multiple k E)
given_multiple rows cells weight E k some is = record {
  some = mul-pos some is.some;
  elements = λ one other. means_multiple (weighted_element rows cells weight one other) (E.a one other) E.q k (is.elements one other);
  right = λ id. times_zero k (E.c id) (is.right id);
}

weight_multiple : (names : List PlainId) (weight : Decimal) (Q E : NamedSystem) (k : ℕ) → 0 < k → IsWeightOver names weight Q E → IsWeightOver names weight Q (multiple k E)
weight_multiple names weight Q E k some is = record {
  some = mul-pos some is.some;
  inverse = is.inverse;
  inverts = is.inverts;
  elements = λ i j one other here there. times_both k E.q (is.inverse.q * denominator weight) (E.a one other) (is.inverse.a i j *ℤ numerator weight) (is.elements i j one other here there);
  no_row = λ one other none. times_zero k (E.a one other) (is.no_row one other none);
  no_column = λ one other none. times_zero k (E.a one other) (is.no_column one other none);
  right = λ id. times_zero k (E.c id) (is.right id);
}

over_multiple : (content : Content) (rows : List Row) (cells : List Cell) (names : List PlainId) (weight : Decimal) (E : NamedSystem) (k : ℕ) → 0 < k → IsOverCovariances content rows cells names weight E → IsOverCovariances content rows cells names weight (multiple k E)
over_multiple content rows cells names weight E k some is = record { Q = is.Q; covariances = is.covariances; over_them = weight_multiple names weight is.Q E k some is.over_them }

pub multiples_are : MultiplesAreInformation
multiples_are Info rows cells names weight E k some is = given_multiple rows cells weight E k some is
multiples_are Cova rows cells names weight E k some is = over_multiple Cova rows cells names weight E k some is
multiples_are Corr rows cells names weight E k some is = over_multiple Corr rows cells names weight E k some is
