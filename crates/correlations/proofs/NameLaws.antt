-- From covariances by place to those by name.
use Rattle.std.proofs.Common.{◌≡◌, ◌≤◌, ◌<◌, ◌^◌, ◌∙◌, ◌==◌, ℕ, ℤ, pos, Bool, true, false, cond, List, [], ◌∷◌, Option, Some, None, All, length, map, get_or, refl, sym, ap, subst, arith}
use Rattle.std.specs.List.{find}
use Rattle.std.specs.Net.Reader.{map_or}
use Rattle.std.proofs.Math.Decide.{ℕ_discrete}
use Rattle.std.proofs.lemmas.Bool.Decides.{nat_tests}
use Rattle.std.proofs.lemmas.List.{get_or-map}
use Rattle.std.proofs.lemmas.List.Elements.{All-head, All-tail}
use Rattle.std.proofs.lemmas.Option.{get_or_from_slice_get}
use Rattle.whole_numbers.specs.Intervals.{Interval, point_interval, size}
use Rattle.decimal_e.specs.Decimals.{Decimal, IsBounded, IsCanonicalOf}
use Rattle.decimal_e.specs.Fractions.{IsAtMost}
use Rattle.decimal_e.specs.Scales.{decimal_interval}
use Rattle.decimal_e.proofs.SameValues.{product_one}
use Rattle.decimal_e.proofs.Values.{one_form, zero_bounded}
use Rattle.sym_blocks.specs.Tables.{SymTable, entry_at}
use Rattle.param_ids.specs.Plain.{PlainId}
use Rattle.param_ids.specs.Order.{IsNames, is_same_id}
use Rattle.param_ids.specs.Tables.{ScaleMap}
use Rattle.param_ids.proofs.SameIds.{itself}
use Rattle.snx_rows.specs.Named.{zero_decimal, place_of}
use Rattle.snx_rows.specs.declared.rows.Row.{Row}
use Rattle.snx_matrices.specs.Named.{is_at, given_at, element_of}
use Rattle.snx_matrices.specs.declared.elements.Cell.{Cell}
use Rattle.snx_matrices.specs.declared.elements.Content.TheVariants.{Cova, Corr}
use Rattle.neq_stack.specs.Systems.{name_at}
use Rattle.named_tables.specs.Weighted.{element_power, one_decimal, scale_of}
use Rattle.named_tables.specs.Parts.{IsShownTable, StandsFor, pair_power}
use Rattle.named_tables.proofs.NameLaws.{apart_names, one_rank}
use Rattle.named_tables.proofs.RankLaws.{power_is}
use Rattle.named_tables.proofs.TableLaws.{name_here}
use Rattle.correlations.specs.Exact.{correlation_of, deviation_of}
use Rattle.correlations.specs.Correlations.{CovarianceFits, IsProductOf, ProductFits}
use Rattle.correlations.specs.Parts.{IsFitting, IsTyped, correlation_at, deviation_at, IsEntryAt, EntryFitsAt}
use Rattle.correlations.proofs.SizeLaws.{at_most_one, small_interval}

-- ---- elements of the type
zero_typed : IsTyped zero_decimal
zero_typed = record { canonical = record { zero = λ _. refl; other = λ h. absurd (h refl) }; bounded = zero_bounded }

picked : (b : Bool) (cell : Cell) (o : Option Cell) → IsTyped cell.value → IsTyped (map_or o zero_decimal (λ (c : Cell). c.value)) → IsTyped (map_or (cond b (Some cell) o) zero_decimal (λ (c : Cell). c.value))
picked true cell o here there = here
picked false cell o here there = there

pub given_typed : (cells : List Cell) (i j : ℕ) → All (λ (cell : Cell). IsTyped cell.value) cells → IsTyped (given_at cells i j)
given_typed [] i j all = zero_typed
given_typed (cell ∷ cells) i j all =
    picked (is_at i j cell) cell (find (is_at i j) cells) (All-head (λ (c : Cell). IsTyped c.value) cell cells all) (given_typed cells i j (All-tail (λ (c : Cell). IsTyped c.value) cell cells all))

-- the canonical form of a decimal of the type is that decimal
typed_bounded : (r d : Decimal) → IsTyped r → IsCanonicalOf d r → IsBounded d
typed_bounded r d typed form = subst IsBounded (sym (one_form d r r form (record { same = record { same = refl }; canonical = typed.canonical }))) typed.bounded

-- an interval that stands for a number of the type, at most 1 in size
stands_to : (r : Decimal) (v : Interval) → StandsFor r (pos 18) v → size v ≤ 10 ^ 18 → v ≡ decimal_interval r (pos 18)
stands_to r v stands small = stands.back (omega (arith, small))

stands_back : (r : Decimal) (v : Interval) → IsTyped r → StandsFor r (pos 18) v → IsAtMost 1 r → v ≡ decimal_interval r (pos 18)
stands_back r v typed stands most = let s = small_interval r most in stands.here (record { bounded = λ d form. typed_bounded r d typed form; modest = omega (arith, s) })

same_number : (i : ℕ) → (i == i) ≡ true
same_number i = grind (arith, nat_tests)

other_number : (i j : ℕ) → (i ≡ j → ⊥) → (i == j) ≡ false
other_number i j apart = grind (arith, nat_tests)

-- the interval of a correlation, and the correlation
pub record IsCorrelation (r : Decimal) (v : Interval) : Type 0 where
  pub to : size v ≤ 10 ^ 18 → v ≡ decimal_interval r (pos 18)
  pub back : IsAtMost 1 r → v ≡ decimal_interval r (pos 18)

one_correlation : (v : Interval) → v ≡ point_interval (pos (10 ^ 18)) → IsCorrelation one_decimal v
one_correlation v is = record { to = λ _. is; back = λ _. is }

module _ (rows : List Row) (cells : List Cell) (scales : ScaleMap) (names : List PlainId) (given : SymTable) (deviations : List (Option Decimal)) (exponents : List ℤ)
    (shown : IsShownTable Corr rows cells one_decimal scales names given) (devs : deviations ≡ map (deviation_of rows cells names) names) (exps : exponents ≡ map (scale_of scales) names)
    (typed : All (λ (cell : Cell). IsTyped cell.value) cells) (in_order : IsNames names) where
  pub deviation_is : (i : ℕ) → i < length names → deviation_at given deviations exponents i ≡ deviation_of rows cells names (name_at names i)
  deviation_is i l =
      let here = name_here names i l in
      ap (λ ds. get_or ds i None) devs ∙ get_or-map (deviation_of rows cells names) names i (name_at names i) None l ∙ ap (deviation_of rows cells names) (get_or_from_slice_get names i (name_at names i) (name_at names i) here)

  pub power_here : (i j : ℕ) → i < length names → j < length names → pair_power Cova exponents i j ≡ element_power Cova scales (name_at names i) (name_at names j)
  power_here i j li lj = power_is Cova scales names exponents i j (name_at names i) (name_at names j) exps (name_here names i li) (name_here names j lj)

  off_diagonal : (i j : ℕ) → i < length names → j < length names → (i ≡ j → ⊥) → IsCorrelation (correlation_of rows cells (name_at names i) (name_at names j)) (correlation_at given i j)
  off_diagonal i j li lj apart =
      let one = name_at names i in
      let other = name_at names j in
      let here = name_here names i li in
      let there = name_here names j lj in
      let differ : is_same_id one other ≡ false = apart_names one other (λ e. apart (one_rank names other i j in_order.0 (here ∙ ap (λ id. Some id) e) there)) in
      let r_is : correlation_of rows cells one other ≡ element_of rows cells one other = ap (λ b. cond b one_decimal (element_of rows cells one other)) differ in
      let v_is : correlation_at given i j ≡ entry_at given i j = ap (λ b. cond b (point_interval (pos (10 ^ 18))) (entry_at given i j)) (other_number i j apart) in
      let stands : StandsFor (element_of rows cells one other) (pos 18) (entry_at given i j) = subst (λ d. StandsFor d (pos 18) (entry_at given i j)) (product_one (element_of rows cells one other)) (shown.entries i j one other here there) in
      subst (λ r. IsCorrelation r (correlation_at given i j)) (sym r_is)
      (subst (IsCorrelation (element_of rows cells one other)) (sym v_is)
      (record { to = stands_to (element_of rows cells one other) (entry_at given i j) stands; back = stands_back (element_of rows cells one other) (entry_at given i j) (given_typed cells (place_of rows one) (place_of rows other) typed) stands }))

  on_diagonal : (i : ℕ) → IsCorrelation (correlation_of rows cells (name_at names i) (name_at names i)) (correlation_at given i i)
  on_diagonal i =
      let one = name_at names i in
      let r_is : correlation_of rows cells one one ≡ one_decimal = ap (λ b. cond b one_decimal (element_of rows cells one one)) (itself one) in
      let v_is : correlation_at given i i ≡ point_interval (pos (10 ^ 18)) = ap (λ b. cond b (point_interval (pos (10 ^ 18))) (entry_at given i i)) (same_number i) in
      subst (λ r. IsCorrelation r (correlation_at given i i)) (sym r_is) (one_correlation (correlation_at given i i) v_is)

  correlation_is : (i j : ℕ) → i < length names → j < length names → IsCorrelation (correlation_of rows cells (name_at names i) (name_at names j)) (correlation_at given i j)
  correlation_is i j li lj =
      elim (ℕ_discrete i j) [
        | yes e ↦ subst (λ k. IsCorrelation (correlation_of rows cells (name_at names i) (name_at names k)) (correlation_at given i k)) e (on_diagonal i)
        | no apart ↦ off_diagonal i j li lj apart
      ]

  same_some : (one : Option Decimal) (s x : Decimal) → one ≡ Some s → one ≡ Some x → x ≡ s
  same_some one s x is at = let e : Some x ≡ Some s = sym at ∙ is in cc

  -- a covariance by place is one by name
  pub fits_to : (i j : ℕ) (w : Interval) (s t : Decimal) → i < length names → j < length names → IsEntryAt given deviations exponents i j w → deviation_of rows cells names (name_at names i) ≡ Some s → deviation_of rows cells names (name_at names j) ≡ Some t
      → IsProductOf (correlation_of rows cells (name_at names i) (name_at names j)) s t (element_power Cova scales (name_at names i) (name_at names j)) w × IsAtMost 1 (correlation_of rows cells (name_at names i) (name_at names j))
  fits_to i j w s t li lj entry s_is t_is =
      let r = correlation_of rows cells (name_at names i) (name_at names j) in
      let power = element_power Cova scales (name_at names i) (name_at names j) in
      let s_same = same_some (deviation_at given deviations exponents i) s entry.s (deviation_is i li ∙ s_is) entry.s_is in
      let t_same = same_some (deviation_at given deviations exponents j) t entry.t (deviation_is j lj ∙ t_is) entry.t_is in
      let c = correlation_at given i j in
      let c_is : c ≡ decimal_interval r (pos 18) = (correlation_is i j li lj).to entry.fits.correlation in
      let fits : IsFitting (decimal_interval r (pos 18)) s t power w =
      subst (λ v. IsFitting v s t power w) c_is (subst (λ p. IsFitting c s t p w) (power_here i j li lj) (subst (λ y. IsFitting c s y (pair_power Cova exponents i j) w) t_same (subst (λ x. IsFitting c x entry.t (pair_power Cova exponents i j) w) s_same entry.fits))) in
      (record { m = fits.m; k = fits.k; n = fits.n; l = fits.l; one = fits.one; other = fits.other; is = fits.is }, at_most_one r fits.correlation)

  pub covariance_fits : (i j : ℕ) (w : Interval) → i < length names → j < length names → IsEntryAt given deviations exponents i j w → CovarianceFits rows cells scales names i j
  covariance_fits i j w li lj entry s t s_is t_is =
      let both = fits_to i j w s t li lj entry s_is t_is in
      record { correlation = both.1; w = w; product = both.0; modest = entry.fits.modest }

  -- and back
  pub fits_back : (i j : ℕ) (s t : Decimal) → i < length names → j < length names → deviation_at given deviations exponents i ≡ Some s → deviation_at given deviations exponents j ≡ Some t → CovarianceFits rows cells scales names i j → EntryFitsAt given deviations exponents i j
  fits_back i j s t li lj s_is t_is fits =
      let r = correlation_of rows cells (name_at names i) (name_at names j) in
      let f : ProductFits r s t (element_power Cova scales (name_at names i) (name_at names j)) = fits s t (sym (deviation_is i li) ∙ s_is) (sym (deviation_is j lj) ∙ t_is) in
      let p = f.product in
      let c_is : correlation_at given i j ≡ decimal_interval r (pos 18) = (correlation_is i j li lj).back f.correlation in
      let fitting : IsFitting (decimal_interval r (pos 18)) s t (element_power Cova scales (name_at names i) (name_at names j)) f.w =
      record { correlation = small_interval r f.correlation; m = p.m; k = p.k; n = p.n; l = p.l; one = p.one; other = p.other; is = p.is; modest = f.modest } in
      record {
        w = f.w;
        is = record { s = s; t = t; s_is = s_is; t_is = t_is; fits = subst (λ v. IsFitting v s t (pair_power Cova exponents i j) f.w) (sym c_is) (subst (λ k. IsFitting (decimal_interval r (pos 18)) s t k f.w) (sym (power_here i j li lj)) fitting) };
      }
