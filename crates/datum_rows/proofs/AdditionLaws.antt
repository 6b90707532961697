-- What is tested and added by places is the addition of a datum.
use Rattle.std.proofs.Common.{◌≡◌, ◌≤◌, ◌<◌, ◌+◌, ◌*◌, ◌^◌, ◌∙◌, ◌++◌, inl, inr, ℕ, ℤ, pos, ◌*ℤ◌, List, [], ◌∷◌, Option, Some, None, Result, Ok, Err, length, map, unsigned_abs, refl, sym, ap, subst, arith}
use Rattle.std.specs.List.{find}
use Rattle.std.specs.Prelude.{not}
use Rattle.std.proofs.Math.IntN.{◌-ℤ◌}
use Rattle.std.proofs.lemmas.Bool.{cases_lt}
use Rattle.std.proofs.lemmas.Int.{ints}
use Rattle.std.proofs.lemmas.List.{length-map, length-append}
use Rattle.stated_order.specs.First.{HoldsLower, IsFirstLowerFailure}
use Rattle.stated_order.specs.Steps.{Through}
use Rattle.stated_order.proofs.FirstLaws.{first_lower_failure_moves}
use Rattle.stated_order.proofs.StepLaws.{then_gives, then_stops}
use Rattle.whole_numbers.specs.Intervals.{Interval, interval_add, size}
use Rattle.whole_numbers.specs.Lists.{at}
use Rattle.sym_blocks.specs.Tables.{SymTable, entry_at}
use Rattle.sym_blocks.proofs.Rows.{entry_sym}
use Rattle.decimal_e.specs.Decimals.{Decimal}
use Rattle.inverse_squares.proofs.Alone.{over_square_exists}
use Rattle.control_doc.specs.Plain.{PlainDatum}
use Rattle.control_doc.specs.Valid.{HasPositiveSigmas}
use Rattle.control_doc.specs.declared.plans.Site.{Site}
use Rattle.neq_stack.specs.Neqs.{PlainNeq, IsSound}
use Rattle.neq_stack.specs.ByName.{AreAtMost}
use Rattle.neq_stack.specs.Systems.{name_at}
use Rattle.neq_stack.proofs.NameLaws.{place_found}
use Rattle.neq_stack.proofs.PlaceLaws.{name_there}
use Rattle.neq_stack.proofs.PlacedLaws.{entry_there}
use Rattle.neq_stack.proofs.TableLaws.{table_of, rows_length, table_read}
use Rattle.datum_rows.specs.declared.motions.Condition.{Condition as CodeCondition}
use Rattle.datum_rows.specs.declared.sites.Coordinate.{Coordinate}
use Rattle.datum_rows.specs.declared.rows.Place.{Place}
use Rattle.datum_rows.specs.Conditions.{Motion, TranslationX, TranslationY, TranslationZ, RotationX, RotationY, RotationZ, Dilation, Axis, AxisX, AxisY, AxisZ, Triple, Condition, along, coefficients, conditions, given, reach}
use Rattle.datum_rows.specs.Sites.{is_matched, is_of_site, axis_of, metres, position, coefficient_along, coefficient_of}
use Rattle.datum_rows.specs.Additions.{Fault, Range, matched, matched_in, coefficient_at, IsRowInterval, RowFits, IsWithRow, AddsRow, IsAddition}
use Rattle.datum_rows.specs.Rows.{AreLaidOut, IsRowAt, FitsAt, FitsAll, IsMisfit, AreTested, AreFitting, AreFine, IsTableWith, AreAllAdded, IsTableAtMost}
use Rattle.datum_rows.specs.Views.{condition_view, coefficient_by, coordinate_at, AreCoordinates}
use Rattle.datum_rows.proofs.Alone.{one_row_interval}
use Rattle.datum_rows.proofs.KeptLaws.{IsKept, sound_after, sound_through, modest_through, kept_through, row_turned}
use Rattle.datum_rows.proofs.RowLaws.{over_moved, product_few}
use Rattle.datum_rows.proofs.SameLaws.{coefficient_same}
use Rattle.datum_rows.proofs.Sigmas.{Each, IsFine, fine_conditions}
use Rattle.datum_rows.proofs.SiteLaws.{floor_near, value_modest}

-- ---- intervals by places and by names
module _ (sites : List Site) (neq : PlainNeq) (coordinates : List (Option Coordinate)) (are : AreCoordinates sites neq coordinates) (condition : Condition) where
  same_product : (i j : ℕ) → i < length neq.names → j < length neq.names
      → coefficient_by condition.motion (coordinate_at coordinates i) *ℤ coefficient_by condition.motion (coordinate_at coordinates j) ≡ coefficient_at sites neq condition i *ℤ coefficient_at sites neq condition j
  same_product i j li lj =
      ap (λ x. x *ℤ coefficient_by condition.motion (coordinate_at coordinates j)) (are.each condition.motion i li) ∙ ap (λ x. coefficient_at sites neq condition i *ℤ x) (are.each condition.motion j lj)

  pub row_named : (i j : ℕ) (w : Interval) → i < length neq.names → j < length neq.names → IsRowAt coordinates neq.scales condition i j w → IsRowInterval sites neq condition i j w
  row_named i j w li lj is = over_moved _ _ condition.sigma _ _ w (same_product i j li lj) refl is

  row_placed : (i j : ℕ) (w : Interval) → i < length neq.names → j < length neq.names → IsRowInterval sites neq condition i j w → IsRowAt coordinates neq.scales condition i j w
  row_placed i j w li lj is = over_moved _ _ condition.sigma _ _ w (sym (same_product i j li lj)) refl is

  fits_named : (i j : ℕ) → i < length neq.names → j ≤ i → FitsAt coordinates neq.scales condition i j → RowFits sites neq condition i j
  fits_named i j li low fits = (fits.0, row_named i j fits.0 li (omega arith) fits.1, fits.2)

  fits_placed : (i j : ℕ) → i < length neq.names → j ≤ i → RowFits sites neq condition i j → FitsAt coordinates neq.scales condition i j
  fits_placed i j li low fits = (fits.0, row_placed i j fits.0 li (omega arith) fits.1, fits.2)

  pub all_fit : FitsAll coordinates neq.scales condition → HoldsLower (length neq.names) (RowFits sites neq condition)
  all_fit fits i j li low = fits_named i j li low (fits i j (omega (arith, are.count)) low)

  pub first_misfit_named : (place : Place) → IsMisfit coordinates neq.scales condition (Some place) → IsFirstLowerFailure (length neq.names) (RowFits sites neq condition) place.row place.col
  first_misfit_named place first =
      first_lower_failure_moves (length neq.names) (FitsAt coordinates neq.scales condition) (RowFits sites neq condition) place.row place.col fits_named fits_placed
      (subst (λ n. IsFirstLowerFailure n (FitsAt coordinates neq.scales condition) place.row place.col) are.count first)

-- ---- normal equations with another table
abbrev pub with_table : PlainNeq → SymTable → PlainNeq
with_table neq table = record { names = neq.names; table = table; right = neq.right; apriori = neq.apriori; units = neq.units; scales = neq.scales }

pub coordinates_after : (sites : List Site) (neq after : PlainNeq) (coordinates : List (Option Coordinate)) → after.names ≡ neq.names → after.apriori ≡ neq.apriori → AreCoordinates sites neq coordinates → AreCoordinates sites after coordinates
coordinates_after sites neq after coordinates names apriori are = record {
  count = are.count ∙ ap length (sym names);
  each = λ motion k lt.
      are.each motion k (subst (λ ns. k < length ns) names lt) ∙ ap (λ ns. coefficient_of sites neq motion (name_at ns k)) (sym names) ∙ sym (coefficient_same after neq names apriori sites motion (name_at after.names k));
  near = λ k lt. are.near k (subst (λ ns. k < length ns) names lt);
}

module _ (sites : List Site) (neq : PlainNeq) (coordinates : List (Option Coordinate)) (are : AreCoordinates sites neq coordinates) (rows : neq.table.size ≡ length neq.names) (condition : Condition) (table : SymTable) (added : IsTableWith coordinates neq.scales condition neq.table table) where
  pub is_with_row : IsWithRow sites neq condition (with_table neq table)
  is_with_row = record {
    names = refl;
    right = refl;
    apriori = refl;
    units = refl;
    scales = refl;
    rows = added.rows;
    whole = added.whole;
    entries = λ i j li lj.
        elim (cases_lt i j) [
          | inl above ↦
              let there = added.entries j i (omega arith) (omega arith) in (
                there.0,
                row_turned sites neq condition j i there.0 (row_named sites neq coordinates are condition j i there.0 lj li there.1),
                entry_sym table i j ∙ there.2 ∙ ap (λ e. interval_add e there.0) (entry_sym neq.table j i),
              )
          | inr low ↦
              let there = added.entries i j (omega arith) low in
              (there.0, row_named sites neq coordinates are condition i j there.0 li lj there.1, there.2)
        ];
  }

pub adds_through : (sites : List Site) (neq : PlainNeq) (coordinates : List (Option Coordinate)) (list : List CodeCondition) (table : SymTable) → AreCoordinates sites neq coordinates → neq.table.size ≡ length neq.names
    → AreFitting coordinates neq.scales list → AreAllAdded coordinates neq.scales list neq.table table → Through (AddsRow sites) neq (map condition_view list) (Ok (with_table neq table))
adds_through sites neq coordinates [] table are rows fits added = ap (λ t. Ok (with_table neq t)) added
adds_through sites neq coordinates (c ∷ rest) table are rows fits added =
    let mid = with_table neq added.0 in
    let here = is_with_row sites neq coordinates are rows (condition_view c) added.0 added.1 in
    then_gives (AddsRow sites neq (condition_view c)) (λ after. Through (AddsRow sites) after (map condition_view rest)) mid (Ok (with_table neq table)) (all_fit sites neq coordinates are (condition_view c) fits.0, here)
    (adds_through sites mid coordinates rest table (coordinates_after sites neq mid coordinates refl refl are) (added.1.rows ∙ rows) fits.1 added.2)

-- ---- a condition that fits can be added
along_near : (motion : Motion) (axis : Axis) (p : Triple) → unsigned_abs p.x ≤ 10 ^ 12 → unsigned_abs p.y ≤ 10 ^ 12 → unsigned_abs p.z ≤ 10 ^ 12 → unsigned_abs (along axis (coefficients motion p)) ≤ 10 ^ 12
along_near TranslationX AxisX p x y z = omega arith
along_near TranslationX AxisY p x y z = omega arith
along_near TranslationX AxisZ p x y z = omega arith
along_near TranslationY AxisX p x y z = omega arith
along_near TranslationY AxisY p x y z = omega arith
along_near TranslationY AxisZ p x y z = omega arith
along_near TranslationZ AxisX p x y z = omega arith
along_near TranslationZ AxisY p x y z = omega arith
along_near TranslationZ AxisZ p x y z = omega arith
along_near RotationX AxisX p x y z = omega arith
along_near RotationX AxisY p x y z = omega (arith, ints)
along_near RotationX AxisZ p x y z = y
along_near RotationY AxisX p x y z = z
along_near RotationY AxisY p x y z = omega arith
along_near RotationY AxisZ p x y z = omega (arith, ints)
along_near RotationZ AxisX p x y z = omega (arith, ints)
along_near RotationZ AxisY p x y z = x
along_near RotationZ AxisZ p x y z = omega arith
along_near Dilation AxisX p x y z = x
along_near Dilation AxisY p x y z = y
along_near Dilation AxisZ p x y z = z

module _ (sites : List Site) (neq : PlainNeq) (sound : IsSound neq) where
  metres_near : (site : Site) (axis : Axis) → unsigned_abs (metres neq site axis) ≤ 10 ^ 12
  metres_near site axis = floor_near _ (value_modest neq.apriori _ sound.modest)

  found_near : (motion : Motion) (site : Option Site) (axis : Option Axis) → unsigned_abs (coefficient_along neq motion site axis) ≤ 10 ^ 12
  found_near motion (Some site) (Some axis) = along_near motion axis (position neq site) (metres_near site AxisX) (metres_near site AxisY) (metres_near site AxisZ)
  found_near motion (Some site) None = omega arith
  found_near motion None axis = omega arith

  module _ (condition : Condition) where
    few : (i j : ℕ) → unsigned_abs (coefficient_at sites neq condition i *ℤ coefficient_at sites neq condition j) ≤ 10 ^ 37
    few i j =
        let one = name_at neq.names i in
        let other = name_at neq.names j in
        let p = product_few (coefficient_at sites neq condition i) (coefficient_at sites neq condition j) (found_near condition.motion (find (is_of_site one) sites) (axis_of one.kind)) (found_near condition.motion (find (is_of_site other) sites) (axis_of other.kind)) in
        omega arith

    interval_of : (i j : ℕ) → (w : Interval) × IsRowInterval sites neq condition i j w
    interval_of i j = over_square_exists (coefficient_at sites neq condition i *ℤ coefficient_at sites neq condition j) condition.sigma (pos 18 -ℤ pos (reach condition.motion) -ℤ at neq.scales i -ℤ at neq.scales j) (few i j)

    sum_at : ℕ → ℕ → Interval
    sum_at i j = interval_add (entry_at neq.table i j) (interval_of i j).0

    sum_turned : (i j : ℕ) → sum_at i j ≡ sum_at j i
    unfolding sum_at
    sum_turned i j =
        ap (λ e. interval_add e (interval_of i j).0) (entry_sym neq.table i j)
        ∙ ap (interval_add (entry_at neq.table j i)) (one_row_interval sites neq condition j i (interval_of i j).0 (interval_of j i).0 (row_turned sites neq condition i j (interval_of i j).0 (interval_of i j).1) (interval_of j i).1)

    pub with_row_exists : (after : PlainNeq) × IsWithRow sites neq condition after
    unfolding sum_at
    with_row_exists =
        let n = length neq.names in (
          with_table neq (table_of sum_at n),
          record {
            names = refl;
            right = refl;
            apriori = refl;
            units = refl;
            scales = refl;
            rows = sym sound.rows;
            whole = rows_length sum_at n;
            entries = λ i j li lj. ((interval_of i j).0, (interval_of i j).1, table_read sum_at sum_turned n i j li lj);
          },
        )

pub refuses_through : (sites : List Site) (neq : PlainNeq) (coordinates : List (Option Coordinate)) (list : List CodeCondition) (place : Place) → AreCoordinates sites neq coordinates → IsSound neq
    → AreTested coordinates neq.scales list (Some place) → Through (AddsRow sites) neq (map condition_view list) (Err (Range place.row place.col))
refuses_through sites neq coordinates [] place are sound tested = cc
refuses_through sites neq coordinates (c ∷ rest) place are sound tested =
    elim tested [
      | inl h ↦
          let there = with_row_exists sites neq sound (condition_view c) in
          let w = there.1 in
          then_gives (AddsRow sites neq (condition_view c)) (λ after. Through (AddsRow sites) after (map condition_view rest)) there.0 (Err (Range place.row place.col)) (all_fit sites neq coordinates are (condition_view c) h.0, w)
          (refuses_through sites there.0 coordinates rest place (coordinates_after sites neq there.0 coordinates w.names w.apriori are) (sound_after sites neq (condition_view c) there.0 w sound)
          (subst (λ scales. AreTested coordinates scales rest (Some place)) (sym w.scales) h.1))
      | inr h ↦ then_stops (AddsRow sites neq (condition_view c)) (λ after. Through (AddsRow sites) after (map condition_view rest)) (Range place.row place.col) (first_misfit_named sites neq coordinates are (condition_view c) place h)
    ]

pub tested_fits : (coordinates : List (Option Coordinate)) (scales : List ℤ) (list : List CodeCondition) → AreTested coordinates scales list None → AreFitting coordinates scales list
tested_fits coordinates scales [] tested = tt
tested_fits coordinates scales (c ∷ rest) tested = elim tested [ inl h ↦ (h.0, tested_fits coordinates scales rest h.1) | inr h ↦ absurd h ]

-- ---- the conditions of a datum
few_given : (sigma : Option Decimal) (motions : List Motion) → length (given sigma motions) ≤ length motions
few_given None motions = omega arith
few_given (Some sigma) motions = omega (arith, length-map motions (λ motion. (let c : Condition = record { motion = motion; sigma = sigma } in c)))

pub few_conditions : (datum : PlainDatum) → length (conditions datum) ≤ 7
few_conditions datum =
    let t = given datum.translation (TranslationX ∷ TranslationY ∷ TranslationZ ∷ []) in
    let r = given datum.rotation (RotationX ∷ RotationY ∷ RotationZ ∷ []) in
    let s = given datum.scale (Dilation ∷ []) in
    omega (arith, length-append t (r ++ s), length-append r s, few_given datum.translation (TranslationX ∷ TranslationY ∷ TranslationZ ∷ []), few_given datum.rotation (RotationX ∷ RotationY ∷ RotationZ ∷ []), few_given datum.scale (Dilation ∷ []))

are_fine : (list : List CodeCondition) → Each IsFine (map condition_view list) → AreFine list
are_fine [] fine = tt
are_fine (c ∷ rest) fine = (fine.0, are_fine rest fine.1)

pub fine_list : (datum : PlainDatum) (list : List CodeCondition) → map condition_view list ≡ conditions datum → HasPositiveSigmas datum → AreFine list
fine_list datum list is fine = are_fine list (subst (Each IsFine) (sym is) (fine_conditions datum fine))

pub few_list : (datum : PlainDatum) (list : List CodeCondition) → map condition_view list ≡ conditions datum → length list ≤ 7
few_list datum list is = omega (arith, few_conditions datum, length-map list condition_view, ap length is)

pub laid_out : (sites : List Site) (neq : PlainNeq) (coordinates : List (Option Coordinate)) → AreCoordinates sites neq coordinates → IsSound neq → AreLaidOut coordinates neq.scales
laid_out sites neq coordinates are sound = record { lengths = sound.exponents ∙ sym are.count; near = λ k lt. are.near k (omega (arith, are.count)); scaled = sound.scaled }

pub table_at_most : (most : ℕ) (neq : PlainNeq) → IsSound neq → AreAtMost most neq → IsTableAtMost most neq.table
table_at_most most neq sound small i j lt low =
    let row = name_there neq.names i (omega (arith, sound.rows)) in
    let col = name_there neq.names j (omega (arith, sound.rows)) in
    subst (λ w. size w ≤ most) (entry_there neq i j row.0 col.0 (place_found neq.names row.0 i sound.names.0 row.1) (place_found neq.names col.0 j sound.names.0 col.1)) (small.entries row.0 col.0)

-- what holds of some lists holds of equal ones
pub at_lists : (P : List (Option Coordinate) → List ℤ → List CodeCondition → Type 0) (a b : List (Option Coordinate)) (s t : List ℤ) (l m : List CodeCondition) → a ≡ b → s ≡ t → l ≡ m → P a s l → P b t m
at_lists P a b s t l m one two three h = subst (λ x. P x t m) one (subst (λ x. P a x m) two (subst (P a s) three h))

-- ---- the datum
module _ (datum : PlainDatum) (neq : PlainNeq) where
  abbrev unmatched_in : Option Site
  unmatched_in = find (λ site. not (is_matched neq.names site)) datum.sites

  all_matched_then : (result : Result PlainNeq Fault) → None ≡ unmatched_in → Through (AddsRow datum.sites) neq (conditions datum) result → IsAddition datum neq result
  all_matched_then result is through = then_gives (λ r. r ≡ matched datum.sites neq.names) (λ all_matched. Through (AddsRow datum.sites) neq (conditions datum)) tt result (ap matched_in is) through

  module _ (coordinates : List (Option Coordinate)) (list : List CodeCondition) (none : None ≡ unmatched_in) (are : AreCoordinates datum.sites neq coordinates) (is : map condition_view list ≡ conditions datum) (sound : IsSound neq) where
    pub does_not_fit : (place : Place) → AreTested coordinates neq.scales list (Some place) → IsAddition datum neq (Err (Range place.row place.col))
    does_not_fit place tested = all_matched_then (Err (Range place.row place.col)) none (subst (λ l. Through (AddsRow datum.sites) neq l (Err (Range place.row place.col))) is (refuses_through datum.sites neq coordinates list place are sound tested))

    pub is_added : (table : SymTable) → AreTested coordinates neq.scales list None → AreAllAdded coordinates neq.scales list neq.table table → IsAddition datum neq (Ok (with_table neq table))
    is_added table tested added =
        all_matched_then (Ok (with_table neq table)) none (subst (λ l. Through (AddsRow datum.sites) neq l (Ok (with_table neq table))) is
        (adds_through datum.sites neq coordinates list table are sound.rows (tested_fits coordinates neq.scales list tested) added))

  pub sound_addition : (after : PlainNeq) → IsAddition datum neq (Ok after) → IsSound neq → IsSound after
  sound_addition after addition sound =
      elim addition [
        | inl f ↦ sound_through datum.sites neq after (conditions datum) f.onward sound
        | inr f ↦ let e = f.is_cause in cc
      ]

  pub kept_addition : (after : PlainNeq) → IsAddition datum neq (Ok after) → IsKept neq after
  kept_addition after addition =
      elim addition [
        | inl f ↦ kept_through datum.sites neq after (conditions datum) f.onward
        | inr f ↦ let e = f.is_cause in cc
      ]

  pub modest_addition : (after : PlainNeq) (most : ℕ) → IsAddition datum neq (Ok after) → AreAtMost most neq → AreAtMost (most + 7 * 10 ^ 34) after
  modest_addition after most addition small =
      elim addition [
        | inl f ↦ at_most_more (most + length (conditions datum) * 10 ^ 34) (most + 7 * 10 ^ 34) after (let few = few_conditions datum in omega arith) (modest_through datum.sites neq after (conditions datum) most f.onward small)
        | inr f ↦ let e = f.is_cause in cc
      ]
    where
      at_most_more : (a b : ℕ) (n : PlainNeq) → a ≤ b → AreAtMost a n → AreAtMost b n
      at_most_more a b n le h = record { entries = λ one other. omega (arith, h.entries one other); rights = λ id. omega (arith, h.rights id) }
