-- Tables of standard deviations: what their parts give, and how great their intervals are.
use Rattle.std.proofs.Common.{◌≡◌, ◌≢◌, ◌≤◌, ◌<◌, ◌+◌, ◌^◌, ◌∙◌, ◌++◌, ◌∷◌, [], inl, inr, ℕ, ℤ, pos, Bool, false, cond, List, Option, Some, None, Result, Ok, Err, is_ok, length, length-append, slice_get, unwrap_or, refl, sym, ap, subst, arith}
use Rattle.std.specs.Prelude.{slice_index_or}
use Rattle.std.proofs.Math.Decide.{dec_lt}
use Rattle.std.specs.Result.{is_err}
use Rattle.std.proofs.lemmas.Bool.{cases_eq, false≢true}
use Rattle.std.proofs.lemmas.Option.{slice_get_within, same_Some}
use Rattle.stated_order.specs.First.{IsFirstFailure}
use Rattle.whole_numbers.specs.Intervals.{Interval, size}
use Rattle.whole_numbers.proofs.ListLaws.{each_push}
use Rattle.decimal_e.specs.Decimals.{Decimal}
use Rattle.sym_blocks.specs.Tables.{SymTable, entry_at, zero_interval}
use Rattle.sym_blocks.proofs.Rows.{entry_sym}
use Rattle.param_ids.specs.Plain.{PlainId}
use Rattle.param_ids.specs.Order.{IsNames}
use Rattle.param_ids.specs.Tables.{ScaleMap}
use Rattle.param_ids.proofs.SameIds.{same_id}
use Rattle.snx_rows.specs.declared.rows.Row.{Row}
use Rattle.neq_stack.specs.Systems.{name_at, no_name}
use Rattle.neq_stack.proofs.NameLaws.{one_rank}
use Rattle.inverse_squares.proofs.Alone.{one_over_square}
use Rattle.named_tables.specs.Deviations.{sigma_of, sigma_at}
use Rattle.named_tables.specs.Tables.{IsUnfitEntry}
use Rattle.named_tables.specs.Weighted.{entry_power, weighted_interval}
use Rattle.named_tables.specs.declared.faults.RecoverFault.{RecoverFault}
use Rattle.named_tables.specs.declared.faults.RecoverFault.TheVariants.{Range}
use Rattle.named_tables.proofs.NameLaws.{apart_names}
use Rattle.named_tables.proofs.TableLaws.{name_here}
use Rattle.recover_solution.specs.Recovery.{IsSigmaInterval, SigmaFits, EntrySigmaFits, IsSigmaTable, IsModestTable}
use Rattle.recover_solution.specs.Parts.{IsFittingSigma, IsSigmaAt, SigmaFitsAt, IsFirstUnfitSigma, IsDiagonal, AreSigmas}

-- ---- names and places
pub named_at : (names : List PlainId) (k : ℕ) (id : PlainId) → slice_get names k ≡ Some id → name_at names k ≡ id
named_at names k id is = ap (λ (o : Option PlainId). unwrap_or o no_name) is

-- a fact of all places of a table, from the places up to the diagonal
pub from_lower : (P : Interval → Type 0) (table : SymTable) (n : ℕ) → ((i j : ℕ) → i < n → j ≤ i → P (entry_at table i j)) → (i j : ℕ) → i < n → j < n → P (entry_at table i j)
from_lower P table n lower i j li lj =
    elim (dec_lt i j) [
      | yes above ↦ subst P (entry_sym table j i) (lower j i lj (omega arith))
      | no below ↦ lower i j li (omega arith)
    ]

-- ---- standard deviations
-- that of two names, of which one is the other or not
sigma_same : (apriori : List Row) (one other : PlainId) → one ≡ other → sigma_at apriori one other ≡ sigma_of apriori one
sigma_same apriori one other same = ap (λ (b : Bool). cond b (sigma_of apriori one) None) ((same_id one other).1 same)

sigma_apart : (apriori : List Row) (one other : PlainId) → (one ≡ other → ⊥) → sigma_at apriori one other ≡ None
sigma_apart apriori one other apart = ap (λ (b : Bool). cond b (sigma_of apriori one) None) (apart_names one other apart)

module _ (apriori : List Row) (weight : Decimal) (scales : ScaleMap) (names : List PlainId) (ordered : IsNames names) where
  -- what is known on the diagonal and beside it, at each two places
  apart_places : (i j : ℕ) (one other : PlainId) → i ≢ j → slice_get names i ≡ Some one → slice_get names j ≡ Some other → one ≡ other → ⊥
  apart_places i j one other apart here there same = apart (one_rank names one i j ordered.0 here (there ∙ ap (λ (id : PlainId). Some id) (sym same)))

  same_places : (i j : ℕ) (one other : PlainId) → i ≡ j → slice_get names i ≡ Some one → slice_get names j ≡ Some other → one ≡ other
  same_places i j one other same here there = same_Some one other (sym here ∙ ap (slice_get names) same ∙ there)

  beside_fits : (one other : PlainId) → (one ≡ other → ⊥) → SigmaFits weight (sigma_at apriori one other) (entry_power scales one other)
  beside_fits one other apart = subst (λ o. SigmaFits weight o (entry_power scales one other)) (sym (sigma_apart apriori one other apart)) tt

  here_fits : (one other : PlainId) → one ≡ other → SigmaFits weight (sigma_of apriori one) (entry_power scales one one) → SigmaFits weight (sigma_at apriori one other) (entry_power scales one other)
  here_fits one other same fits =
      subst (λ o. SigmaFits weight o (entry_power scales one other)) (sym (sigma_same apriori one other same))
      (subst (λ id. SigmaFits weight (sigma_of apriori one) (entry_power scales one id)) same fits)

  fits_back : (one : PlainId) → SigmaFits weight (sigma_at apriori one one) (entry_power scales one one) → SigmaFits weight (sigma_of apriori one) (entry_power scales one one)
  fits_back one = subst (λ o. SigmaFits weight o (entry_power scales one one)) (sigma_same apriori one one refl)

  module _ (table : SymTable) (intervals : List Interval) (many : length intervals ≡ length names) (each : (i : ℕ) → i < length names → IsSigmaAt apriori weight scales names intervals i) (diagonal : IsDiagonal intervals table) where
    entry_is : (i j : ℕ) (one other : PlainId) → slice_get names i ≡ Some one → slice_get names j ≡ Some other → IsSigmaInterval weight (sigma_at apriori one other) (entry_power scales one other) (entry_at table i j)
    entry_is i j one other here there =
        let li = slice_get_within names i one here in
        let lj = slice_get_within names j other there in
        elim (cases_eq i j) [
          | inl same ↦
              let names_same = same_places i j one other same here there in
              let own = (each i li one here).interval in
              let at : slice_index_or intervals i zero_interval ≡ entry_at table i j = sym (diagonal.here i (omega arith)) ∙ ap (λ l. entry_at table i l) same in
              subst (λ o. IsSigmaInterval weight o (entry_power scales one other) (entry_at table i j)) (sym (sigma_same apriori one other names_same))
              (subst (λ id. IsSigmaInterval weight (sigma_of apriori one) (entry_power scales one id) (entry_at table i j)) names_same
              (subst (IsSigmaInterval weight (sigma_of apriori one) (entry_power scales one one)) at own))
          | inr apart ↦
              subst (λ o. IsSigmaInterval weight o (entry_power scales one other) (entry_at table i j)) (sym (sigma_apart apriori one other (apart_places i j one other apart here there)))
              (diagonal.others i j (omega arith) (omega arith) apart)
        ]

    entry_fits : (i j : ℕ) → i < length names → j < length names → SigmaFits weight (sigma_at apriori (name_at names i) (name_at names j)) (entry_power scales (name_at names i) (name_at names j))
    entry_fits i j li lj =
        let here = name_here names i li in
        let there = name_here names j lj in
        elim (cases_eq i j) [
          | inl same ↦ here_fits (name_at names i) (name_at names j) (same_places i j (name_at names i) (name_at names j) same here there) (each i li (name_at names i) here).fits
          | inr apart ↦ beside_fits (name_at names i) (name_at names j) (apart_places i j (name_at names i) (name_at names j) apart here there)
        ]

    sigmas_whole : IsSigmaTable apriori weight scales names (Ok table)
    sigmas_whole = (
      record { size = diagonal.size ∙ many; lower = diagonal.lower; entries = entry_is },
      λ i j li low. entry_fits i j li (omega arith),
    )

  -- the first name whose interval does not fit
  first_unfit : (i : ℕ) (id : PlainId) → slice_get names i ≡ Some id → IsFirstFailure (length names) (SigmaFitsAt apriori weight scales names) i → IsUnfitEntry names (EntrySigmaFits apriori weight scales names) id id
  first_unfit i id here first =
      let within = first.within in
      let beside : (k l : ℕ) → k < length names → l < k → EntrySigmaFits apriori weight scales names k l =
      λ k l lk low. beside_fits (name_at names k) (name_at names l) (apart_places k l (name_at names k) (name_at names l) (λ same. absurd (omega arith)) (name_here names k lk) (name_here names l (omega arith))) in
      record {
        i = i;
        j = i;
        first = record {
          within = within;
          lower = omega arith;
          rows = λ k l row low. elim (dec_lt l k) [
            | yes left ↦ beside k l (omega arith) left
            | no right ↦
                let same : l ≡ k = omega arith in
                subst (λ m. EntrySigmaFits apriori weight scales names k m) (sym same)
                (here_fits (name_at names k) (name_at names k) refl (first.before k row (name_at names k) (name_here names k (omega arith))))
          ];
          left = λ l low. beside i l within low;
          fails = λ fits. first.fails (λ other there.
              let same : id ≡ other = same_Some id other (sym here ∙ there) in
              let at : name_at names i ≡ id = named_at names i id here in
              subst (λ n. SigmaFits weight (sigma_of apriori n) (entry_power scales n n)) (at ∙ same) (fits_back (name_at names i) fits));
        };
        row_is = here;
        col_is = here;
      }

  pub sigmas_there : (result : Result SymTable RecoverFault) → AreSigmas apriori weight scales names result → IsSigmaTable apriori weight scales names result
  sigmas_there (Ok table) (intervals, many, each, diagonal) = sigmas_whole table intervals many each diagonal
  sigmas_there (Err fault) (i, id, fault_is, here, first) =
      subst (λ (f : RecoverFault). IsSigmaTable apriori weight scales names (Err f)) (sym fault_is) (first_unfit i id here first)

-- ---- sizes
sigma_modest : (weight : Decimal) (dev : Option Decimal) (k : ℤ) (w : Interval) → IsSigmaInterval weight dev k w → SigmaFits weight dev k → size w ≤ 10 ^ 34
sigma_modest weight None k w is fits = subst (λ v. size v ≤ 10 ^ 34) (sym is) (omega arith)
sigma_modest weight (Some s) k w is fits =
    let same : fits.0 ≡ is.0 = one_over_square (pos 1) s k fits.0 is.0 fits.1 is.1 in
    subst (λ v. size v ≤ 10 ^ 34) (ap (weighted_interval weight) same ∙ sym is.2) fits.2.modest

pub sigmas_modest : (apriori : List Row) (weight : Decimal) (scales : ScaleMap) (names : List PlainId) (table : SymTable) → IsSigmaTable apriori weight scales names (Ok table) → IsModestTable table
sigmas_modest apriori weight scales names table is i j li lj =
    let many = is.0.size in
    from_lower (λ w. size w ≤ 10 ^ 34) table (length names) (λ k l lk low.
    sigma_modest weight (sigma_at apriori (name_at names k) (name_at names l)) (entry_power scales (name_at names k) (name_at names l)) (entry_at table k l)
    (is.0.entries k l (name_at names k) (name_at names l) (name_here names k lk) (name_here names l (omega arith))) (is.1 k l lk low)) i j (omega arith) (omega arith)

-- ---- what the loop over names shows
module _ (apriori : List Row) (weight : Decimal) (scales : ScaleMap) (names : List PlainId) (intervals : List Interval) (place : ℕ) (id : PlainId) (here : slice_get names place ≡ Some id) (each : (i : ℕ) → i < place → IsSigmaAt apriori weight scales names intervals i) where
  pub first_unfit_sigma : (SigmaFits weight (sigma_of apriori id) (entry_power scales id id) → ⊥) → IsFirstUnfitSigma apriori weight scales names (Range id id)
  first_unfit_sigma misfit = (
    place,
    id,
    refl,
    here,
    record { within = slice_get_within names place id here; before = λ i l other there. (each i l other there).fits; fails = λ fits. misfit (fits id here) },
  )

  pub sigma_push : (w : Interval) (pushed : List Interval) → length intervals ≡ place → pushed ≡ intervals ++ w ∷ [] → IsFittingSigma weight (sigma_of apriori id) (entry_power scales id id) w → (i : ℕ) → i < place + 1 → IsSigmaAt apriori weight scales names pushed i
  sigma_push w pushed len is fitting i l =
      subst (λ ws. IsSigmaAt apriori weight scales names ws i) (sym is)
      (each_push (λ k v. (other : PlainId) → slice_get names k ≡ Some other → IsFittingSigma weight (sigma_of apriori other) (entry_power scales other other) v) intervals place w zero_interval len each
      (λ other there. subst (λ n. IsFittingSigma weight (sigma_of apriori n) (entry_power scales n n) w) (same_Some id other (sym here ∙ there)) fitting) i l)

-- what a push that is no error leaves
pub pushed_items : {T E : Type 0} (xs pushed : List Interval) (w : Interval) (r : Result T E) → is_err r ≡ false → pushed ≡ cond (is_ok r) (xs ++ w ∷ []) xs → (pushed ≡ xs ++ w ∷ []) × (length pushed ≡ length xs + 1)
pushed_items xs pushed w (Ok t) none is = (is, ap length is ∙ length-append xs (w ∷ []))
pushed_items xs pushed w (Err e) none is = absurd (false≢true (sym none))
