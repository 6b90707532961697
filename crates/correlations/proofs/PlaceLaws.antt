-- Covariances by place.
use Rattle.std.proofs.Common.{◌≡◌, ◌≤◌, ◌<◌, ◌+◌, ◌∙◌, inl, inr, ℕ, ℤ, true, false, List, Option, Some, None, length, get_or, refl, sym, subst, arith}
use Rattle.std.specs.Option.{MatchOption, is_some}
use Rattle.std.proofs.lemmas.Bool.{false≢true, true≢false}
use Rattle.std.proofs.lemmas.List.{get_or_read}
use Rattle.std.proofs.Math.Decide.{dec_lt}
use Rattle.stated_order.specs.First.{HoldsBelow}
use Rattle.whole_numbers.specs.Intervals.{Interval}
use Rattle.decimal_e.specs.Decimals.{Decimal}
use Rattle.sym_blocks.specs.Tables.{SymTable, entry_at, IsPair}
use Rattle.snx_matrices.specs.declared.elements.Content.TheVariants.{Cova}
use Rattle.named_tables.specs.Parts.{pair_power}
use Rattle.correlations.specs.Parts.{IsFittingEntry, correlation_at, deviation_at, HasDeviationAt, IsEntryAt, EntryFitsAt, RowFitsAt, AreFilled}

module _ (given : SymTable) (deviations : List (Option Decimal)) (exponents : List ℤ) where
  -- the covariance at a place, by the parts that were read
  pub placed_answer : (i j : ℕ) (r : Option Interval) (c : Interval) (one other : Option Decimal) (power : ℤ) → c ≡ correlation_at given i j → one ≡ deviation_at given deviations exponents i → other ≡ deviation_at given deviations exponents j → power ≡ pair_power Cova exponents i j
      → MatchOption r ((w : Interval) → IsFittingEntry c one other power w → ⊥) (IsFittingEntry c one other power) → MatchOption r (EntryFitsAt given deviations exponents i j → ⊥) (IsEntryAt given deviations exponents i j)
  placed_answer i j (Some w) c one other power c_is one_is other_is power_is h =
      subst (λ p. IsFittingEntry (correlation_at given i j) (deviation_at given deviations exponents i) (deviation_at given deviations exponents j) p w) power_is
      (subst (λ o. IsFittingEntry (correlation_at given i j) (deviation_at given deviations exponents i) o power w) other_is
      (subst (λ o. IsFittingEntry (correlation_at given i j) o other power w) one_is
      (subst (λ v. IsFittingEntry v one other power w) c_is h)))
  placed_answer i j None c one other power c_is one_is other_is power_is h = λ fits.
      h fits.w
      (subst (λ v. IsFittingEntry v one other power fits.w) (sym c_is)
      (subst (λ o. IsFittingEntry (correlation_at given i j) o other power fits.w) (sym one_is)
      (subst (λ o. IsFittingEntry (correlation_at given i j) (deviation_at given deviations exponents i) o power fits.w) (sym other_is)
      (subst (λ p. IsFittingEntry (correlation_at given i j) (deviation_at given deviations exponents i) (deviation_at given deviations exponents j) p fits.w) (sym power_is) fits.is))))

  -- one more interval of a row
  pub row_more : (i j : ℕ) (a b : SymTable) (w : Interval) → j ≤ i → ((k l : ℕ) → IsPair i j k l → entry_at b k l ≡ w) → ((l : ℕ) → l < j → entry_at b i l ≡ entry_at a i l)
      → HoldsBelow j (λ l. IsEntryAt given deviations exponents i l (entry_at a i l)) → IsEntryAt given deviations exponents i j w → HoldsBelow (j + 1) (λ l. IsEntryAt given deviations exponents i l (entry_at b i l))
  row_more i j a b w lower here others before this l within =
      elim (dec_lt l j) [
        | yes low ↦ subst (IsEntryAt given deviations exponents i l) (sym (others l low)) (before l low)
        | no high ↦
            let e : j ≡ l = omega arith in
            subst (λ k. IsEntryAt given deviations exponents i k (entry_at b i k)) e (subst (IsEntryAt given deviations exponents i j) (sym (here i j (inl (refl, refl)))) this)
      ]

  pub fits_each : (n i : ℕ) (table : SymTable) → HoldsBelow n (λ l. IsEntryAt given deviations exponents i l (entry_at table i l)) → HoldsBelow n (EntryFitsAt given deviations exponents i)
  fits_each n i table holds l within = record { w = entry_at table i l; is = holds l within }

  pub row_fits : (i : ℕ) (table : SymTable) → HoldsBelow (i + 1) (λ l. IsEntryAt given deviations exponents i l (entry_at table i l)) → RowFitsAt given deviations exponents i
  row_fits i table holds =
      let own = holds i (omega arith) in
      record { deviation = record { s = own.s; is = own.s_is }; entries = fits_each (i + 1) i table holds }

  pub rows_fit : (n : ℕ) (table : SymTable) → AreFilled given deviations exponents n table → HoldsBelow n (RowFitsAt given deviations exponents)
  rows_fit n table filled i within = row_fits i table (λ l low. filled i l within (omega arith))

  -- one more row
  pub rows_more : (i : ℕ) (a b : SymTable) → AreFilled given deviations exponents i a → ((k l : ℕ) → k < i → l ≤ k → entry_at b k l ≡ entry_at a k l) → HoldsBelow (i + 1) (λ l. IsEntryAt given deviations exponents i l (entry_at b i l)) → AreFilled given deviations exponents (i + 1) b
  rows_more i a b before others row k l within lower =
      elim (dec_lt k i) [
        | yes low ↦ subst (IsEntryAt given deviations exponents k l) (sym (others k l low lower)) (before k l low lower)
        | no high ↦ let e : i ≡ k = omega arith in subst (λ r. IsEntryAt given deviations exponents r l (entry_at b r l)) e (row l (omega arith))
      ]

-- ---- pairs of places
pub not_above : (i j k l : ℕ) → k < i → l ≤ k → ¬ (IsPair i j k l)
not_above i j k l low lower (inl p) = let e = p.0 in omega arith
not_above i j k l low lower (inr p) = let e = p.1 in omega arith

pub not_before : (i j l : ℕ) → l < j → ¬ (IsPair i j i l)
not_before i j l low (inl p) = let e = p.1 in omega arith
not_before i j l low (inr p) = let e = p.0 in let f = p.1 in omega arith

-- ---- a standard deviation that was read
no_some : (one : Option Decimal) → is_some one ≡ false → one ≡ None
no_some None e = refl
no_some (Some d) e = absurd (true≢false e)

a_some : (one : Option Decimal) → is_some one ≡ true → (s : Decimal) × (one ≡ Some s)
a_some None e = absurd (false≢true e)
a_some (Some d) e = (d, refl)

pub none_at : (deviations : List (Option Decimal)) (i : ℕ) (one : Option Decimal) → i < length deviations → one ≡ get_or deviations i one → is_some one ≡ false → get_or deviations i None ≡ None
none_at deviations i one within is none = sym (get_or_read deviations i one within is None) ∙ no_some one none

pub some_at : (given : SymTable) (deviations : List (Option Decimal)) (exponents : List ℤ) (i : ℕ) (one : Option Decimal) → i < length deviations → one ≡ get_or deviations i one → is_some one ≡ true → HasDeviationAt given deviations exponents i
some_at given deviations exponents i one within is some = let s = a_some one some in record { s = s.0; is = sym (get_or_read deviations i one within is None) ∙ s.1 }
