-- What the parts of a working table say together.
use Rattle.std.proofs.Common.{◌≡◌, ◌≤◌, ◌<◌, ◌^◌, ◌∙◌, inl, inr, ℕ, ℤ, ◌-ℤ◌, neg_ℤ, List, length, slice_index_or, sym, ap, subst, arith}
use Rattle.std.proofs.Math.Decide.{dec_le}
use Rattle.std.proofs.lemmas.Int.{ints}
use Rattle.whole_numbers.specs.Intervals.{Interval, size}
use Rattle.whole_numbers.specs.Scaling.{interval_scale10}
use Rattle.sym_blocks.specs.Tables.{SymTable, entry_at, zero_interval}
use Rattle.sym_blocks.proofs.Rows.{entry_sym}
use Rattle.equil.specs.declared.EquilError.{EquilError}
use Rattle.equil.specs.declared.EquilError.TheVariants.{Range, Memory}
use Rattle.equil.specs.Refusals.{IfRange}
use Rattle.equil.specs.Rows.{AreScaled, IsRightScaled}
use Rattle.stated_order.specs.First.{IsFirstFailure, IsFirstLowerFailure}
use Rattle.equil.specs.Tables.{EntryFits, RightFits, table_of, exponent_of, working_entry, working_right, AreExponents, IsFirstPast, IsWorking}

range_weaker : (P Q : ℕ → ℕ → Type 0) → ((r c : ℕ) → P r c → Q r c) → (x : EquilError) → IfRange P x → IfRange Q x
range_weaker P Q f (Range row col) h = f row col h
range_weaker P Q f Memory h = h

pub past_table : (t : SymTable) (ds : List Interval) (es fs : List ℤ) → fs ≡ es → AreExponents t.size (entry_at t) (exponent_of es) → (x : EquilError) → IfRange (IsFirstLowerFailure t.size (EntryFits (entry_at t) (exponent_of fs))) x → IfRange (IsFirstPast t.size (table_of t ds)) x
past_table t ds es fs same are x h =
    range_weaker (IsFirstLowerFailure t.size (EntryFits (entry_at t) (exponent_of es))) (IsFirstPast t.size (table_of t ds)) (λ r c p. record { e = exponent_of es; exponents = are; first = inl p }) x (subst (λ l. IfRange (IsFirstLowerFailure t.size (EntryFits (entry_at t) (exponent_of l))) x) same h)

pub past_right : (t a : SymTable) (ds : List Interval) (es fs gs : List ℤ) → fs ≡ es → gs ≡ es → length ds ≡ t.size → AreExponents t.size (entry_at t) (exponent_of es) → AreScaled t.size a (entry_at t) (exponent_of fs) → (x : EquilError) → IfRange (λ r c. (r ≡ c) × IsFirstFailure (length ds) (RightFits (λ k. slice_index_or ds k zero_interval) (exponent_of gs)) r) x → IfRange (IsFirstPast t.size (table_of t ds)) x
past_right t a ds es fs gs same other len are scaled x h =
    let s = subst (λ l. AreScaled t.size a (entry_at t) (exponent_of l)) same scaled in
    range_weaker (λ r c. (r ≡ c) × IsFirstFailure t.size (RightFits (λ k. slice_index_or ds k zero_interval) (exponent_of es)) r) (IsFirstPast t.size (table_of t ds)) (λ r c p. record { e = exponent_of es; exponents = are; first = inr (p.0, s.fit, p.1) }) x
    (subst (λ l. IfRange (λ r c. (r ≡ c) × IsFirstFailure t.size (RightFits (λ k. slice_index_or ds k zero_interval) (exponent_of l)) r) x) other (subst (λ n. IfRange (λ r c. (r ≡ c) × IsFirstFailure n (RightFits (λ k. slice_index_or ds k zero_interval) (exponent_of gs)) r) x) len h))

working_entry_sym : (t : SymTable) (e : ℕ → ℤ) (i j : ℕ) → working_entry (entry_at t) e i j ≡ working_entry (entry_at t) e j i
working_entry_sym t e i j =
    let k : neg_ℤ (e i) -ℤ e j ≡ neg_ℤ (e j) -ℤ e i = omega (arith, ints) in
    ap (λ w. interval_scale10 w (neg_ℤ (e i) -ℤ e j)) (entry_sym t i j) ∙ ap (interval_scale10 (entry_at t j i)) k

pub scaled_entry : (n : ℕ) (t a : SymTable) (e : ℕ → ℤ) → AreScaled n a (entry_at t) e → (i j : ℕ) → i < n → j < n → entry_at a i j ≡ working_entry (entry_at t) e i j
scaled_entry n t a e s i j row column = elim (dec_le j i) [
  | yes l ↦ s.entries i j row l
  | no l ↦ entry_sym a i j ∙ s.entries j i column (omega arith) ∙ working_entry_sym t e j i
]

pub scaled_small : (n : ℕ) (t a : SymTable) (es fs : List ℤ) → fs ≡ es → n ≡ a.size → AreScaled n a (entry_at t) (exponent_of fs) → (i j : ℕ) → i < a.size → j < a.size → size (entry_at a i j) ≤ 2 ^ 61
scaled_small n t a es fs same len s i j row column = elim (dec_le j i) [
  | yes l ↦ subst (λ w. size w ≤ 2 ^ 61) (sym (s.entries i j (omega arith) l)) (s.fit i j (omega arith) l)
  | no l ↦ subst (λ w. size w ≤ 2 ^ 61) (sym (entry_sym a i j ∙ s.entries j i (omega arith) (omega arith))) (s.fit j i (omega arith) (omega arith))
]

pub right_small : (n m : ℕ) (ds : List Interval) (d : ℕ → Interval) (e : ℕ → ℤ) → n ≡ m → IsRightScaled n ds d e → (i : ℕ) → i < m → size (slice_index_or ds i zero_interval) ≤ 10 ^ 37
right_small n m ds d e len s i row = subst (λ w. size w ≤ 10 ^ 37) (sym (s.entries i (omega arith))) (s.fit i (omega arith))

pub all_working : (t a : SymTable) (rs ds : List Interval) (es fs gs : List ℤ) → fs ≡ es → gs ≡ es → length rs ≡ t.size → AreExponents t.size (entry_at t) (exponent_of es) → AreScaled t.size a (entry_at t) (exponent_of fs) → IsRightScaled (length rs) ds (λ k. slice_index_or rs k zero_interval) (exponent_of gs) → IsWorking t.size (table_of t rs) (table_of a ds) (exponent_of es)
all_working t a rs ds es fs gs same other len are scaled right = record {
  exponents = are;
  entries = λ i j row column. scaled_entry t.size t a (exponent_of es) (subst (λ l. AreScaled t.size a (entry_at t) (exponent_of l)) same scaled) i j row column;
  rights = λ i row. subst (λ l. slice_index_or ds i zero_interval ≡ working_right (λ k. slice_index_or rs k zero_interval) (exponent_of l) i) other (right.entries i (omega (arith, len)));
}
