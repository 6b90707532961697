-- What the columns in a table say of the steps of an inverse, and what one more column says.
use Rattle.std.proofs.Common.{◌≡◌, ◌≤◌, ◌<◌, ◌+◌, ◌⊎◌, ◌∙◌, ◌++◌, ◌∷◌, [], inl, inr, ℕ, ℤ, pos, ◌+ℤ◌, List, Ok, Err, length, refl, sym, ap, subst, arith}
use Rattle.std.proofs.Math.IntN.{◌-ℤ◌}
use Rattle.std.proofs.lemmas.List.{length_push, get_or_push, get_or_append_left}
use Rattle.std.proofs.lemmas.Option.{slice_get_within, get_or_from_slice_get}
use Rattle.stated_order.specs.First.{HoldsLower, IsFirstLowerFailure}
use Rattle.stated_order.proofs.FirstLaws.{first_lower_failure_moves}
use Rattle.whole_numbers.proofs.Cases.{last_or_before}
use Rattle.sym_blocks.specs.Tables.{SymTable, entry_at, before}
use Rattle.equil.specs.Tables.{exponent_of}
use Rattle.enclosures.specs.Pilots.{PilotTable}
use Rattle.inv_enclose.specs.Columns.{IsUnitPower, Column, IsColumn, AreColumns, AreColumnsByEither, column_at, IntervalFits, AreJoined}
use Rattle.inv_enclose.specs.Parts.{IsModest, IsKept, IsEnclosedColumn, scaled_interval, AreShown, AreShownByEither, IsShownInverse, IsColumnRefused}
use Rattle.inv_enclose.specs.declared.InvError.{InvError}
use Rattle.inv_enclose.specs.declared.InvError.TheVariants.{Range, Memory}

-- ---- columns so far
enclosed_column : (n : ℕ) (a : SymTable) (p : PilotTable) (v c : ℕ) (column : Column) → IsEnclosedColumn n a p v c column → IsColumn n a p v c (Ok column)
enclosed_column n a p v c column h = (h.right, h.is_unit, h.is_column)

earlier_column : (columns : List Column) (c : Column) (j : ℕ) → j < length columns → column_at (columns ++ c ∷ []) j ≡ column_at columns j
earlier_column columns c j l = get_or_append_left columns (c ∷ []) (column_at [] 0) j l

last_column : (columns : List Column) (c : Column) (j : ℕ) → length columns ≡ j → column_at (columns ++ c ∷ []) j ≡ c
last_column columns c j l = get_or_push columns c (column_at [] 0) j l

pub none_shown : (n : ℕ) (a : SymTable) (p : PilotTable) (v : ℕ) (shift : ℤ) (e : ℕ → ℤ) (out : SymTable) → AreShown n a p v shift e 0 out
none_shown n a p v shift e out = record { columns = []; count = refl; each = λ j l. absurd (omega arith); shown = λ i j row lower l. absurd (omega arith) }

module _ (n : ℕ) (a : SymTable) (p : PilotTable) (v : ℕ) (shift : ℤ) (e : ℕ → ℤ) (m : ℕ) (column : Column) (out new : SymTable) (within : m < n) (are : AreShown n a p v shift e m out)
    (enclosed : IsEnclosedColumn n a p v m column)
    (here : (i : ℕ) → m ≤ i → i < n → IsKept (scaled_interval shift e column i m) (entry_at new i m))
    (others : (i j : ℕ) → i < n → j < m → entry_at new i j ≡ entry_at out i j) where
  abbrev and_one : List Column
  and_one = are.columns ++ column ∷ []

  before_is : (j : ℕ) → j < m → column_at and_one j ≡ column_at are.columns j
  before_is j l = let count = are.count in earlier_column are.columns column j (omega arith)

  each_by : (j : ℕ) → (j < m) ⊎ (j ≡ m) → IsEnclosedColumn n a p v j (column_at and_one j)
  each_by j (inl l) = subst (IsEnclosedColumn n a p v j) (sym (before_is j l)) (are.each j l)
  each_by j (inr is) = subst (λ k. IsEnclosedColumn n a p v k (column_at and_one k)) (sym is) (subst (IsEnclosedColumn n a p v m) (sym (last_column are.columns column m are.count)) enclosed)

  shown_by : (i j : ℕ) → i < n → j ≤ i → (j < m) ⊎ (j ≡ m) → IsKept (scaled_interval shift e (column_at and_one j) i j) (entry_at new i j)
  shown_by i j row lower (inl l) =
      subst (λ c. IsKept (scaled_interval shift e c i j) (entry_at new i j)) (sym (before_is j l))
      (subst (IsKept (scaled_interval shift e (column_at are.columns j) i j)) (sym (others i j row l)) (are.shown i j row lower l))
  shown_by i j row lower (inr is) =
      subst (λ k. IsKept (scaled_interval shift e (column_at and_one k) i k) (entry_at new i k)) (sym is)
      (subst (λ c. IsKept (scaled_interval shift e c i m) (entry_at new i m)) (sym (last_column are.columns column m are.count)) (here i (omega arith) row))

  pub one_shown : AreShown n a p v shift e (m + 1) new
  one_shown = record {
    columns = and_one;
    count = length_push are.columns column ∙ ap (λ k. k + 1) are.count;
    each = λ j l. each_by j (last_or_before j m l);
    shown = λ i j row lower l. shown_by i j row lower (last_or_before j m l);
  }

-- the columns before the one that is refused
column_refused : (n : ℕ) (a : SymTable) (p : PilotTable) (v : ℕ) (shift : ℤ) (e : ℕ → ℤ) (m : ℕ) (out : SymTable) (cause : InvError) → m < n → AreShown n a p v shift e m out → IsColumn n a p v m (Err cause) → AreColumns n a p v (Err cause)
column_refused n a p v shift e m out cause within are refused = (m, within, λ j l. (column_at are.columns j, enclosed_column n a p v j (column_at are.columns j) (are.each j l)), refused)

pub refused_column : (n : ℕ) (a : SymTable) (p : PilotTable) (v : ℕ) (shift : ℤ) (e : ℕ → ℤ) (m : ℕ) (out : SymTable) (cause : InvError) → m < n → AreShown n a p v shift e m out → (cause ≡ Memory) ⊎ IsColumn n a p v m (Err cause) → (cause ≡ Memory) ⊎ AreColumns n a p v (Err cause)
refused_column n a p v shift e m out cause within are h = elim h [ inl is ↦ inl is | inr r ↦ inr (column_refused n a p v shift e m out cause within are r) ]

-- all columns
pub all_columns : (n : ℕ) (a : SymTable) (p : PilotTable) (v : ℕ) (shift : ℤ) (e : ℕ → ℤ) (out : SymTable) → (are : AreShown n a p v shift e n out) → AreColumns n a p v (Ok are.columns)
all_columns n a p v shift e out are = (
  are.count,
  λ k c at_k.
      let count = are.count in
      let within = slice_get_within are.columns k c at_k in
      let is : column_at are.columns k ≡ c = get_or_from_slice_get are.columns k c (column_at [] 0) at_k in
      subst (λ x. IsColumn n a p v k (Ok x)) is (enclosed_column n a p v k (column_at are.columns k) (are.each k (omega arith))),
)

-- by p or by p transposed
pub either_columns : (n : ℕ) (a : SymTable) (p : PilotTable) (v : ℕ) (shift : ℤ) (e : ℕ → ℤ) (out : SymTable) → (are : AreShownByEither n a p v shift e out) → AreColumnsByEither n a p v (Ok are.shown.columns)
either_columns n a p v shift e out are =
    let by = all_columns n a are.taken v shift e out are.shown in
    elim are.is_taken [
      | inl same ↦ inl (subst (λ q. AreColumns n a q v (Ok are.shown.columns)) same by)
      | inr late ↦ inr (late.0, late.1, (are.taken, late.2, by))
    ]

-- a refusal of both, of a table as it was passed
pub either_refused : (a b : SymTable) (p : PilotTable) (v : ℕ) (cause : InvError) → a ≡ b → IsUnitPower p.g v → (cause ≡ Memory) ⊎ AreColumnsByEither a.size a p v (Err cause) → (cause ≡ Memory) ⊎ IsColumnRefused b.size b p cause
either_refused a b p v cause same power h =
    elim h [
      | inl is ↦ inl is
      | inr both ↦ inr (record { v = v; power = power; both = subst (λ t. AreColumnsByEither t.size t p v (Err cause)) same both })
    ]

-- in units of 10^-(18 + kappa), of a table and exponents as they were passed
pub shown_in_units : (a b : SymTable) (es fs : List ℤ) (p : PilotTable) (v : ℕ) (shift kappa : ℤ) (out : SymTable) → a ≡ b → es ≡ fs → shift ≡ kappa +ℤ pos 18 -ℤ pos v
    → IsUnitPower p.g v → AreShownByEither a.size a p v shift (exponent_of es) out → IsShownInverse b.size kappa b (exponent_of fs) p out
shown_in_units a b es fs p v shift kappa out same exponents value power are =
    let of_b = subst (λ t. AreShownByEither t.size t p v shift (exponent_of es) out) same are in
    let of_fs = subst (λ gs. AreShownByEither b.size b p v shift (exponent_of gs) out) exponents of_b in
    record { v = v; power = power; are = subst (λ s. AreShownByEither b.size b p v s (exponent_of fs) out) value of_fs }

-- ---- the table of their intervals
module _ (n : ℕ) (kappa : ℤ) (v : ℕ) (a : SymTable) (e : ℕ → ℤ) (p : PilotTable) (out : SymTable) (are : AreShown n a p v (kappa +ℤ pos 18 -ℤ pos v) e n out) where
  fits_there : (i j : ℕ) → i < n → j ≤ i → IsModest (entry_at out i j) → IntervalFits kappa v e are.columns i j
  fits_there i j row lower h = let column : j < n = omega arith in subst IsModest ((are.shown i j row lower column).back h) h

  fits_back : (i j : ℕ) → i < n → j ≤ i → IntervalFits kappa v e are.columns i j → IsModest (entry_at out i j)
  fits_back i j row lower h = let column : j < n = omega arith in subst IsModest (sym ((are.shown i j row lower column).here h)) h

  pub joined : out.size ≡ n → length out.entries ≡ before n → HoldsLower n (λ i j. IsModest (entry_at out i j)) → AreJoined n kappa v e are.columns (Ok out)
  joined rows whole modest = (
    record { size = rows; lower = whole; entries = λ i j row lower. let column : j < n = omega arith in (are.shown i j row lower column).back (modest i j row lower) },
    λ i j row lower. fits_there i j row lower (modest i j row lower),
  )

  pub not_joined : (row col : ℕ) → IsFirstLowerFailure n (λ i j. IsModest (entry_at out i j)) row col → AreJoined n kappa v e are.columns (Err (Range row col))
  not_joined row col first = first_lower_failure_moves n (λ i j. IsModest (entry_at out i j)) (IntervalFits kappa v e are.columns) row col fits_there fits_back first
