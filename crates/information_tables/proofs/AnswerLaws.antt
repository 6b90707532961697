-- What the calls answer: steps one after another, and all that is promised of their table.
use Rattle.std.proofs.Common.{◌≡◌, ◌≤◌, ◌<◌, ◌⊎◌, ◌∙◌, ◌^◌, inl, inr, ℕ, pos, List, Result, Ok, Err, IfOk, IfErr, All, length, refl, sym, subst, arith}
use Rattle.stated_order.specs.Steps.{HasOne, Then}
use Rattle.stated_order.proofs.StepLaws.{then_gives, then_stops}
use Rattle.whole_numbers.specs.Intervals.{size}
use Rattle.decimal_e.specs.Decimals.{Decimal}
use Rattle.sym_blocks.specs.Tables.{SymTable, entry_at}
use Rattle.param_ids.specs.Plain.{PlainId}
use Rattle.param_ids.specs.Order.{IsRising, IsNames}
use Rattle.param_ids.specs.Tables.{ScaleMap}
use Rattle.snx_rows.specs.Blocks.{AreDistinct}
use Rattle.snx_rows.specs.declared.rows.Row.{Row}
use Rattle.snx_matrices.specs.Elements.{AreElementsOf}
use Rattle.snx_matrices.specs.declared.elements.Cell.{Cell}
use Rattle.snx_matrices.specs.declared.elements.Content.{Content}
use Rattle.snx_matrices.specs.declared.elements.Content.TheVariants.{Info}
use Rattle.neq_stack.specs.Systems.{NamedSystem, over, name_at}
use Rattle.named_tables.specs.Tables.{HasNames, IsTable, LiesInTable}
use Rattle.named_tables.proofs.TableLaws.{each_modest, name_here}
use Rattle.named_tables.specs.declared.faults.RecoverError.{RecoverError}
use Rattle.named_tables.specs.declared.faults.RecoverError.TheVariants.{Fault}
use Rattle.named_tables.specs.declared.faults.RecoverFault.{RecoverFault}
use Rattle.inv_enclose.specs.Columns.{IsInverted}
use Rattle.inv_enclose.specs.Inverses.{IsSymmetric, IsInverse, HoldsInverses, HaveInverses}
use Rattle.inv_enclose.specs.declared.InvError.{InvError}
use Rattle.inv_enclose.specs.declared.InvError.TheVariants as inverses
use Rattle.information_tables.specs.Exact.{HasCovariances, IsOverCovariances}
use Rattle.information_tables.specs.Tables.{by_name, AreWeighted}
use Rattle.information_tables.specs.Parts.{IsNamedRefusal, IsRefusedBy, IsNamedInverse, IsWeightedInverse, IsOfInverse, IsModestTable, IsAnsweredBy, IsAnswered}
use Rattle.information_tables.proofs.ExistLaws.{given_exists, weight_over}
use Rattle.information_tables.proofs.InverseLaws.{HoldsCovariances, inverse_exists}
use Rattle.information_tables.proofs.LieLaws.{exponents_at, given_lies, over_lies}

-- ---- refusals
pub refused_weaker : (P Q : Result SymTable RecoverFault → Type 0) → ((fault : RecoverFault) → P (Err fault) → Q (Err fault)) → (cause : RecoverError) → IsRefusedBy P cause → IsRefusedBy Q cause
refused_weaker P Q weaker cause (inl memory) = inl memory
refused_weaker P Q weaker cause (inr h) = inr (h.0, h.1, weaker h.0 h.2)

-- the refusal of an inverse under its names
named_other : (names : List PlainId) (table : SymTable) (refusal : InvError) (cause : RecoverError) → (refusal ≡ inverses.Memory → ⊥) → cause ≡ Fault (by_name names refusal) → (refusal ≡ inverses.Memory) ⊎ IsInverted table (pos 24) (Err refusal) → IsRefusedBy (IsNamedInverse names table) cause
named_other names table refusal cause other is (inl memory) = absurd (other memory)
named_other names table refusal cause other is (inr h) = inr (by_name names refusal, is, (refusal, h, refl))

pub named_refused : (names : List PlainId) (table : SymTable) (refusal : InvError) (cause : RecoverError) → IsNamedRefusal names refusal cause → (refusal ≡ inverses.Memory) ⊎ IsInverted table (pos 24) (Err refusal) → IsRefusedBy (IsNamedInverse names table) cause
named_refused names table inverses.Memory cause is h = inl is
named_refused names table (inverses.Range row col) cause is h = named_other names table (inverses.Range row col) cause (λ e. cc) is h
named_refused names table (inverses.Pivot row) cause is h = named_other names table (inverses.Pivot row) cause (λ e. cc) is h
named_refused names table (inverses.Condition col) cause is h = named_other names table (inverses.Condition col) cause (λ e. cc) is h
named_refused names table (inverses.Residual row size) cause is h = named_other names table (inverses.Residual row size) cause (λ e. cc) is h
named_refused names table (inverses.Defect row parts) cause is h = named_other names table (inverses.Defect row parts) cause (λ e. cc) is h

-- a refusal of an inverse is one of the inverse times the weight
pub inverse_refused : (weight : Decimal) (names : List PlainId) (covariances : SymTable) (cause : RecoverError) → IsRefusedBy (IsNamedInverse names covariances) cause → IsRefusedBy (IsWeightedInverse weight names covariances) cause
inverse_refused weight names covariances = refused_weaker (IsNamedInverse names covariances) (IsWeightedInverse weight names covariances) (λ fault h. then_stops (IsNamedInverse names covariances) (AreWeighted weight names) fault h)

-- ---- one step and then the inverse
module _ (weight : Decimal) (names : List PlainId) (first : Result SymTable RecoverFault → Type 0) (rows : List Row) (cells : List Cell) (content : Content) (scales : ScaleMap) (rising : IsRising names)
    (same : (Q : NamedSystem) → HasCovariances content rows cells names Q → IsSymmetric (length names) (over names Q))
    (covariances : SymTable) (many : covariances.size ≡ length names) (given : first (Ok covariances)) (some : HasOne (HasCovariances content rows cells names))
    (held : (Q : NamedSystem) → HasCovariances content rows cells names Q → HoldsCovariances covariances.size (exponents_at scales names) covariances (over names Q)) where
  exact_lies : (out : SymTable) → IsOfInverse weight covariances out → (E : NamedSystem) → IsOverCovariances content rows cells names weight E → LiesInTable scales names out E
  exact_lies out made E is = over_lies scales names covariances out many weight is.Q E made (same is.Q is.covariances) (held is.Q is.covariances) is.over_them

  exact_exists : (out : SymTable) → IsOfInverse weight covariances out → HasOne (IsOverCovariances content rows cells names weight)
  exact_exists out made =
      let Q = some.0 in
      let found = inverse_exists (exponents_at scales names) covariances (over names Q) (held Q some.1) made.have in
      let E = weight_over names rising weight Q found.0 (subst (λ n. IsInverse n (over names Q) found.0) many found.1) in
      (E.0, record { Q = Q; covariances = some.1; over_them = E.1 })

  pub answered : (result : Result SymTable RecoverError) → IfOk result (λ table. IsWeightedInverse weight names covariances (Ok table)) → IfErr result (IsRefusedBy (IsWeightedInverse weight names covariances)) → IfOk result (IsOfInverse weight covariances)
      → IsAnsweredBy (Then first (IsWeightedInverse weight names)) (IsOverCovariances content rows cells names weight) scales names result
  answered (Ok out) is refused made = record {
    table = then_gives first (IsWeightedInverse weight names) covariances (Ok out) given is;
    refused = tt;
    lies = λ E exact. exact_lies out made E exact;
    exists = exact_exists out made;
    size = made.weighted.size ∙ made.size ∙ many;
    lower = made.weighted.lower;
    modest = made.modest;
  }
  answered (Err cause) is refused made = record {
    table = tt;
    refused = refused_weaker (IsWeightedInverse weight names covariances) (Then first (IsWeightedInverse weight names)) (λ fault h. then_gives first (IsWeightedInverse weight names) covariances (Err fault) given h) cause refused;
    lies = tt;
    exists = tt;
    size = tt;
    lower = tt;
    modest = tt;
  }

-- ---- an information matrix as it stands
module _ (rows : List Row) (cells : List Cell) (weight : Decimal) (scales : ScaleMap) (names : List PlainId) (apart : AreDistinct (λ row. row.id) rows) (elements : AreElementsOf (length rows) cells) (in_order : IsNames names) (has : All (HasNames names rows) cells) where
  given_modest : (table : SymTable) → IsTable rows cells weight scales names (Ok table) → IsModestTable table
  given_modest table is i j li lj =
      let many = is.0.size in
      each_modest (length names) table (λ k l lk low.
      subst (λ w. size w ≤ 10 ^ 34) (sym (is.0.entries k l (name_at names k) (name_at names l) (name_here names k lk) (name_here names l (omega arith)))) (is.1 k l lk low).modest) i j (omega arith) (omega arith)

  pub given_answered : (result : Result SymTable RecoverError) → IfOk result (λ table. IsTable rows cells weight scales names (Ok table)) → IfErr result (IsRefusedBy (IsTable rows cells weight scales names)) → IsAnswered Info rows cells weight scales names result
  given_answered (Ok table) is refused = record {
    table = is;
    refused = tt;
    lies = λ E exact. given_lies rows cells weight scales names table E is.0 apart elements in_order has exact;
    exists = given_exists rows cells weight;
    size = is.0.size;
    lower = is.0.lower;
    modest = given_modest table is;
  }
  given_answered (Err cause) is refused = record { table = tt; refused = refused; lies = tt; exists = tt; size = tt; lower = tt; modest = tt }

-- ---- an inverse times the weight
pub of_inverse : (weight : Decimal) (names : List PlainId) (covariances inverse out : SymTable) → covariances.size ≡ length names → inverse.size ≡ covariances.size → HoldsInverses covariances (pos 24) inverse → HaveInverses covariances
    → AreWeighted weight names inverse (Ok out) → IsOfInverse weight covariances out
of_inverse weight names covariances inverse out many size_is holds have is = record { inverse = inverse; size = size_is; holds = holds; have = have; weighted = is.0; modest = modest }
  where
    lower : (i j : ℕ) → i < length names → j ≤ i → size (entry_at out i j) ≤ 10 ^ 34
    lower i j l low = subst (λ w. size w ≤ 10 ^ 34) (sym (is.0.entries i j (omega arith) (omega arith))) (is.1 i j l low).modest

    modest : IsModestTable out
    modest i j li lj = let rows = is.0.size in each_modest (length names) out lower i j (omega arith) (omega arith)
