-- What the recoveries of blocks answer, as the recovery of a file.
use Rattle.std.proofs.Common.{◌≡◌, ◌⊎◌, ◌≤◌, ◌<◌, ◌*◌, ◌^◌, inl, inr, ℕ, pos, ◌<ℤ◌, map, Result, Ok, Err, IfOk, unsigned_abs, refl, subst, arith}
use Rattle.std.proofs.lemmas.Int.{ints}
use Rattle.stated_order.specs.Steps.{HasOne}
use Rattle.stated_order.proofs.StepLaws.{then_gives, then_stops}
use Rattle.decimal_e.specs.Decimals.{Decimal}
use Rattle.param_ids.specs.Tables.{ScaleMap}
use Rattle.snx_blocks.specs.Documents.{PlainDoc}
use Rattle.control_doc.specs.Plain.{PlainPlan}
use Rattle.control_doc.specs.Valid.{IsPositiveAndShort}
use Rattle.neq_stack.specs.ByName.{AreAtMost}
use Rattle.neq_stack.specs.Neqs.{PlainNeq, IsSound}
use Rattle.neq_stack.specs.Systems.{NamedSystem, LiesInNeq}
use Rattle.named_tables.specs.Weighted.{IsWeight, scale_of}
use Rattle.named_tables.specs.declared.faults.RecoverFault.{RecoverFault}
use Rattle.named_tables.specs.declared.faults.RecoverError.TheVariants.{Memory, Fault}
use Rattle.recover_neq.specs.Blocks.{Blocks}
use Rattle.recover_neq.specs.Exact as exact_equations
use Rattle.recover_neq.specs.Recovery as equations
use Rattle.recover_neq.proofs.LawExact.{exact_exists}
use Rattle.file_recovery.specs.Files.{Source, Equations, IsSource}
use Rattle.file_recovery.specs.Recovery.{IsRecoveredFrom, IsRecovered, IsExactFrom, IsExact}
use Rattle.file_recovery.specs.Parts.{IsRecoveredOf}
use Rattle.file_recovery.specs.declared.faults.FileFault.{FileFault}
use Rattle.file_recovery.proofs.SourceLaws.{same_source}

-- ---- sizes
pub at_most_weaker : (most more : ℕ) (neq : PlainNeq) → most ≤ more → AreAtMost most neq → AreAtMost more neq
at_most_weaker most more neq le h = record { entries = λ one other. let s = h.entries one other in omega arith; rights = λ id. let s = h.rights id in omega arith }

weight_parts : (d : Decimal) → IsPositiveAndShort d → (pos 0 <ℤ d.mant) × (unsigned_abs d.mant < 10 ^ 9)
weight_parts d fine = grind (arith, ints)

pub is_weight : (d : Decimal) → IsPositiveAndShort d → IsWeight d
is_weight d fine = let parts = weight_parts d fine in record { some = parts.0; few = parts.1 }

-- ---- of blocks
pub equations_known : (blocks : Blocks) (weight : Decimal) (scales : ScaleMap) (neq : PlainNeq) → equations.IsRecovered blocks weight scales (Ok neq) → IsSound neq
    → ((S : NamedSystem) → exact_equations.IsExact blocks weight S → LiesInNeq (scale_of scales) neq S) → AreAtMost (10 ^ 34) neq → neq.scales ≡ map (scale_of scales) neq.names
    → IsRecoveredOf weight scales (Equations blocks) neq
equations_known blocks weight scales neq recovers sound exact modest exponents = record {
  recovers = recovers;
  sound = sound;
  exact = exact;
  exact_exists = exact_exists blocks weight;
  modest = at_most_weaker (10 ^ 34) (2 * 10 ^ 34) neq (omega arith) modest;
  exponents = exponents;
}

-- the fault that a recovery answers, where it is not want of memory
pub fault_told : (fault : RecoverFault) (P : RecoverFault → Type 0) → (Fault fault ≡ Memory) ⊎ ((other : RecoverFault) × (Fault fault ≡ Fault other) × P other) → P fault
fault_told fault P (inl e) = absurd (cc)
fault_told fault P (inr (other, e, h)) = let same : other ≡ fault = cc in subst P same h

-- ---- of a file
pub ok_through : {T E : Type 0} (r : Result T E) (P Q : T → Type 0) → ((x : T) → P x → Q x) → IfOk r P → IfOk r Q
ok_through (Ok x) P Q f h = f x h
ok_through (Err e) P Q f h = tt

module _ (plan : PlainPlan) (doc : PlainDoc) (scales : ScaleMap) (source : Source) (has : IsSource plan doc (Ok source)) where
  pub file_recovered : (neq : PlainNeq) → IsRecoveredOf plan.weight scales source neq → IsRecovered plan doc scales (Ok neq)
  file_recovered neq known = then_gives (IsSource plan doc) (IsRecoveredFrom plan.weight scales) source (Ok neq) has known.recovers

  pub file_refused : (fault : FileFault) → IsRecoveredFrom plan.weight scales source (Err fault) → IsRecovered plan doc scales (Err fault)
  file_refused fault h = then_gives (IsSource plan doc) (IsRecoveredFrom plan.weight scales) source (Err fault) has h

  pub file_exact : (neq : PlainNeq) → IsRecoveredOf plan.weight scales source neq → (S : NamedSystem) → IsExact plan doc S → LiesInNeq (scale_of scales) neq S
  file_exact neq known S exact = known.exact S (subst (λ s. IsExactFrom plan.weight s S) (same_source plan doc exact.source source exact.has has) exact.exact)

  pub file_exact_exists : (neq : PlainNeq) → IsRecoveredOf plan.weight scales source neq → HasOne (IsExact plan doc)
  file_exact_exists neq known = let found = known.exact_exists in (found.0, record { source = source; has = has; exact = found.1 })

pub no_source : (plan : PlainPlan) (doc : PlainDoc) (scales : ScaleMap) (fault : FileFault) → IsSource plan doc (Err fault) → IsRecovered plan doc scales (Err fault)
no_source plan doc scales fault h = then_stops (IsSource plan doc) (IsRecoveredFrom plan.weight scales) fault h
