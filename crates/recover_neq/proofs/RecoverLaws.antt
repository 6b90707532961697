-- What each step of a recovery gives.
use Rattle.std.proofs.Common.{◌≡◌, ◌⊎◌, inl, inr, List, Result, Ok, Err, refl}
use Rattle.stated_order.proofs.StepLaws.{then_gives, then_stops}
use Rattle.decimal_e.specs.Decimals.{Decimal}
use Rattle.sym_blocks.specs.Tables.{SymTable}
use Rattle.param_ids.specs.Plain.{PlainId}
use Rattle.param_ids.specs.Tables.{ScaleMap}
use Rattle.neq_stack.specs.Neqs.{PlainNeq}
use Rattle.named_tables.specs.Naming.{AreNamesOf, matched, filled}
use Rattle.named_tables.specs.Tables.{IsTable, IsColumn}
use Rattle.named_tables.specs.declared.faults.RecoverFault.{RecoverFault}
use Rattle.named_tables.specs.declared.faults.RecoverError.{RecoverError}
use Rattle.named_tables.specs.declared.faults.RecoverError.TheVariants.{Memory, Fault}
use Rattle.recover_neq.specs.Blocks.{Blocks}
use Rattle.recover_neq.specs.Recovery.{IsNamed, IsRecovered}

-- want of memory, or the cause for which a step gives nothing
abbrev pub IsRefused : (Result PlainNeq RecoverFault → Type 0) → RecoverError → Type 0
IsRefused IsResult cause = (cause ≡ Memory) ⊎ ((fault : RecoverFault) × (cause ≡ Fault fault) × IsResult (Err fault))

module _ (blocks : Blocks) (weight : Decimal) (scales : ScaleMap) where
  -- ---- all steps
  module _ (all_matched : Ok tt ≡ matched blocks.apriori blocks.vector) where
    pub no_row : (fault : RecoverFault) → Err fault ≡ filled blocks.vector → IsRefused (IsRecovered blocks weight scales) (Fault fault)
    no_row fault h = inr (fault, refl, then_gives _ _ tt (Err fault) all_matched (then_stops _ _ fault h))

    module _ (some : Ok tt ≡ filled blocks.vector) where
      pub whole : (result : Result PlainNeq RecoverFault) → IsNamed blocks weight scales result → IsRecovered blocks weight scales result
      whole result h = then_gives _ _ tt result all_matched (then_gives _ _ tt result some h)

      pub past : (cause : RecoverError) → IsRefused (IsNamed blocks weight scales) cause → IsRefused (IsRecovered blocks weight scales) cause
      past cause (inl memory) = inl memory
      past cause (inr h) = inr (h.0, h.1, whole (Err h.0) h.2)

  -- ---- a right side that does not fit
  module _ (names : List PlainId) (named : AreNamesOf blocks.vector names) (table : SymTable) (is_table : IsTable blocks.vector blocks.cells weight scales names (Ok table)) where
    pub no_right : (cause : RecoverError) → (cause ≡ Memory) ⊎ ((fault : RecoverFault) × (cause ≡ Fault fault) × IsColumn blocks.vector weight scales names (Err fault)) → IsRefused (IsNamed blocks weight scales) cause
    no_right cause (inl memory) = inl memory
    no_right cause (inr h) = inr (h.0, h.1, record { names = names; named = named; made = then_gives _ _ table (Err h.0) is_table (then_stops _ _ h.0 h.2) })
