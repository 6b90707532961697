-- The causes of the steps as refusals: why a file has no normal equations at the common values, why a stack gets no datum, and why the
-- rules refuse it.
use Rattle.std.specs.Prelude.{ℕ, List}
use Rattle.param_ids.specs.Plain.{PlainId}
use Rattle.neq_stack.specs.Systems.{name_at}
use Rattle.difference_products.specs.Products.{Place}
use Rattle.datum_rows.specs.Additions.{Fault}
use Rattle.datum_rows.specs.Additions as datum
use Rattle.file_recovery.specs.declared.faults.FileFault.{FileFault}
use Rattle.file_recovery.specs.declared.faults.FileFault.TheVariants as files
use Rattle.named_tables.specs.declared.faults.RecoverFault.TheVariants as recovery
use Rattle.stack_rules.specs.declared.StackError.{StackError}
use Rattle.stack_rules.specs.declared.StackError.TheVariants as rules
use Rattle.refusal_lines.specs.declared.refusal.Scope.TheVariants.{File, Stack}
use Rattle.refusal_lines.specs.declared.refusal.Refusal.{Refusal}
use Rattle.refusal_lines.specs.declared.refusal.Refusal.TheVariants.{Block, Unmatched, NoWeight, UnmatchedSite, Empty, Memory, Range, Pivot, Condition, Residual, Defect}

-- the refusal of a file of this name, whose normal equations are not recovered
abbrev pub refusal_of_recovery : List ℕ → FileFault → Refusal
refusal_of_recovery name (files.MissingBlock block) = Block (File name) block
refusal_of_recovery name (files.Recovery (recovery.Unmatched id)) = Unmatched (File name) id
refusal_of_recovery name (files.Recovery (recovery.NoWeight id)) = NoWeight (File name) id
refusal_of_recovery name (files.Recovery recovery.Empty) = Empty (File name)
refusal_of_recovery name (files.Recovery (recovery.Range row col)) = Range (File name) row col
refusal_of_recovery name (files.Recovery (recovery.Pivot id)) = Pivot (File name) id
refusal_of_recovery name (files.Recovery (recovery.Condition id)) = Condition (File name) id
refusal_of_recovery name (files.Recovery (recovery.Residual id size)) = Residual (File name) id size
refusal_of_recovery name (files.Recovery (recovery.Defect id parts)) = Defect (File name) id parts

-- the refusal of a file of this name, whose normal equations with these names are not brought to the common a priori values
abbrev pub refusal_of_shift : List ℕ → List PlainId → Place → Refusal
refusal_of_shift name names place = Range (File name) (name_at names place.row) (name_at names place.col)

-- the refusal of a stack of these names, to which the rows of the datum are not added
abbrev pub refusal_of_datum : List PlainId → Fault → Refusal
refusal_of_datum names (datum.Unmatched site) = UnmatchedSite site
refusal_of_datum names (datum.Range row col) = Range Stack (name_at names row) (name_at names col)

-- the refusal of a stack of these names for a cause of the rules
abbrev pub refusal_of_rules : List PlainId → StackError → Refusal
refusal_of_rules names (rules.Range row col) = Range Stack (name_at names row) (name_at names col)
refusal_of_rules names (rules.Pivot row) = Pivot Stack (name_at names row)
refusal_of_rules names (rules.Condition col) = Condition Stack (name_at names col)
refusal_of_rules names (rules.Residual row size) = Residual Stack (name_at names row) size
refusal_of_rules names (rules.Defect row parts) = Defect Stack (name_at names row) parts
refusal_of_rules names rules.Memory = Memory
