use Rattle.std.proofs.Common.{inr, refl, subst, length, slice_index_or}
use Rattle.stated_order.specs.First.{HoldsBelow, IsFirstFailure}
use Rattle.sym_blocks.specs.Tables.{zero_interval}
use Rattle.named_tables.specs.Parts.{IsModest}
use Rattle.named_tables.specs.declared.faults.RecoverFault.TheVariants.{Range}
use Rattle.named_tables.proofs.TableLaws.{is_column, no_column}
use Rattle.named_tables.proofs.rights.column_of.Goals as goal

pub returns-in-Some-clause-refused : goal.returns-in-Some-clause-refused
returns-in-Some-clause-refused c = inr (
  Range c.at.result.now c.at-in-Some.result.now,
  refl,
  no_column c.args.rows.now c.args.weight.now c.args.scales.now c.args.names.now c.in_ok-right.right.items c.in_ok-right.ensures c.in-Some.row c.at.result.now c.at-in-Some.result.now
      (subst (λ right. IsFirstFailure (length right) (λ i. IsModest (slice_index_or right i zero_interval)) c.in-Some.row) c.deref.ensures.value c.in-Some.ensures) c.at.ensures c.at-in-Some.ensures,
)

pub returns-in-None-clause-column : goal.returns-in-None-clause-column
returns-in-None-clause-column c =
    is_column c.args.rows.now c.args.weight.now c.args.scales.now c.args.names.now c.in_ok-right.right.items c.in_ok-right.ensures
    (subst (λ right. HoldsBelow (length right) (λ i. IsModest (slice_index_or right i zero_interval))) c.deref.ensures.value c.in-None.ensures)
