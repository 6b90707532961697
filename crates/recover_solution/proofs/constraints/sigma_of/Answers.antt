use Rattle.std.proofs.Common.{◌∙◌, sym, ap, arith}
use Rattle.std.specs.Option.{option_and_then}
use Rattle.snx_rows.specs.Named.{is_row_of}
use Rattle.named_tables.proofs.NameLaws.{first_here, none_more}
use Rattle.named_tables.specs.Deviations.{sigma_in}
use Rattle.recover_solution.proofs.constraints.sigma_of.Goals as goal

pub returns-then-is_row_of-clause-value : goal.returns-then-is_row_of-clause-value
returns-then-is_row_of-clause-value c =
    c.sigma_in.ensures ∙ sym (ap (option_and_then sigma_in) (first_here (is_row_of c.args.id.now) c.args.apriori.now c.loop-row.row-index c.row-item.result (omega arith) c.row-item.is c.loop-row.invariant (sym c.is_row_of.ensures ∙ c.if-is_row_of.true)))

pub loop-row-preserved : goal.loop-row-preserved
loop-row-preserved c = none_more (is_row_of c.args.id.now) c.args.apriori.now c.loop-row.row-index c.row-item.result (omega arith) c.row-item.is c.loop-row.invariant (sym c.is_row_of.ensures ∙ c.if-is_row_of.false)
