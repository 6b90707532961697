use Rattle.std.proofs.Common.{◌∙◌, sym, ap, arith}
use Rattle.std.specs.Option.{option_map}
use Rattle.snx_rows.specs.declared.rows.Row.{Row}
use Rattle.named_tables.specs.Naming.{lacks_row}
use Rattle.named_tables.proofs.NameLaws.{none_more, first_here}
use Rattle.named_tables.proofs.naming.first_unmatched.Goals as goal

pub returns-then-is_unmatched : goal.returns-then-is_unmatched
returns-then-is_unmatched c =
    sym (ap (option_map (λ (row : Row). row.id)) (first_here (lacks_row c.args.apriori.now) c.args.rows.now c.loop-row.row-index c.row-item.result (omega arith) c.row-item.is c.loop-row.invariant
    (sym (c.is_unmatched.ensures c.args.apriori.now c.in_ok-known.ensures.0) ∙ c.if-is_unmatched.true)))

pub loop-row-preserved : goal.loop-row-preserved
loop-row-preserved c =
    none_more (lacks_row c.args.apriori.now) c.args.rows.now c.loop-row.row-index c.row-item.result (omega arith) c.row-item.is c.loop-row.invariant
    (sym (c.is_unmatched.ensures c.args.apriori.now c.in_ok-known.ensures.0) ∙ c.if-is_unmatched.false)
