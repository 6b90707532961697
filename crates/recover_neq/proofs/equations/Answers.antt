use Rattle.std.proofs.lemmas.Result.{err_from_is_err_and}
use Rattle.std.proofs.Common.{arith}
use Rattle.snx_rows.specs.declared.rows.Shape.TheVariants.{Vector}
use Rattle.named_tables.proofs.MatchLaws.{names_cover}
use Rattle.recover_neq.specs.Blocks.{blocks_of}
use Rattle.recover_neq.proofs.NamedLaws.{neq_sound}
use Rattle.recover_neq.proofs.RecoverLaws.{no_right}
use Rattle.recover_neq.proofs.equations.Goals as goal

pub table_of-requires : goal.table_of-requires
table_of-requires g c = (
  omega arith,
  ((Vector, c.requires.vector), (c.requires.cells, (c.in_ok-names.ensures.1, names_cover c.args.vector.now c.in_ok-names.names c.args.cells.now c.in_ok-names.ensures c.requires.cells))),
)

pub returns-in_err-right-clause-refused : goal.returns-in_err-right-clause-refused
returns-in_err-right-clause-refused g c =
    let from = err_from_is_err_and c.from_residual-in_err-right.result c.from_residual-in_err-right.ensures.1 in
    rw (from.1, from.2) (no_right (blocks_of c.args.apriori.now c.args.vector.now c.args.cells.now) c.args.weight.now c.args.scales.now c.in_ok-names.names c.in_ok-names.ensures c.in_ok-table.table c.in_ok-table.ensures.table c.in_err-right.field-0.0 c.in_err-right.ensures.refused)

pub returns-clause-sound : goal.returns-clause-sound
returns-clause-sound g c =
    let names = c.in_ok-names.names in
    let right = c.in_ok-right.right.items in
    let values = c.in_ok-values.values.items in
    let units = c.in_ok-units.units.items in
    let exponents = c.in_ok-exponents.exponents.items in
    neq_sound (blocks_of c.args.apriori.now c.args.vector.now c.args.cells.now) c.args.weight.now c.args.scales.now
    (record { names = names; table = c.in_ok-table.table; right = right; apriori = values; units = units; scales = exponents })
    (record {
      names = c.in_ok-names.ensures;
      table = c.in_ok-table.ensures.table;
      right = c.in_ok-right.ensures.column;
      apriori = c.in_ok-values.ensures;
      units = c.in_ok-units.ensures;
      exponents = c.in_ok-exponents.ensures.exponents;
    })
    c.requires.apriori c.in_ok-exponents.ensures.range
