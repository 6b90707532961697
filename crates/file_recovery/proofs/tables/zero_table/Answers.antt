use Rattle.std.proofs.Common.{◌∙◌, arith}
use Rattle.file_recovery.proofs.TableLaws.{free_known}
use Rattle.file_recovery.proofs.tables.zero_table.Goals as goal

pub returns-clause-known : goal.returns-clause-known
returns-clause-known g c =
    let many = c.len.ensures.value in
    free_known c.args.names.now c.in_ok-zero.field-0 (record {
      size = c.in_ok-zero.ensures.size ∙ many;
      lower = c.in_ok-zero.ensures.whole;
      entries = λ i j li lj. c.in_ok-zero.ensures.entries i j (omega arith) (omega arith);
    })
