use Rattle.std.proofs.Common.{◌∙◌, sym, subst, arith}
use Rattle.std.proofs.lemmas.Result.{err_from_is_err_and}
use Rattle.equil.specs.Tables.{table_of, exponent_of}
use Rattle.enclosure_check.specs.Certificates.{AreDefects}
use Rattle.inv_enclose.specs.Parts.{column_of}
use Rattle.inv_enclose.proofs.TableLaws.{one_shown, refused_column}
use Rattle.inv_enclose.proofs.tables.shown_inverse.Goals as goal

pub column-requires : goal.column-requires
column-requires g c =
    let a = c.args.rows.now.table.now in
    let size = c.loop-c.invariant.size in
    let end = c.size-c-end.ensures.value in
    let first = c.size.ensures.value in
    let made = c.in_ok-out.ensures.size in
    let test = c.loop-c-test.true in
    (omega arith, (omega arith, (c.requires.sizes, (c.requires.power, λ d. subst (AreDefects a.size (table_of a d) c.args.pilot.now) (sym c.deref.ensures.value) (c.in_ok-row_defects.ensures d)))))

pub returns-in_err-enclosed-clause-refused : goal.returns-in_err-enclosed-clause-refused
returns-in_err-enclosed-clause-refused g c =
    let a = c.args.rows.now.table.now in
    let end = c.size-c-end.ensures.value in
    let first = c.size.ensures.value in
    let made = c.in_ok-out.ensures.size in
    let test = c.loop-c-test.true in
    let x = c.in_err-enclosed.field-0.0 in
    let from = err_from_is_err_and c.from_residual-in_err-enclosed.result c.from_residual-in_err-enclosed.ensures.1 in
    rw (from.1, from.2) (refused_column a.size a c.args.pilot.now c.args.v _ (exponent_of c.args.exponents.now) c.loop-c.c c.loop-c.out x (omega arith) c.loop-c.invariant.are c.in_err-enclosed.ensures.refused)

pub loop-c-preserved : goal.loop-c-preserved
loop-c-preserved g c =
    let a = c.args.rows.now.table.now in
    let end = c.size-c-end.ensures.value in
    let first = c.size.ensures.value in
    let made = c.in_ok-out.ensures.size in
    let test = c.loop-c-test.true in
    let size = c.loop-c.invariant.size in
    let column = column_of c.in_ok-enclosed.enclosed in
    record {
      size = c.place_column.ensures.size ∙ size;
      whole = c.place_column.ensures.whole;
      are = one_shown a.size a c.args.pilot.now c.args.v _ (exponent_of c.args.exponents.now) c.loop-c.c column c.loop-c.out c.place_column.new.table (omega arith) c.loop-c.invariant.are c.in_ok-enclosed.ensures.column
          (λ i from row. c.place_column.ensures.shown i from (omega arith))
          (λ i j row left. c.place_column.ensures.others i j (omega arith) left);
    }
