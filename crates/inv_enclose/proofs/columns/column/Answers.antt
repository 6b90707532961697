use Rattle.std.proofs.Common.{◌≡◌, ◌∙◌, length, sym, subst, arith}
use Rattle.std.proofs.lemmas.Result.{err_from_is_err_and}
use Rattle.whole_numbers.specs.Lists.{at}
use Rattle.equil.specs.Tables.{table_of}
use Rattle.enclosures.specs.Vectors.{IsSmall}
use Rattle.enclosure_check.specs.Certificates.{AreErrors}
use Rattle.enclosure_check.specs.Inputs.{IsRightSide}
use Rattle.enclosure_check.specs.Vectors.{IsStartVector}
use Rattle.enclosure_check.proofs.CertificateLaws.{lists_refused}
use Rattle.inv_enclose.specs.Columns.{IsUnitSide}
use Rattle.inv_enclose.proofs.ColumnLaws.{unit_right, check_refuses, encloses_column}
use Rattle.inv_enclose.proofs.columns.column.Goals as goal

pub start_vector-requires : goal.start_vector-requires
start_vector-requires g c =
    let right = subst (λ k. IsRightSide k c.in_ok-d.d.items) c.size.ensures.value (unit_right c.size.result c.args.v _ c.in_ok-d.d.items c.requires.power c.in_ok-d.ensures) in
    (omega arith, (subst (IsRightSide c.args.rows.now.table.now.size) (sym c.deref.ensures.value) right, c.requires.sizes))

pub errors-requires : goal.errors-requires
errors-requires g c =
    let n = c.args.rows.now.table.now.size in
    let y = c.in-Ok.y in
    let right = subst (λ k. IsRightSide k c.in_ok-d.d.items) c.size.ensures.value (unit_right c.size.result c.args.v _ c.in_ok-d.d.items c.requires.power c.in_ok-d.ensures) in
    let len : length y.items ≡ n = omega (arith, c.in-Ok.ensures.len, y.ok.0) in (
      omega arith,
      (
        subst (IsRightSide n) (sym c.deref-2.ensures.value) right,
        (
          c.requires.sizes,
          (subst (λ ys. length ys ≡ n) (sym c.deref-3.ensures.value) len, subst (λ ys. IsSmall n (at ys)) (sym c.deref-3.ensures.value) c.in-Ok.ensures.small),
        ),
      ),
    )

pub certificate-requires : goal.certificate-requires
certificate-requires g c =
    let e = c.in_ok-row_errors.ensures in
    let d = c.requires.defects c.deref-2.result.now in
    rw (c.deref-4.ensures.value) (e.len ∙ sym d.len)

pub returns-in_err-radius-clause-refused : goal.returns-in_err-radius-clause-refused
returns-in_err-radius-clause-refused g c =
    let a = c.args.rows.now.table.now in
    let n = a.size in
    let p = c.args.pilot.now in
    let d = c.in_ok-d.d.items in
    let y = c.in-Ok.y in
    let t = table_of a d in
    let is = subst (λ k. IsUnitSide k c.args.v c.args.c d) c.size.ensures.value c.in_ok-d.ensures in
    let len : length y.items ≡ n = omega (arith, c.in-Ok.ensures.len, y.ok.0) in
    let start = subst (λ ds. IsStartVector n (table_of a ds) p (at y.items)) c.deref.ensures.value c.in-Ok.ensures.vector in
    let errors_by = subst (λ ds. AreErrors n (table_of a ds) p (at c.deref-3.result.now) c.in_ok-row_errors.row_errors.items) c.deref-2.ensures.value c.in_ok-row_errors.ensures in
    let errors_at = subst (λ ys. AreErrors n t p (at ys) c.in_ok-row_errors.row_errors.items) c.deref-3.ensures.value errors_by in
    let errors = subst (AreErrors n t p (at y.items)) (sym c.deref-4.ensures.value) errors_at in
    let x = c.in_err-radius.field-0.0 in
    let refused = lists_refused n t p (at y.items) c.deref-4.result.now c.args.defects.now x errors (c.requires.defects d) c.in_err-radius.ensures.refused in
    let from = err_from_is_err_and c.from_residual-in_err-radius.result c.from_residual-in_err-radius.ensures.1 in
    rw (from.1, from.2) (check_refuses n a p c.args.v c.args.c d is y.items len start x refused)

pub returns-clause-column : goal.returns-clause-column
returns-clause-column g c =
    let a = c.args.rows.now.table.now in
    let n = a.size in
    let p = c.args.pilot.now in
    let d = c.in_ok-d.d.items in
    let y = c.in-Ok.y in
    let t = table_of a d in
    let is = subst (λ k. IsUnitSide k c.args.v c.args.c d) c.size.ensures.value c.in_ok-d.ensures in
    let len : length y.items ≡ n = omega (arith, c.in-Ok.ensures.len, y.ok.0) in
    let start = subst (λ ds. IsStartVector n (table_of a ds) p (at y.items)) c.deref.ensures.value c.in-Ok.ensures.vector in
    let errors_by = subst (λ ds. AreErrors n (table_of a ds) p (at c.deref-3.result.now) c.in_ok-row_errors.row_errors.items) c.deref-2.ensures.value c.in_ok-row_errors.ensures in
    let errors_at = subst (λ ys. AreErrors n t p (at ys) c.in_ok-row_errors.row_errors.items) c.deref-3.ensures.value errors_by in
    let errors = subst (AreErrors n t p (at y.items)) (sym c.deref-4.ensures.value) errors_at in
    let both = c.in_ok-radius.ensures.certified n t p (at y.items) errors (c.requires.defects d) in
    encloses_column n a p c.args.v c.args.c d is y.items len start c.in_ok-radius.radius both.0 both.1
