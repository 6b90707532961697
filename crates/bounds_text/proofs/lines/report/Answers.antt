use Rattle.std.proofs.Common.{◌∙◌, ap, sym, flat_map, List}
use Rattle.bounds_report.specs.declared.numbers.Printed.{Printed}
use Rattle.bounds_text.specs.Report.{bounds_lines}
use Rattle.bounds_text.proofs.Texts.{length-bounds_lines, report_is, vec_is}
use Rattle.bounds_text.proofs.lines.report.Goals as goal

pub returns : goal.returns
returns c =
    let names = c.args.names.now in
    let units = c.args.units.now in
    let numbers = c.args.solved.now.rows.items in
    vec_is c.framed.result _ _
    (report_is _ _ _ c.len.result _ _ (bounds_lines 1 names units numbers) (c.as_str.ensures.value ∙ c.in_ok-certificate.ensures)
    (c.deref-2.ensures.value ∙ c.in_ok-lines.ensures ∙ ap (λ (ns : List Printed). flat_map (λ line. line) (bounds_lines 1 names units ns)) c.deref.ensures.value)
    (length-bounds_lines 1 names units numbers c.requires.units c.requires.numbers ∙ sym c.len.ensures.value))
    c.framed.ensures
