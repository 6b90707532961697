use Rattle.std.proofs.Common.{◌∙◌, ◌+◌, ◌-◌, ◌^◌, ap}
use Rattle.enclosure_check.proofs.ErrorLaws.{row_error_is}
use Rattle.enclosure_check.proofs.row_errors.row_error.Goals as goal

pub returns : goal.returns
returns c =
    let two = c.two_to.ensures.value ∙ ap (λ g. 2 ^ (g + 60 - c.args.h)) c.g.ensures.value in
    c.div_ceil.ensures
    ∙ row_error_is c.args.p.now c.row.result.now c.args.entries.now c.args.h c.args.i c.magnitude.result c.two_to.result c.row_by_entries.result c.requires.sizes.len c.row.ensures.entries c.row_by_entries.ensures c.magnitude.ensures two
