use Rattle.snx_write.proofs.heads.push_first_line.Goals as goal

pub returns : goal.returns
returns c =
    rw (← c.print_epoch.ensures.text, ← c.span-start.ensures.start, ← c.print_epoch-2.ensures.text, ← c.span-start.ensures.end, ← c.print_epoch-3.ensures.text, ← c.five_digits.ensures, ← c.has_datum.ensures, ← c.constraint_code.ensures) c.push_line.ensures
