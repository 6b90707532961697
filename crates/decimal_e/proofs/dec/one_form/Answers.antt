use Rattle.decimal_e.proofs.Values.{one_form_of}
use Rattle.decimal_e.proofs.dec.one_form.Goals as goal

pub returns : goal.returns
returns c = one_form_of
