use Rattle.decimal_e.proofs.Values.{holds_word}
use Rattle.decimal_e.proofs.scale.holds_value.Goals as goal

pub returns : goal.returns
returns c = holds_word
