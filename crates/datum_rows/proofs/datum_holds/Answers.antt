use Rattle.datum_rows.proofs.Alone.{one_addition}
use Rattle.datum_rows.proofs.ExistLaws.{datum_exists, datum_multiples}
use Rattle.datum_rows.proofs.HoldLaws.{datum_holds_in}
use Rattle.datum_rows.proofs.PlaceLaws.{only_at_sites}
use Rattle.datum_rows.proofs.datum_holds.Goals as goal

pub returns : goal.returns
returns c = record { one = one_addition; holds = datum_holds_in; exists = datum_exists; multiples = datum_multiples; elsewhere = only_at_sites }
