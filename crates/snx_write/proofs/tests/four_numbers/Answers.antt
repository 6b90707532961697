use Rattle.std.proofs.Common.{◌∷◌, []}
use Rattle.std.proofs.lemmas.List.Elements.{All-cons, All-nil}
use Rattle.bounds_report.specs.Printing.{HasSmallDeviation}
use Rattle.snx_write.proofs.tests.four_numbers.Goals as goal

pub returns : goal.returns
returns c =
    let after_third = c.row-4.result ∷ [] in
    let after_second = c.row-3.result ∷ after_third in
    let after_first = c.row-2.result ∷ after_second in
    All-cons HasSmallDeviation c.row.result after_first c.row.ensures (All-cons HasSmallDeviation c.row-2.result after_second c.row-2.ensures
    (All-cons HasSmallDeviation c.row-3.result after_third c.row-3.ensures (All-cons HasSmallDeviation c.row-4.result [] c.row-4.ensures (All-nil HasSmallDeviation))))
