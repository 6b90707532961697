use Rattle.std.proofs.Common.{◌≡◌, ◌+◌, ◌++◌, drop, map}
use Rattle.std.specs.Option.{option_map}
use Rattle.control_doc.specs.Views.{datum_view}
use Rattle.snx_write.specs.Combined.{text_of, parameter_lines, apriori_numbers}
use Rattle.snx_write.proofs.parameters.push_apriori_lines.Given as goal

abbrev pub invariant-loop-k : goal.invariant-loop-k
invariant-loop-k g l =
    let datum = option_map datum_view l.datum in
    let numbers = map apriori_numbers l.free.apriori.items in
    l.out.items ++ text_of (parameter_lines datum (l.k + 1) (drop l.k l.free.names) (drop l.k l.free.units.items) (drop l.k numbers))
    ≡ l.fn.out.items ++ text_of (parameter_lines datum 1 l.free.names l.free.units.items numbers)
