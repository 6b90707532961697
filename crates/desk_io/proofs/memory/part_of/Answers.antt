use Rattle.std.proofs.Common.{◌/◌, length, drop, sym}
use Rattle.std.proofs.lemmas.List.{take-append-drop}
use Rattle.desk_io.proofs.memory.part_of.Goals as goal

pub returns-then-is_cut-clause-front : goal.returns-then-is_cut-clause-front
returns-then-is_cut-clause-front c =
    let half = length c.args.bytes.now / 2 in
    (drop half c.args.bytes.now, sym (take-append-drop half c.args.bytes.now))
