use Rattle.std.proofs.Common.{◌≡◌, ◌+◌, ◌++◌, flat_map, drop}
use Rattle.bounds_text.specs.Report.{bounds_lines}
use Rattle.bounds_text.proofs.lines.bounds_lines.Given as goal

abbrev pub invariant-loop-k : goal.invariant-loop-k
invariant-loop-k l =
    l.text.items ++ flat_map (λ line. line) (bounds_lines (l.k + 1) (drop l.k l.names) (drop l.k l.units) (drop l.k l.numbers)) ≡ flat_map (λ line. line) (bounds_lines 1 l.names l.units l.numbers)
