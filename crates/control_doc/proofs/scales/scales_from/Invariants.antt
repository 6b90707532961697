use Rattle.std.proofs.Common.{◌≡◌, ◌≤◌, ◌+◌, length}
use Rattle.std.specs.FinMap as finmap
use Rattle.toml.specs.View.{members_view}
use Rattle.param_ids.specs.Tables.{standard_scales}
use Rattle.control_doc.specs.Control as spec
use Rattle.control_doc.specs.Tables.{keys_of}
use Rattle.control_doc.proofs.scales.scales_from.Given as goal

abbrev pub invariant-keys : goal.invariant-keys
invariant-keys l =
    goal.iterator-keys.can_next l.key-iterator ×
    goal.iterator-keys.is_finite l.key-iterator ×
    (finmap.len l.scales + length (keys_of (members_view l.key-iterator)) ≤ 62) ×
    (spec.scales_from (members_view l.table.entries) l.scales (keys_of (members_view l.key-iterator))
    ≡ spec.scales_from (members_view l.table.entries) standard_scales (keys_of (members_view l.table.entries)))
