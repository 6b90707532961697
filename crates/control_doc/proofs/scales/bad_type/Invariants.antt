use Rattle.std.proofs.Common.{◌≡◌, not}
use Rattle.std.specs.List.{find}
use Rattle.toml.specs.View.{members_view}
use Rattle.control_doc.specs.Control as spec
use Rattle.control_doc.specs.Tables.{keys_of}
use Rattle.control_doc.proofs.scales.bad_type.Given as goal

abbrev pub invariant-keys : goal.invariant-keys
invariant-keys l =
    goal.iterator-keys.can_next l.key-iterator ×
    goal.iterator-keys.is_finite l.key-iterator ×
    (find (λ key. not (spec.is_type key)) (keys_of (members_view l.key-iterator)) ≡ find (λ key. not (spec.is_type key)) (keys_of (members_view l.table.entries)))
