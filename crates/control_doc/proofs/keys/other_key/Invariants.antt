use Rattle.std.proofs.Common.{◌≡◌, map, Bor, List, ℕ}
use Rattle.std.specs.List.{find}
use Rattle.toml.specs.View.{members_view}
use Rattle.control_doc.specs.Tables as spec
use Rattle.control_doc.proofs.keys.other_key.Given as goal

abbrev pub invariant-keys : goal.invariant-keys
invariant-keys l =
    goal.iterator-keys.can_next l.key-iterator ×
    goal.iterator-keys.is_finite l.key-iterator ×
    (find (spec.is_other (map (λ (word : Bor (List ℕ)). word.now) l.known)) (spec.keys_of (members_view l.key-iterator))
    ≡ find (spec.is_other (map (λ (word : Bor (List ℕ)). word.now) l.known)) (spec.keys_of (members_view l.table.entries)))
