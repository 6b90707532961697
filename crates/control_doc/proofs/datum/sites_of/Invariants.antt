use Rattle.std.proofs.Common.{◌≡◌, map, drop, Bor, Vec, Global, List, ℕ}
use Rattle.control_doc.specs.Control as spec
use Rattle.control_doc.proofs.Items.{before}
use Rattle.control_doc.proofs.datum.sites_of.Given as goal

abbrev pub invariant-lists : goal.invariant-lists
invariant-lists l =
    before l.sites.items (spec.sites_of (map (λ (texts : Vec (Bor (List ℕ)) Global). map (λ text. text.now) texts.items) (drop l.texts-index l.lists)))
    ≡ spec.sites_of (map (λ (texts : Vec (Bor (List ℕ)) Global). map (λ text. text.now) texts.items) l.lists)
