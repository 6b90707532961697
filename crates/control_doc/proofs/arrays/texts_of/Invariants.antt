use Rattle.std.proofs.Common.{◌≡◌, map, drop}
use Rattle.toml.specs.Data.{as_str}
use Rattle.toml.specs.View.{items_view}
use Rattle.control_doc.specs.Tables.{each_as}
use Rattle.control_doc.proofs.Items.{before}
use Rattle.control_doc.proofs.arrays.texts_of.Given as goal

abbrev pub invariant-items : goal.invariant-items
invariant-items l = before (map (λ text. text.now) l.texts.items) (each_as as_str (items_view (drop l.item-index l.items))) ≡ each_as as_str (items_view l.items)
