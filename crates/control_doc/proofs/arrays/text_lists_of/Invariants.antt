use Rattle.std.proofs.Common.{◌≡◌, map, drop}
use Rattle.toml.specs.View.{items_view}
use Rattle.control_doc.specs.Tables.{each_as, as_texts}
use Rattle.control_doc.proofs.Items.{before}
use Rattle.control_doc.proofs.arrays.text_lists_of.Given as goal

abbrev pub invariant-items : goal.invariant-items
invariant-items l = before (map (λ texts. map (λ text. text.now) texts.items) l.lists.items) (each_as as_texts (items_view (drop l.item-index l.items))) ≡ each_as as_texts (items_view l.items)
