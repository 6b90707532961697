use Rattle.std.proofs.Common.{◌≡◌, map, drop}
use Rattle.toml.specs.Data.{as_table}
use Rattle.toml.specs.View.{table_view, items_view}
use Rattle.control_doc.specs.Tables.{each_as}
use Rattle.control_doc.proofs.Items.{before}
use Rattle.control_doc.proofs.arrays.tables_of.Given as goal

abbrev pub invariant-items : goal.invariant-items
invariant-items l = before (map (λ table. table_view table.now) l.tables.items) (each_as as_table (items_view (drop l.item-index l.items))) ≡ each_as as_table (items_view l.items)
