use Rattle.std.proofs.Common.{map, take, [], Ok, codes, Bor, BTreeMap, String, Global}
use Rattle.stated_order.specs.Steps.{InTurn}
use Rattle.toml.specs.View.{table_view}
use Rattle.toml.specs.declared.value.Value.{Value}
use Rattle.control_doc.specs.Control.{Is, reduction_in}
use Rattle.control_doc.specs.Tables.{entries}
use Rattle.control_doc.specs.Views.{reduction_view}
use Rattle.control_doc.proofs.reductions.reductions_in.Given as goal

abbrev pub invariant-loop-k : goal.invariant-loop-k
invariant-loop-k l = InTurn (λ before entry. Is (reduction_in before entry)) [] (entries (codes "reduce") (map (λ (table : Bor (BTreeMap (String Global) Value)). table_view table.now) (take l.k l.tables))) (Ok (map reduction_view l.reductions.items))
