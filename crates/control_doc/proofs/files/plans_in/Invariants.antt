use Rattle.std.proofs.Common.{map, take, [], Ok, codes, Bor, BTreeMap, String, Global}
use Rattle.stated_order.specs.Steps.{InTurn}
use Rattle.toml.specs.View.{table_view}
use Rattle.toml.specs.declared.value.Value.{Value}
use Rattle.control_doc.specs.Control.{IsPlan}
use Rattle.control_doc.specs.Tables.{entries}
use Rattle.control_doc.specs.Views.{plan_view}
use Rattle.control_doc.proofs.files.plans_in.Given as goal

abbrev pub invariant-loop-k : goal.invariant-loop-k
invariant-loop-k l = InTurn IsPlan [] (entries (codes "file") (map (λ (table : Bor (BTreeMap (String Global) Value)). table_view table.now) (take l.k l.tables))) (Ok (map plan_view l.plans.items))
