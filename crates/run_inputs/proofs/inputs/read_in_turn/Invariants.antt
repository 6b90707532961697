use Rattle.std.proofs.Common.{◌≡◌, ◌+◌, length, map, take, IsTrue}
use Rattle.std.specs.Prelude.{Ok, All}
use Rattle.desk_io.specs.Content.{KeepsAll}
use Rattle.snx_blocks.specs.Documents.{IsValid}
use Rattle.snx_blocks.specs.Views.{doc_view}
use Rattle.control_doc.specs.Views.{plan_view}
use Rattle.run_inputs.specs.Files.{total_limit}
use Rattle.run_inputs.specs.Inputs.{AreInputs}
use Rattle.run_inputs.specs.Views.{input_view}
use Rattle.run_inputs.proofs.Turns.{bytes_of}
use Rattle.run_inputs.proofs.inputs.read_in_turn.Given as goal

abbrev pub invariant-loop-plan : goal.invariant-loop-plan
invariant-loop-plan g l = record {
  left : l.left + bytes_of (map input_view l.inputs.items) ≡ total_limit;
  plans : map (λ input. (input_view input).plan) l.inputs.items ≡ map (λ plan. plan_view plan.now) (take l.plan-index l.plans);
  count : length l.inputs.items ≡ l.plan-index;
  valid : All (λ input. IsValid (doc_view input.doc)) l.inputs.items;
  keeps : IsTrue g.D.Desk.tells → KeepsAll (g.D.Desk.content l.fn.desk) (g.D.Desk.content l.desk);
  faults : g.D.Desk.faults l.desk ≡ g.D.Desk.faults l.fn.desk;
  so_far : IsTrue g.D.Desk.tells → AreInputs (g.D.Desk.content l.fn.desk).files (map (λ plan. plan_view plan.now) (take l.plan-index l.plans)) (Ok (map input_view l.inputs.items));
}
