use Rattle.snx_blocks.specs.Views.{doc_view}
use Rattle.control_doc.specs.Views.{plan_view}
use Rattle.neq_stack.specs.Neqs.{neq_view}
use Rattle.file_recovery.specs.Parts.{source_view}
use Rattle.file_recovery.proofs.KnownLaws.{ok_through, file_exact}
use Rattle.file_recovery.proofs.recover.Goals as goal

pub returns-in-Ok-clause-exact : goal.returns-in-Ok-clause-exact
returns-in-Ok-clause-exact g c =
    ok_through c.recovered.result _ _ (λ neq known. file_exact (plan_view c.args.plan.now) (doc_view c.args.doc.now) c.args.scales.now (source_view c.in-Ok.source) c.in-Ok.ensures.source (neq_view neq) known)
    c.recovered.ensures.known
