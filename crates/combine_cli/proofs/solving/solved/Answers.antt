use Rattle.std.proofs.Common.{Ok, subst}
use Rattle.neq_stack.specs.Neqs.{neq_view}
use Rattle.stack_rules.specs.Rules.{IsAnswer, IsRefusedWith, numbers_in}
use Rattle.combine_cli.proofs.ReportLaws.{same_stack, certified_by_names, told_cause}
use Rattle.combine_cli.proofs.solving.solved.Goals as goal

pub returns-in-Ok-clause-solves : goal.returns-in-Ok-clause-solves
returns-in-Ok-clause-solves g c =
    let neq = c.args.neq.now in
    let same = same_stack neq.table c.deref.result.now neq.right.items c.deref-2.result.now neq.apriori.items c.deref-3.result.now neq.scales.items c.deref.ensures.value c.deref-2.ensures.value c.deref-3.ensures.value in
    subst (λ s. IsAnswer s (Ok (numbers_in c.in-Ok.solved))) same c.in-Ok.ensures.answer

pub returns-in-Ok-clause-certified : goal.returns-in-Ok-clause-certified
returns-in-Ok-clause-certified g c =
    let neq = c.args.neq.now in
    let same = same_stack neq.table c.deref.result.now neq.right.items c.deref-2.result.now neq.apriori.items c.deref-3.result.now neq.scales.items c.deref.ensures.value c.deref-2.ensures.value c.deref-3.ensures.value in
    certified_by_names (neq_view neq) (numbers_in c.in-Ok.solved) _ same c.requires.sound.rows c.in-Ok.ensures.certified

pub returns-in-Err-clause-refused : goal.returns-in-Err-clause-refused
returns-in-Err-clause-refused g c =
    let neq = c.args.neq.now in
    let same = same_stack neq.table c.deref.result.now neq.right.items c.deref-2.result.now neq.apriori.items c.deref-3.result.now neq.scales.items c.deref.ensures.value c.deref-2.ensures.value c.deref-3.ensures.value in
    told_cause c.refusal_of_rules.result (neq_view neq) c.in-Err.cause (subst (λ s. IsRefusedWith s c.in-Err.cause) same c.in-Err.ensures.refused) c.refusal_of_rules.ensures.told
