use Rattle.std.proofs.Common.{ℕ, Vec, Global, map}
use Rattle.site_merge.specs.Answers.{sites_view}
use Rattle.control_doc.specs.Views.{control_view}
use Rattle.neq_stack.specs.Neqs.{neq_view}
use Rattle.stack_rules.specs.Rules.{numbers_in}
use Rattle.combine_cli.proofs.TellingLaws.{out_told}
use Rattle.combine_cli.proofs.telling.out_of.Goals as goal

pub returns-then-whole : goal.returns-then-whole
returns-then-whole c = λ inputs names merged.
    out_told (control_view c.args.control.now) inputs (map (λ name. name.now) c.args.files.now) (sites_view c.args.sites.now) (neq_view c.args.free.now) (numbers_in c.args.solved.now) c.deref.result.now
    (λ (text : Vec ℕ Global). text.items) c.args.whole c.combined.result c.if-whole.true c.deref.ensures.value names merged c.combined.ensures
