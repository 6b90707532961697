use Rattle.std.proofs.Common.{ap, refl, sym}
use Rattle.std.specs.Option.{option_map}
use Rattle.stated_order.proofs.StepLaws.{then_gives}
use Rattle.snx_blocks.specs.Views.{doc_view, matrix_view}
use Rattle.snx_blocks.specs.declared.sections.Section.TheVariants.{AprioriMatrix}
use Rattle.control_doc.specs.declared.plans.Held.{Held}
use Rattle.control_doc.specs.declared.plans.Held.TheVariants as held
use Rattle.file_recovery.specs.Files.{IsReported, needed}
use Rattle.file_recovery.proofs.reports.reported.Goals as goal
use Rattle.file_recovery.proofs.SourceLaws.{matrix_reported}

pub returns-in-Some : goal.returns-in-Some
returns-in-Some c = rw (c.in-Matrix.is, c.deref.ensures.value) (matrix_reported (doc_view c.args.doc.now) (matrix_view c.in-Some.matrix) (ap (option_map matrix_view) c.in-Some.is))
