use Rattle.std.proofs.Common.{ap}
use Rattle.std.specs.Option.{option_map}
use Rattle.snx_blocks.specs.Views.{doc_view, matrix_view}
use Rattle.file_recovery.proofs.SourceLaws.{equations_there}
use Rattle.file_recovery.proofs.sources.equations_in.Goals as goal

pub returns-clause-blocks : goal.returns-clause-blocks
returns-clause-blocks c =
    rw (c.deref.ensures.value, c.deref-2.ensures.value)
    (equations_there (doc_view c.args.doc.now) c.args.apriori.now c.in-Some.vector.items (matrix_view c.in-Some-normal_matrix.matrix) (ap (option_map (λ rows. rows.items)) c.in-Some.is)
    (ap (option_map matrix_view) c.in-Some-normal_matrix.is))
