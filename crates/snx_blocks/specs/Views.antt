-- What the code holds, without where it lies in memory.
use Rattle.std.specs.Prelude.{map}
use Rattle.std.specs.Option.{option_map}
use Rattle.snx_sites.specs.Views.{site_view}
use Rattle.snx_blocks.specs.Documents.{PlainMatrix, PlainDoc}
use Rattle.snx_blocks.specs.declared.documents.Matrix.{Matrix}
use Rattle.snx_blocks.specs.declared.documents.Doc.{Doc}

abbrev pub matrix_view : Matrix → PlainMatrix
matrix_view matrix = record { content = matrix.content; cells = matrix.cells.items }

abbrev pub doc_view : Doc → PlainDoc
doc_view doc = record {
  estimates = option_map (λ rows. rows.items) doc.estimates;
  apriori = option_map (λ rows. rows.items) doc.apriori;
  vector = option_map (λ rows. rows.items) doc.vector;
  estimate_matrix = option_map matrix_view doc.estimate_matrix;
  apriori_matrix = option_map matrix_view doc.apriori_matrix;
  normal_matrix = option_map matrix_view doc.normal_matrix;
  sites = option_map (λ sites. map site_view sites.items) doc.sites;
  epochs = option_map (λ epochs. epochs.items) doc.epochs;
}
