use Rattle.std.proofs.lemmas.Result.{err_from_is_err_and}
use Rattle.snx_lines.specs.Views.{block_view}
use Rattle.snx_blocks.specs.Documents.{IsBlockRead, empty_doc}
use Rattle.snx_blocks.specs.Views.{doc_view}
use Rattle.snx_blocks.proofs.Passes.{pass_more, pass_stops}
use Rattle.snx_blocks.proofs.reading.doc_of.Goals as goal

pub returns-in_err-put_block-clause-reads : goal.returns-in_err-put_block-clause-reads
returns-in_err-put_block-clause-reads c =
    let from = err_from_is_err_and c.from_residual.result c.from_residual.ensures.1 in
    rw (from.1, from.2)
    (pass_stops IsBlockRead block_view c.args.blocks.now c.loop-block.block-index c.block-item.result c.block-item.is empty_doc (doc_view c.loop-block.doc) c.loop-block-test.true c.loop-block.invariant.read doc_view doc_view c.in_err-put_block.field-0.0 c.in_err-put_block.ensures.reads)

pub loop-block-preserved : goal.loop-block-preserved
loop-block-preserved c = record {
  read = pass_more IsBlockRead block_view c.args.blocks.now c.loop-block.block-index c.block-item.result c.block-item.is empty_doc (doc_view c.loop-block.doc) c.loop-block-test.true c.loop-block.invariant.read (doc_view c.put_block.new.doc) c.in_ok-put_block.ensures.reads;
  kept = c.in_ok-put_block.ensures.kept;
}
