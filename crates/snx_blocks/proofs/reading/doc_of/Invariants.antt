use Rattle.std.proofs.Common.{Ok, map, take}
use Rattle.stated_order.specs.Steps.{Through}
use Rattle.snx_lines.specs.Views.{block_view}
use Rattle.snx_blocks.specs.Documents.{IsBlockRead, empty_doc}
use Rattle.snx_blocks.specs.Parts.{IsKept}
use Rattle.snx_blocks.specs.Views.{doc_view}
use Rattle.snx_blocks.proofs.reading.doc_of.Given as goal

-- the blocks so far are read as the document so far
abbrev pub invariant-loop-block : goal.invariant-loop-block
invariant-loop-block l = record {
  read : Through IsBlockRead empty_doc (take l.block-index (map block_view l.blocks)) (Ok (doc_view l.doc));
  kept : IsKept (doc_view l.doc);
}
