use Rattle.snx_blocks.proofs.Single.{document_is_one}
use Rattle.snx_blocks.proofs.reading.read_doc.Goals as goal

pub returns-in_err-framing-clause-alone : goal.returns-in_err-framing-clause-alone
returns-in_err-framing-clause-alone g c = document_is_one c.args.text.now

pub returns-in_err-doc-clause-alone : goal.returns-in_err-doc-clause-alone
returns-in_err-doc-clause-alone g c = document_is_one c.args.text.now

pub returns-clause-alone : goal.returns-clause-alone
returns-clause-alone g c = document_is_one c.args.text.now
