use Rattle.std.proofs.Common.{rules}
use Rattle.std.proofs.lemmas.Fmt.{length-decimal-le}
use Rattle.snx_write.proofs.fields.index_field.Goals as goal

pub align_right-requires : goal.align_right-requires
align_right-requires c = search (rules, length-decimal-le 5)
