use Rattle.std.proofs.Common.{◌≡◌, ◌++◌, map, take}
use Rattle.snx_write.specs.Combined.{text_of, comment_line}
use Rattle.snx_write.proofs.heads.push_names.Given as goal

abbrev pub invariant-loop-file : goal.invariant-loop-file
invariant-loop-file l = l.out.items ≡ l.fn.out.items ++ text_of (map comment_line (map (λ file. file.now) (take l.file-index l.files)))
