use Rattle.std.proofs.Common.{◌≡◌}
use Rattle.snx_lines.specs.Lines.{word_at, title_word}
use Rattle.snx_lines.proofs.columns.word.Given as goal

-- the word that is sought is the one after so many words of what is left
abbrev pub invariant-loop-left : goal.invariant-loop-left
invariant-loop-left l = word_at l.left l.rest ≡ title_word l.fn.title.text.now l.fn.k

abbrev pub decreases-loop-left : goal.decreases-loop-left
decreases-loop-left l = l.left
