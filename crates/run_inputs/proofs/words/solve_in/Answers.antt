use Rattle.std.proofs.Common.{map, string_bytes}
use Rattle.run_inputs.proofs.WordTests.{three_words, words_solve, no_solve}
use Rattle.run_inputs.proofs.words.solve_in.Goals as goal

pub returns-else-is_solve-clause-none : goal.returns-else-is_solve-clause-none
returns-else-is_solve-clause-none c =
    let three = three_words c.args.words.now c.command-item.result c.from-item.result c.to-item.result c.in-len3.len_at_least c.in-len3.len_below c.command-item.is c.from-item.is c.to-item.is in
    no_solve (map string_bytes c.args.words.now) c.as_str.result.now c.as_str-from.result.now c.as_str-to.result.now
    (rw (c.as_str.ensures.value, c.as_str-from.ensures.value, c.as_str-to.ensures.value) three) c.if-is_solve.ensures

pub returns-then-is_solve-clause-some : goal.returns-then-is_solve-clause-some
returns-then-is_solve-clause-some c =
    let three = three_words c.args.words.now c.command-item.result c.from-item.result c.to-item.result c.in-len3.len_at_least c.in-len3.len_below c.command-item.is c.from-item.is c.to-item.is in
    words_solve (map string_bytes c.args.words.now) c.as_str.result.now c.as_str-from.result.now c.as_str-to.result.now
    (rw (c.as_str.ensures.value, c.as_str-from.ensures.value, c.as_str-to.ensures.value) three) c.if-is_solve.ensures
