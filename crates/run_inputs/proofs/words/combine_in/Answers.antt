use Rattle.std.proofs.Common.{map, string_bytes}
use Rattle.run_inputs.proofs.WordTests.{four_words, words_combine, no_combine}
use Rattle.run_inputs.proofs.words.combine_in.Goals as goal

pub returns-else-is_combine-clause-none : goal.returns-else-is_combine-clause-none
returns-else-is_combine-clause-none c =
    let four =
    four_words c.args.words.now c.command-item.result c.control-item.result c.out-item.result c.report-item.result c.in-len4.len_at_least c.in-len4.len_below c.command-item.is c.control-item.is c.out-item.is c.report-item.is in
    no_combine (map string_bytes c.args.words.now) c.as_str.result.now c.as_str-control.result.now c.as_str-out.result.now c.as_str-report.result.now
    (rw (c.as_str.ensures.value, c.as_str-control.ensures.value, c.as_str-out.ensures.value, c.as_str-report.ensures.value) four) c.if-is_combine.ensures

pub returns-then-is_combine-clause-some : goal.returns-then-is_combine-clause-some
returns-then-is_combine-clause-some c =
    let four =
    four_words c.args.words.now c.command-item.result c.control-item.result c.out-item.result c.report-item.result c.in-len4.len_at_least c.in-len4.len_below c.command-item.is c.control-item.is c.out-item.is c.report-item.is in
    words_combine (map string_bytes c.args.words.now) c.as_str.result.now c.as_str-control.result.now c.as_str-out.result.now c.as_str-report.result.now
    (rw (c.as_str.ensures.value, c.as_str-control.ensures.value, c.as_str-out.ensures.value, c.as_str-report.ensures.value) four) c.if-is_combine.ensures
