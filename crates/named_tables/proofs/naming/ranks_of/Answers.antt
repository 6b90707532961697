use Rattle.std.proofs.Common.{arith}
use Rattle.std.proofs.lemmas.Option.{slice_get_within}
use Rattle.named_tables.proofs.RankLaws.{rank_more}
use Rattle.named_tables.proofs.naming.ranks_of.Goals as goal

pub loop-row-preserved : goal.loop-row-preserved
loop-row-preserved c = record {
  len = omega (arith, c.in_ok-push.ensures.len, c.push.new.self.ok.0, c.loop-row.ranks.ok.0, c.loop-row.invariant.len);
  each = rank_more c.args.names.now c.args.rows.now c.loop-row.row-index c.row-item.result c.rank_of.result c.loop-row.ranks.items c.push.new.self.items c.loop-row.invariant.len c.row-item.is c.rank_of.ensures c.in_ok-push.ensures.items c.loop-row.invariant.each;
}

pub returns : goal.returns
returns c = record {
  len = omega arith;
  each = λ k row here. c.loop-row.invariant.each k (omega (arith, slice_get_within c.args.rows.now k row here)) row here;
}
