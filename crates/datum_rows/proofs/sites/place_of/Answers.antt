use Rattle.std.proofs.Common.{◌∙◌, sym, arith}
use Rattle.neq_stack.specs.Systems.{no_name}
use Rattle.datum_rows.specs.Sites.{is_at}
use Rattle.datum_rows.specs.Views.{axis_view}
use Rattle.datum_rows.proofs.SiteLaws.{first_found, one_more_fails, none_found}
use Rattle.datum_rows.proofs.sites.place_of.Goals as goal

pub returns-then-is_at : goal.returns-then-is_at
returns-then-is_at c = first_found (is_at c.args.site.now (axis_view c.args.axis)) c.args.names.now c.loop-k.k c.at.result.now c.at.ensures c.loop-k.invariant (sym c.is_at.ensures ∙ c.if-is_at.true)

pub loop-k-preserved : goal.loop-k-preserved
loop-k-preserved c = one_more_fails (is_at c.args.site.now (axis_view c.args.axis)) c.args.names.now c.loop-k.k c.at.result.now c.at.ensures c.loop-k.invariant (sym c.is_at.ensures ∙ c.if-is_at.false)

pub returns : goal.returns
returns c = none_found (is_at c.args.site.now (axis_view c.args.axis)) c.args.names.now c.loop-k.k c.len.result no_name c.len.ensures.value (omega (arith, c.loop-k-test.false, c.len-k-end.ensures.value)) c.loop-k.invariant
