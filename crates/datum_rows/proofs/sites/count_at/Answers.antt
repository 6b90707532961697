use Rattle.std.proofs.Common.{◌≡◌, ◌+◌, ◌∙◌, cond, sym, ap, arith}
use Rattle.datum_rows.specs.Sites.{is_at}
use Rattle.datum_rows.specs.Views.{axis_view}
use Rattle.datum_rows.proofs.SiteLaws.{count_more}
use Rattle.datum_rows.proofs.sites.count_at.Goals as goal
use Rattle.datum_rows.proofs.sites.count_at.Goals.{then-is_at, else-is_at}

pub loop-k-preserved : goal.loop-k-preserved
loop-k-preserved c =
    let p = is_at c.args.site.now (axis_view c.args.axis) in
    let id = c.at.result.now in
    record {
      few = elim c.if-is_at.branch [ then-is_at w ↦ omega arith | else-is_at w ↦ omega arith ];
      counted = elim c.if-is_at.branch [
        | then-is_at w ↦ count_more p c.args.names.now c.loop-k.k id c.at.ensures c.loop-k.count c.if-is_at.count c.loop-k.invariant.counted (w.count-is ∙ ap (λ b. c.loop-k.count + cond b 1 0) (sym (sym c.is_at.ensures ∙ w.if-is_at.true)))
        | else-is_at w ↦
            let none : c.if-is_at.count ≡ c.loop-k.count + 0 = omega arith in
            count_more p c.args.names.now c.loop-k.k id c.at.ensures c.loop-k.count c.if-is_at.count c.loop-k.invariant.counted (none ∙ ap (λ b. c.loop-k.count + cond b 1 0) (sym (sym c.is_at.ensures ∙ w.if-is_at.false)))
      ];
    }
