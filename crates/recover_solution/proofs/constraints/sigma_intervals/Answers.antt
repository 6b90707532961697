use Rattle.std.proofs.Common.{◌∙◌, ◌+◌, inr, refl, sym, ap, arith}
use Rattle.recover_solution.proofs.SigmaTables.{first_unfit_sigma, sigma_push, pushed_items}
use Rattle.recover_solution.proofs.constraints.sigma_intervals.Goals as goal

pub returns-in_default-clause-refused : goal.returns-in_default-clause-refused
returns-in_default-clause-refused c =
    inr (_, refl, first_unfit_sigma c.args.apriori.now c.args.weight.now c.args.scales.now c.args.names.now c.loop-place.intervals.items c.loop-place.place c.at-id.result.now c.at-id.ensures c.loop-place.invariant.each c.in_default.ensures.none)

pub loop-place-preserved : goal.loop-place-preserved
loop-place-preserved c =
    let pushed = pushed_items c.loop-place.intervals.items c.push.new.self.items c.in-Some.interval c.push.result (sym c.is_err.ensures.value ∙ c.if-is_err.false) c.push.ensures.items in record {
      len = pushed.1 ∙ ap (λ n. n + 1) c.loop-place.invariant.len;
      each = sigma_push c.args.apriori.now c.args.weight.now c.args.scales.now c.args.names.now c.loop-place.intervals.items c.loop-place.place c.at-id.result.now c.at-id.ensures c.loop-place.invariant.each
          c.in-Some.interval c.push.new.self.items c.loop-place.invariant.len pushed.0 c.in-Some.ensures.some;
    }

pub returns-clause-each : goal.returns-clause-each
returns-clause-each c = λ i l. c.loop-place.invariant.each i (omega (arith, c.len-place-end.ensures.value))
