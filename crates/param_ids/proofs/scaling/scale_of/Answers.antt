use Rattle.std.proofs.Common.{◌≡◌, sym, ap, subst, ◌∙◌, pos, FitsSigned, w32, arith}
use Rattle.std.specs.Prelude.{unwrap_or}
use Rattle.std.proofs.lemmas.Int.{ints, to_z-of_z}
use Rattle.param_ids.specs.Tables.{scale_in, IsScale}
use Rattle.param_ids.proofs.Scaled.{get_shown, scale_in_range, shown}
use Rattle.param_ids.proofs.scaling.scale_of.Goals as goal

pub returns : goal.returns
returns c =
    let fits : FitsSigned w32 c.unwrap_or.result = omega (arith, ints) in
    let found : c.unwrap_or.result ≡ scale_in (shown c.table.inside.table) c.args.kind.now = c.unwrap_or.ensures ∙ ap (λ o. unwrap_or o (pos 0)) (c.copied.ensures ∙ (c.get.ensures.value ∙ sym (get_shown c.table.inside.table c.args.kind.now))) in
    let range : IsScale c.unwrap_or.result = subst IsScale (sym found) (scale_in_range (shown c.table.inside.table) c.args.kind.now c.table.invariant) in
    record {
      value = to_z-of_z w32 c.unwrap_or.result fits ∙ (found ∙ ap (λ m. scale_in m c.args.kind.now) c.table.view_is);
      range = subst IsScale (sym (to_z-of_z w32 c.unwrap_or.result fits)) range;
    }
