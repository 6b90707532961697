use Rattle.std.proofs.Common.{◌≡◌, sym, ap, subst, ◌∙◌, pos, refl}
use Rattle.std.specs.Prelude.{codes}
use Rattle.std.specs.FinMap as map
use Rattle.param_ids.specs.Tables.{IsScaleMap, standard_scales}
use Rattle.param_ids.proofs.Scaled.{shown, shown_empty, shown_after, standard_is_scale_map, standard_len}
use Rattle.param_ids.proofs.scaling.Scales.standard.Goals as goal

made : (c : goal.Else-is_err-2) → shown c.insert-2.new.self ≡ standard_scales
made c =
    shown_after c.insert-2.result c.insert.new.self c.insert-2.new.self (codes "RS_DE ") (pos 6) (pos 6) refl c.insert-2.ensures.updates (sym c.if-is_err-2.ensures.value)
    ∙ ap (λ m. map.insert m (codes "RS_DE ") (pos 6))
    (shown_after c.insert.result c.new-table.result c.insert.new.self (codes "RS_RA ") (pos 6) (pos 6) refl c.insert.ensures.updates (sym c.if-is_err.ensures.value)
    ∙ ap (λ m. map.insert m (codes "RS_RA ") (pos 6)) (shown_empty c.new-table.result c.new-table.ensures.empty))

pub invariant_of-result : goal.invariant_of-result
invariant_of-result c = subst IsScaleMap (sym (made c)) standard_is_scale_map

pub returns : goal.returns
returns c = record { scales = made c; size = ap map.len (made c) ∙ standard_len }
