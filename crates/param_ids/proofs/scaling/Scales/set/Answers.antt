use Rattle.std.proofs.Common.{◌≡◌, ◌<◌, sym, ap, subst, ◌∙◌, FitsSigned, w32, to_z, of_z, arith}
use Rattle.std.specs.Prelude.{IsNone}
use Rattle.std.specs.FinMap as map
use Rattle.std.proofs.lemmas.Cmp.{nat_list_cmp_total}
use Rattle.std.proofs.lemmas.Int.{ints, to_z-of_z}
use Rattle.param_ids.specs.Tables.{IsScaleMap}
use Rattle.param_ids.proofs.Scaled.{shown, shown_after, is_scale_map_after}
use Rattle.param_ids.proofs.scaling.Scales.set.Goals as goal

pub invariant_of-self-2 : goal.invariant_of-self-2
invariant_of-self-2 c =
    let fits : FitsSigned w32 c.args.t = omega (arith, ints) in
    let old = c.self.inside.table in
    subst IsScaleMap (sym (shown_after c.insert.result old c.insert.new.self c.args.kind (to_z w32 (of_z w32 c.args.t)) c.args.t (to_z-of_z w32 c.args.t fits) c.insert.ensures.updates (sym c.if-is_err.ensures.value)))
    (is_scale_map_after (shown old) c.args.kind c.args.t c.self.invariant (subst (λ m. IsNone (map.get m c.args.kind) → map.len m < 64) (sym c.self.view_is) c.requires.room) c.requires.range)

inserted : (c : goal.Else-is_err) → shown c.insert.new.self ≡ map.insert c.args.self.now c.args.kind c.args.t
inserted c =
    let fits : FitsSigned w32 c.args.t = omega (arith, ints) in
    shown_after c.insert.result c.self.inside.table c.insert.new.self c.args.kind (to_z w32 (of_z w32 c.args.t)) c.args.t (to_z-of_z w32 c.args.t fits) c.insert.ensures.updates (sym c.if-is_err.ensures.value)
    ∙ ap (λ m. map.insert m c.args.kind c.args.t) c.self.view_is

pub returns-clause-ok : goal.returns-clause-ok
returns-clause-ok c = inserted c

pub returns-clause-size : goal.returns-clause-size
returns-clause-size c = ap map.len (inserted c) ∙ map.len-insert nat_list_cmp_total c.args.self.now c.args.kind c.args.t
