use Rattle.std.proofs.Common.{◌≡◌, ◌∙◌, sym, subst}
use Rattle.std.specs.Prelude.{Contains, slice_get, Some}
use Rattle.param_ids.specs.Order.{IsRising}
use Rattle.param_ids.proofs.Searched.{present, absent}
use Rattle.param_ids.proofs.listing.Names.find.Goals as goal

pub returns-in-Ok-clause-some : goal.returns-in-Ok-clause-some
returns-in-Ok-clause-some c =
    subst (λ l. slice_get l c.in-Ok.place ≡ Some c.args.id.now) (c.deref.ensures.value ∙ c.self.view_is) (present c.deref.result.now c.args.id.now c.in-Ok.place c.in-Ok.ensures.bound c.in-Ok.ensures.position)

pub returns-in-Err-clause-none : goal.returns-in-Err-clause-none
returns-in-Err-clause-none c =
    subst (λ l. Contains l c.args.id.now → ⊥) (c.deref.ensures.value ∙ c.self.view_is)
    (absent c.deref.result.now c.args.id.now c.in-Err.field-0 (subst IsRising (sym c.deref.ensures.value) c.self.invariant.0) c.in-Err.ensures.position)
