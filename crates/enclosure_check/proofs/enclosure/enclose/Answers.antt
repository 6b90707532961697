use Rattle.std.proofs.Common.{◌≡◌, ◌⊎◌, ◌∙◌, inl, inr, Ok, Err, IfOk, IfErr, rules, arith, sym, ap, subst}
use Rattle.std.proofs.lemmas.Result.{IfOk-weaker, IfErr-weaker}
use Rattle.sys_model.specs.Systems.{Encloses}
use Rattle.whole_numbers.specs.Lists.{at}
use Rattle.equil.specs.Tables.{table_of}
use Rattle.enclosures.specs.Radii.{radius_at}
use Rattle.chol_guess.specs.Midpoints.{midpoints}
use Rattle.enclosure_check.specs.Enclosures.{Enclosure, enclosure_of, IsEnclosureBy, IsEnclosureByEither}
use Rattle.enclosure_check.specs.Inputs.{IsRightSide}
use Rattle.enclosure_check.specs.Steps.{certificate_of}
use Rattle.enclosure_check.specs.declared.EncloseError.TheVariants.{Memory}
use Rattle.enclosure_check.proofs.EnclosureLaws.{encloses, either_refuses}
use Rattle.enclosure_check.proofs.EqualTables.{of_equal}
use Rattle.enclosure_check.proofs.enclosure.enclose.Goals as goal

pub returns-in-Ok-clause-enclosed : goal.returns-in-Ok-clause-enclosed
returns-in-Ok-clause-enclosed g c =
    let w = c.args.w.now in
    let p = c.in_ok-pilot.pilot in
    let e : Enclosure = record { pilot = p; vector = c.in-Ok.y.items; certificate = certificate_of c.in-Ok.radius } in
    let by = of_equal (λ a d. IsEnclosureBy a.size (table_of a d) p (Ok e)) c.in_ok-rows.rows.table.now w.a c.deref.result.now w.d.items c.in_ok-rows.ensures c.deref.ensures.value c.in-Ok.ensures.enclosed in
    encloses w.a.size (table_of w.a w.d.items) (midpoints w.a) p c.in_ok-pilot.ensures.value c.in_ok-pilot.ensures.square e (inl by)

pub enclosed_by_transposed-requires-after_bounds : goal.enclosed_by_transposed-requires-after_bounds
enclosed_by_transposed-requires-after_bounds g c κs within =
    let a = c.in_ok-rows.rows.table.now in
    let p = c.in_ok-pilot.pilot in
    let d = c.deref-else-wants_memory.result.now in
    let right : IsRightSide a.size d = search rules in
    let refused : IsEnclosureBy a.size (table_of a d) p (Err c.in-Err.refusal) =
    elim c.in-Err.ensures.refused [
      | inl e ↦ let no = c.if-wants_memory.ensures.1 e in cc
      | inr h ↦ subst (λ ds. IsEnclosureBy a.size (table_of a ds) p (Err c.in-Err.refusal)) (c.deref.ensures.value ∙ sym c.deref-else-wants_memory.ensures.value) h
    ] in
    (omega arith, (right, (c.in_ok-pilot.ensures.value.size ∙ ap (λ t. t.size) (sym c.in_ok-rows.ensures), (refused, (c.requires.some_workers, c.requires.few_workers)))))

pub returns : goal.returns
returns g c =
    let w = c.args.w.now in
    let a = c.in_ok-rows.rows.table.now in
    let p = c.in_ok-pilot.pilot in
    let d = c.deref-else-wants_memory.result.now in
    let r = c.enclosed_by_transposed.result in
    let n = w.a.size in
    let t = table_of w.a w.d.items in
    let m = midpoints w.a in
    let told = c.enclosed_by_transposed.ensures in
    let value = c.in_ok-pilot.ensures.value in
    let square = c.in_ok-pilot.ensures.square in
    let same = c.in_ok-rows.ensures in
    let rights = c.deref-else-wants_memory.ensures.value in
    let given = of_equal (λ b ds. IfOk r (λ e. IsEnclosureByEither b.size (table_of b ds) p (Ok (enclosure_of e)))) a w.a d w.d.items same rights told.enclosed in
    let refused = of_equal (λ b ds. IfErr r (λ cause. (cause ≡ Memory) ⊎ IsEnclosureByEither b.size (table_of b ds) p (Err cause))) a w.a d w.d.items same rights told.refused in
    record {
      enclosed = IfOk-weaker r _ _ (λ e h. encloses n t m p value square (enclosure_of e) h) given;
      encloses = of_equal (λ b ds. IfOk r (λ e. Encloses b.size (table_of b ds) (at e.y.items) (radius_at e.radius))) a w.a d w.d.items same rights told.encloses;
      size = subst (λ b. IfOk r (λ e. e.pilot.size ≡ b.size)) same told.size;
      refused = IfErr-weaker r _ _ (λ cause h. either_refuses n t m p value square cause h) refused;
    }
