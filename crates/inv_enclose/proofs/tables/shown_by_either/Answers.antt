use Rattle.std.proofs.Common.{◌≡◌, ◌∙◌, inl, inr, pos, ◌+ℤ◌, Err, IfOk, length, ap, sym, subst, arith}
use Rattle.std.proofs.Math.IntN.{◌-ℤ◌}
use Rattle.std.proofs.lemmas.Int.{ints}
use Rattle.std.proofs.lemmas.Result.{IfOk-weaker, IfErr-weaker}
use Rattle.equil.specs.Rows.{AllInRange}
use Rattle.inv_enclose.specs.Columns.{IsUnitPower, AreColumns}
use Rattle.inv_enclose.proofs.PlaceLaws.{small_kept}
use Rattle.inv_enclose.proofs.TableLaws.{shown_in_units, either_refused}
use Rattle.inv_enclose.proofs.tables.shown_by_either.Goals as goal

pub shown_by_transposed-requires : goal.shown_by_transposed-requires
shown_by_transposed-requires g c =
    let w = c.args.w.now in
    let a = c.in_ok-rows.rows.table.now in
    let p = c.args.pilot.now in
    let v = c.unit_power-v.result in
    let x = c.in-Err.refusal in
    let same = ap (λ t. t.size) c.in_ok-rows.ensures in
    let e = c.deref-else-wants_memory.ensures.value in
    let shift = c.shift_of-shift.ensures in
    let kept = small_kept c.shift_of-shift.result (omega (arith, ints, shift.low)) (omega (arith, ints, shift.high)) in
    let count = ap length e in
    let refused : AreColumns a.size a p v (Err x) = elim c.in-Err.ensures.refused [ inl is ↦ let no = c.if-wants_memory.ensures.1 is in cc | inr h ↦ h ] in
    (omega arith, (omega arith, (rw kept shift.low, (rw kept shift.high, (c.unit_power-v.ensures.bound, (c.requires.sizes ∙ sym same, (omega (arith, w.powers, w.e.ok.0), (subst AllInRange (sym e) w.in_range, refused))))))))

pub returns : goal.returns
returns g c =
    let w = c.args.w.now in
    let a = c.in_ok-rows.rows.table.now in
    let p = c.args.pilot.now in
    let v = c.unit_power-v.result in
    let r = c.shown_by_transposed.result in
    let same = c.in_ok-rows.ensures in
    let shift = c.shift_of-shift.ensures in
    let kept = small_kept c.shift_of-shift.result (omega (arith, ints, shift.low)) (omega (arith, ints, shift.high)) in
    let kappa = small_kept c.args.kappa (omega (arith, ints)) (omega (arith, ints)) in
    let value = kept ∙ shift.value ∙ ap (λ k. k +ℤ pos 18 -ℤ pos v) kappa in
    let power = subst (λ g. IsUnitPower g v) c.g.ensures.value c.unit_power-v.ensures.power in
    let told = c.shown_by_transposed.ensures in
    record {
      size = subst (λ t. IfOk r (λ out. out.size ≡ t.size)) same told.size;
      whole = told.whole;
      shown = IfOk-weaker r _ _ (λ out h. shown_in_units a w.a c.deref-else-wants_memory.result.now w.e.items p v _ c.args.kappa out same c.deref-else-wants_memory.ensures.value value power h) told.shown;
      refused = IfErr-weaker r _ _ (λ cause h. either_refused a w.a p v cause same power h) told.refused;
    }
