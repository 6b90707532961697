use Rattle.std.proofs.Common.{arith, rules, ◌≡◌, ◌∙◌, ◌*◌, ◌<◌, ℕ, ap, subst, FitsSigned, w64}
use Rattle.std.proofs.lemmas.Int.{to_z-of_z}
use Rattle.enclosure_check.proofs.DefectLaws.{StandAt, ends_push, ends_small, entries_of_rows}
use Rattle.enclosure_check.proofs.working_rows.WorkingRows.of.Goals as goal

pub loop-place-preserved : goal.loop-place-preserved
loop-place-preserved g c =
    let e = c.ends_at-lo in
    let fl : FitsSigned w64 e.result.0 = search rules in
    let fh : FitsSigned w64 e.result.1 = search rules in
    let low = simp to_z-of_z at c.in_ok-push.ensures.items in
    let high = simp to_z-of_z at c.in_ok-push-2.ensures.items in
    let l = c.loop-place.low in
    let h = c.loop-place.high in
    record {
      lows = omega (arith, c.in_ok-push.ensures.len, c.loop-place.invariant.lows);
      highs = omega (arith, c.in_ok-push-2.ensures.len, c.loop-place.invariant.highs);
      entries = rw (low, high) (ends_push c.size-size.result c.loop-place.place c.args.a.now l.items h.items e.result.0 e.result.1 (omega (arith, c.loop-place.invariant.lows, l.ok.0)) (omega (arith, c.loop-place.invariant.highs, h.ok.0)) e.ensures.low e.ensures.high c.loop-place.invariant.entries);
    }

pub invariant_of-result : goal.invariant_of-result
invariant_of-result g c =
    let a = c.args.a.now in
    let n = c.size-size.result in
    let l = c.loop-place.low in
    let h = c.loop-place.high in
    let end : c.loop-place.place ≡ n * n = omega arith in
    let each = subst (StandAt n a l.items h.items) end c.loop-place.invariant.entries in
    let small = λ (x : ℕ) (b : x < n * n). ends_small n a l.items h.items x (λ i j p q. c.requires.small i j (omega (arith, c.size-size.ensures.value)) (omega (arith, c.size-size.ensures.value))) each b in
    record {
      working = c.requires;
      low_size = ap (λ s. s.size) c.new.ensures ∙ c.size-size.ensures.value;
      high_size = ap (λ s. s.size) c.new-2.ensures ∙ c.size-size.ensures.value;
      low_ends = rw c.new.ensures (λ x b. omega (arith, small x (omega (arith, c.loop-place.invariant.lows, l.ok.0, end))));
      high_ends = rw c.new-2.ensures (λ x b. omega (arith, small x (omega (arith, c.loop-place.invariant.highs, h.ok.0, end))));
      entries = rw (c.new.ensures, c.new-2.ensures, ← c.size-size.ensures.value) (entries_of_rows n a l.items h.items each);
    }
