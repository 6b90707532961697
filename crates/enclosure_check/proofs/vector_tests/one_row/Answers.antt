use Rattle.std.proofs.Common.{◌≡◌, ◌≤◌, ◌∙◌, [], ◌∷◌, List, pos, subst, sym, ap, arith}
use Rattle.std.proofs.Math.Dec.{lit≤}
use Rattle.whole_numbers.specs.Intervals.{Interval}
use Rattle.whole_numbers.specs.Lists.{at}
use Rattle.enclosures.specs.Vectors.{IsSmall}
use Rattle.enclosure_check.specs.Inputs.{IsRightSide}
use Rattle.enclosure_check.proofs.vector_tests.one_row.Goals as goal

pub errors-requires-in-Ok-Some : goal.errors-requires-in-Ok-Some
errors-requires-in-Ok-Some g c =
    let w = c.in-Ok-Some.w in
    let rows = c.in_ok-rows-in-Ok-Some.rows in
    let same : rows.table.now.size ≡ w.a.size = ap (λ t. t.size) c.in_ok-rows-in-Ok-Some.ensures in
    let one : rows.table.now.size ≡ 1 = omega (arith, same, c.in-Ok-Some.ensures.size, c.set.ensures.size, c.in_ok-table.ensures.size) in
    let rights : IsRightSide w.a.size w.d.items = record { len = omega (arith, w.rows, w.d.ok.0); small = w.right_small } in
    let as_told : IsRightSide rows.table.now.size c.deref-in-Ok-Some-3.result.now =
    subst (λ n. IsRightSide n c.deref-in-Ok-Some-3.result.now) (sym same) (subst (λ (d : List Interval). IsRightSide w.a.size d) (sym c.deref-in-Ok-Some-3.ensures.value) rights) in
    let sizes : c.in-Ok-Some.p.size ≡ rows.table.now.size = ap (λ t. t.size) c.in-Ok-Some.ensures'.1 ∙ sym one in
    (omega arith, (as_told, (sizes, (sym one, subst (λ n. IsSmall n (at (pos 0 ∷ []))) (sym one) (lit≤ tt)))))
