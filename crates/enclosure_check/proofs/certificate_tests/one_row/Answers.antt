use Rattle.std.proofs.Common.{◌≡◌, ◌≤◌, ◌^◌, inl, subst, sym, arith}
use Rattle.std.proofs.lemmas.Int.{ints}
use Rattle.whole_numbers.specs.Intervals.{size}
use Rattle.enclosure_check.proofs.certificate_tests.one_row.Goals as goal

pub invariant_of-w : goal.invariant_of-w
invariant_of-w g c =
    let one = c.in_ok-table.ensures.size in
    let rights = c.in_ok-vec.ensures.items_if_clones_equal (λ y e. e) in
    let powers = c.in_ok-vec-2.ensures.items_if_clones_equal (λ y e. e) in
    let interval : size c.point.result ≤ 2 ^ 61 = rw c.point.ensures (omega (arith, ints, c.from.ensures, c.min.ensures)) in
    let right : size c.point-2.result ≤ 10 ^ 37 = rw c.point-2.ensures (omega (arith, ints, c.cast_signed.ensures, c.min-2.ensures)) in
    record {
      few = omega (arith, c.set.ensures.size, one);
      rows = omega (arith, c.set.ensures.size, one, c.in_ok-vec.ensures.len);
      powers = omega (arith, c.set.ensures.size, one, c.in_ok-vec-2.ensures.len);
      entries_small = λ i j h l. subst (λ w. size w ≤ 2 ^ 61) (sym (c.set.ensures.here i j (inl (omega (arith, c.set.ensures.size, one))))) interval;
      right_small = λ i h. let first : i ≡ 0 = omega (arith, c.set.ensures.size, one) in rw (first, rights) right;
      in_range = λ k h. let first : k ≡ 0 = omega (arith, c.in_ok-vec-2.ensures.len, c.in_ok-vec-2.field-0.ok.0) in rw (first, powers) (record { least = omega (arith, ints); most = omega (arith, ints) });
    }
