use Rattle.std.proofs.Common.{◌≡◌, ◌<◌, ◌+◌, ◌*◌, ◌^◌, ◌∙◌, length, subst, arith, add-one}
use Rattle.datum_rows.specs.Rows.{IsTableAtMost}
use Rattle.datum_rows.specs.Views.{condition_view}
use Rattle.datum_rows.proofs.ListLaws.{fine_at, fitting_at, added_more, table_grows, room_left}
use Rattle.datum_rows.proofs.rows.add_all.Goals as goal

pub add_condition-requires : goal.add_condition-requires
add_condition-requires g c =
    let xs = c.args.conditions.now in
    let k = c.loop-condition.condition-index in
    let x = c.condition-item.result in
    let before = c.loop-condition.invariant in
    let within : k < length xs = c.loop-condition-test.true in (
      omega arith,
      (
        c.requires.laid,
        (
          fine_at xs k x within c.condition-item.is c.requires.sigmas,
          (
            before.size ∙ c.requires.size,
            (
              before.whole,
              (
                fitting_at c.args.coordinates.now c.args.scales.now xs k x within c.condition-item.is c.requires.fits,
                (room_left c.loop-condition.table c.requires.small.0 k (length xs) within c.requires.small.2 (before.small c.requires.small.0 c.requires.small.1)),
              ),
            ),
          ),
        ),
      ),
    )

pub loop-condition-preserved : goal.loop-condition-preserved
loop-condition-preserved g c =
    let coordinates = c.args.coordinates.now in
    let scales = c.args.scales.now in
    let xs = c.args.conditions.now in
    let k = c.loop-condition.condition-index in
    let x = c.condition-item.result in
    let before = c.loop-condition.invariant in
    let within : k < length xs = c.loop-condition-test.true in
    let fits = fitting_at coordinates scales xs k x within c.condition-item.is c.requires.fits in
    let old = c.loop-condition.table in
    let new = c.add_condition.new.table in
    record {
      size = c.add_condition.ensures.rows ∙ before.size;
      whole = c.add_condition.ensures.whole;
      added = rw add-one (added_more coordinates scales xs k x c.args.table.now old new within c.condition-item.is before.added c.add_condition.ensures);
      small = λ most small.
          let more : most + k * 10 ^ 34 + 10 ^ 34 ≡ most + (k + 1) * 10 ^ 34 = omega arith in
          subst (λ n. IsTableAtMost n new) more (table_grows coordinates scales (condition_view x) old new (most + k * 10 ^ 34) (before.size ∙ c.requires.size) fits c.add_condition.ensures (before.small most small));
    }
