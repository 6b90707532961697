use Rattle.std.proofs.Common.{◌≡◌, ◌∙◌, map, length, sym, subst, ap, arith}
use Rattle.std.proofs.lemmas.List.{length-map}
use Rattle.neq_stack.specs.ByName.{place_in}
use Rattle.file_recovery.proofs.SpreadLaws.{places_within, is_spread}
use Rattle.file_recovery.proofs.spreading.spread.Goals as goal

pub spread_rows-requires : goal.spread_rows-requires
spread_rows-requires g c =
    let are : c.deref.result.now ≡ map (place_in c.args.part.now) c.args.names.now = c.deref.ensures.value ∙ c.in_ok-places.ensures in (
      omega arith,
      (
        ap length are ∙ length-map c.args.names.now (place_in c.args.part.now) ∙ sym (c.in_ok-table.ensures.size ∙ c.len.ensures.value),
        (c.in_ok-table.ensures.whole, places_within c.args.part.now c.args.names.now c.deref.result.now c.args.small.now c.requires.size are),
      ),
    )

pub returns : goal.returns
returns g c =
    let are : c.deref.result.now ≡ map (place_in c.args.part.now) c.args.names.now = c.deref.ensures.value ∙ c.in_ok-places.ensures in
    let kept = c.spread_rows.ensures.size in
    is_spread c.args.part.now c.args.names.now c.deref.result.now c.args.small.now c.spread_rows.new.table are (kept ∙ c.in_ok-table.ensures.size ∙ c.len.ensures.value ∙ sym (ap length are ∙ length-map c.args.names.now (place_in c.args.part.now))) c.spread_rows.ensures.whole
    (λ i j li lj. c.spread_rows.ensures.each i j (omega arith) (omega arith))
