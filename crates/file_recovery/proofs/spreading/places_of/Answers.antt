use Rattle.neq_stack.proofs.NameLaws.{place_said}
use Rattle.file_recovery.proofs.SpreadLaws.{place_more}
use Rattle.file_recovery.proofs.spreading.places_of.Goals as goal

pub loop-place-preserved : goal.loop-place-preserved
loop-place-preserved c =
    place_more c.args.part.now c.args.names.now c.loop-place.place c.at.result.now c.loop-place.places.items c.push.new.self.items c.find.result c.at.ensures
    (place_said c.args.part.now c.at.result.now c.find.result c.requires.0 c.find.ensures.some c.find.ensures.none) c.loop-place.invariant c.in_ok-push.ensures.items
