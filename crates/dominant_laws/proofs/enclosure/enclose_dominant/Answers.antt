use Rattle.dominant_laws.proofs.Never.{dominant_never_refused, never_refused}
use Rattle.dominant_laws.proofs.enclosure.enclose_dominant.Goals as goal

pub want_of_memory-requires : goal.want_of_memory-requires
want_of_memory-requires g c =
    let w = c.args.w.now in
    let never = dominant_never_refused w.a w.d.items (record { few = w.few; small = w.entries_small }) c.requires.dominant in
    never_refused _ _ _ never _ c.in-Err.ensures.refused
