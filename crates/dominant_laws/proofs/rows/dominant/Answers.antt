use Rattle.std.proofs.Common.{below_more, refl}
use Rattle.equil.specs.Tables.{table_of}
use Rattle.dominant_laws.specs.Dominant.{IsDominantRow}
use Rattle.dominant_laws.proofs.rows.dominant.Goals as goal

pub loop-i-preserved : goal.loop-i-preserved
loop-i-preserved g c =
    let w = c.args.w.now in
    λ k h. below_more (IsDominantRow w.a.size (table_of w.a w.d.items)) c.loop-i.i c.loop-i.invariant (c.if-not-is_dominant_row.ensures.0 refl) k h
