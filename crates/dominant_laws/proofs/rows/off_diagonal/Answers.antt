use Rattle.std.proofs.Common.{◌^◌, unsigned_abs, sym, ap, ◌∙◌, arith}
use Rattle.std.specs.Int.{w128}
use Rattle.std.proofs.lemmas.Int.{to_z-of_z, fits_signed_from_abs}
use Rattle.whole_numbers.specs.Intervals.{midpoint}
use Rattle.chol_guess.specs.Midpoints.{midpoints}
use Rattle.enclosure_check.proofs.VectorLaws.{middle_small}
use Rattle.sym_blocks.specs.Tables.{entry_at}
use Rattle.dominant_laws.proofs.DominantRows.{beside_diagonal}
use Rattle.dominant_laws.proofs.rows.off_diagonal.Goals as goal

pub returns-else-j-i-clause-value : goal.returns-else-j-i-clause-value
returns-else-j-i-clause-value g c =
    let w = c.args.w.now in
    let there = beside_diagonal c.args.i c.args.j (unsigned_abs (midpoints w.a c.args.i c.args.j)) (λ e. absurd (omega arith)) in
    let is = c.mid.ensures ∙ ap midpoint c.get.ensures in
    let small = middle_small (entry_at w.a c.args.i c.args.j) (2 ^ 61) (w.entries_small c.args.i c.args.j c.requires.row c.requires.column) in
    let fits = fits_signed_from_abs w128 c.mid.result (omega (arith, ap unsigned_abs is, small)) in
    c.unsigned_abs.ensures.value ∙ ap unsigned_abs (to_z-of_z w128 c.mid.result fits) ∙ ap unsigned_abs is ∙ sym there
