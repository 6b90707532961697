use Rattle.std.proofs.Common.{◌≡◌, ◌≤◌, List, None, length, arith, sym, ap, ◌∙◌, subst}
use Rattle.std.proofs.lemmas.Bool.{ltb-false}
use Rattle.snx_rows.specs.declared.rows.Row.{Row}
use Rattle.snx_matrices.specs.Elements.{place_of}
use Rattle.snx_matrices.proofs.PlaceLaws.{past}
use Rattle.snx_matrices.proofs.places.Places.place_of.Goals as goal

pub returns-in-None : goal.returns-in-None
returns-in-None c =
    let size = ap length c.deref.ensures.value ∙ c.self.invariant.size in
    let l : 100000 ≤ c.args.index = omega (arith, size, ltb-false c.args.index (length c.deref.result.now) (sym c.in-None.ensures.lookup.0)) in
    subst (λ (rows : List Row). None ≡ place_of rows c.args.index) c.self.view_is (sym (past 0 c.self.inside.rows.now c.args.index c.self.invariant.indexed l))
