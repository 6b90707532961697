use Rattle.std.proofs.Common.{◌≡◌, ◌<◌, arith, ap}
use Rattle.sym_blocks.proofs.Rows.{lower_within}
use Rattle.sym_blocks.proofs.triangle.Tri.get.Goals as goal

pub number_at-requires : goal.number_at-requires
number_at-requires g c =
    let size : c.self.inside.size ≡ c.args.self.now.size = ap (λ t. t.size) c.self.view_is in
    let row : c.args.i < c.self.inside.size = omega arith in
    omega (arith, lower_within c.args.i c.args.j c.self.inside.size row c.requires.column, c.self.invariant.1, c.lower_place_of.ensures)
