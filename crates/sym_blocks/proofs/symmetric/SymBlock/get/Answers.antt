use Rattle.std.proofs.Common.{◌≡◌, ◌<◌, arith, ap}
use Rattle.sym_blocks.proofs.Rows.{place_within}
use Rattle.sym_blocks.proofs.symmetric.SymBlock.get.Goals as goal

pub nth_entry-requires : goal.nth_entry-requires
nth_entry-requires g c =
    let size : c.self.inside.size ≡ c.args.self.now.size = ap (λ t. t.size) c.self.view_is in
    let row : c.args.i < c.self.inside.size = omega arith in
    let column : c.args.j < c.self.inside.size = omega arith in
    omega (arith, place_within c.args.i c.args.j c.self.inside.size row column, c.self.invariant.1, c.place_of.ensures)
