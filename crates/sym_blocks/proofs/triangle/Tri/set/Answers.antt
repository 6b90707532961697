use Rattle.std.proofs.Common.{◌<◌, ◌∙◌, arith, ap, length, slice_index_or, pos, to_z, of_z}
use Rattle.std.specs.Int.{w128}
use Rattle.std.proofs.lemmas.Int.{to_z-of_z}
use Rattle.sym_blocks.specs.Tables.{lower_place}
use Rattle.sym_blocks.proofs.Rows.{lower_below}
use Rattle.sym_blocks.proofs.Written.{lower_here, lower_others}
use Rattle.sym_blocks.proofs.triangle.Tri.set.Goals as goal

pub index_mut-requires : goal.index_mut-requires
index_mut-requires g c =
    omega (arith, lower_below c.args.i c.args.j c.self.inside.size c.args.self.now.size (ap (λ t. t.size) c.self.view_is) c.requires.row c.requires.column, c.self.invariant.1, c.lower_place_of.ensures, c.self.inside.numbers.ok.0)

pub returns-clause-here : goal.returns-clause-here
returns-clause-here g c =
    let within : c.lower_place_of.result < length c.self.inside.numbers.items = omega (arith, lower_below c.args.i c.args.j c.self.inside.size c.args.self.now.size (ap (λ t. t.size) c.self.view_is) c.requires.row c.requires.column, c.self.invariant.1, c.lower_place_of.ensures) in
    lower_here c.self.inside.numbers.items c.lower_place_of.result c.args.i c.args.j (to_z w128 (of_z w128 c.args.v)) (pos 0) c.lower_place_of.ensures within ∙ to_z-of_z w128 c.args.v c.ranges.v

pub returns-clause-others : goal.returns-clause-others
returns-clause-others g c = λ k l row column none.
    lower_others c.self.inside.numbers.items c.lower_place_of.result c.args.i c.args.j k l (to_z w128 (of_z w128 c.args.v)) (pos 0) c.lower_place_of.ensures c.requires.column column none ∙ ap (λ t. slice_index_or t.numbers (lower_place k l) (pos 0)) c.self.view_is
