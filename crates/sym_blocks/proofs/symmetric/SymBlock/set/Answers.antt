use Rattle.std.proofs.Common.{◌<◌, ◌∙◌, arith, ap, length, slice_index_or}
use Rattle.sym_blocks.specs.Tables.{place, zero_interval}
use Rattle.sym_blocks.proofs.Rows.{place_below}
use Rattle.sym_blocks.proofs.Written.{here, others}
use Rattle.sym_blocks.proofs.symmetric.SymBlock.set.Goals as goal

pub index_mut-requires : goal.index_mut-requires
index_mut-requires g c =
    omega (arith, place_below c.args.i c.args.j c.self.inside.size c.args.self.now.size (ap (λ t. t.size) c.self.view_is) c.requires.row c.requires.column, c.self.invariant.1, c.place_of.ensures, c.self.inside.entries.ok.0)

pub returns-clause-here : goal.returns-clause-here
returns-clause-here g c = λ k l pair.
    let within : c.place_of.result < length c.self.inside.entries.items = omega (arith, place_below c.args.i c.args.j c.self.inside.size c.args.self.now.size (ap (λ t. t.size) c.self.view_is) c.requires.row c.requires.column, c.self.invariant.1, c.place_of.ensures) in
    here c.self.inside.entries.items c.place_of.result c.args.i c.args.j k l c.args.v zero_interval c.place_of.ensures within pair

pub returns-clause-others : goal.returns-clause-others
returns-clause-others g c = λ k l row column none.
    others c.self.inside.entries.items c.place_of.result c.args.i c.args.j k l c.args.v zero_interval c.place_of.ensures none ∙ ap (λ t. slice_index_or t.entries (place k l) zero_interval) c.self.view_is
