use Rattle.std.proofs.Common.{◌≡◌, ap, arith, length}
use Rattle.sym_blocks.specs.Tables.{before}
use Rattle.sym_blocks.proofs.Written.{fits_each}
use Rattle.sym_blocks.proofs.symmetric.SymBlock.add_assign.Goals as goal

pub add_entries-requires-clause-fits : goal.add_entries-requires-clause-fits
add_entries-requires-clause-fits g c = λ k lt.
    let size : c.self.inside.size ≡ c.args.self.now.size = ap (λ t. t.size) c.self.view_is in
    let mine = c.deref_mut.ensures.value in
    let others = c.deref.ensures.value in
    let len = ap length mine in
    rw (mine, others) (fits_each c.args.self.now c.args.other.now c.self.inside.entries.items c.other.inside.entries.items (ap (λ t. t.entries) c.self.view_is) (ap (λ t. t.entries) c.other.view_is) c.requires.fits k (omega (arith, len, c.self.invariant.1, ap before size)))
