use Rattle.std.proofs.Common.{◌<◌, ◌+◌, ◌*◌, arith, ap, subst, sym, slice_set, w64}
use Rattle.std.proofs.lemmas.Int.{to_z-of_z}
use Rattle.whole_numbers.specs.Squares.{SetsNumber}
use Rattle.whole_numbers.proofs.SquareLaws.{sets_number}
use Rattle.whole_numbers.proofs.squares.Square.set.Goals as goal

pub returns : goal.returns
returns c =
    let n = c.self.inside.size in
    let xs = c.self.inside.numbers.items in
    let i = c.args.i in
    let k = c.args.k in
    let size = ap (λ t. t.size) c.self.view_is in
    let row : i < n = omega arith in
    let column : k < n = omega arith in
    subst (λ v. SetsNumber c.args.self.now (record { size = n; numbers = slice_set xs (i * n + k) v }) i k c.args.v) (sym (to_z-of_z w64 c.args.v c.ranges.v))
    (subst (λ t. SetsNumber t (record { size = n; numbers = slice_set xs (i * n + k) c.args.v }) i k c.args.v) c.self.view_is (sets_number n xs i k c.args.v c.self.invariant.square row column))
