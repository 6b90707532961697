use Rattle.std.proofs.Common.{◌<◌, ◌∙◌, ◌++◌, ◌∷◌, [], List, ap, refl, arith, subst}
use Rattle.snx_matrices.specs.Elements.{IsGivenBefore}
use Rattle.snx_matrices.specs.declared.elements.Cell.{Cell}
use Rattle.snx_matrices.proofs.FlagLaws.{given_before, not_given, one_flag_more, read_true, read_false}
use Rattle.snx_matrices.proofs.taken.Elements.add.Goals as goal

pub returns-then-index-clause-cells : goal.returns-then-index-clause-cells
returns-then-index-clause-cells c =
    let n = c.self.inside.size in
    let flags = c.self.inside.flags.items in
    let cells = c.self.inside.cells.items in
    let cell = c.args.cell in
    let size = ap (λ t. t.size) c.self.view_is in
    let row : cell.row < n = omega arith in
    let col : cell.col < n = omega arith in
    let stands = read_true n flags cells cell row col c.self.invariant c.index.result.now c.index.ensures c.if-index.true in
    (refl, subst (λ (before : List Cell). IsGivenBefore before cell) (ap (λ t. t.cells) c.self.view_is) (given_before n flags cells cell row col c.self.invariant stands))

pub invariant_of-self-2 : goal.invariant_of-self-2
invariant_of-self-2 c =
    let n = c.self.inside.size in
    let flags = c.self.inside.flags.items in
    let cells = c.self.inside.cells.items in
    let cell = c.args.cell in
    let size = ap (λ t. t.size) c.self.view_is in
    let row : cell.row < n = omega arith in
    let col : cell.col < n = omega arith in
    rw c.in_ok-push.ensures.items (one_flag_more n flags cells cell row col c.self.invariant)

pub returns-clause-cells : goal.returns-clause-cells
returns-clause-cells c =
    let n = c.self.inside.size in
    let flags = c.self.inside.flags.items in
    let cells = c.self.inside.cells.items in
    let cell = c.args.cell in
    let size = ap (λ t. t.size) c.self.view_is in
    let same = ap (λ t. t.cells) c.self.view_is in
    let row : cell.row < n = omega arith in
    let col : cell.col < n = omega arith in
    let none = read_false n flags cells cell row col c.self.invariant c.index.result.now c.index.ensures c.if-index.false in (
      c.in_ok-push.ensures.items ∙ ap (λ (before : List Cell). before ++ (cell ∷ [])) same,
      subst (λ (before : List Cell). IsGivenBefore before cell → ⊥) same (not_given n flags cells cell row col c.self.invariant none),
    )
