use Rattle.std.proofs.Common.{◌≡◌, ◌∙◌, Err, sym, ap, length, subst, arith}
use Rattle.std.proofs.lemmas.Result.{err_from_is_err_and}
use Rattle.sym_blocks.specs.Tables.{SymTable, before}
use Rattle.neq_stack.specs.Neqs.{neq_view}
use Rattle.recover_solution.specs.Recovery.{IsModestTable, IsMoved, IsFreed}
use Rattle.recover_solution.specs.Views.{solution_view}
use Rattle.recover_solution.proofs.ExactLaws.{freed_lies}
use Rattle.recover_solution.proofs.MovingLaws.{estimates_sound}
use Rattle.recover_solution.proofs.StepLaws.{refused_weaker, with_table, is_without, after_modest, moved_stops, freed_there, moved_keeps, moved_scaled}
use Rattle.recover_solution.proofs.freed.Goals as goal

pub returns-in_err-neq-clause-refused : goal.returns-in_err-neq-clause-refused
returns-in_err-neq-clause-refused g c =
    let solution = solution_view c.args.solution.now in
    let scales = c.args.scales.now in
    let names = c.args.names in
    let table = c.args.information in
    let removed = c.args.removed.now in
    let from = err_from_is_err_and c.from_residual.result c.from_residual.ensures.1 in
    rw (from.1, from.2) (refused_weaker (λ fault. IsMoved solution scales names table (Err fault)) (λ fault. IsFreed solution scales names table removed (Err fault))
    (moved_stops solution scales names table removed) c.in_err-neq.field-0.0 c.in_err-neq.ensures.refused)

pub take_from-requires : goal.take_from-requires
take_from-requires g c =
    let solution = solution_view c.args.solution.now in
    let scales = c.args.scales.now in
    let names = c.args.names in
    let table = c.args.information in
    let removed = c.args.removed.now in
    let same : c.in_ok-neq.neq.table ≡ table = (moved_keeps solution scales names table removed (neq_view c.in_ok-neq.neq) c.in_ok-neq.ensures.moved).table in
    let sizes : c.in_ok-neq.neq.table.size ≡ table.size = ap (λ (t : SymTable). t.size) same in (
      omega arith,
      (
        c.requires.removed_size ∙ sym c.requires.size ∙ sym sizes,
        (
          subst (λ (t : SymTable). length t.entries ≡ before t.size) (sym same) c.requires.lower,
          (subst IsModestTable (sym same) c.requires.modest, c.requires.small),
        ),
      ),
    )

pub returns-clause-freed : goal.returns-clause-freed
returns-clause-freed g c =
    let moved = neq_view c.in_ok-neq.neq in
    freed_there (solution_view c.args.solution.now) c.args.scales.now c.args.names c.args.information c.args.removed.now moved (with_table moved c.take_from.new.table) c.in_ok-neq.ensures.moved
    (is_without moved c.args.removed.now c.take_from.new.table c.take_from.ensures.size c.take_from.ensures.whole c.take_from.ensures.each)

pub returns-clause-lies : goal.returns-clause-lies
returns-clause-lies g c =
    let solution = solution_view c.args.solution.now in
    let scales = c.args.scales.now in
    let names = c.args.names in
    let table = c.args.information in
    let removed = c.args.removed.now in
    let moved = neq_view c.in_ok-neq.neq in
    let scaled = moved_scaled solution scales names table removed moved c.in_ok-neq.ensures.moved c.in_ok-neq.ensures.sound in
    freed_lies solution scales names table removed moved (with_table moved c.take_from.new.table) c.requires.names c.requires.size c.in_ok-neq.ensures.moved
    (is_without moved removed c.take_from.new.table c.take_from.ensures.size c.take_from.ensures.whole c.take_from.ensures.each)
    (estimates_sound solution scales names table c.requires.names c.requires.size c.requires.lower c.requires.read.estimates scaled)

pub returns-clause-modest : goal.returns-clause-modest
returns-clause-modest g c =
    let solution = solution_view c.args.solution.now in
    let scales = c.args.scales.now in
    let names = c.args.names in
    let table = c.args.information in
    let removed = c.args.removed.now in
    let moved = neq_view c.in_ok-neq.neq in
    let same : moved.table ≡ table = (moved_keeps solution scales names table removed moved c.in_ok-neq.ensures.moved).table in
    let sizes : moved.table.size ≡ table.size = ap (λ (t : SymTable). t.size) same in
    after_modest moved removed c.take_from.new.table c.take_from.ensures.size c.take_from.ensures.whole c.take_from.ensures.each c.in_ok-neq.ensures.sound.rows
    (subst IsModestTable (sym same) c.requires.modest) (c.requires.removed_size ∙ sym c.requires.size ∙ sym sizes) c.requires.small c.in_ok-neq.ensures.modest
