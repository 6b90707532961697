use Rattle.std.proofs.Common.{◌≡◌, ◌∙◌, true, false, sym}
use Rattle.param_ids.specs.contracts.ids.ParamIdOrd.TheImpl as id_impl
use Rattle.param_ids.proofs.Derived.{id_same}
use Rattle.apriori_shift.proofs.CommonLaws.{stands_alike, stands_apart, stands_new, puts_after}
use Rattle.apriori_shift.proofs.commons.add_row.Goals as goal

pub returns-then-is_same_unit : goal.returns-then-is_same_unit
returns-then-is_same_unit c = λ before stands. stands_alike c.args.base.now c.args.clash before c.args.row.now stands c.in-Some.unit c.in-Some.ensures (c.is_same_unit.ensures.0 c.if-is_same_unit.true)

pub returns-else-is_same_unit : goal.returns-else-is_same_unit
returns-else-is_same_unit c = λ before stands.
    stands_apart c.args.base.now c.args.clash before c.args.row.now stands c.in-Some.unit c.lesser.result c.in-Some.ensures (λ same. let e : true ≡ false = sym (c.is_same_unit.ensures.1 same) ∙ c.if-is_same_unit.false in cc) c.lesser.ensures

pub returns-else-is_err : goal.returns-else-is_err
returns-else-is_err c = λ before stands.
    stands_new c.args.base.now c.args.clash before c.args.row.now stands c.insert.new.self c.in-None.ensures
    (puts_after (id_impl.ghosts).cmp id_same c.insert.result c.args.base.now c.insert.new.self c.args.row.now c.insert.ensures.updates (sym c.if-is_err.ensures.value))
