use Rattle.std.proofs.Common.{◌∙◌, inr, refl, subst, arith}
use Rattle.snx_matrices.specs.declared.elements.Content.TheVariants.{Corr}
use Rattle.named_tables.specs.Parts.{IsShownTable}
use Rattle.named_tables.specs.Weighted.{one_decimal}
use Rattle.correlations.proofs.ExistLaws.{covariances_exist}
use Rattle.correlations.proofs.HoldLaws.{table_holds}
use Rattle.correlations.proofs.TableLaws.{all_modest, is_refusal, is_table}
use Rattle.correlations.proofs.covariances.correlated.Goals as goal

pub returns-in-Some-clause-refused : goal.returns-in-Some-clause-refused
returns-in-Some-clause-refused g c =
    let rows = c.args.rows.now in
    let cells = c.args.cells.now in
    let names = c.args.names.now in
    let shown : IsShownTable Corr rows cells one_decimal c.args.scales.now names c.in_ok-given.given = subst (λ w. IsShownTable Corr rows cells w c.args.scales.now names c.in_ok-given.given) c.one-weight.ensures c.in_ok-given.ensures in
    inr (
      c.fault_at.result,
      refl,
      is_refusal rows cells c.args.scales.now names c.in_ok-given.given c.deref.result.now c.deref-2.result.now shown (c.deref.ensures.value ∙ c.in_ok-deviations.ensures.values) (c.deref-2.ensures.value ∙ c.in_ok-exponents.ensures.exponents) c.in_ok-deviations.ensures.typed c.requires.names
          c.in_ok-given.given.size c.in-Some.unfit c.fault_at.result shown.size c.in-Some.ensures.here c.fault_at.ensures,
    )

pub returns-clause-table : goal.returns-clause-table
returns-clause-table g c =
    let rows = c.args.rows.now in
    let cells = c.args.cells.now in
    let names = c.args.names.now in
    let shown : IsShownTable Corr rows cells one_decimal c.args.scales.now names c.in_ok-given.given = subst (λ w. IsShownTable Corr rows cells w c.args.scales.now names c.in_ok-given.given) c.one-weight.ensures c.in_ok-given.ensures in
    is_table rows cells c.args.scales.now names c.in_ok-given.given c.deref.result.now c.deref-2.result.now shown (c.deref.ensures.value ∙ c.in_ok-deviations.ensures.values) (c.deref-2.ensures.value ∙ c.in_ok-exponents.ensures.exponents) c.in_ok-deviations.ensures.typed c.requires.names
    c.in_ok-given.given.size c.filled.new.table shown.size (c.in-None.ensures.size ∙ c.in_ok-table.ensures.size ∙ c.len.ensures.value) c.in-None.ensures.whole c.in-None.ensures.here

pub returns-clause-holds : goal.returns-clause-holds
returns-clause-holds g c = table_holds c.args.rows.now c.args.cells.now c.args.scales.now c.args.names.now c.filled.new.table (returns-clause-table g c).0 c.requires.names.0

pub returns-clause-exists : goal.returns-clause-exists
returns-clause-exists g c = covariances_exist c.args.rows.now c.args.cells.now c.args.scales.now c.args.names.now c.in_ok-deviations.ensures.typed (returns-clause-table g c).1

pub returns-clause-modest : goal.returns-clause-modest
returns-clause-modest g c = λ i j li lj. all_modest c.in_ok-given.given c.deref.result.now c.deref-2.result.now c.in_ok-given.given.size c.filled.new.table c.in-None.ensures.here i j (omega (arith, c.in_ok-given.ensures.size, c.in-None.ensures.size, c.in_ok-table.ensures.size, c.len.ensures.value)) (omega (arith, c.in_ok-given.ensures.size, c.in-None.ensures.size, c.in_ok-table.ensures.size, c.len.ensures.value))
