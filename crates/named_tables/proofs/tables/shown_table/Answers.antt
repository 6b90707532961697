use Rattle.std.proofs.Common.{◌≡◌, ◌∙◌, All, map, sym, subst, arith, length}
use Rattle.param_ids.specs.Tables.{IsScale}
use Rattle.named_tables.specs.Weighted.{scale_of}
use Rattle.named_tables.specs.Parts.{AreRanks}
use Rattle.named_tables.proofs.RankLaws.{all_ranked}
use Rattle.named_tables.proofs.TableLaws.{count_is, if_shown}
use Rattle.named_tables.proofs.tables.shown_table.Goals as goal

pub ranked_table-requires : goal.ranked_table-requires
ranked_table-requires g c =
    let names = c.args.names.now in
    let exponents = c.deref-2.result.now in
    let scaled : exponents ≡ map (scale_of c.args.scales.now) names = c.deref-2.ensures.value ∙ c.in_ok-exponents.ensures.exponents in
    let are : AreRanks names c.args.rows.now c.deref.result.now = subst (AreRanks names c.args.rows.now) (sym c.deref.ensures.value) c.in_ok-ranks.ensures in
    let count = count_is c.args.scales.now names exponents scaled in
    let few = c.requires.names.1 in (
      omega arith,
      (
        omega (arith, count, few),
        (
          subst (All IsScale) (sym c.deref-2.ensures.value) c.in_ok-exponents.ensures.range,
          all_ranked names c.args.rows.now c.deref.result.now c.requires.rows.1.names c.requires.names.0 are (length exponents) c.args.cells.now (sym count) c.requires.cells.placed c.requires.named,
        ),
      ),
    )

pub returns : goal.returns
returns g c =
    let names = c.args.names.now in
    let exponents = c.deref-2.result.now in
    let scaled : exponents ≡ map (scale_of c.args.scales.now) names = c.deref-2.ensures.value ∙ c.in_ok-exponents.ensures.exponents in
    let are : AreRanks names c.args.rows.now c.deref.result.now = subst (AreRanks names c.args.rows.now) (sym c.deref.ensures.value) c.in_ok-ranks.ensures in
    if_shown c.args.content c.args.rows.now c.args.cells.now c.args.weight.now c.args.scales.now names c.deref.result.now exponents c.ranked_table.result c.requires.rows.1.names c.requires.cells.placed c.requires.names c.requires.named are scaled
    c.ranked_table.ensures.size c.ranked_table.ensures.whole c.ranked_table.ensures.shown
