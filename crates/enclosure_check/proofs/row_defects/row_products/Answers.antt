use Rattle.std.proofs.Common.{◌∙◌, ap, refl, sym}
use Rattle.whole_numbers.specs.Lists.{at}
use Rattle.sym_blocks.specs.Tables.{entry_at}
use Rattle.enclosure_check.specs.Defects.{products_to}
use Rattle.enclosure_check.specs.Rows.{entry_between}
use Rattle.enclosure_check.proofs.DefectLaws.{products_same}
use Rattle.enclosure_check.proofs.ErrorLaws.{between_is}
use Rattle.enclosure_check.proofs.row_defects.row_products.Goals as goal

pub products-requires : goal.products-requires
products-requires g c =
    let n = c.requires.len in
    record {
      few = rw n c.args.rows.now.working.few;
      lows = c.lows.ensures.len ∙ sym n;
      highs = c.highs.ensures.len ∙ sym n;
      numbers = c.requires.numbers;
      low_ends = c.lows.ensures.small;
      high_ends = c.highs.ensures.small;
    }

pub returns-clause-value : goal.returns-clause-value
returns-clause-value g c =
    let a = c.args.rows.now.table.now in
    let r = c.args.r.now in
    let low = c.lows.result.now in
    let high = c.highs.result.now in
    c.products.ensures.value ∙ ap (λ m. products_to m (at r) (entry_between low high)) c.requires.len
    ∙ products_same a.size (at r) (at r) (entry_between low high) (λ k. entry_at a c.args.j k) (λ k l. refl) (λ k l. between_is low high k (entry_at a c.args.j k) (c.lows.ensures.ends k l) (c.highs.ensures.ends k l))
