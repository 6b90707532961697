use Rattle.std.proofs.Common.{◌≡◌, ◌∙◌, Some, cond, sym, ap, subst}
use Rattle.std.specs.BTreeMap.{get}
use Rattle.std.specs.Option.{is_some}
use Rattle.std.specs.Ordering.{is_eq}
use Rattle.site_merge.specs.Keyed.{site_name_cmp}
use Rattle.site_merge.specs.declared.names.SiteName.{SiteName}
use Rattle.site_merge.proofs.LineLaws.{lines_stay, lines_more}
use Rattle.site_merge.proofs.Loops.{puts_after}
use Rattle.site_merge.proofs.lines.add_line.Goals as goal

pub returns-then-contains_key : goal.returns-then-contains_key
returns-then-contains_key c = λ before firsts.
    lines_stay c.args.table.now before firsts _ (ap (λ (n : SiteName). is_some (get site_name_cmp c.args.table.now n)) (sym c.of-name.ensures) ∙ sym c.contains_key.ensures ∙ c.if-contains_key.true)

pub returns : goal.returns
returns c = λ before firsts.
    lines_more c.args.table.now before firsts c.args.line c.insert.new.self
    (ap (λ (n : SiteName). is_some (get site_name_cmp c.args.table.now n)) (sym c.of-name.ensures) ∙ sym c.contains_key.ensures ∙ c.if-contains_key.false)
    (subst (λ (n : SiteName). (q : SiteName) → get site_name_cmp c.insert.new.self q ≡ cond (is_eq (site_name_cmp n q)) (Some c.args.line) (get site_name_cmp c.args.table.now q)) c.of-name.ensures
    (puts_after site_name_cmp c.insert.result c.args.table.now c.insert.new.self c.of-name.result c.args.line c.insert.ensures.updates (sym c.if-is_err.ensures.value)))
