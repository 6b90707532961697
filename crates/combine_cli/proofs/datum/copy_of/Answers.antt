use Rattle.std.proofs.Common.{◌≡◌, ◌∙◌}
use Rattle.combine_cli.proofs.datum.copy_of.Goals as goal

pub returns : goal.returns
returns c =
    let neq = c.args.neq.now in
    let names : c.in_ok-names.names ≡ neq.names = c.in_ok-names.ensures in
    let table : c.in_ok-table.table ≡ neq.table = c.in_ok-table.ensures in
    let right : c.in_ok-right.right.items ≡ neq.right.items = c.in_ok-right.ensures.items ∙ c.deref.ensures.value in
    let apriori : c.in_ok-apriori.apriori.items ≡ neq.apriori.items = c.in_ok-apriori.ensures.items ∙ c.deref-2.ensures.value in
    let units : c.in_ok-units.units.items ≡ neq.units.items = c.in_ok-units.ensures.items ∙ c.deref-3.ensures.value in
    let scales : c.in_ok-scales.scales.items ≡ neq.scales.items = c.in_ok-scales.ensures.items ∙ c.deref-4.ensures.value in
    λ i. record { names = names i; table = table i; right = right i; apriori = apriori i; units = units i; scales = scales i }
