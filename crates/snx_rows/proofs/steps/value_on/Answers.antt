use Rattle.std.proofs.Common.{ℕ, List, subst}
use Rattle.snx_rows.specs.Rows.{IsNumber}
use Rattle.snx_rows.proofs.steps.value_on.Goals as goal

pub returns : goal.returns
returns c = subst (λ (text : List ℕ). IsNumber text c.number_in.result) c.field.ensures c.number_in.ensures
