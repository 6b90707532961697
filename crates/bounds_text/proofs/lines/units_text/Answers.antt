use Rattle.std.proofs.Common.{◌∷◌, ◌/◌, ◌%◌, ◌++◌, ◌^◌, ℕ, List, ap}
use Rattle.std.specs.Fmt.{decimal}
use Rattle.bounds_text.proofs.Texts.{sixteen, string_is}
use Rattle.bounds_text.proofs.lines.units_text.Goals as goal

pub returns : goal.returns
returns c =
    string_is c.format.result _ _ (ap (λ (t : List ℕ). decimal (c.args.units / 10 ^ 16) ++ (46 ∷ t)) (sixteen (c.args.units % 10 ^ 16)))
    (rw c.laid_out.ensures at c.format.ensures.ok)
