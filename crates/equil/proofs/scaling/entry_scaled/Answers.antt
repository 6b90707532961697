use Rattle.std.proofs.Common.{◌∙◌, ◌^◌, rules, FitsSigned, w32}
use Rattle.std.proofs.lemmas.Int.{to_z-of_z}
use Rattle.equil.proofs.RowLaws.{scaled_same}
use Rattle.equil.proofs.scaling.entry_scaled.Goals as goal

pub returns : goal.returns
returns g c =
    let fits : FitsSigned w32 c.entry_shift.result = search rules in
    let shift = to_z-of_z w32 c.entry_shift.result fits ∙ c.entry_shift.ensures in
    scaled_same c.scale10_within.result (2 ^ 61) _ _ _ _ c.get.ensures shift c.scale10_within.ensures
