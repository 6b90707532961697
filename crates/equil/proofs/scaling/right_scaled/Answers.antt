use Rattle.std.proofs.Common.{◌∙◌, ◌^◌, rules, FitsSigned, w32}
use Rattle.std.proofs.lemmas.Int.{to_z-of_z}
use Rattle.equil.proofs.RowLaws.{scaled_same}
use Rattle.equil.proofs.scaling.right_scaled.Goals as goal

pub returns : goal.returns
returns c =
    let fits : FitsSigned w32 c.right_shift.result = search rules in
    let shift = to_z-of_z w32 c.right_shift.result fits ∙ c.right_shift.ensures in
    scaled_same c.scale10_within.result (10 ^ 37) _ _ _ _ c.right_at.ensures shift c.scale10_within.ensures
