use Rattle.std.proofs.Common.{◌≡◌, ◌++◌, Some, map, take}
use Rattle.datum_rows.specs.Conditions.{given}
use Rattle.datum_rows.specs.Views.{condition_view, motion_view}
use Rattle.datum_rows.proofs.motions.push_each.Given as goal

abbrev pub invariant-loop-motion : goal.invariant-loop-motion
invariant-loop-motion l = map condition_view l.list.items ≡ map condition_view l.fn.list.items ++ given (Some l.sigma) (map motion_view (take l.motion-index l.motions))
