-- The name of a parameter.
use Rattle.std.specs.Prelude.{ℕ, List}
use Rattle.snx_epoch.specs.declared.Epoch.{Epoch}

-- its texts of 6, 4, 2 and 4 bytes, and its moment: names with the same parts are equal
pub record PlainId : Type 0 where
  pub kind : List ℕ
  pub code : List ℕ
  pub point : List ℕ
  pub soln : List ℕ
  pub epoch : Epoch
