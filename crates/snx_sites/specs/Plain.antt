-- What the lines of SITE/ID and SOLUTION/EPOCHS say, without where it lies in memory.
use Rattle.std.specs.Prelude.{ℕ, List}
use Rattle.snx_epoch.specs.declared.Epoch.{Epoch}

-- a site: its code of 4 bytes, its point of 2, and the text of its line
pub record PlainSite : Type 0 where
  pub code : List ℕ
  pub point : List ℕ
  pub text : List ℕ

-- the moments of a solution at a site: when its data start and end, and their mean
pub record PlainEpochRow : Type 0 where
  pub code : List ℕ
  pub point : List ℕ
  pub soln : List ℕ
  pub technique : ℕ
  pub start : Epoch
  pub end : Epoch
  pub mean : Epoch
