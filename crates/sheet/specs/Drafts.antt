-- How many of the first rows of the caller's tables are a sheet's points and faces.
use Rattle.std.specs.Prelude.{ℕ}

pub record SheetCounts : Type 0 where
  pub points : ℕ
  pub faces : ℕ
