-- Paths of exchanges.
use Rattle.std.specs.Prelude.{Bool, List}
use Rattle.problem_core.specs.declared.parts.Mark.{Mark}
use Rattle.problem_core.specs.Corners.{Swap}

-- a corner and exchanges from there
pub record Path : Type 0 where
  pub dual : Bool
  pub corner : List Mark
  pub swaps : List Swap
