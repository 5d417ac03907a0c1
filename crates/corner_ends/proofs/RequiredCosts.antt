-- What the required rows cost.
use Rattle.std.proofs.Common.{◌<◌, pos, ◌≤ℤ◌, ◌<ℤ◌, List}
use Rattle.frac_core.specs.Fraction.{Fraction}
use Rattle.problem_core.specs.declared.parts.Mark.{Mark}
use Rattle.problem_core.specs.Layout.{Problem}
use Rattle.problem_core.specs.Corners.{one_column}
use Rattle.problem_core.specs.Levels.{CostsAbove, IsCostAt, cost_at, scales}
use Rattle.problem_core.proofs.Wholes.{whole-IsProblem}
use Rattle.corner_laws.proofs.LevelCosts.LevelExists.{cost_fixed}
use Rattle.corner_laws.proofs.ZeroColumns.{scales-above}
use Rattle.corner_view.specs.Seen.{IsKeptCorner}
use Rattle.corner_lines.proofs.Costs.CostSigns.{up-cost, low-cost, moved-up}

-- ---- the cost

pub cost_above : (p : Problem) (at : List Mark) (f : Fraction) → IsKeptCorner p at → IsCostAt p at 0 f → pos 0 <ℤ f.num → CostsAbove p at 0
cost_above p at f kept (x, stands, e) up = (x, stands, up-cost (cost_at p 0 x.num) f.num (x.num one_column) f.den (scales p) (scales-above p (whole-IsProblem p kept.whole)) x.positive e up)

pub cost_none : (p : Problem) (at : List Mark) (f : Fraction) → IsKeptCorner p at → 0 < f.den → IsCostAt p at 0 f → f.num ≤ℤ pos 0 → CostsAbove p at 0 → ⊥
cost_none p at f kept den (x, stands, e) low (y, there, up) =
    low-cost (cost_at p 0 x.num) f.num (x.num one_column) f.den (scales p) den x.positive e low
    (moved-up (cost_at p 0 x.num) (cost_at p 0 y.num) (x.num one_column) (y.num one_column) x.positive y.positive (cost_fixed p at 0 kept.corner x y stands there) up)
