use Rattle.std.proofs.Common.{◌≡◌, ℕ, ◌<◌, List, length, get_or}
use Rattle.problem_core.specs.declared.parts.Mark.{Mark}
use Rattle.problem_core.specs.Layout.{Problem}
use Rattle.path_lines.specs.Exchanges.Pivots.{next_marks}
use Rattle.path_levels.specs.declared.columns_after.WideLevel.{WideLevel}
use Rattle.path_levels.specs.Outlines.{IsOutline, number_at}
use Rattle.path_levels.specs.Levels.{AreLevels}
use Rattle.path_levels.specs.Exchanges.Pivots.{IsExchangePivot}
use Rattle.path_levels.specs.Exchanges.WideCosts.{IsSizedWide, IsWideAt}
use Rattle.path_levels.proofs.columns_after.wide_levels.Given as goal

pub record IsMade (count : ℕ) (at : ℕ) (out : List WideLevel) (next : (k : ℕ) (d : WideLevel) → Type 0) : Type 0 where
  pub length_is : length out ≡ at
  pub sized : (k : ℕ) (d : WideLevel) → k < at → IsSizedWide count (get_or out k d)
  pub each : (k : ℕ) (d : WideLevel) → k < at → next k (get_or out k d)

abbrev pub invariant-loop-place : goal.invariant-loop-place
invariant-loop-place l = IsMade (length l.outline.lines.items) l.place l.out.items
    (λ k level. (p : Problem) (at : List Mark) → IsExchangePivot p at l.pivot → IsOutline p l.outline → AreLevels p at l.outline l.levels → IsWideAt p (next_marks p l.pivot at) (number_at l.outline.levels.items k) level)
