-- What a run from a corner to its end answers.
use Rattle.std.specs.Prelude.{◌≡◌, ℕ, ◌≤◌, Bool, List, [], length}
use Rattle.problem_core.specs.declared.parts.Mark.{Mark}
use Rattle.problem_core.specs.Layout.{Problem, Row}
use Rattle.problem_core.specs.Corners.{NoNegativeColumn, NoNegativeValue, SameMarks}
use Rattle.problem_core.specs.Levels.{CostsAbove}
use Rattle.problem_core.specs.Changes.Paths.{IsPath, last_marks}
use Rattle.cert_core.specs.Paths.{Path}
use Rattle.corner_view.specs.Seen.{CornerView}

-- no value is negative, no column is, and the required rows cost nothing
pub record IsBestEnd (p : Problem) (at : List Mark) : Type 0 where
  pub values : NoNegativeValue p at
  pub columns : NoNegativeColumn p at
  pub required : CostsAbove p at 0 → ⊥

-- the values are best at the corner, and no line is listed
pub record HasEnded (c : CornerView) : Type 0 where
  pub end : IsBestEnd c.problem c.marks
  pub listed : c.candidates ≡ []

-- a run begins at the corner that was there, and no row is still to join
abbrev pub FromHere : List Mark → List Row → List Mark → Type 0
FromHere kept rest at = (rest ≡ []) × (at ≡ kept)

-- a lawful path of at most as many exchanges as the budget, from where it may begin to the marks after
pub record IsRun (dual : Bool) (p : Problem) (Begins : List Mark → Type 0) (budget : ℕ) (last : List Mark)
    (path : Path) : Type 0 where
  pub kind : path.dual ≡ dual
  pub begins : Begins path.corner
  pub lawful : IsPath dual p path.corner path.swaps
  pub ends : SameMarks (last_marks path.corner path.swaps) last
  pub few : length path.swaps ≤ budget

-- such a path leads from these marks to those
abbrev pub HasRunBetween : Bool → Problem → List Mark → ℕ → List Mark → Type 0
HasRunBetween dual p first budget last = (path : Path) × IsRun dual p (λ at. at ≡ first) budget last path
