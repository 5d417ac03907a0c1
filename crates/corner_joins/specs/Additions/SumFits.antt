-- Sums on the way that fit: of the first terms of a row that joins, and of the first rows of a level.
use Rattle.std.specs.Prelude.{◌≡◌, ℕ, ◌+◌, ◌<◌, ◌≤◌, List, ◌∷◌, ◌++◌, length, take, drop}
use Rattle.problem_core.specs.declared.parts.Mark.{Mark}
use Rattle.problem_core.specs.Changes.Begins.{BeginsWith}
use Rattle.problem_core.specs.Corners.{IsCorner}
use Rattle.problem_core.specs.Layout.{Row, rank_level}
use Rattle.problem_core.specs.Levels.{HasNoLevelWriting}
use Rattle.problem_core.specs.Unfit.{HasNoWriting, first_terms, with_first_rows}
use Rattle.corner_laws.specs.Lifts.{with_rows}
use Rattle.corner_lines.specs.Joins.{over_joined, with_row}
use Rattle.corner_lines.specs.Levels.LevelJoins.{level_count}
use Rattle.corner_table.specs.Tables.{Lists, marks_at, problem_of}

-- the sum of the row's first j terms fits where the row is over
abbrev pub DoTermsFit : Lists → Row → ℕ → Type 0
DoTermsFit t r j = HasNoWriting (with_row r (problem_of t)) (over_joined r (marks_at t)) (first_terms r j) → ⊥

-- so does each such sum up to this number of terms
abbrev pub DoFirstTermsFit : Lists → Row → ℕ → Type 0
DoFirstTermsFit t r n = (j : ℕ) → 1 ≤ j → j ≤ n → DoTermsFit t r j

-- so does each sum of the k-th row's terms, once those before it have joined, while those after it are over
abbrev pub DoTermsFitAt : Lists → List Row → ℕ → Row → Type 0
DoTermsFitAt t rows k r = (at : List Mark) → IsCorner (with_rows rows (problem_of t)) at
    → BeginsWith (with_rows rows (problem_of t)) (marks_at t) (take k rows) (r ∷ drop (k + 1) rows) at
    → (j : ℕ) → 1 ≤ j → j ≤ length r.terms + 1
    → HasNoWriting (with_rows rows (problem_of t)) at (first_terms r j) → ⊥

-- so do those of the first n rows
abbrev pub DoRowsFit : Lists → List Row → ℕ → Type 0
DoRowsFit t rows n = (k : ℕ) (r : Row) → k < n → drop k rows ≡ r ∷ drop (k + 1) rows → DoTermsFitAt t rows k r

-- of each of the first n rows, which come behind others, the cost of its level up to it fits
abbrev pub DoCostsFit : Lists → List Row → List Row → ℕ → Type 0
DoCostsFit t first rows n = (k : ℕ) (r : Row) → k < n → drop k rows ≡ r ∷ drop (k + 1) rows
    → HasNoLevelWriting (with_first_rows (rank_level r.rank)
    (level_count (rank_level r.rank) (first ++ take k rows) + 1) (problem_of t)) (marks_at t)
    (rank_level r.rank) → ⊥
