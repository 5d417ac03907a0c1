-- The sums of attributes: a stay's target and its deviation.
use Rattle.std.specs.Prelude.{◌≡◌, ◌≢◌, ℕ, ◌+◌, ◌<◌, List, length, get_or, All, Option, None, Some}
use Rattle.frac_core.specs.Fraction.{Fraction, IsKept}
use Rattle.problem_core.specs.declared.parts.Mark.{Mark}
use Rattle.problem_core.specs.declared.parts.Stay.{Stay}
use Rattle.problem_core.specs.Layout.{HasStay, Problem, lines}
use Rattle.problem_core.specs.Levels.{IsLevelAt}
use Rattle.problem_core.specs.declared.parts.Level.{Level}
use Rattle.problem_core.specs.Corners.{attr_column}
use Rattle.problem_core.specs.Unfit.{HasNoWriting}
use Rattle.path_lines.specs.declared.table.Inside.{Inside}
use Rattle.path_lines.specs.declared.table.Sum.{Sum}
use Rattle.path_lines.specs.Tables.{IsLineAt, IsSized, IsThere, line_count, name_at}
use Rattle.path_fits.specs.declared.last.after.LineAt.{LineAt}
use Rattle.path_fits.specs.Sums.{IsQuantitySum}

-- the line at the place is the stay of this attribute, with this target
pub record IsStayAt (p : Problem) (attr at : ℕ) (target : Fraction) : Type 0 where
  pub stay : ℕ
  pub within : stay < length p.stays
  pub place : at ≡ length p.rows + stay
  pub is : (s : Stay) → get_or p.stays stay s ≡ record { attr = attr; target = target }

-- the sum is the attribute's at the corner, whenever this is its stay's line
abbrev pub IsAttrBefore : Fraction → LineAt → Sum → Type 0
IsAttrBefore target line sum = (p : Problem) (marks : List Mark) (attr : ℕ) → IsThere p marks
    → line.count ≡ line_count p → IsStayAt p attr line.at target
    → IsLineAt p marks (name_at p line.at) line.inside.now
    → IsQuantitySum p marks (λ x. x (attr_column attr)) sum

-- the attribute does not fit there
abbrev pub IsUnfitBefore : Fraction → LineAt → Type 0
IsUnfitBefore target line = (p : Problem) (marks : List Mark) (attr : ℕ) → IsThere p marks
    → line.count ≡ line_count p → IsStayAt p attr line.at target
    → IsLineAt p marks (name_at p line.at) line.inside.now
    → HasNoWriting p marks (λ x. x (attr_column attr))

-- the attribute has no stay, or this is its sum, and it fits
abbrev pub IsAttrAfter : Problem → List Mark → ℕ → Option Sum → Type 0
IsAttrAfter p at attr None = HasStay p.stays attr → ⊥
IsAttrAfter p at attr (Some sum) = IsQuantitySum p at (λ x. x (attr_column attr)) sum × IsKept sum.value

-- no line has the level
abbrev pub IsEmptyLevel : Problem → Level → Type 0
IsEmptyLevel p level = (k : ℕ) → IsLevelAt p level k → All (λ l. l.level ≢ k) (lines p)

-- the attribute fits, whenever this is its stay's line and target
abbrev pub IsFittingStay : Fraction → Option Inside → Type 0
IsFittingStay target line = (p : Problem) (marks : List Mark) (attr at : ℕ) → IsThere p marks
    → IsStayAt p attr at target → IsLineAt p marks (name_at p at) line
    → HasNoWriting p marks (λ x. x (attr_column attr)) → ⊥

-- the attribute does not fit, whenever this is its stay's line and target
abbrev pub IsUnfitStay : Fraction → Option Inside → Type 0
IsUnfitStay target line = (p : Problem) (marks : List Mark) (attr at : ℕ) → IsThere p marks
    → IsStayAt p attr at target → IsLineAt p marks (name_at p at) line
    → HasNoWriting p marks (λ x. x (attr_column attr))

-- the sum fits, if there is one
abbrev pub IsSizedMade : ℕ → Option Sum → Type 0
IsSizedMade count None = Unit {0}
IsSizedMade count (Some sum) = IsSized count sum
