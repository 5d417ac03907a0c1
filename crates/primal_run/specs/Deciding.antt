-- Which mark of a run's first corner decides between two inside marks that fall to 0 together.
use Rattle.std.specs.Prelude.{◌≡◌, ◌≢◌, ◌⊎◌, ◌≤◌, ◌+◌, ◌-◌, ◌*◌, ℕ, suc, true, false, cond, nat_eq, List, []}
use Rattle.std.specs.Prelude.{◌∷◌, IfSome, length}
use Rattle.std.specs.declared.cmp.Ordering.{Ordering}
use Rattle.std.specs.declared.cmp.Ordering.TheVariants.{Equal}
use Rattle.std.specs.declared.option.Option.{Option}
use Rattle.std.specs.declared.option.Option.TheVariants.{Some, None}
use Rattle.problem_core.specs.declared.limits.TheConstants.{MARKS}
use Rattle.problem_core.specs.declared.parts.Mark.{Mark}
use Rattle.problem_core.specs.declared.parts.RowName.{RowName}
use Rattle.problem_core.specs.declared.parts.RowName.TheVariants.{Held, Stay as StayOf}
use Rattle.problem_core.specs.declared.parts.Stay.{Stay}
use Rattle.problem_core.specs.Layout.{Problem}
use Rattle.problem_core.specs.Corners.{IsIn, place, side_number}
use Rattle.corner_view.specs.Seen.{CornerView, is_mark, IsMarkOf}
use Rattle.corner_view.specs.Entries.{HasEntry}
use Rattle.corner_ends.specs.Trails.{IsTrailOf, Trail, in_tie_order}
use Rattle.primal_run.specs.declared.deciding.Decider.{Decider}
use Rattle.primal_run.specs.declared.deciding.Tie.{Tie}
use Rattle.primal_run.specs.Leaving.{ForWritings, count_order}

-- ---- the order of the marks

-- how many stays stand before that of the attribute
abbrev pub stays_before : List Stay → ℕ → ℕ
stays_before [] attr = 0
stays_before (s ∷ stays) attr = cond (nat_eq s.attr attr) 0 (suc (stays_before stays attr))

-- numbers that rise along the lines: those of rows are their own, and the stays come behind
abbrev pub line_key : List Stay → RowName → ℕ
line_key stays (Held id) = id
line_key stays (StayOf attr) = MARKS + stays_before stays attr

-- numbers that rise along the marks
abbrev pub mark_key : List Stay → Mark → ℕ
mark_key stays m = 2 * line_key stays m.row + side_number m.side

-- the number turned over where the line is a stay's, and then above those of all rows' marks
abbrev pub turned : List Stay → RowName → ℕ → ℕ
turned stays (Held id) key = key
turned stays (StayOf attr) key = 4 * MARKS + 2 * length stays - key

-- numbers that rise along the marks in the order in which they break ties
abbrev pub tie_key : List Stay → Mark → ℕ
tie_key stays m = turned stays m.row (mark_key stays m)

-- ---- the run's first corner

-- this holds of the marks of the first corner of a primal run with this trail
abbrev pub FromFirst : CornerView → Trail → (List Mark → Type 0) → Type 0
FromFirst c trail holds = (first : List Mark) → IsTrailOf false c.problem first trail c.marks → holds first

-- this holds of the same marks in the order in which they break ties
abbrev pub FromTies : CornerView → Trail → (List Mark → Type 0) → Type 0
FromTies c trail holds = FromFirst c trail (λ first. holds (in_tie_order first))

-- what is found is one of the first corner's marks
abbrev pub HasBegun : CornerView → Trail → Option Decider → Type 0
HasBegun c trail found = FromFirst c trail (λ first. IfSome found (λ d. is_mark first (place d.mark) ≡ true))

-- ---- what decides

-- both marks are inside
abbrev pub IsTie : List Mark → Tie → Type 0
IsTie at tie = IsIn (place tie.a.mark) at × IsIn (place tie.b.mark) at

-- what the two count at the mark, each over its coefficient, is in this order
abbrev pub IsOrderAt : Problem → List Mark → Tie → Mark → Ordering → Type 0
IsOrderAt p at tie f order = ForWritings p at tie.a.mark tie.b.mark
    (λ v w. order ≡ count_order f tie.a v tie.b w)

-- at a mark of the problem the two count differently, in this order
pub record IsDecider (p : Problem) (at : List Mark) (tie : Tie) (d : Decider) : Type 0 where
  pub mark : IsMarkOf p d.mark
  pub order : IsOrderAt p at tie d.mark d.order
  pub uneven : d.order ≢ Equal

-- something is found, at a mark that decides no later than this one
abbrev pub IsLate : Problem → Option Decider → Mark → Type 0
IsLate p None f = ⊥
IsLate p (Some d) f = tie_key p.stays d.mark ≤ tie_key p.stays f

-- what is found now decides no later than what was found before
abbrev pub IsNoLater : Problem → Option Decider → Option Decider → Type 0
IsNoLater p before now = (f : Mark) → IsLate p before f → IsLate p now f

-- if the mark is one of the first corner, the two count the same at it, or what is found decides no later
abbrev pub IsSeen : CornerView → Trail → Tie → Option Decider → Mark → Type 0
IsSeen c trail tie found f = FromFirst c trail (λ first. is_mark first (place f) ≡ true
    → IsOrderAt c.problem c.marks tie f Equal ⊎ IsLate c.problem found f)

-- the line is the inside mark's own, or has a number in its writing
abbrev pub IsOfRow : Problem → List Mark → Mark → RowName → Type 0
IsOfRow p at m name = (name ≡ m.row) ⊎ HasEntry p at m name
