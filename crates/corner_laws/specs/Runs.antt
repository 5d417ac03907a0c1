-- Runs: which mark leaves at each exchange of a primal run, and which one enters at each of a dual run, so
-- that no corner comes twice.
use Rattle.std.specs.Prelude.{◌≡◌, ◌⊎◌, ℕ, ◌*◌, true, false, cond, nat_eq, List, [], ◌∷◌, map, ℤ, pos, ◌*ℤ◌}
use Rattle.std.specs.Prelude.{neg_ℤ}
use Rattle.std.specs.Prelude.{◌<ℤ◌, All}
use Rattle.problem_core.specs.declared.parts.Mark.{Mark}
use Rattle.problem_core.specs.declared.parts.Term.{Term}
use Rattle.problem_core.specs.Layout.{Problem, coefficient}
use Rattle.problem_core.specs.Corners.{HasNegativeColumn, HasNegativeValue, IsIn, IsWritingOf, Swap}
use Rattle.problem_core.specs.Corners.{exchanged, place}
use Rattle.problem_core.specs.Changes.Paths.{IsEndOf}
use Rattle.problem_core.specs.Rays.{IsRay}
use Rattle.problem_core.specs.declared.parts.Side.{Side}
use Rattle.problem_core.specs.declared.parts.Side.TheVariants.{Under, Over}
use Rattle.corner_laws.specs.Laws.{IsMarkAt}
use Rattle.corner_laws.specs.Sums.{AreReducedAt, IsDualChoice}

-- the numbers of a writing
pub record Writing : Type 0 where
  pub scale : ℕ
  pub form : List Term
  pub num : ℤ
  pub den : ℕ

-- it is the writing of the column c
abbrev pub Writes : Problem → List Mark → ℕ → Writing → Type 0
Writes p at c w = IsWritingOf p at (λ x. x c) w.scale w.form w.num w.den

-- what the mark with the column c, which is inside, counts at the column f of a mark inside the run's first
-- corner: its scale at itself, and the opposite of that mark's coefficient elsewhere, which is 0 where that
-- mark is inside
abbrev pub count_at : ℕ → Writing → ℕ → ℤ
count_at c w f = cond (nat_eq f c) (pos w.scale) (neg_ℤ (coefficient f w.form))

-- at the first of these columns at which they differ, what c counts there over its coefficient of the
-- entering mark is greater than what d counts over its own; both coefficients are below 0
abbrev pub BreaksTie : ℕ → ℕ → Writing → ℕ → Writing → List ℕ → Type 0
BreaksTie enter c v d w [] = Unit {0}
BreaksTie enter c v d w (f ∷ fs) =
    ((count_at d w f *ℤ coefficient enter v.form) <ℤ (count_at c v f *ℤ coefficient enter w.form))
    ⊎ ((count_at d w f *ℤ coefficient enter v.form ≡ count_at c v f *ℤ coefficient enter w.form)
    × BreaksTie enter c v d w fs)

-- the ratio of the first one's value to its coefficient of the entering mark, crossed with that of the second
abbrev pub reach : ℕ → Writing → Writing → ℤ
reach enter v w = v.num *ℤ (coefficient enter w.form *ℤ pos (v.scale * w.den))

-- where the entering mark grows c comes to 0 before d, or with it and breaks the tie
abbrev pub FallsFirst : List ℕ → ℕ → ℕ → Writing → ℕ → Writing → Type 0
FallsFirst first enter c v d w =
    (reach enter w v <ℤ reach enter v w)
    ⊎ ((reach enter w v ≡ reach enter v w) × BreaksTie enter c v d w first)

-- of the inside marks that fall where the entering mark grows the leaving one comes to 0 first; of those that
-- come to 0 together it is the first by what they count at the marks of the run's first corner
pub record IsFirstToLeave (p : Problem) (first at : List Mark) (s : Swap) : Type 0 where
  pub leaving : Writing
  pub writes : Writes p at (place s.leave) leaving
  pub falls : coefficient (place s.enter) leaving.form <ℤ pos 0
  pub least : (ray : ℕ → ℤ) → IsRay p at (place s.enter) ray → All (λ m. ray (place m) <ℤ pos 0
      → (w : Writing) × Writes p at (place m) w
      × FallsFirst (map place first) (place s.enter) (place s.leave) leaving (place m) w) at

-- an exchange of a run that began with the marks `first` inside: the corner is no end, the entering mark's
-- column is negative, and the leaving mark is the first to leave
pub record IsRunSwap (p : Problem) (first at : List Mark) (s : Swap) : Type 0 where
  pub no_end : IsEndOf false p at → ⊥
  pub mark : IsMarkAt p (place s.enter)
  pub enters : IsIn (place s.enter) at → ⊥
  pub leaves : IsIn (place s.leave) at
  pub column : HasNegativeColumn p at s.enter
  pub first_to_leave : IsFirstToLeave p first at s

-- each is such an exchange at the corner that those before it lead to
abbrev pub AreRunSwaps : Problem → List Mark → List Mark → List Swap → Type 0
AreRunSwaps p first at [] = Unit {0}
AreRunSwaps p first at (s ∷ swaps) = IsRunSwap p first at s × AreRunSwaps p first (exchanged s at) swaps

-- ---- the dual run

-- an exchange of a dual run: the corner is no end, the leaving mark's value is negative, and of the outside
-- marks with which it grows the entering one has the least column over its number
pub record IsDualSwap (p : Problem) (at : List Mark) (s : Swap) : Type 0 where
  pub no_end : IsEndOf true p at → ⊥
  pub mark : IsMarkAt p (place s.enter)
  pub enters : IsIn (place s.enter) at → ⊥
  pub leaves : IsIn (place s.leave) at
  pub value : HasNegativeValue p at s.leave
  pub leaving : Writing
  pub writes : Writes p at (place s.leave) leaving
  pub reduced : ℕ → ℕ → ℤ
  pub levels : (level : ℕ) → AreReducedAt p at level (reduced level)
  pub choice : IsDualChoice p (place s.enter) leaving.form reduced

-- each is such an exchange at the corner that those before it lead to
abbrev pub AreDualSwaps : Problem → List Mark → List Swap → Type 0
AreDualSwaps p at [] = Unit {0}
AreDualSwaps p at (s ∷ swaps) = IsDualSwap p at s × AreDualSwaps p (exchanged s at) swaps

-- over for under, and under for over
abbrev pub other_side : Side → Side
other_side Under = Over
other_side Over = Under

-- the same line's mark on the other side
abbrev pub other_mark : Mark → Mark
other_mark m = record { row = m.row; side = other_side m.side }
