-- What is seen of a corner, and what each corner keeps.
use Rattle.std.specs.Prelude.{◌≡◌, ◌≢◌, ℕ, ◌<◌, Bool, true, false, cond, nat_eq, List, [], ◌∷◌}
use Rattle.std.specs.Prelude.{map}
use Rattle.std.specs.Prelude.{filter, ℤ, pos, ◌*ℤ◌, All, Any, Contains}
use Rattle.frac_core.specs.Fraction.{Fraction}
use Rattle.problem_core.specs.declared.parts.RowName.{RowName}
use Rattle.problem_core.specs.declared.parts.Side.{Side}
use Rattle.problem_core.specs.declared.parts.Mark.{Mark}
use Rattle.problem_core.specs.declared.parts.Level.{Level}
use Rattle.problem_core.specs.declared.parts.Term.{Term}
use Rattle.problem_core.specs.declared.stops.What.{What}
use Rattle.problem_core.specs.declared.stops.What.TheVariants.{Attr, Mark as MarkOf, Level as LevelOf}
use Rattle.problem_core.specs.Layout.{HasStay, Problem, coefficient, lines}
use Rattle.problem_core.specs.Kept.{IsWhole}
use Rattle.problem_core.specs.Corners.{HasNegativeColumn, IsCorner, IsIn, Point, StandsAt, attr_column}
use Rattle.problem_core.specs.Corners.{marks_of}
use Rattle.problem_core.specs.Corners.{IsWritingOf, one_column, place}
use Rattle.problem_core.specs.Levels.{IsLevelAt, IsLevelWriting}
use Rattle.problem_core.specs.Unfit.{IsUnfitWhat}
use Rattle.problem_core.specs.Rays.{HasRays, IsRay}
use Rattle.corner_view.specs.declared.types.Owner.{Owner}
use Rattle.corner_view.specs.declared.types.Owner.TheVariants.{Level as LevelSlot, Attr as AttrSlot}
use Rattle.corner_view.specs.declared.types.Owner.TheVariants.{Line as LineSlot}

-- a problem and the marks inside at one of its corners
pub record Scene : Type 0 where
  pub problem : Problem
  pub marks : List Mark

-- the scene of now; those of the earlier marks, the newest first; the lines that are listed as those that may
-- have a negative column; and the attributes and lines in the order in which they came
pub record CornerView : Type 0 where
  pub problem : Problem
  pub marks : List Mark
  pub before : List Scene
  pub candidates : List RowName
  pub order : List Owner

-- ---- what is kept

-- the column c is that of one of the marks
abbrev pub is_mark : List Mark → ℕ → Bool
is_mark [] c = false
is_mark (m ∷ ms) c = cond (nat_eq (place m) c) true (is_mark ms c)

-- the marks in the order of the lines: by row number, with the stays last
abbrev pub in_order : Problem → List Mark → List Mark
in_order p marks = filter (λ m. is_mark marks (place m)) (marks_of (lines p))

-- the marks are a corner's, in order; each outside mark can grow alone; and each quantity fits
pub record IsKeptCorner (p : Problem) (at : List Mark) : Type 0 where
  pub whole : IsWhole p
  pub corner : IsCorner p at
  pub ordered : at ≡ in_order p at
  pub rays : HasRays p at
  pub fits : (what : What) → IsUnfitWhat p at what → ⊥

-- the mark is one of the problem's
abbrev pub IsMarkOf : Problem → Mark → Type 0
IsMarkOf p m = Contains (map place (marks_of (lines p))) (place m)

-- the mark is one of the problem's, and isn't inside
abbrev pub IsOutside : Problem → List Mark → Mark → Type 0
IsOutside p at m = IsMarkOf p m × (IsIn (place m) at → ⊥)

-- each outside mark whose column is negative is one of these lines
abbrev pub AreCandidates : Problem → List Mark → List RowName → Type 0
AreCandidates p at names = (m : Mark) → IsOutside p at m → HasNegativeColumn p at m → Contains names m.row

-- the problem has the line
abbrev pub IsNamed : Problem → RowName → Type 0
IsNamed p name = Any (λ l. l.name ≡ name) (lines p)

-- neither mark of the line has a negative column
abbrev pub HasNoNegative : Problem → List Mark → RowName → Type 0
HasNoNegative p at name = (side : Side) → HasNegativeColumn p at (record { row = name; side = side }) → ⊥

-- what each earlier scene keeps: no column is negative there
pub record IsSettled (s : Scene) : Type 0 where
  pub kept : IsKeptCorner s.problem s.marks
  pub candidates : AreCandidates s.problem s.marks []

-- ---- values and writings

-- what has the column c has this value at the corner
abbrev pub HasValueAt : Problem → List Mark → ℕ → Fraction → Type 0
HasValueAt p at c f = (x : Point) × StandsAt p at x × (x.num c *ℤ pos f.den ≡ f.num *ℤ x.num one_column)

-- an attribute or an inside mark, as a column
abbrev pub IsColumnOf : Problem → List Mark → What → ℕ → Type 0
IsColumnOf p at (Attr attr) c = HasStay p.stays attr × (c ≡ attr_column attr)
IsColumnOf p at (MarkOf m) c = IsIn (place m) at × (c ≡ place m)
IsColumnOf p at (LevelOf level) c = ⊥

-- an attribute with a stay, or a mark inside
abbrev pub IsWritten : Problem → List Mark → What → Type 0
IsWritten p at what = (c : ℕ) × IsColumnOf p at what c

-- it moves where the outside mark grows alone
abbrev pub MovesWith : Problem → List Mark → Mark → What → Type 0
MovesWith p at m what = (c : ℕ) × IsColumnOf p at what c
    × ((ray : ℕ → ℤ) × IsRay p at (place m) ray × (ray c ≢ pos 0))

-- what its slot is of: the attribute, the mark's line, or a level
abbrev pub owner_of : What → Owner
owner_of (Attr attr) = AttrSlot attr
owner_of (MarkOf m) = LineSlot m.row
owner_of (LevelOf level) = LevelSlot

-- all that moves with the outside mark, in the order in which it came
pub record AreMovers (v : CornerView) (m : Mark) (whats : List What) : Type 0 where
  pub move : All (MovesWith v.problem v.marks m) whats
  pub all : (what : What) → MovesWith v.problem v.marks m what → Contains whats what
  pub in_order : (keep : Owner → Bool) × (map owner_of whats ≡ filter keep v.order)

-- the parts of its writing
abbrev pub HasWriting : Problem → List Mark → What → (ℕ → List Term → Type 0) → Type 0
HasWriting p at what Has = (c : ℕ) × IsColumnOf p at what c
    × ((scale : ℕ) × (form : List Term) × (value : Fraction)
    × IsWritingOf p at (λ x. x c) scale form value.num value.den × Has scale form)

-- z is the scale of its writing
abbrev pub IsScaleOf : Problem → List Mark → What → ℤ → Type 0
IsScaleOf p at what z = HasWriting p at what (λ scale form. z ≡ pos scale)

-- z is the mark's coefficient in its writing
abbrev pub IsCoefficientOf : Problem → List Mark → What → Mark → ℤ → Type 0
IsCoefficientOf p at what m z = HasWriting p at what (λ scale form. z ≡ coefficient (place m) form)

-- ---- levels

-- the numbers of the writing of a level's cost
abbrev pub HasNumbers : Problem → List Mark → Level → (ℕ → (RowName → ℤ) → (ℕ → ℤ) → Type 0) → Type 0
HasNumbers p at level Have = (k : ℕ) × IsLevelAt p level k
    × ((scale : ℕ) × (times : RowName → ℤ) × (reduced : ℕ → ℤ) × IsLevelWriting p at k scale times reduced
    × Have scale times reduced)

-- z is the mark's reduced cost in the writing of the level's cost
abbrev pub IsReducedAt : Problem → List Mark → Level → Mark → ℤ → Type 0
IsReducedAt p at level m z = HasNumbers p at level (λ scale times reduced. z ≡ reduced (place m))

-- a line stands at the level
abbrev pub IsInUse : Problem → Level → Type 0
IsInUse p level = Any (λ l. IsLevelAt p level l.level) (lines p)

-- the first level is stronger
abbrev pub IsStronger : Problem → Level → Level → Type 0
IsStronger p a b = (j k : ℕ) → IsLevelAt p a j → IsLevelAt p b k → j < k

-- the level has a number in the problem
abbrev pub IsLevelOf : Problem → Level → Type 0
IsLevelOf p level = (k : ℕ) × IsLevelAt p level k
