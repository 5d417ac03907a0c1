-- The laws of layout problems: what is best, by what reasons, and what shows a conflict.
use Rattle.std.specs.Prelude.{◌≡◌, ℕ, ℤ, pos, ◌*ℤ◌, ◌<ℤ◌, ◌≤◌, ◌≤ℤ◌, ◌⊎◌, List, ◌++◌, All}
use Rattle.frac_core.specs.Fraction.{Fraction}
use Rattle.problem_core.specs.declared.limits.TheConstants.{REQUIRED}
use Rattle.problem_core.specs.declared.parts.Mark.{Mark}
use Rattle.problem_core.specs.declared.parts.RowName.TheVariants.{Held}
use Rattle.problem_core.specs.declared.parts.Side.{Side}
use Rattle.problem_core.specs.declared.parts.Stay.{Stay}
use Rattle.problem_core.specs.Layout.{AreSame, Assignment, Gives, IsBest, IsInConflict, IsProblem, IsProper}
use Rattle.problem_core.specs.Layout.{Problem, Row, Satisfies, StandAt, coefficient, cost, error, line_of_row}
use Rattle.problem_core.specs.Layout.{line_of_stay, lines, sum_of}
use Rattle.problem_core.specs.Kept.{IsWhole}
use Rattle.problem_core.specs.Window.{AreWindowStays, IsSize, structural_rows, window_rows, window_values}
use Rattle.problem_core.specs.Window.{zero_fraction}
use Rattle.problem_core.specs.Certificates.{IsCertificate, IsLexNonnegative, IsRefutation, Multipliers}
use Rattle.problem_core.specs.Certificates.{constant, over, under}
use Rattle.problem_core.specs.Corners.{AreMultipliersAt, IsIn, Point, StandsAt, assignment_at, column}
use Rattle.problem_core.specs.Corners.{marks_of, place}

-- ---- what is best

-- what the type of a problem keeps is what the laws ask of one
abbrev pub WholeIsProper : Type 0
WholeIsProper = (p : Problem) → IsWhole p → IsProper p

-- what satisfies, and gives the stays' attributes the values that all that satisfies gives them, is best
abbrev pub AgreedIsBest : Type 0
AgreedIsBest = (p : Problem) → IsProper p → (x : Assignment) → Satisfies p x
    → ((y : Assignment) → Satisfies p y → AreSame p x y) → IsBest p x

-- what satisfies, and costs nothing at every level, is best
abbrev pub CostlessIsBest : Type 0
CostlessIsBest = (p : Problem) (x : Assignment) → Satisfies p x → ((level : ℕ) → cost (lines p) x level ≡ 0)
    → IsBest p x

-- an assignment at which no row and no stay has an error is best
abbrev pub ErrorlessIsBest : Type 0
ErrorlessIsBest = (p : Problem) (x : Assignment) → All (λ l. error x l ≡ 0) (lines p) → IsBest p x

-- what gives the stays' attributes the same values as what is best is best
abbrev pub SameIsBest : Type 0
SameIsBest = (p : Problem) → IsProper p → (x z : Assignment) → IsBest p x → AreSame p x z → IsBest p z

-- a problem has at most one best assignment
abbrev pub BestIsUnique : Type 0
BestIsUnique = (p : Problem) → IsProblem p → (x y : Assignment) → IsBest p x → IsBest p y → AreSame p x y

-- ---- what stays best

-- the problem with some rows and stays more
abbrev pub added : Problem → List Row → List Stay → Problem
added p rows stays = record { rows = p.rows ++ rows; stays = p.stays ++ stays }

-- what is best stays best when rows and stays are added that have no error there
abbrev pub AddedStaysBest : Type 0
AddedStaysBest = (p : Problem) → IsProblem p → (x : Assignment) → IsBest p x → (rows : List Row)
    (stays : List Stay) → IsProblem (added p rows stays) → All (λ r. error x (line_of_row r) ≡ 0) rows
    → All (λ s. error x (line_of_stay 0 s) ≡ 0) stays → IsBest (added p rows stays) x

-- what is best stays best when the stays' targets become its values
abbrev pub BestStaysBest : Type 0
BestStaysBest = (p : Problem) → IsProblem p → (x : Assignment) → IsBest p x → (stays : List Stay)
    → StandAt x stays → IsProblem (record { rows = p.rows; stays = stays })
    → IsBest (record { rows = p.rows; stays = stays }) x

-- ---- the first scenes

-- a window of a given size: its values are best for its six rows, whatever the stays' targets are
abbrev pub WindowIsBest : Type 0
WindowIsBest = (w h : Fraction) → IsSize w → IsSize h → (stays : List Stay) → AreWindowStays stays
    → (x : Assignment) → Gives (window_values w h) x
    → IsBest (record { rows = window_rows w h; stays = stays }) x

-- a window of no given size: its values 0 are best for its four rows, with the stays at 0
abbrev pub FirstSceneIsBest : Type 0
FirstSceneIsBest = (stays : List Stay) → AreWindowStays stays → All (λ s. s.target.num ≡ pos 0) stays
    → (x : Assignment) → Gives (window_values zero_fraction zero_fraction) x
    → IsBest (record { rows = structural_rows; stays = stays }) x

-- ---- certificates and conflicts

-- multipliers that refute the required rows show a conflict
abbrev pub RefutationShowsConflict : Type 0
RefutationShowsConflict = (p : Problem) → IsProblem p → (y : ℕ → ℤ) → IsRefutation p y → IsInConflict p

-- an assignment with a certificate is best
abbrev pub CertificateShowsBest : Type 0
CertificateShowsBest = (p : Problem) → IsProblem p → (x : Assignment) → (m : Multipliers)
    → IsCertificate p x m → IsBest p x

-- at a corner where the required cost is above 0 and no reduced cost of that level is negative, the level's
-- multipliers refute the required rows
abbrev pub RequiredCostRefutes : Type 0
RequiredCostRefutes = (p : Problem) → IsProblem p → All (λ r. r.rank ≤ REQUIRED) p.rows → (m : Multipliers)
    → ((v : ℕ) → sum_of (λ l. m.times 0 l.name *ℤ coefficient v l.form) (lines p) ≡ pos 0)
    → All (λ l. pos 0 ≤ℤ under m l 0) (lines p) → All (λ l. pos 0 ≤ℤ over m l 0) (lines p)
    → pos 0 <ℤ constant m (lines p) 0 → IsRefutation p (λ id. m.times 0 (Held id))

-- at a corner with no negative value and no negative column, the corner's multipliers are a certificate
abbrev pub EndHasCertificate : Type 0
EndHasCertificate = (p : Problem) (inside : List Mark) (x : Point) (m : Multipliers) → StandsAt p inside x
    → All (λ k. pos 0 ≤ℤ x.num (place k)) (marks_of (lines p))
    → ((k : Mark) → IsIn (place k) inside ⊎ (IsIn (place k) inside → ⊥)) → AreMultipliersAt p inside m
    → ((side : Side) → All (λ l. IsLexNonnegative (column m side l)) (lines p))
    → Satisfies p (assignment_at x) → IsCertificate p (assignment_at x) m
