-- When `NoRoom` may come: which quantities count at which corner of the route.
use Rattle.std.specs.Prelude.{◌≡◌, ◌⊎◌, ℕ, ◌+◌, ◌<◌, ◌≤◌, Bool, false, true, nat_eq, List, [], ◌∷◌}
use Rattle.std.specs.Prelude.{length, take, filter, Any, Option, None, Some}
use Rattle.problem_core.specs.declared.parts.Mark.{Mark}
use Rattle.problem_core.specs.declared.parts.Level.{Level}
use Rattle.problem_core.specs.declared.stops.What.TheVariants.{Attr, Mark as MarkOf, Level as LevelOf}
use Rattle.problem_core.specs.declared.stops.Quantity.{Quantity}
use Rattle.problem_core.specs.declared.stops.Quantity.TheVariants.{Plain, Terms, Rows, Shifts}
use Rattle.problem_core.specs.Layout.{Problem, lines}
use Rattle.problem_core.specs.Levels.{IsLevelAt}
use Rattle.problem_core.specs.Corners.{Swap}
use Rattle.problem_core.specs.Unfit.{IsUnfitAt, over_mark}
use Rattle.cert_core.specs.Paths.{Path}
use Rattle.cert_core.specs.Stops.{IsPartial, IsPlain}
use Rattle.path_lines.specs.Route.{IsRoute, IsWholeRoute, corner_after}

-- which quantities count before the last corner of a path with a quantity, and at each corner of a path
-- without one: sums at the route's first corner, and others later
abbrev pub CountsOnTheWay : List Swap → Quantity → Type 0
CountsOnTheWay [] q = IsPartial q
CountsOnTheWay (s ∷ done) q = IsPlain q

-- the same sum of fewer, or one of the attributes that it sums
abbrev pub IsInTerms : Problem → Mark → ℕ → Quantity → Type 0
IsInTerms p mark j (Plain (Attr attr)) = Any (λ r. (mark ≡ over_mark r.id)
    × Any (λ t. t.attr ≡ attr) (take j r.terms)) p.rows
IsInTerms p mark j (Plain (MarkOf m)) = ⊥
IsInTerms p mark j (Plain (LevelOf level)) = ⊥
IsInTerms p mark j (Terms other i) = (other ≡ mark) × (i < j)
IsInTerms p mark j (Rows level i) = ⊥
IsInTerms p mark j (Shifts what i) = ⊥

-- the same sum of fewer, or one of the marks that it sums
abbrev pub IsInRows : Problem → Level → ℕ → Quantity → Type 0
IsInRows p level j (Plain (Attr attr)) = ⊥
IsInRows p level j (Plain (MarkOf m)) = (k : ℕ) × IsLevelAt p level k
    × Any (λ l. l.name ≡ m.row) (take j (filter (λ l. nat_eq l.level k) (lines p)))
IsInRows p level j (Plain (LevelOf other)) = ⊥
IsInRows p level j (Terms mark i) = ⊥
IsInRows p level j (Rows other i) = (other ≡ level) × (i < j)
IsInRows p level j (Shifts what i) = ⊥

-- q is part of the named sum: the sum of fewer terms or rows, or an attribute or a mark that it sums
abbrev pub IsPartOf : Problem → Quantity → Quantity → Type 0
IsPartOf p (Plain what) q = ⊥
IsPartOf p (Terms mark j) q = IsInTerms p mark j q
IsPartOf p (Rows level j) q = IsInRows p level j q
IsPartOf p (Shifts what j) q = ⊥

-- a row's terms, by its number and their count, come before a level's rows, strongest first, by their count
abbrev pub ComesBefore : Problem → Quantity → Quantity → Type 0
ComesBefore p (Terms m i) (Terms n j) = (a b : ℕ) × (m ≡ over_mark a) × (n ≡ over_mark b)
    × ((a < b) ⊎ ((a ≡ b) × (i < j)))
ComesBefore p (Terms m i) (Rows level j) = Unit {0}
ComesBefore p (Terms m i) (Plain what) = Unit {0}
ComesBefore p (Terms m i) (Shifts what j) = Unit {0}
ComesBefore p (Rows level i) (Terms n j) = ⊥
ComesBefore p (Rows level i) (Rows other j) = (a b : ℕ) × IsLevelAt p level a × IsLevelAt p other b
    × ((a < b) ⊎ ((a ≡ b) × (i < j)))
ComesBefore p (Rows level i) (Plain what) = Unit {0}
ComesBefore p (Rows level i) (Shifts what j) = Unit {0}
ComesBefore p (Plain what) q = ⊥
ComesBefore p (Shifts what j) q = ⊥

-- a sum of the problem's: of a row with so many terms or one more, or of a level with so many rows
abbrev pub IsSumOf : Problem → Quantity → Type 0
IsSumOf p (Plain what) = ⊥
IsSumOf p (Terms mark j) = Any (λ r. (mark ≡ over_mark r.id) × (1 ≤ j) × (j ≤ length r.terms + 1)) p.rows
IsSumOf p (Rows level j) = (k : ℕ) × IsLevelAt p level k × (1 ≤ j)
    × (j ≤ length (filter (λ l. nat_eq l.level k) (lines p)))
IsSumOf p (Shifts what j) = ⊥

-- on a primal path only what comes before the named one counts. A quantity that is no sum of the problem's
-- comes after all sums
abbrev pub IsEarlier : Bool → Problem → Quantity → Quantity → Type 0
IsEarlier true p named q = Unit {0}
IsEarlier false p named q = IsSumOf p named → ComesBefore p q named

-- at the last corner of a path with a quantity
abbrev pub CountsAtEnd : Bool → Problem → List Swap → Quantity → Quantity → Type 0
CountsAtEnd dual p [] named q = IsPartOf p named q ⊎ (IsPartial q × IsEarlier dual p named q)
CountsAtEnd dual p (s ∷ done) named q = IsPartOf p named q

-- the quantity counts at the corner to which these exchanges of the route lead
abbrev pub Counts : Problem → Path → Option Quantity → List Swap → Quantity → Type 0
Counts p path None done q = CountsOnTheWay done q
Counts p path (Some named) done q = ((IsWholeRoute p path done → ⊥) × CountsOnTheWay done q)
    ⊎ (IsWholeRoute p path done × CountsAtEnd path.dual p done named q)

-- the route leads in n exchanges to a corner at which a quantity that counts does not fit
pub record HasNoRoom (p : Problem) (path : Path) (unfit : Option Quantity) (n : ℕ) : Type 0 where
  pub done : List Swap
  pub count : length done ≡ n
  pub route : IsRoute p path done
  pub quantity : Quantity
  pub counts : Counts p path unfit done quantity
  pub does_not_fit : IsUnfitAt p (corner_after p done) quantity
