-- What does not fit at a corner.
use Rattle.std.specs.Prelude.{◌≡◌, ◌≢◌, ℕ, ◌+◌, ◌-◌, ◌≤◌, Bool, false, cond, nat_eq, nat_lt, List, [], ◌∷◌}
use Rattle.std.specs.Prelude.{◌++◌, filter, length, map, take, ℤ, pos, nat_abs, ◌-ℤ◌, ◌*ℤ◌, All, Any}
use Rattle.frac_core.specs.Fraction.{Fraction, IsFitting, IsKept}
use Rattle.problem_core.specs.declared.parts.RowName.TheVariants.{Held}
use Rattle.problem_core.specs.declared.parts.Side.TheVariants.{Under, Over}
use Rattle.problem_core.specs.declared.parts.Mark.{Mark}
use Rattle.problem_core.specs.declared.parts.Level.{Level}
use Rattle.problem_core.specs.declared.parts.Term.{Term}
use Rattle.problem_core.specs.declared.stops.What.{What}
use Rattle.problem_core.specs.declared.stops.What.TheVariants.{Attr, Mark as MarkOf, Level as LevelOf}
use Rattle.problem_core.specs.declared.stops.Quantity.{Quantity}
use Rattle.problem_core.specs.declared.stops.Quantity.TheVariants.{Plain, Terms, Rows, Shifts}
use Rattle.problem_core.specs.Layout.{Row, Problem, HasStay, lines, coefficient, rank_level, sum_of}
use Rattle.problem_core.specs.Corners.{IsIn, attr_column, place}
pub use Rattle.problem_core.specs.Corners.{IsWritingOf}
use Rattle.problem_core.specs.Levels.{IsLevelAt, HasNoLevelWriting}
use Rattle.problem_core.specs.Window.{zero_fraction}

-- the over mark of the held row of this number
abbrev pub over_mark : ℕ → Mark
over_mark id = record { row = Held id; side = Over }

-- the under mark of the held row of this number
abbrev pub under_mark : ℕ → Mark
under_mark id = record { row = Held id; side = Under }

-- ---- writings

-- no writing of the quantity fits, with its value
abbrev pub HasNoWriting : Problem → List Mark → ((ℕ → ℤ) → ℤ) → Type 0
HasNoWriting p at quantity = (scale : ℕ) (form : List Term) (value : Fraction)
    → IsWritingOf p at quantity scale form value.num value.den → IsFitting (pos scale)
    → ((v : ℕ) → IsFitting (coefficient v form)) → IsKept value → ⊥

-- an attribute with a stay, or a mark inside, whose writing does not fit, or a level whose cost does not
abbrev pub IsUnfitWhat : Problem → List Mark → What → Type 0
IsUnfitWhat p at (Attr attr) = HasStay p.stays attr × HasNoWriting p at (λ x. x (attr_column attr))
IsUnfitWhat p at (MarkOf m) = IsIn (place m) at × HasNoWriting p at (λ x. x (place m))
IsUnfitWhat p at (LevelOf level) = (k : ℕ) × IsLevelAt p level k × HasNoLevelWriting p at k

-- ---- the first terms of a row

-- the sum of the row's first j terms; past their number that of all of them less the constant, which is the
-- over deviation where the under one is 0
abbrev pub first_terms : Row → ℕ → (ℕ → ℤ) → ℤ
first_terms r j x = cond (nat_lt (length r.terms) j) (x (place (over_mark r.id)))
    (sum_of (λ t. t.by *ℤ x (attr_column t.attr)) (take j r.terms))

-- this row's mark and those of the rows after it are over marks
abbrev pub AreOverFrom : Problem → List Mark → ℕ → Type 0
AreOverFrom p at id = All (λ r. id ≤ r.id → IsIn (place (over_mark r.id)) at) p.rows

-- the mark is a row's, over as those of the rows after it, and the sum of the row's first j terms doesn't fit
abbrev pub IsUnfitTerms : Problem → List Mark → Mark → ℕ → Type 0
IsUnfitTerms p at mark j = Any (λ r. (mark ≡ over_mark r.id) × AreOverFrom p at r.id × (1 ≤ j)
    × (j ≤ length r.terms + 1) × HasNoWriting p at (first_terms r j)) p.rows

-- ---- the first rows of a level

-- the row, but of weight 0
abbrev pub without_weight : Row → Row
without_weight r = record {
  id = r.id;
  rank = r.rank;
  weight = 0;
  rel = r.rel;
  scale = r.scale;
  constant = r.constant;
  terms = r.terms;
}

-- the rows of this level after the first j have no weight
abbrev pub lightened : ℕ → ℕ → List Row → List Row
lightened level j [] = []
lightened level j (r ∷ rows) = cond (nat_eq (rank_level r.rank) level)
    (cond (nat_eq j 0) (without_weight r) r ∷ lightened level (j - 1) rows) (r ∷ lightened level j rows)

-- the problem in which the rows of this level after the first j have no weight
abbrev pub with_first_rows : ℕ → ℕ → Problem → Problem
with_first_rows level j p = record { rows = lightened level j p.rows; stays = p.stays }

-- the level has j lines at least, and the cost of its first j alone does not fit
abbrev pub IsUnfitRows : Problem → List Mark → Level → ℕ → Type 0
IsUnfitRows p at level j = (k : ℕ) × IsLevelAt p level k × (1 ≤ j)
    × (j ≤ length (filter (λ l. nat_eq l.level k) (lines p))) × HasNoLevelWriting (with_first_rows k j p) at k

-- ---- in a given problem

-- the quantity does not fit at the corner of this problem; where the first changed constants are named, the
-- problem is that which has these alone
abbrev pub IsUnfitAt : Problem → List Mark → Quantity → Type 0
IsUnfitAt p at (Plain what) = IsUnfitWhat p at what
IsUnfitAt p at (Terms mark j) = IsUnfitTerms p at mark j
IsUnfitAt p at (Rows level j) = IsUnfitRows p at level j
IsUnfitAt p at (Shifts what j) = IsUnfitWhat p at what

-- ---- in a step's problem, where these are the rows before

-- no row before has this number
abbrev pub IsNew : List Row → ℕ → Type 0
IsNew old id = All (λ r. r.id ≢ id) old

-- the j-th of these rows is new
abbrev pub IsNewAt : List Row → ℕ → List Row → Type 0
IsNewAt old j rows = (before : List Row) × (r : Row) × (after : List Row) × (rows ≡ before ++ (r ∷ after))
    × (length before + 1 ≡ j) × IsNew old r.id

-- the row at this constant
abbrev pub at_constant : Fraction → Row → Row
at_constant constant r = record {
  id = r.id;
  rank = r.rank;
  weight = r.weight;
  rel = r.rel;
  scale = r.scale;
  constant = constant;
  terms = r.terms;
}

-- the row with 0 in place of its constant
abbrev pub without_constant : Row → Row
without_constant r = at_constant zero_fraction r

-- the same rows in the same order, but for their constants
abbrev pub AreSameButConstants : List Row → List Row → Type 0
AreSameButConstants old rows = map without_constant old ≡ map without_constant rows

-- whether two constants are the same, part by part
abbrev pub same_constant : Fraction → Fraction → Bool
same_constant f g = cond (nat_eq f.den g.den) (nat_eq (nat_abs (f.num -ℤ g.num)) 0) false

-- how many constants have changed
abbrev pub changes : List Row → List Row → ℕ
changes [] rows = 0
changes (o ∷ old) [] = 0
changes (o ∷ old) (r ∷ rows) = cond (same_constant o.constant r.constant) (changes old rows)
    (1 + changes old rows)

-- the rows as they were, but with the first j changed constants
abbrev pub first_shifted : ℕ → List Row → List Row → List Row
first_shifted j [] rows = []
first_shifted j (o ∷ old) [] = []
first_shifted j (o ∷ old) (r ∷ rows) = cond (same_constant o.constant r.constant)
    (o ∷ first_shifted j old rows) (cond (nat_eq j 0) o r ∷ first_shifted (j - 1) old rows)

-- the problem with the rows as they were, but with its first j changed constants
abbrev pub with_first_shifts : List Row → ℕ → Problem → Problem
with_first_shifts old j p = record { rows = first_shifted j old p.rows; stays = p.stays }

-- the quantity does not fit at the corner of the step's problem. The row of a sum of terms, and the last of a
-- level's first rows, are new. Where changed constants are named, the rows are those before but for their
-- constants, of which the first j that changed are the new ones, and the others are as before
abbrev pub IsUnfit : Problem → List Row → List Mark → Quantity → Type 0
IsUnfit p old at (Plain what) = IsUnfitWhat p at what
IsUnfit p old at (Terms mark j) = IsUnfitTerms p at mark j × All (λ r. Held r.id ≢ mark.row) old
IsUnfit p old at (Rows level j) = IsUnfitRows p at level j
    × ((k : ℕ) × IsLevelAt p level k × IsNewAt old j (filter (λ r. nat_eq (rank_level r.rank) k) p.rows))
IsUnfit p old at (Shifts what j) = AreSameButConstants old p.rows × (1 ≤ j) × (j ≤ changes old p.rows)
    × IsUnfitWhat (with_first_shifts old j p) at what
