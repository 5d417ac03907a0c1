-- Corners: points of the attributes and the deviations, the problem's equations, corners, writings, exchanges
-- and reduced costs.
use Rattle.std.specs.Prelude.{◌≡◌, ◌≢◌, ℕ, zero, suc, ◌+◌, ◌*◌, ◌<◌, cond, nat_eq, List, [], ◌∷◌, map}
use Rattle.std.specs.Prelude.{length, ℤ, pos, negsuc, ◌-ℤ◌, ◌*ℤ◌, neg_ℤ, nat_abs, ◌≤ℤ◌, ◌<ℤ◌, All, AllPairs}
use Rattle.std.specs.Prelude.{Any, Contains}
use native.Mathlib.Nat.{zero-lt-suc}
use Rattle.problem_core.specs.declared.parts.Side.{Side}
use Rattle.problem_core.specs.declared.parts.Side.TheVariants.{Under, Over}
use Rattle.problem_core.specs.declared.parts.RowName.{RowName}
use Rattle.problem_core.specs.declared.parts.RowName.TheVariants.{Held, Stay as StayOf}
use Rattle.problem_core.specs.declared.parts.Mark.{Mark}
use Rattle.problem_core.specs.declared.parts.Term.{Term}
use Rattle.problem_core.specs.Layout.{Assignment, Line, Problem, lines, coefficient, value_at, sum_of}
use Rattle.problem_core.specs.Certificates.{Multipliers, under, over}
use Rattle.problem_core.specs.Certificates.{IsLexNonnegative}
use Rattle.problem_core.specs.declared.limits.TheConstants.{MARKS}

-- what a side adds to the column of a mark
abbrev pub side_number : Side → ℕ
side_number Under = 0
side_number Over = 1

-- the column of the mark of a row, or of a stay, on this side
abbrev pub place_of : RowName → Side → ℕ
place_of (Held id) s = 4 * id + side_number s
place_of (StayOf attr) s = 4 * attr + 2 + side_number s

-- the column of a mark
abbrev pub place : Mark → ℕ
place m = place_of m.row m.side

-- the column of an attribute
abbrev pub attr_column : ℕ → ℕ
attr_column attr = MARKS + attr

-- the column whose number is a point's common denominator
abbrev pub one_column : ℕ
one_column = 2 * MARKS

-- the column c has the value `num c / num one_column`
pub record Point : Type 0 where
  pub num : ℕ → ℤ
  pub positive : pos 0 <ℤ num one_column

-- `den * (form + under - over) - num * one = 0`
abbrev pub equation : Line → List Term
equation l =
    record { attr = place_of l.name Under; by = pos l.den }
    ∷ record { attr = place_of l.name Over; by = neg_ℤ (pos l.den) }
    ∷ record { attr = one_column; by = neg_ℤ l.num }
    ∷ map (λ e. record { attr = attr_column e.attr; by = pos l.den *ℤ e.by }) l.form

-- the point is a solution: each line's equation holds there
abbrev pub Solves : Problem → Point → Type 0
Solves p x = All (λ l. value_at x.num (equation l) ≡ pos 0) (lines p)

-- all marks of the problem
abbrev pub marks_of : List Line → List Mark
marks_of [] = []
marks_of (l ∷ ls) = record { row = l.name; side = Under } ∷ record { row = l.name; side = Over } ∷ marks_of ls

-- the column is that of one of these marks
abbrev pub IsIn : ℕ → List Mark → Type 0
IsIn c marks = Contains (map place marks) c

-- the deviations outside are 0
abbrev pub StandsAt : Problem → List Mark → Point → Type 0
StandsAt p inside x = Solves p x × All (λ m. (IsIn (place m) inside → ⊥) → x.num (place m) ≡ pos 0)
    (marks_of (lines p))

-- the two points have the same value at the column
abbrev pub Agree : ℕ → Point → Point → Type 0
Agree c x y = x.num c *ℤ y.num one_column ≡ y.num c *ℤ x.num one_column

-- as many marks as held rows, with exactly one solution
pub record IsCorner (p : Problem) (inside : List Mark) : Type 0 where
  pub count : length inside ≡ length p.rows
  pub marks : All (λ m. Contains (map place (marks_of (lines p))) (place m)) inside
  pub apart : AllPairs (λ m n. place m ≢ place n) inside
  pub point : Point
  pub stands : StandsAt p inside point
  pub marks_fixed : (y : Point) → StandsAt p inside y
      → All (λ m. Agree (place m) point y) (marks_of (lines p))
  pub attrs_fixed : (y : Point) → StandsAt p inside y → All (λ s. Agree (attr_column s.attr) point y) p.stays

-- in each solution the quantity is the form of outside marks over `scale`, and `num / den`, its value at the
-- corner; the scale and the form are in joint lowest terms
pub record IsWritingOf (p : Problem) (at : List Mark) (quantity : (ℕ → ℤ) → ℤ) (scale : ℕ) (form : List Term)
    (num : ℤ) (den : ℕ) : Type 0 where
  pub scale_positive : 0 < scale
  pub den_positive : 0 < den
  pub outside : (v : ℕ) → coefficient v form ≢ pos 0
      → Contains (map place (marks_of (lines p))) v × (IsIn v at → ⊥)
  pub holds : (x : Point) → Solves p x → pos den *ℤ (pos scale *ℤ quantity x.num -ℤ value_at x.num form)
      ≡ pos scale *ℤ (num *ℤ x.num one_column)
  pub lowest : (k : ℕ) → ((v : ℕ) → (z : ℤ) × (coefficient v form ≡ pos k *ℤ z)) → (n : ℕ) × (scale ≡ k * n)
      → k ≡ 1

-- an exchange: the mark that enters, and the one that leaves
pub record Swap : Type 0 where
  pub enter : Mark
  pub leave : Mark

-- the corner after an exchange
abbrev pub exchanged : Swap → List Mark → List Mark
exchanged s [] = []
exchanged s (m ∷ ms) = cond (nat_eq (place m) (place s.leave)) s.enter m ∷ exchanged s ms

-- the corners along the exchanges, by their marks, the first one and the last among them
abbrev pub corners : List Mark → List Swap → List (List Mark)
corners at [] = at ∷ []
corners at (s ∷ swaps) = at ∷ corners (exchanged s at) swaps

-- two corners with the same marks
abbrev pub SameMarks : List Mark → List Mark → Type 0
SameMarks a b = All (λ m. IsIn (place m) b) a × All (λ m. IsIn (place m) a) b

-- no two of the corners have the same marks
abbrev pub ArePairwiseDifferent : List (List Mark) → Type 0
ArePairwiseDifferent cs = AllPairs (λ a b. SameMarks a b → ⊥) cs

-- ---- reduced costs at a corner

-- the reduced cost of a mark at a level
abbrev pub column : Multipliers → Side → Line → ℕ → ℤ
column m Under l level = under m l level
column m Over l level = over m l level

-- the multipliers that make the column of each inside mark 0
pub record AreMultipliersAt (p : Problem) (inside : List Mark) (m : Multipliers) : Type 0 where
  pub scales : (level : ℕ) → 0 < m.scale level
  pub cancel : (level v : ℕ) → sum_of (λ l. m.times level l.name *ℤ coefficient v l.form) (lines p) ≡ pos 0
  pub inside_zero : (side : Side) → All (λ l. IsIn (place_of l.name side) inside → (level : ℕ)
      → column m side l level ≡ pos 0) (lines p)

-- the first number that isn't 0 is below 0
abbrev pub IsLexNegative : (ℕ → ℤ) → Type 0
IsLexNegative f = (level : ℕ) × ((k : ℕ) → k < level → f k ≡ pos 0) × (f level <ℤ pos 0)

-- by multipliers of the corner, no mark's column is lexicographically negative
abbrev pub NoNegativeColumn : Problem → List Mark → Type 0
NoNegativeColumn p inside = (m : Multipliers) × AreMultipliersAt p inside m
    × ((side : Side) → All (λ l. IsLexNonnegative (column m side l)) (lines p))

-- no inside mark has a negative value at the corner
abbrev pub NoNegativeValue : Problem → List Mark → Type 0
NoNegativeValue p inside = (x : Point) × StandsAt p inside x × All (λ m. pos 0 ≤ℤ x.num (place m)) inside

-- the mark's column is lexicographically negative
abbrev pub HasNegativeColumn : Problem → List Mark → Mark → Type 0
HasNegativeColumn p inside mark = (m : Multipliers) × AreMultipliersAt p inside m
    × Any (λ l. (place_of l.name mark.side ≡ place mark) × IsLexNegative (column m mark.side l)) (lines p)

-- the mark's value at the corner is negative
abbrev pub HasNegativeValue : Problem → List Mark → Mark → Type 0
HasNegativeValue p inside mark = (x : Point) × StandsAt p inside x × (x.num (place mark) <ℤ pos 0)

-- one exchange: of an outside mark for an inside one
pub record IsExchange (p : Problem) (at : List Mark) (s : Swap) : Type 0 where
  pub enters : IsIn (place s.enter) at → ⊥
  pub leaves : IsIn (place s.leave) at
  pub corner : IsCorner p (exchanged s at)

-- a number above 0 has a size above 0
pub abs_positive : (z : ℤ) → pos 0 <ℤ z → 0 < nat_abs z
abs_positive (pos zero) h = absurd h.lt
abs_positive (pos (suc n)) h = zero-lt-suc n
abs_positive (negsuc n) h = absurd h.lt

-- the attributes' values at a point
abbrev pub assignment_at : Point → Assignment
assignment_at x = record {
  den = nat_abs (x.num one_column);
  num = λ v. x.num (attr_column v);
  positive = abs_positive (x.num one_column) x.positive;
}
