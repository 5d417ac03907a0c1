-- How much of an entering mark takes the values of the inside marks to 0.
use Rattle.std.specs.Prelude.{◌≡◌, ◌++◌, ◌∷◌, [], ℕ, List, map, pos, ◌*ℤ◌, ◌<ℤ◌, neg_ℤ, All}
use Rattle.std.specs.Ordering.{int_cmp}
use Rattle.std.specs.declared.cmp.Ordering.{Ordering}
use Rattle.std.specs.declared.option.Option.{Option}
use Rattle.std.specs.declared.option.Option.TheVariants.{Some, None}
use Rattle.problem_core.specs.declared.parts.Mark.{Mark}
use Rattle.problem_core.specs.declared.stops.What.{What}
use Rattle.problem_core.specs.declared.stops.What.TheVariants.{Mark as MarkOf}
use Rattle.problem_core.specs.Layout.{Problem, coefficient}
use Rattle.problem_core.specs.Corners.{IsIn, place}
use Rattle.corner_laws.specs.Runs.{BreaksTie, FallsFirst, Writes, Writing, count_at}
use Rattle.primal_run.specs.declared.ties.Ratio.{Ratio}

-- the inside mark's value falls where the mark with the column c enters, to 0 at this ratio
pub record IsRatioAt (p : Problem) (at : List Mark) (c : ℕ) (r : Ratio) : Type 0 where
  pub inside : IsIn (place r.mark) at
  pub w : Writing
  pub writes : Writes p at (place r.mark) w
  pub by : r.by ≡ coefficient c w.form
  pub falls : r.by <ℤ pos 0
  pub above : r.above ≡ w.num *ℤ pos w.scale
  pub below : r.below ≡ neg_ℤ (pos w.den *ℤ r.by)
  pub positive : pos 0 <ℤ r.below

-- there is no ratio, or it is such a one
abbrev pub IsRatioOrNone : Problem → List Mark → ℕ → Option Ratio → Type 0
IsRatioOrNone p at c None = Unit {0}
IsRatioOrNone p at c (Some r) = IsRatioAt p at c r

-- the mark's value doesn't fall where the mark with the column c enters
abbrev pub NeverFalls : Problem → List Mark → ℕ → Mark → Type 0
NeverFalls p at c m = (w : Writing) → Writes p at (place m) w → coefficient c w.form <ℤ pos 0 → ⊥

-- this holds of the writings of two inside marks
abbrev pub ForWritings : Problem → List Mark → Mark → Mark → (Writing → Writing → Type 0) → Type 0
ForWritings p at m n holds = (v w : Writing) → Writes p at (place m) v → Writes p at (place n) w → holds v w

-- the mark falls to 0 before the other one, or with it and breaks the tie
abbrev pub FallsBefore : Problem → List Mark → ℕ → List Mark → Mark → Mark → Type 0
FallsBefore p at c first m n = ForWritings p at m n
    (λ v w. FallsFirst (map place first) c (place m) v (place n) w)

-- of two marks that fall to 0 together, this one leaves, by what they count at the first corner's marks
abbrev pub WinsTie : Problem → List Mark → ℕ → List Mark → Mark → Mark → Type 0
WinsTie p at c first m n = ForWritings p at m n
    (λ v w. BreaksTie c (place m) v (place n) w (map place first))

-- the order of what two inside marks, written so, count at a mark, each over its coefficient
abbrev pub count_order : Mark → Ratio → Writing → Ratio → Writing → Ordering
count_order f a v b w = int_cmp (count_at (place b.mark) w (place f) *ℤ a.by)
    (count_at (place a.mark) v (place f) *ℤ b.by)

-- it is a ratio, whose mark falls to 0 before both of these, or with one and breaks the tie
pub record IsEarlier (p : Problem) (at : List Mark) (c : ℕ) (first : List Mark) (a b best : Ratio)
    : Type 0 where
  pub ratio : IsRatioAt p at c best
  pub before_a : FallsBefore p at c first best.mark a.mark
  pub before_b : FallsBefore p at c first best.mark b.mark

-- each other mark among these that falls does so after m, or with it and doesn't win the tie
abbrev pub IsFirst : Problem → List Mark → ℕ → List Mark → List What → Mark → Type 0
IsFirst p at c first list m = All (λ x. (n : Mark) → x ≡ MarkOf n → (w : Writing) → Writes p at (place n) w
    → coefficient c w.form <ℤ pos 0 → FallsBefore p at c first m n) list

-- the ratio of the mark among these that falls to 0 first, if one falls
abbrev pub IsFirstOf : Problem → List Mark → ℕ → List Mark → List What → Option Ratio → Type 0
IsFirstOf p at c first list None = All (λ x. (n : Mark) → x ≡ MarkOf n → NeverFalls p at c n) list
IsFirstOf p at c first list (Some r) = IsRatioAt p at c r × IsFirst p at c first list r.mark

-- the same of `next` with one more among these, where it was so of `found`
abbrev pub IsNextFirst : Problem → List Mark → ℕ → List Mark → What → Option Ratio → Option Ratio → Type 0
IsNextFirst p at c first what found next = (list : List What) → IsFirstOf p at c first list found
    → IsFirstOf p at c first (list ++ what ∷ []) next
