-- Rows of all levels, from those of the levels with lines, by places.
use Rattle.std.proofs.Common.{◌≡◌, ◌∙◌, ◌⊎◌, ℕ, ◌<◌, List, ℤ, pos, get_or, refl, ap, subst, inl, inr}
use Rattle.problem_core.specs.declared.parts.Mark.{Mark}
use Rattle.problem_core.specs.declared.parts.RowName.{RowName}
use Rattle.problem_core.specs.declared.parts.Side.{Side}
use Rattle.problem_core.specs.Layout.{Line, Problem, lines}
use Rattle.corner_laws.specs.Units.{IsLevelUnit}
use Rattle.corner_lines.specs.Levels.LevelRows.{reduced_number}
use Rattle.corner_lines.specs.Fronts.{Rows, costs_of}
use Rattle.corner_lines.proofs.FrontSigns.{reduced_elsewhere}
use Rattle.corner_lines.proofs.LevelRows.LevelJoins.{empty_level_has_row}
use Rattle.path_lines.specs.Tables.{line_count, numbers_of}
use Rattle.path_lines.proofs.Places.{any_line}
use Rattle.path_levels.proofs.Judging.FirstSigns.{ArePlacedCosts, Found, IsRising, find, rising_same}
use Rattle.path_levels.proofs.Judging.OwnColumns.{AreMultiples, HasMultiple, line_at, row_is_multiple}
use Rattle.corner_lines.proofs.LevelRows.StayRows.{turned-zero as turned-none}
use Rattle.problem_core.proofs.Lines.{weight-none as no_weight}

-- the rows of so many levels, by their places: the level's number, its unit, its own number, and the lines'
pub record Placed : Type 0 where
  pub count : ℕ
  pub level : ℕ → ℕ
  pub unit : ℕ → ℕ
  pub own : ℕ → ℕ
  pub by : ℕ → List ℤ

-- they are the corner's, and each line stands at one of them
pub record ArePlaced (p : Problem) (at : List Mark) (q : Placed) : Type 0 where
  pub rising : IsRising q.count q.level
  pub rows : (k : ℕ) → k < q.count → IsLevelUnit p (q.level k) (q.unit k) × HasMultiple p at (q.level k) (q.unit k) (q.own k) (numbers_of (lines p) (q.by k))
  pub all : (i : ℕ) (d : Line) → i < line_count p → (k : ℕ) × (k < q.count) × (q.level k ≡ (get_or (lines p) i d).level)

-- ---- at all levels

abbrev pub natural_by : (count : ℕ) (number : ℕ → ℕ) (z : ℕ) → (ℕ → ℕ) → Found count number z → ℕ
natural_by count number z f (inl (k, within, e)) = f k
natural_by count number z f (inr none) = 1

abbrev pub numbers_by : (count : ℕ) (number : ℕ → ℕ) (z : ℕ) → (ℕ → RowName → ℤ) → Found count number z → RowName → ℤ
numbers_by count number z f (inl (k, within, e)) = f k
numbers_by count number z f (inr none) = λ name. pos 0

abbrev pub rows_of : Problem → Placed → Rows
rows_of p q = record {
  unit = λ z. natural_by q.count q.level z q.unit (find q.count q.level z);
  own = λ z. natural_by q.count q.level z q.own (find q.count q.level z);
  number = λ z. numbers_by q.count q.level z (λ k. numbers_of (lines p) (q.by k)) (find q.count q.level z);
}

elsewhere : (p : Problem) (at : List Mark) (q : Placed) (z i : ℕ) (d : Line) → ArePlaced p at q → i < line_count p → ((k : ℕ) → k < q.count → q.level k ≡ z → ⊥) → (get_or (lines p) i d).level ≡ z → ⊥
elsewhere p at q z i d are within none same = let there = are.all i d within in none there.0 there.1 (there.2 ∙ same)

multiple-by : (p : Problem) (at : List Mark) (q : Placed) (z : ℕ) → ArePlaced p at q → (f : Found q.count q.level z)
    → IsLevelUnit p z (natural_by q.count q.level z q.unit f) × HasMultiple p at z (natural_by q.count q.level z q.unit f) (natural_by q.count q.level z q.own f) (numbers_by q.count q.level z (λ k. numbers_of (lines p) (q.by k)) f)
multiple-by p at q z are (inl (k, within, e)) = subst (λ (n : ℕ). IsLevelUnit p n (q.unit k) × HasMultiple p at n (q.unit k) (q.own k) (numbers_of (lines p) (q.by k))) e (are.rows k within)
multiple-by p at q z are (inr none) =
    let empty = empty_level_has_row p at z (λ i d within. no_weight (get_or (lines p) i d) z (elsewhere p at q z i d are within none)) in
    (empty.0, row_is_multiple p at z 1 1 (λ name. pos 0) empty.1)

pub are_multiples : (p : Problem) (at : List Mark) (q : Placed) → ArePlaced p at q → AreMultiples p at (rows_of p q)
are_multiples p at q are = λ z. multiple-by p at q z are (find q.count q.level z)

-- ---- costs

abbrev pub place_cost : Problem → Placed → Side → Line → ℕ → ℤ
place_cost p q side l k = reduced_number side (q.level k) (q.unit k) (q.own k) (numbers_of (lines p) (q.by k) l.name) l

cost-by : (p : Problem) (at : List Mark) (q : Placed) (side : Side) (l : Line) (k : ℕ) → ArePlaced p at q → k < q.count → (f : Found q.count q.level (q.level k))
    → reduced_number side (q.level k) (natural_by q.count q.level (q.level k) q.unit f) (natural_by q.count q.level (q.level k) q.own f) (numbers_by q.count q.level (q.level k) (λ j. numbers_of (lines p) (q.by j)) f l.name) l ≡ place_cost p q side l k
cost-by p at q side l k are within (inl (j, less, e)) =
    ap (λ (n : ℕ). reduced_number side (q.level k) (q.unit n) (q.own n) (numbers_of (lines p) (q.by n) l.name) l) (rising_same q.count q.level j k are.rising less within e)
cost-by p at q side l k are within (inr none) = absurd (none k within refl)

none-by : (p : Problem) (at : List Mark) (q : Placed) (side : Side) (i z : ℕ) → ArePlaced p at q → i < line_count p → (f : Found q.count q.level z)
    → ((k : ℕ) × (k < q.count) × (q.level k ≡ z)) ⊎ (reduced_number side z (natural_by q.count q.level z q.unit f) (natural_by q.count q.level z q.own f) (numbers_by q.count q.level z (λ j. numbers_of (lines p) (q.by j)) f (line_at p i).name) (line_at p i) ≡ pos 0)
none-by p at q side i z are within (inl found) = inl found
none-by p at q side i z are within (inr none) = inr (reduced_elsewhere side z 1 1 (pos 0) (line_at p i) (elsewhere p at q z i any_line are within none) ∙ turned-none side)

pub placed_costs : (p : Problem) (at : List Mark) (q : Placed) (side : Side) (i : ℕ) → ArePlaced p at q → i < line_count p → ArePlacedCosts q.count q.level (costs_of (rows_of p q) side (line_at p i)) (place_cost p q side (line_at p i))
placed_costs p at q side i are within = record {
  rising = are.rising;
  same = λ k less. cost-by p at q side (line_at p i) k are less (find q.count q.level (q.level k));
  others = λ z. none-by p at q side i z are within (find q.count q.level z);
}
