-- A row's constant, and the last one that it gets.
use Rattle.std.proofs.Common.{◌≡◌, ◌∙◌, ℕ, Bool, true, false, cond, nat_eq, List, [], ◌∷◌, ◌++◌, map, refl, sym, ap, ap₂}
use Rattle.frac_core.specs.Fraction.{Fraction}
use Rattle.problem_core.specs.Layout.{Line, Problem, Row, line_of_row, stay_lines}
use Rattle.corner_lines.specs.Fronts.{constantless}
use Rattle.corner_lines.specs.Shifts.{AreSeenAlike, has_constant, with_constant}
use Rattle.corner_lines.proofs.ProblemChanges.Shifted.{changed}
use Rattle.sweep_laws.specs.Laws.{ConstantsAreSeenAlike, LastConstantStands}

-- ---- the last constant stands

changed_last : (same : Bool) (a b : Fraction) (r : Row) (id : ℕ) → nat_eq r.id id ≡ same → has_constant id a (cond same (changed b r) r) ≡ cond same (changed a r) r
changed_last true a b r id is = ap (λ (s : Bool). cond s (changed a (changed b r)) (changed b r)) is
changed_last false a b r id is = ap (λ (s : Bool). cond s (changed a r) r) is

row_last : (id : ℕ) (a b : Fraction) (r : Row) → has_constant id a (has_constant id b r) ≡ has_constant id a r
row_last id a b r = changed_last (nat_eq r.id id) a b r id refl

rows_last : (id : ℕ) (a b : Fraction) (rows : List Row) → map (has_constant id a) (map (has_constant id b) rows) ≡ map (has_constant id a) rows
rows_last id a b [] = refl
rows_last id a b (r ∷ rows) = ap₂ (λ (first : Row) (rest : List Row). first ∷ rest) (row_last id a b r) (rows_last id a b rows)

abbrev with_rows : Problem → List Row → Problem
with_rows p rows = record { rows = rows; stays = p.stays }

pub last_constant_stands : LastConstantStands
last_constant_stands p row a b = ap (λ (rows : List Row). with_rows p rows) (rows_last row a b p.rows)

-- ---- the lines are as they were but for the constant

row_seen : (same : Bool) (f : Fraction) (r : Row) → constantless (line_of_row (cond same (changed f r) r)) ≡ constantless (line_of_row r)
row_seen true f r = refl
row_seen false f r = refl

rows_seen : (id : ℕ) (f : Fraction) (rows : List Row) (rest : List Line) → map constantless (map line_of_row (map (has_constant id f) rows) ++ rest) ≡ map constantless (map line_of_row rows ++ rest)
rows_seen id f [] rest = refl
rows_seen id f (r ∷ rows) rest = ap₂ (λ (l : Line) (ls : List Line). l ∷ ls) (row_seen (nat_eq r.id id) f r) (rows_seen id f rows rest)

pub constant_seen : (p : Problem) (id : ℕ) (f : Fraction) → AreSeenAlike (with_constant id f p) p
constant_seen p id f = rows_seen id f p.rows (stay_lines 1001 p.stays)

pub constants_are_seen_alike : ConstantsAreSeenAlike
constants_are_seen_alike p row a b = constant_seen p row a ∙ sym (constant_seen p row b)
