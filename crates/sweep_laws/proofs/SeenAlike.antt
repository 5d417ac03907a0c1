-- What does not speak of constants: marks, costs and columns.
use Rattle.std.proofs.Common.{◌≡◌, ◌∙◌, ℕ, ◌*◌, ◌/◌, List, [], ◌∷◌, map, ℤ, pos, ◌+ℤ◌, ◌*ℤ◌, refl, sym, ap, All}
use Rattle.std.specs.List.{AllByRecursion as Each}
use Rattle.std.proofs.lemmas.List.Elements.{All-from_recursion, recursion_from_All}
use Rattle.frac_core.specs.Fraction.{Fraction}
use Rattle.problem_core.specs.declared.parts.Mark.{Mark}
use Rattle.problem_core.specs.declared.parts.Side.{Side}
use Rattle.problem_core.specs.declared.parts.Side.TheVariants.{Under, Over}
use Rattle.problem_core.specs.Layout.{Line, Problem, coefficient, lines, product_of, sum_of}
use Rattle.problem_core.specs.Certificates.{IsLexNonnegative, Multipliers}
use Rattle.problem_core.specs.Corners.{AreMultipliersAt, IsIn, NoNegativeColumn, column, place_of}
use Rattle.problem_core.specs.Levels.{cost_at, line_cost, scales}
use Rattle.corner_lines.specs.Fronts.{constantless}
use Rattle.corner_lines.specs.Shifts.{AreSeenAlike, with_constant}
use Rattle.corner_lines.proofs.LevelRows.LevelSound.{seen-each}
use Rattle.sweep_laws.specs.Laws.{ColumnsAtEach}
use Rattle.sweep_laws.proofs.OneConstant.{constant_seen, constants_are_seen_alike}

pub each-seen : (P : Line → Type 0) (p q : Problem) → AreSeenAlike p q → Each (λ l. P (constantless l)) (lines p) → Each (λ l. P (constantless l)) (lines q)
each-seen P p q same h = seen-each constantless P (lines p) (lines q) same h

all-seen : (P : Line → Type 0) (p q : Problem) → AreSeenAlike p q → All (λ l. P (constantless l)) (lines p) → All (λ l. P (constantless l)) (lines q)
all-seen P p q same h = All-from_recursion (λ l. P (constantless l)) (lines q) (each-seen P p q same (recursion_from_All (λ l. P (constantless l)) (lines p) h))

sum-map : (f : Line → ℤ) (ls : List Line) → sum_of f (map constantless ls) ≡ sum_of (λ l. f (constantless l)) ls
sum-map f [] = refl
sum-map f (l ∷ ls) = ap (λ (z : ℤ). f (constantless l) +ℤ z) (sum-map f ls)

sum-seen : (f : Line → ℤ) (p q : Problem) → AreSeenAlike p q → sum_of (λ l. f (constantless l)) (lines p) ≡ sum_of (λ l. f (constantless l)) (lines q)
sum-seen f p q same = sym (sum-map f (lines p)) ∙ ap (sum_of f) same ∙ sum-map f (lines q)

product-map : (f : Line → ℕ) (ls : List Line) → product_of f (map constantless ls) ≡ product_of (λ l. f (constantless l)) ls
product-map f [] = refl
product-map f (l ∷ ls) = ap (λ (n : ℕ). f (constantless l) * n) (product-map f ls)

scales-seen : (p q : Problem) → AreSeenAlike p q → scales p ≡ scales q
scales-seen p q same = sym (product-map (λ l. l.scale) (lines p)) ∙ ap (product_of (λ (l : Line). l.scale)) same ∙ product-map (λ l. l.scale) (lines q)

-- a level costs the same
pub cost-seen : (p q : Problem) (level : ℕ) (n : ℕ → ℤ) → AreSeenAlike p q → cost_at p level n ≡ cost_at q level n
cost-seen p q level n same =
    sum-seen (λ l. pos (scales p / l.scale) *ℤ line_cost level n l) p q same
    ∙ ap (λ (whole : ℕ). sum_of (λ l. pos (whole / l.scale) *ℤ line_cost level n l) (lines q)) (scales-seen p q same)

pub cost-with : (p : Problem) (row level : ℕ) (a b : Fraction) (n : ℕ → ℤ) → cost_at (with_constant row a p) level n ≡ cost_at (with_constant row b p) level n
cost-with p row level a b n = cost-seen (with_constant row a p) (with_constant row b p) level n (constants_are_seen_alike p row a b)

pub cost-own : (p : Problem) (row level : ℕ) (a : Fraction) (n : ℕ → ℤ) → cost_at (with_constant row a p) level n ≡ cost_at p level n
cost-own p row level a n = cost-seen (with_constant row a p) p level n (constant_seen p row a)

-- no column is negative
multipliers-seen : (p q : Problem) (at : List Mark) (m : Multipliers) → AreSeenAlike p q → AreMultipliersAt p at m → AreMultipliersAt q at m
multipliers-seen p q at m same are = record {
  scales = are.scales;
  cancel = λ level v. sym (sum-seen (λ l. m.times level l.name *ℤ coefficient v l.form) p q same) ∙ are.cancel level v;
  inside_zero = on-side;
}
  where
    on-side : (side : Side) → All (λ l. IsIn (place_of l.name side) at → (level : ℕ) → column m side l level ≡ pos 0) (lines q)
    on-side Under = all-seen (λ l. IsIn (place_of l.name Under) at → (level : ℕ) → column m Under l level ≡ pos 0) p q same (are.inside_zero Under)
    on-side Over = all-seen (λ l. IsIn (place_of l.name Over) at → (level : ℕ) → column m Over l level ≡ pos 0) p q same (are.inside_zero Over)

pub columns-seen : (p q : Problem) (at : List Mark) → AreSeenAlike p q → NoNegativeColumn p at → NoNegativeColumn q at
columns-seen p q at same (m, are, up) = (m, multipliers-seen p q at m same are, on-side)
  where
    on-side : (side : Side) → All (λ l. IsLexNonnegative (column m side l)) (lines q)
    on-side Under = all-seen (λ l. IsLexNonnegative (column m Under l)) p q same (up Under)
    on-side Over = all-seen (λ l. IsLexNonnegative (column m Over l)) p q same (up Over)

pub columns_at_each : ColumnsAtEach
columns_at_each p row at a b h = columns-seen (with_constant row a p) (with_constant row b p) at (constants_are_seen_alike p row a b) h
