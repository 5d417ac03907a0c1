-- Layout problems: assignments, rows, stays, errors, vectors of errors, and the best assignment.
use Rattle.std.specs.Prelude.{◌≡◌, ℕ, ◌+◌, ◌-◌, ◌*◌, ◌/◌, ◌<◌, ◌≤◌, cond, nat_eq, List, [], ◌∷◌, ◌++◌, map, ℤ}
use Rattle.std.specs.Prelude.{pos, negsuc, ◌-ℤ◌, ◌*ℤ◌, All, codes}
use Rattle.std.specs.List.{Any}
use Rattle.frac_core.specs.Fraction.{Fraction}
pub use Rattle.frac_core.specs.Sums.{sum_of}
use Rattle.problem_core.specs.declared.parts.Rel.{Rel}
use Rattle.problem_core.specs.declared.parts.Rel.TheVariants.{Eq, Le, Ge}
use Rattle.problem_core.specs.declared.parts.RowName.{RowName}
use Rattle.problem_core.specs.declared.parts.RowName.TheVariants.{Held, Stay as StayOf}
use Rattle.problem_core.specs.declared.parts.Term.{Term}
use Rattle.problem_core.specs.declared.parts.Stay.{Stay}
use Rattle.problem_core.specs.declared.limits.TheConstants.{FIRST_STAY_LEVEL, REQUIRED}

-- ---- words for sums, beside `sum_of`

-- the sum of what f gives for each element, where f gives counts
abbrev pub count_of : {A : Type 0} → (A → ℕ) → List A → ℕ
count_of f [] = 0
count_of f (x ∷ xs) = f x + count_of f xs

-- the product of what f gives for each element, 1 where there is none
abbrev pub product_of : {A : Type 0} → (A → ℕ) → List A → ℕ
product_of f [] = 1
product_of f (x ∷ xs) = f x * product_of f xs

-- how far z is above 0, 0 where it isn't
abbrev pub above : ℤ → ℕ
above (pos n) = n
above (negsuc n) = 0

-- how far z is below 0, 0 where it isn't
abbrev pub below : ℤ → ℕ
below (pos n) = 0
below (negsuc n) = n + 1

-- ---- assignments

-- the attribute v has the value num v / den
pub record Assignment : Type 0 where
  pub den : ℕ
  pub num : ℕ → ℤ
  pub positive : 0 < den

-- ---- linear forms

-- the coefficient of v
abbrev pub coefficient : ℕ → List Term → ℤ
coefficient v form = sum_of (λ e. cond (nat_eq e.attr v) e.by (pos 0)) form

-- the form's value where the attribute v is n v
abbrev pub value_at : (ℕ → ℤ) → List Term → ℤ
value_at n form = sum_of (λ e. e.by *ℤ n e.attr) form

-- ---- rows and problems

-- the sign of a relation
abbrev pub rel_word : Rel → List ℕ
rel_word Eq = codes "=="
rel_word Le = codes "<="
rel_word Ge = codes ">="

-- the constraint `terms rel constant`, whose coefficients are scale times those that were written
pub record Row : Type 0 where
  pub id : ℕ
  pub rank : ℕ
  pub weight : ℕ
  pub rel : Rel
  pub scale : ℕ
  pub constant : Fraction
  pub terms : List Term

-- rows, and stays, of which earlier ones are stronger
pub record Problem : Type 0 where
  pub rows : List Row
  pub stays : List Stay

-- the level of the rows of a rank: 0 for the required ones, 1 for the strongest priority below, and so on
abbrev pub rank_level : ℕ → ℕ
rank_level rank = REQUIRED - rank

-- a row or a stay with its name and its level: that of its rank for a row, and for the stays, in their order,
-- those from the first stay's on
pub record Line : Type 0 where
  pub name : RowName
  pub level : ℕ
  pub weight : ℕ
  pub rel : Rel
  pub scale : ℕ
  pub num : ℤ
  pub den : ℕ
  pub form : List Term

-- the row as a line, at the level of its rank
abbrev pub line_of_row : Row → Line
line_of_row r = record {
  name = Held r.id;
  level = rank_level r.rank;
  weight = r.weight;
  rel = r.rel;
  scale = r.scale;
  num = r.constant.num;
  den = r.constant.den;
  form = r.terms;
}

-- the row `attr == num / den`
abbrev pub line_of_stay : ℕ → Stay → Line
line_of_stay level s = record {
  name = StayOf s.attr;
  level = level;
  weight = 1;
  rel = Eq;
  scale = 1;
  num = s.target.num;
  den = s.target.den;
  form = record { attr = s.attr; by = pos 1 } ∷ [];
}

-- the stays as lines, the first at this level, and each other one level further
abbrev pub stay_lines : ℕ → List Stay → List Line
stay_lines level [] = []
stay_lines level (s ∷ rest) = line_of_stay level s ∷ stay_lines (level + 1) rest

-- the lines of a problem: its rows, then its stays
abbrev pub lines : Problem → List Line
lines p = map line_of_row p.rows ++ stay_lines FIRST_STAY_LEVEL p.stays

-- no scale and no denominator is 0, as the type of a problem promises
abbrev pub IsProblem : Problem → Type 0
IsProblem p = All (λ l. (0 < l.scale) × (0 < l.den)) (lines p)

-- ---- gaps and errors

-- the gap of a line at x is this number over `x.den * den * scale`
abbrev pub gap : Assignment → Line → ℤ
gap x l = pos l.den *ℤ value_at x.num l.form -ℤ l.num *ℤ pos x.den

-- of a gap: its size at `==`, what it lacks to 0 at `>=`, what it has above 0 at `<=`
abbrev pub error_of : Rel → ℤ → ℕ
error_of Eq g = above g + below g
error_of Ge g = below g
error_of Le g = above g

-- the error of a line at x is this number over `x.den * den * scale`
abbrev pub error : Assignment → Line → ℕ
error x l = error_of l.rel (gap x l)

-- ---- vectors

-- a common denominator of all errors
abbrev pub common : List Line → ℕ
common ls = product_of (λ l. l.scale * l.den) ls

-- an error over `x.den * den * scale` is `share` times as much over `x.den * common`
abbrev pub share : List Line → Line → ℕ
share ls l = common ls / (l.scale * l.den)

-- the sum of the weighted errors at this level, over `x.den * common`
abbrev pub cost : List Line → Assignment → ℕ → ℕ
cost ls x level = count_of (λ l. cond (nat_eq l.level level) (l.weight * error x l * share ls l) 0) ls

-- at the first level where they differ, x costs less than y
abbrev pub IsLess : Problem → Assignment → Assignment → Type 0
IsLess p x y =
    (level : ℕ)
    × ((k : ℕ) → k < level → cost (lines p) x k * y.den ≡ cost (lines p) y k * x.den)
    × (cost (lines p) x level * y.den < cost (lines p) y level * x.den)

-- ---- the best assignment

-- each required row has no error at x
abbrev pub Satisfies : Problem → Assignment → Type 0
Satisfies p x = All (λ r. r.rank ≡ REQUIRED → error x (line_of_row r) ≡ 0) p.rows

-- no assignment satisfies the problem
abbrev pub IsInConflict : Problem → Type 0
IsInConflict p = (x : Assignment) → Satisfies p x → ⊥

-- x satisfies the problem, and no assignment is less
abbrev pub IsBest : Problem → Assignment → Type 0
IsBest p x = Satisfies p x × ((y : Assignment) → IsLess p y x → ⊥)

-- x and y give each attribute that has a stay the same value
abbrev pub AreSame : Problem → Assignment → Assignment → Type 0
AreSame p x y = All (λ s. x.num s.attr *ℤ pos y.den ≡ y.num s.attr *ℤ pos x.den) p.stays

-- the stays' targets are x's values
abbrev pub StandAt : Assignment → List Stay → Type 0
StandAt x stays = All (λ s. gap x (line_of_stay 0 s) ≡ pos 0) stays

-- x gives each listed attribute its fraction
abbrev pub Gives : List (ℕ × Fraction) → Assignment → Type 0
Gives values x = All (λ v. x.num v.0 *ℤ pos v.1.den ≡ v.1.num *ℤ pos x.den) values

-- one of the stays is the attribute's
abbrev pub HasStay : List Stay → ℕ → Type 0
HasStay stays attr = Any (λ s. s.attr ≡ attr) stays

-- each attribute of the row has a stay
abbrev pub IsCovered : List Stay → Row → Type 0
IsCovered stays r = All (λ t. HasStay stays t.attr) r.terms

-- besides, no rank is above that of required rows, no weight is 0, and each attribute of a row has a stay
pub record IsProper (p : Problem) : Type 0 where
  pub problem : IsProblem p
  pub ranks : All (λ r. r.rank ≤ REQUIRED) p.rows
  pub weights : All (λ r. 0 < r.weight) p.rows
  pub covered : All (IsCovered p.stays) p.rows
