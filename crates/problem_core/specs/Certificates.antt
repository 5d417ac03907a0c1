-- What shows a conflict, and what shows that an assignment is best: multipliers of the rows.
use Rattle.std.specs.Prelude.{◌≡◌, ℕ, ◌*◌, ◌/◌, ◌<◌, cond, nat_eq, List, filter, ℤ, pos, ◌+ℤ◌, ◌-ℤ◌, ◌*ℤ◌}
use Rattle.std.specs.Prelude.{◌≤ℤ◌, ◌<ℤ◌, All}
use Rattle.problem_core.specs.declared.parts.Rel.{Rel}
use Rattle.problem_core.specs.declared.parts.Rel.TheVariants.{Eq, Le, Ge}
use Rattle.problem_core.specs.declared.parts.RowName.{RowName}
use Rattle.problem_core.specs.Layout.{Row, Line, Problem, Assignment, Satisfies, lines, gap, coefficient}
use Rattle.problem_core.specs.Layout.{share, sum_of, product_of}
use Rattle.problem_core.specs.declared.limits.TheConstants.{REQUIRED}

-- ---- conflict

-- the required rows of the problem
abbrev pub required : Problem → List Row
required p = filter (λ r. nat_eq r.rank REQUIRED) p.rows

-- the relation allows a multiplier of this sign
abbrev pub HasSign : Rel → ℤ → Type 0
HasSign Eq y = Unit {0}
HasSign Ge y = pos 0 ≤ℤ y
HasSign Le y = y ≤ℤ pos 0

-- the required rows, each times its multiplier y, add up to `0 >= c` with c above 0
pub record IsRefutation (p : Problem) (y : ℕ → ℤ) : Type 0 where
  pub cancel : (v : ℕ) → sum_of (λ r. y r.id *ℤ coefficient v r.terms) (required p) ≡ pos 0
  pub signs : All (λ r. HasSign r.rel (y r.id)) (required p)
  pub above_zero : pos 0 <ℤ sum_of (λ r. y r.id
      *ℤ (r.constant.num *ℤ pos (product_of (λ s. s.constant.den) (required p) / r.constant.den)))
      (required p)

-- ---- certificates

-- a multiplier for each line at each level, over the level's scale
pub record Multipliers : Type 0 where
  pub scale : ℕ → ℕ
  pub times : ℕ → RowName → ℤ

-- what one point below costs, where these are the relation and the weight
abbrev pub under_weight : Rel → ℕ → ℕ
under_weight Eq w = w
under_weight Ge w = w
under_weight Le w = 0

-- what one point above costs, where these are the relation and the weight
abbrev pub over_weight : Rel → ℕ → ℕ
over_weight Eq w = w
over_weight Ge w = 0
over_weight Le w = w

-- the line's weight at a level: 0 at each but its own
abbrev pub weight_at : Line → ℕ → ℕ
weight_at l level = cond (nat_eq l.level level) l.weight 0

-- the reduced cost of the line's under side at a level
abbrev pub under : Multipliers → Line → ℕ → ℤ
under m l level = pos (m.scale level * under_weight l.rel (weight_at l level))
    -ℤ pos l.scale *ℤ m.times level l.name

-- the reduced cost of the line's over side at a level
abbrev pub over : Multipliers → Line → ℕ → ℤ
over m l level = pos (m.scale level * over_weight l.rel (weight_at l level))
    +ℤ pos l.scale *ℤ m.times level l.name

-- scale times the level's cost at a point without slack, over `common`
abbrev pub constant : Multipliers → List Line → ℕ → ℤ
constant m ls level = sum_of (λ l. m.times level l.name *ℤ (l.num *ℤ pos (share ls l * l.scale))) ls

-- no number that has only zeros before it is negative: all are 0, or the first that isn't 0 is above 0
abbrev pub IsLexNonnegative : (ℕ → ℤ) → Type 0
IsLexNonnegative column = (level : ℕ) → ((k : ℕ) → k < level → column k ≡ pos 0) → pos 0 ≤ℤ column level

-- what shows that x is best: it satisfies the problem, no scale is 0, the forms cancel at each level, no
-- column is lexicographically negative, and the column of each side that x uses is all 0
pub record IsCertificate (p : Problem) (x : Assignment) (m : Multipliers) : Type 0 where
  pub required : Satisfies p x
  pub scales : (level : ℕ) → 0 < m.scale level
  pub cancel : (level v : ℕ) → sum_of (λ l. m.times level l.name *ℤ coefficient v l.form) (lines p) ≡ pos 0
  pub under_columns : All (λ l. IsLexNonnegative (under m l)) (lines p)
  pub over_columns : All (λ l. IsLexNonnegative (over m l)) (lines p)
  pub under_used : All (λ l. gap x l <ℤ pos 0 → (level : ℕ) → under m l level ≡ pos 0) (lines p)
  pub over_used : All (λ l. pos 0 <ℤ gap x l → (level : ℕ) → over m l level ≡ pos 0) (lines p)
