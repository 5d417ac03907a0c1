-- A row's constant changes at a corner whose marks stay.
use Rattle.std.specs.Prelude.{◌≡◌, ℕ, ◌<◌, List, cond, nat_eq, map, ℤ, pos, negsuc, All, Any}
use Rattle.frac_core.specs.Fraction.{Fraction, IsRatio, sum_den, sum_num}
use Rattle.problem_core.specs.declared.parts.Mark.{Mark}
use Rattle.problem_core.specs.declared.parts.RowName.{RowName}
use Rattle.problem_core.specs.declared.parts.RowName.TheVariants.{Held}
use Rattle.problem_core.specs.Layout.{Problem, Row, lines}
use Rattle.corner_lines.specs.Fronts.{constantless}
use Rattle.corner_lines.specs.LineEquations.{IsLineEquation, deviation}

-- the row with this constant, if its number is `id`, and otherwise as it is
abbrev pub has_constant : ℕ → Fraction → Row → Row
has_constant id f r = cond (nat_eq r.id id) (record {
  id = r.id;
  rank = r.rank;
  weight = r.weight;
  rel = r.rel;
  scale = r.scale;
  constant = f;
  terms = r.terms;
}) r

-- the problem with another constant in one row
abbrev pub with_constant : ℕ → Fraction → Problem → Problem
with_constant id f p = record { rows = map (has_constant id f) p.rows; stays = p.stays }

-- the two problems have the same lines except for constants and targets
abbrev pub AreSeenAlike : Problem → Problem → Type 0
AreSeenAlike p q = map constantless (lines p) ≡ map constantless (lines q)

-- the problem has the row, its constant is `from`, and `to` is `more` above it
pub record IsShift (p : Problem) (id : ℕ) (from to more : Fraction) : Type 0 where
  pub held : Any (λ r. r.id ≡ id) p.rows
  pub constant : All (λ r. r.id ≡ id → r.constant ≡ from) p.rows
  pub from_positive : 0 < from.den
  pub to_positive : 0 < to.den
  pub more_positive : 0 < more.den
  pub difference : IsRatio more (sum_num to (negsuc 0) (pos 1) from) (sum_den to (pos 1) from)

-- a quantity other than the row's deviation: its value grows by the row's number over `own` times the
-- difference
abbrev pub ShiftsByNumber : Problem → List Mark → ℕ → Fraction → Fraction → ((ℕ → ℤ) → ℤ) → Type 0
ShiftsByNumber p at id to more quantity = (own : ℕ) (by : RowName → ℤ) (value : Fraction) (num : ℤ) (den : ℕ)
    → IsLineEquation p at quantity own by value.num value.den
    → 0 < den → IsRatio (record { num = num; den = den })
    (sum_num value (by (Held id)) (pos own) more) (sum_den value (pos own) more)
    → IsLineEquation (with_constant id to p) at quantity own by num den

-- if the row is inside, the value of its deviation falls by the difference
abbrev pub ShiftsBack : Problem → List Mark → ℕ → Fraction → Fraction → Type 0
ShiftsBack p at id to more = (own : ℕ) (by : RowName → ℤ) (value : Fraction) (num : ℤ) (den : ℕ)
    → IsLineEquation p at (deviation (Held id)) own by value.num value.den → by (Held id) ≡ pos 0
    → 0 < den → IsRatio (record { num = num; den = den })
    (sum_num value (negsuc 0) (pos 1) more) (sum_den value (pos 1) more)
    → IsLineEquation (with_constant id to p) at (deviation (Held id)) own by num den
