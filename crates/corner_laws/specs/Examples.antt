-- Small problems for the words of corners: one attribute with its stay at 0, and one required row `x >= k`.
use Rattle.std.specs.Prelude.{ℕ, [], ◌∷◌, pos}
use Rattle.problem_core.specs.declared.limits.TheConstants.{REQUIRED}
use Rattle.problem_core.specs.declared.parts.Mark.{Mark}
use Rattle.problem_core.specs.declared.parts.Side.TheVariants.{Under, Over}
use Rattle.problem_core.specs.declared.parts.Rel.TheVariants.{Eq, Ge}
use Rattle.problem_core.specs.declared.parts.RowName.TheVariants.{Held, Stay as StayOf}
use Rattle.problem_core.specs.Layout.{Problem, Row}

-- the required row 1, `x >= k`
abbrev pub at_least : ℕ → Row
at_least k = record {
  id = 1;
  rank = REQUIRED;
  weight = 1;
  rel = Ge;
  scale = 1;
  constant = record { num = pos k; den = 1 };
  terms = record { attr = 1; by = pos 1 } ∷ [];
}

-- the required row 2, `x == 5`
abbrev pub equal_five : Row
equal_five = record {
  id = 2;
  rank = REQUIRED;
  weight = 1;
  rel = Eq;
  scale = 1;
  constant = record { num = pos 5; den = 1 };
  terms = record { attr = 1; by = pos 1 } ∷ [];
}

-- `x >= k`, and the stay of x at 0
abbrev pub single : ℕ → Problem
single k = record {
  rows = at_least k ∷ [];
  stays = record {
    attr = 1;
    target = record { num = pos 0; den = 1 };
  } ∷ [];
}

-- `x >= 1` and `x == 5`
abbrev pub pair : Problem
pair = record {
  rows = at_least 1 ∷ equal_five ∷ [];
  stays = record { attr = 1; target = record { num = pos 0; den = 1 } } ∷ [];
}

-- the under mark of row 1
abbrev pub under_row : Mark
under_row = record { row = Held 1; side = Under }

-- the over mark of row 1
abbrev pub over_row : Mark
over_row = record { row = Held 1; side = Over }

-- the over mark of row 2
abbrev pub over_second : Mark
over_second = record { row = Held 2; side = Over }

-- the over mark of the stay
abbrev pub over_stay : Mark
over_stay = record { row = StayOf 1; side = Over }
