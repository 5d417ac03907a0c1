-- Problems in which an attribute moves, and does not, and rows that hold, and do not.
use Rattle.std.specs.Prelude.{ℕ, [], ◌∷◌, pos, negsuc}
use Rattle.frac_core.specs.Fraction.{Fraction}
use Rattle.problem_core.specs.declared.limits.TheConstants.{REQUIRED}
use Rattle.problem_core.specs.declared.parts.Rel.TheVariants.{Eq, Le}
use Rattle.problem_core.specs.Layout.{Problem, Row}

-- a whole number as a value
abbrev pub whole : ℕ → Fraction
whole n = record { num = pos n; den = 1 }

-- the attribute 1, which its stay alone holds at 0
abbrev pub free : Problem
free = record { rows = []; stays = record { attr = 1; target = whole 0 } ∷ [] }

-- the row 7: attribute 1 is 0
abbrev pub zero_row : Row
zero_row = record {
  id = 7;
  rank = REQUIRED;
  weight = 1;
  rel = Eq;
  scale = 1;
  constant = whole 0;
  terms = record { attr = 1; by = pos 1 } ∷ [];
}

-- the attribute 1 at 0, where that row requires it
abbrev pub held : Problem
held = record { rows = zero_row ∷ []; stays = record { attr = 1; target = whole 0 } ∷ [] }

-- the row 7: attribute 1 is at most 0
abbrev pub cap_row : Row
cap_row = record {
  id = 7;
  rank = REQUIRED;
  weight = 1;
  rel = Le;
  scale = 1;
  constant = whole 0;
  terms = record { attr = 1; by = pos 1 } ∷ [];
}

-- the attribute 1 at 0, where that row lets it move down alone
abbrev pub capped : Problem
capped = record { rows = cap_row ∷ []; stays = record { attr = 1; target = whole 0 } ∷ [] }

-- the value a point below 0
abbrev pub minus_one : Fraction
minus_one = record { num = negsuc 0; den = 1 }

-- the row 7, of weight 2, which is not required: attribute 1 is 0
abbrev pub wish_row : Row
wish_row = record {
  id = 7;
  rank = 20;
  weight = 2;
  rel = Eq;
  scale = 1;
  constant = whole 0;
  terms = record { attr = 1; by = pos 1 } ∷ [];
}
