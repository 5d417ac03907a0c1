-- The problem of the first scene, at each of whose corners each quantity fits; one at a corner of which an
-- attribute doesn't fit; and problems of one attribute.
use Rattle.std.specs.Prelude.{ℕ, [], ◌∷◌, ◌++◌, ℤ, pos, negsuc}
use Rattle.problem_core.specs.declared.limits.TheConstants.{COEFFICIENT_LIMIT, REQUIRED}
use Rattle.problem_core.specs.declared.parts.Rel.TheVariants.{Eq}
use Rattle.problem_core.specs.declared.parts.Stay.{Stay}
use Rattle.problem_core.specs.Layout.{Problem, Row}
use Rattle.problem_core.specs.Window.{structural_rows, zero_fraction}

-- the stay of this attribute, at 0
abbrev pub zero_stay : ℕ → Stay
zero_stay attr = record { attr = attr; target = zero_fraction }

-- the window's rows, and its attributes at 0
abbrev pub first : Problem
first = record {
  rows = structural_rows;
  stays = zero_stay 1 ∷ zero_stay 2 ∷ zero_stay 3 ∷ zero_stay 4 ∷ [];
}

-- the height is 2^30 times the width
abbrev pub steep_row : Row
steep_row = record {
  id = 5;
  rank = REQUIRED;
  weight = 1;
  rel = Eq;
  scale = 1;
  constant = zero_fraction;
  terms = record { attr = 3; by = pos COEFFICIENT_LIMIT } ∷ record { attr = 4; by = negsuc 0 } ∷ [];
}

-- the window's rows and that one, with the width at 4096 before
abbrev pub steep : Problem
steep = record {
  rows = structural_rows ++ (steep_row ∷ []);
  stays = zero_stay 1 ∷ zero_stay 2
      ∷ record { attr = 3; target = record { num = pos 4096; den = 1 } } ∷ zero_stay 4 ∷ [];
}

-- ---- states with one attribute

-- attribute 1 is n, of the least priority
abbrev pub lone_row : ℤ → Row
lone_row n = record {
  id = 1;
  rank = 0;
  weight = 1;
  rel = Eq;
  scale = 1;
  constant = record { num = n; den = 1 };
  terms = record { attr = 1; by = pos 1 } ∷ [];
}

-- the problem of that row, with attribute 1 at 0 before
abbrev pub lone : ℤ → Problem
lone n = record { rows = lone_row n ∷ []; stays = zero_stay 1 ∷ [] }

-- the problem of no row, with attribute 1 at 0 before
abbrev pub bare : Problem
bare = record { rows = []; stays = zero_stay 1 ∷ [] }
