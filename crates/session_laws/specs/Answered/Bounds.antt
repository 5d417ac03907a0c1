-- Problems whose rows bound one attribute each.
use Rattle.std.specs.Prelude.{◌≡◌, ◌≤◌, ℕ, [], ◌∷◌, pos, unsigned_abs, All}
use Rattle.frac_core.specs.Fraction.{Fraction}
use Rattle.problem_core.specs.Kept.{IsWhole}
use Rattle.problem_core.specs.Layout.{Problem, Row}

-- a whole number up to 2^16 in size
pub record IsSmallWhole (f : Fraction) : Type 0 where
  pub whole : f.den ≡ 1
  pub small : unsigned_abs f.num ≤ 65536

-- the row bounds one attribute by such a number
pub record IsBound (r : Row) : Type 0 where
  pub attr : ℕ
  pub terms : r.terms ≡ record { attr = attr; by = pos 1 } ∷ []
  pub scale : r.scale ≡ 1
  pub constant : IsSmallWhole r.constant

-- each row bounds one attribute, and each stay is at such a number
pub record AreBounds (p : Problem) : Type 0 where
  pub whole : IsWhole p
  pub rows : All IsBound p.rows
  pub stays : All (λ s. IsSmallWhole s.target) p.stays
