-- Cores: required rows that have no solution together, each of which is needed for that.
use Rattle.std.specs.Prelude.{◌≡◌, ◌<◌, ◌&&◌, ℕ, Bool, not, nat_eq, List, filter, All, AllPairs, Any}
use Rattle.std.specs.List.{list_any}
use Rattle.problem_core.specs.declared.limits.TheConstants.{REQUIRED}
use Rattle.problem_core.specs.Layout.{IsInConflict, Problem, Row}
use Rattle.layout_solver.specs.Layouts.{stays_at, zeros}
use Rattle.layout_solver.specs.Starts.{attrs_of}

-- the number is one of these
abbrev pub is_among : List ℕ → ℕ → Bool
is_among ids id = list_any (λ n. nat_eq n id) ids

-- the row is required, and its number is one of these
abbrev pub is_tried : List ℕ → Row → Bool
is_tried ids r = nat_eq r.rank REQUIRED && is_among ids r.id

-- the problem's required rows of these numbers and no other row, with each of its attributes drawn to 0
abbrev pub trial : Problem → List ℕ → Problem
trial p ids = record { rows = filter (is_tried ids) p.rows; stays = stays_at (zeros (attrs_of p)) }

-- these numbers but one
abbrev pub without : ℕ → List ℕ → List ℕ
without id ids = filter (λ n. not (nat_eq n id)) ids

-- the numbers rise, and each is that of a required row
pub record AreRequired (p : Problem) (ids : List ℕ) : Type 0 where
  pub rising : AllPairs (λ a b. a < b) ids
  pub held : All (λ id. Any (λ r. (r.id ≡ id) × (r.rank ≡ REQUIRED)) p.rows) ids

-- these required rows have no solution together, and without any one of them the others have one
pub record IsCore (p : Problem) (ids : List ℕ) : Type 0 where
  pub rows : AreRequired p ids
  pub conflict : IsInConflict (trial p ids)
  pub needed : All (λ id. IsInConflict (trial p (without id ids)) → ⊥) ids
