-- Required rows by their places.
use Rattle.std.specs.Prelude.{◌≡◌, ℕ, ◌+◌, ◌<◌, ◌≤◌, List, map, take, length, ℤ, pos, slice_index_or}
use Rattle.std.specs.List.{HoldsAt}
use Rattle.problem_core.specs.Common.{IsLeastCommon}
use Rattle.problem_core.specs.Layout.{Problem}
use Rattle.problem_core.specs.Certificates.{HasSign}
use Rattle.problem_core.specs.declared.limits.TheConstants.{REQUIRED}
use Rattle.cert_checker.specs.declared.refuting.TheConstants.{ROOM}
use Rattle.cert_checker.specs.declared.sums.Weighted.{Weighted}

-- a required row stands at the place
pub record IsRequiredAt (p : Problem) (k : ℕ) : Type 0 where
  pub row : k < length p.rows
  pub rank : HoldsAt (λ r. r.rank ≡ REQUIRED) p.rows k

-- the sign of the multiplier is one that the row at its place allows
pub record IsSigned (p : Problem) (w : Weighted) : Type 0 where
  pub row : w.at < length p.rows
  pub sign : HoldsAt (λ r. HasSign r.rel w.times) p.rows w.at

-- the denominator of the constant of the row at a place
abbrev pub den_at : Problem → ℕ → ℕ
den_at p k = slice_index_or (map (λ r. r.constant.den) p.rows) k 1

-- the numerator of the constant of the row at a place
abbrev pub num_at : Problem → ℕ → ℤ
num_at p k = slice_index_or (map (λ r. r.constant.num) p.rows) k (pos 0)

-- the number of the row at a place
abbrev pub id_at : Problem → ℕ → ℕ
id_at p k = slice_index_or (map (λ r. r.id) p.rows) k 0

-- the denominators of the constants of the rows that have multipliers
abbrev pub denominators : Problem → List Weighted → List ℕ
denominators p ws = map (λ w. den_at p w.at) ws

-- the row with the number n is the first with which the least common denominator reaches the end of the room
abbrev pub Reaches : Problem → List Weighted → ℕ → Type 0
Reaches p ws n =
    (k : ℕ)
    × (k < length ws)
    × HoldsAt (λ w. id_at p w.at ≡ n) ws k
    × ((d : ℕ) × (d < ROOM) × IsLeastCommon (denominators p (take k ws)) d)
    × ((d : ℕ) × (ROOM ≤ d) × IsLeastCommon (denominators p (take (k + 1) ws)) d)
