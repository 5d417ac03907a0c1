-- The levels of a certificate at their places.
use Rattle.std.specs.Prelude.{◌≡◌, ℕ, List, pos, ◌*ℤ◌, ◌<ℤ◌, All, Contains}
use Rattle.std.specs.List.{AllZip}
use Rattle.problem_core.specs.Layout.{Problem, coefficient, sum_of, lines}
use Rattle.cert_core.specs.Claims.{BestLevel, times_of, level_at}
use Rattle.cert_checker.specs.declared.leveled.PlacedLevel.{PlacedLevel}
use Rattle.cert_checker.specs.LinePlaces.{names, AreWeighed}
use Rattle.cert_checker.specs.Certifying.{HasLevel}

-- the lines that the level names cancel at each attribute
abbrev pub CancelAt : Problem → BestLevel → Type 0
CancelAt p l = (v : ℕ) → sum_of (λ n. times_of l.by n.name *ℤ coefficient v n.form) (lines p) ≡ pos 0

-- what the clause on balance asks of one level
pub record BalancesAt (p : Problem) (l : BestLevel) : Type 0 where
  pub scale : pos 0 <ℤ l.scale
  pub level : HasLevel p l.level
  pub rows : All (λ b. Contains (names p) b.row) l.by
  pub cancel : CancelAt p l

-- this is the level at its place, with its lines at theirs, and it balances
pub record IsPlaced (p : Problem) (l : BestLevel) (q : PlacedLevel) : Type 0 where
  pub place : level_at p q.level ≡ l.level
  pub scale : q.scale ≡ l.scale
  pub above : pos 0 <ℤ l.scale
  pub weighted : AreWeighed p l.by q.weighted.items
  pub balances : BalancesAt p l

-- each level at its place, in the order in which they are written
abbrev pub ArePlaced : Problem → List BestLevel → List PlacedLevel → Type 0
ArePlaced p levels placed = AllZip (IsPlaced p) levels placed
