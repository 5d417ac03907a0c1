-- An exchange makes a tableau of a tableau, and keeps its solutions.
use Rattle.std.proofs.Common.{◌≡◌, ℕ, cond, nat_eq, pos, ◌<ℤ◌}
use Rattle.problem_core.specs.Layout.{coefficient}
use Rattle.problem_core.proofs.Corners.Tableaus.{Basic, IsPivoted}

-- one row of an exchange: the leaving row now writes the entering column, and every other row is without that column
pub record IsExchangedRow (leaving : Basic) (enter : ℕ) (old new : Basic) : Type 0 where
  pub inside : new.inside ≡ cond (nat_eq old.inside leaving.inside) enter old.inside
  pub own : pos 0 <ℤ coefficient new.inside new.form
  pub pivot : IsPivoted leaving.form old.form new.form
  pub without : (old.inside ≡ leaving.inside → ⊥) → coefficient enter new.form ≡ pos 0
