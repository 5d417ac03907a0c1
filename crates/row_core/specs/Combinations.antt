-- Sums of multiples of rows whose factors need not fit.
use Rattle.std.specs.Prelude.{ℕ, cond, nat_eq, List, ℤ, pos, ◌+ℤ◌}
pub use Rattle.frac_core.specs.Fraction.{IsFactor}
use Rattle.row_core.specs.Rows.{Term, combination}
use Rattle.row_core.specs.declared.entry.Factors.{Factors}
use Rattle.row_core.specs.declared.entry.Patch.{Patch}

-- the coefficients of k*r + n*p, but 0 at one column, and with a number more at another one
abbrev pub combination_but : Factors → List Term → List Term → Patch → ℕ → ℤ
combination_but by r p but c =
    cond (nat_eq c but.without.0) (pos 0)
    (combination by.k r by.n p c +ℤ cond (nat_eq c but.at.0) but.extra (pos 0))
