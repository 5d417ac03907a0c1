use Rattle.std.proofs.Common.{ℕ, ◌<◌, ◌*ℤ◌, get_or}
use Rattle.frac_core.specs.Fraction.{IsFitting}
use Rattle.path_lines.specs.Numbers.{number_at}
use Rattle.path_levels.specs.declared.outline.LineFacts.{LineFacts}
use Rattle.path_levels.specs.Exchanges.FitsAfter.{IsFitLine, side_of_after}
use Rattle.path_levels.proofs.levels_after.level_fits.Given as goal

abbrev pub invariant-loop-at : goal.invariant-loop-at
invariant-loop-at l = record {
  scale : IsFitting (l.row.sum.now.own *ℤ l.row.sum.now.unit);
  each : (k : ℕ) (d : LineFacts) → k < l.at → IsFitLine (get_or l.corner.outline.now.lines.items k d) (side_of_after l.corner.lines.now l.pivot k) l.row.place l.row.sum.now (number_at l.row.sum.now.by.items k);
}
