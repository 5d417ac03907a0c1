use Rattle.std.proofs.Common.{ℕ, ◌<◌, List, get_or}
use Rattle.problem_core.specs.declared.parts.Mark.{Mark}
use Rattle.problem_core.specs.declared.parts.Stay.{Stay}
use Rattle.problem_core.specs.Corners.{attr_column}
use Rattle.problem_core.specs.Unfit.{HasNoWriting}
use Rattle.path_lines.specs.Tables.{AreLines, IsThere}
use Rattle.path_fits.proofs.last.fits.attrs_fit.Given as goal

abbrev pub invariant-loop-i : goal.invariant-loop-i
invariant-loop-i l = (k : ℕ) (s : Stay) → k < l.i → (marks : List Mark) → IsThere l.p marks → AreLines l.p marks l.lines → HasNoWriting l.p marks (λ x. x (attr_column (get_or l.p.stays k s).attr)) → ⊥
