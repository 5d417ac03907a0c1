use Rattle.std.proofs.Common.{ℕ, ◌<◌, get_or}
use Rattle.path_levels.specs.declared.outline.LineFacts.{LineFacts}
use Rattle.path_levels.specs.Required.{IsBelow}
use Rattle.path_levels.proofs.ends.has_no_negative_required.Given as goal

abbrev pub invariant-loop-at : goal.invariant-loop-at
invariant-loop-at l = (k : ℕ) (f : LineFacts) → k < l.at → IsBelow l.corner.lines.now (get_or l.corner.outline.now.lines.items k f) l.sum k → ⊥
