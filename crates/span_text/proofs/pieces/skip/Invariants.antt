use Rattle.std.proofs.Common.{◌≡◌, ◌≤◌, length}
use Rattle.span_text.specs.Reading.{back}
use Rattle.span_text.specs.Classes.{is_space}
use Rattle.span_text.proofs.pieces.skip.Given as goal

abbrev pub invariant-loop-rest : goal.invariant-loop-rest
invariant-loop-rest l = record { same : back is_space l.rest ≡ back is_space l.fn.text; within : length l.rest ≤ length l.fn.text }

abbrev pub decreases-loop-rest : goal.decreases-loop-rest
decreases-loop-rest l = length l.rest
