use Rattle.std.proofs.Common.{◌≡◌, ◌≤◌, length}
use Rattle.span_text.specs.Reading.{lit_at}
use Rattle.span_text.proofs.pieces.literal.Given as goal

abbrev pub invariant-loop-wanted : goal.invariant-loop-wanted
invariant-loop-wanted l = record { same : lit_at l.wanted l.rest ≡ lit_at l.fn.word l.fn.text; within : length l.rest ≤ length l.fn.text }

abbrev pub decreases-loop-wanted : goal.decreases-loop-wanted
decreases-loop-wanted l = length l.wanted
