use Rattle.std.proofs.Common.{◌≡◌, ◌≤◌, List, ℕ, Option, length}
use Rattle.line_by_line.specs.Talks.{IsTalk}
use Rattle.line_by_line.proofs.talk.answer_pending.Given as goal

-- What the run was before the call it is now, with the lines that were given answered.
abbrev pub invariant-loop-piece : goal.invariant-loop-piece
invariant-loop-piece g l = record {
  later : g.K.Sink.faults l.fn.sink ≤ g.K.Sink.faults l.sink;
  unfailed : g.K.Sink.faults l.sink ≡ g.K.Sink.faults l.fn.sink;
  talk : (first : _) (before : Option (List ℕ)) (taken : List ℕ)
      → IsTalk g.T.Answerer.answers first before (g.K.Sink.held l.fn.sink) taken l.fn.feed l.fn.is_good l.fn.talk
      → IsTalk g.T.Answerer.answers first before (g.K.Sink.held l.sink) taken l.feed l.is_good l.talk;
}

abbrev pub decreases-loop-piece : goal.decreases-loop-piece
decreases-loop-piece g l = length l.feed.bytes
