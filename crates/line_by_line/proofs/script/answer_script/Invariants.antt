use Rattle.std.proofs.Common.{◌≡◌, ◌≤◌, ◌+◌}
use Rattle.edge_io.specs.Feed.{IsOpen}
use Rattle.line_by_line.specs.Answers.{texts_of}
use Rattle.line_by_line.specs.Talks.{talking}
use Rattle.line_by_line.specs.declared.script.TheConstants.{INPUT_LIMIT}
use Rattle.line_by_line.proofs.Ways.{IsUnderWay}
use Rattle.line_by_line.proofs.script.answer_script.Given as goal

abbrev pub invariant-loop-feed : goal.invariant-loop-feed
invariant-loop-feed g l = record {
  way : IsUnderWay (texts_of g.T.Answerer.answers l.fn.talk) (g.S.Script.left l.fn.script) (g.S.Script.left l.script) (g.K.Sink.held l.fn.sink) (g.K.Sink.held l.sink)
      l.room (talking g.T.Answerer.answers l.fn.talk l.is_good l.talk l.feed (g.K.Sink.held l.fn.sink) (g.K.Sink.held l.sink));
  ready : IsOpen l.feed;
  reads : g.S.Script.faults l.fn.script ≤ g.S.Script.faults l.script;
  writes : g.K.Sink.faults l.fn.sink ≤ g.K.Sink.faults l.sink;
  few : g.S.Script.pulls l.script + l.room ≤ g.S.Script.pulls l.fn.script + INPUT_LIMIT;
  pulled : g.S.Script.faults l.script ≡ g.S.Script.faults l.fn.script;
  put : g.K.Sink.faults l.sink ≡ g.K.Sink.faults l.fn.sink;
}

abbrev pub decreases-loop-feed : goal.decreases-loop-feed
decreases-loop-feed g l = l.room
