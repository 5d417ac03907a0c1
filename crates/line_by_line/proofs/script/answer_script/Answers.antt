use Rattle.std.proofs.Common.{◌∙◌, inr, refl, true, Err, ap, arith}
use Rattle.std.proofs.lemmas.Result.{err_from_is_err_and}
use Rattle.edge_io.specs.Outside.{Outside}
use Rattle.edge_io.specs.declared.traits.Failed.{Failed}
use Rattle.frac_core.specs.declared.memory.Stop.{Stop}
use Rattle.line_by_line.specs.Answers.{texts_of}
use Rattle.line_by_line.specs.Talks.{Answering, talking}
use Rattle.line_by_line.specs.declared.script.InputStop.{InputStop}
use Rattle.line_by_line.specs.declared.script.ScriptStop.{ScriptStop}
use Rattle.line_by_line.specs.declared.script.ScriptStop.TheVariants as stop
use Rattle.line_by_line.proofs.Stops.{end_as, answer_ends, input_ends, rose_later}
use Rattle.line_by_line.proofs.Counted.{as_answered, reads_or_same, writes_or_same}
use Rattle.line_by_line.proofs.Talks.{talk_begins}
use Rattle.line_by_line.proofs.Ways.{way_begins, way_fails, way_long, way_answers, way_breaks, way_stops, way_closes, way_breaks_last, way_stops_last, way_stops_first, way_ends, nothing_is_open}
use Rattle.line_by_line.proofs.script.answer_script.Goals as goal

pub returns-in_err-feed-clause-ends : goal.returns-in_err-feed-clause-ends
returns-in_err-feed-clause-ends g c =
    let old : Outside = record { left = g.S.Script.left c.args.script.now; held = g.K.Sink.held c.args.sink.now; reads_failed = g.S.Script.faults c.args.script.now; writes_failed = g.K.Sink.faults c.args.sink.now } in
    let exit = err_from_is_err_and c.from_residual.result c.from_residual.ensures.1 in
    end_as (texts_of g.T.Answerer.answers c.args.talk.now) old old c.from_residual.result stop.OutOfMemory (exit.1 ∙ ap (λ (e : ScriptStop). Err e) exit.2) (way_stops_first g.T.Answerer.answers c.args.talk.now (g.S.Script.left c.args.script.now) (g.K.Sink.held c.args.sink.now))

pub loop-feed-init : goal.loop-feed-init
loop-feed-init g c = record {
  way = way_begins g.T.Answerer.answers c.args.talk.now (g.S.Script.left c.args.script.now) (g.K.Sink.held c.args.sink.now) (talking g.T.Answerer.answers c.args.talk.now true c.args.talk.now c.in_ok-feed.feed (g.K.Sink.held c.args.sink.now) (g.K.Sink.held c.args.sink.now))
      (rw c.in_ok-feed.ensures (talk_begins g.T.Answerer.answers c.args.talk.now (g.K.Sink.held c.args.sink.now)));
  ready = nothing_is_open _ c.in_ok-feed.ensures;
  reads = omega arith;
  writes = omega arith;
  few = omega arith;
  pulled = refl;
  put = refl;
}

-- all whole lines that were taken are answered
pub take_more-requires-clause-asked : goal.take_more-requires-clause-asked
take_more-requires-clause-asked g c =
    let way = c.loop-feed.invariant.way in
    c.requires.asked c.loop-feed.script (g.K.Sink.held c.loop-feed.sink) way.taken way.consumed way.whole

pub returns-in_err-take_more-clause-ends : goal.returns-in_err-take_more-clause-ends
returns-in_err-take_more-clause-ends g c =
    let old : Outside = record { left = g.S.Script.left c.args.script.now; held = g.K.Sink.held c.args.sink.now; reads_failed = g.S.Script.faults c.args.script.now; writes_failed = g.K.Sink.faults c.args.sink.now } in
    let new : Outside = record { left = g.S.Script.left c.take_more.new.self; held = g.K.Sink.held c.loop-feed.sink; reads_failed = g.S.Script.faults c.take_more.new.self; writes_failed = g.K.Sink.faults c.loop-feed.sink } in
    let i = c.loop-feed.invariant in
    let t = c.in_err-take_more.ensures in
    let exit = err_from_is_err_and c.from_residual-in_err-take_more.result c.from_residual-in_err-take_more.ensures.1 in
    end_as _ old new c.from_residual-in_err-take_more.result exit.0 exit.1 (input_ends (texts_of g.T.Answerer.answers c.args.talk.now) old new c.in_err-take_more.field-0.0 exit.0 exit.2
    (λ is. (
      rose_later _ _ _ i.reads (t.fault (ap (λ (e : InputStop). Err e) is)),
      way_fails _ _ _ _ _ _ _ _ i.way (t.kept (ap (λ (e : InputStop). Err e) is)).1,
    ))
    (λ is. let long = t.too_long (ap (λ (e : InputStop). Err e) is) in
    way_long _ _ _ (g.S.Script.left c.take_more.new.self) _ _ _ _ i.way long.0 long.1))

pub loop-feed-preserved : goal.loop-feed-preserved
loop-feed-preserved g c = record {
  way = way_answers (texts_of g.T.Answerer.answers c.args.talk.now) _ _ _ _ _ _ _ _ _ _ _ _ (talking g.T.Answerer.answers c.args.talk.now c.loop-feed.is_good c.loop-feed.talk) (talking g.T.Answerer.answers c.args.talk.now c.answer_pending.new.is_good c.answer_pending.new.talk)
      c.loop-feed.invariant.way c.in_ok-take_more.ensures.more (c.in_ok-answer_pending.ensures.answered c.args.talk.now);
  ready = c.in_ok-answer_pending.ensures.ready;
  reads = omega (arith, c.loop-feed.invariant.reads, c.in_ok-take_more.ensures.later);
  writes = omega (arith, c.loop-feed.invariant.writes, c.in_ok-answer_pending.ensures.later);
  few = omega (arith, c.loop-feed.invariant.few, c.in_ok-take_more.ensures.one, c.in_ok-take_more.ensures.more.some c.if-branch.true);
  pulled = as_answered _ _ c.in_ok-take_more.ensures.unfailed ∙ c.loop-feed.invariant.pulled;
  put = c.in_ok-answer_pending.ensures.unfailed ∙ c.loop-feed.invariant.put;
}

pub returns-in_err-answer_pending-clause-ends : goal.returns-in_err-answer_pending-clause-ends
returns-in_err-answer_pending-clause-ends g c =
    let old : Outside = record { left = g.S.Script.left c.args.script.now; held = g.K.Sink.held c.args.sink.now; reads_failed = g.S.Script.faults c.args.script.now; writes_failed = g.K.Sink.faults c.args.sink.now } in
    let new : Outside = record { left = g.S.Script.left c.take_more.new.self; held = g.K.Sink.held c.answer_pending.new.sink; reads_failed = g.S.Script.faults c.take_more.new.self; writes_failed = g.K.Sink.faults c.answer_pending.new.sink } in
    let i = c.loop-feed.invariant in
    let t = c.in_err-answer_pending.ensures in
    let more = c.in_ok-take_more.ensures.more in
    let was : Answering = talking g.T.Answerer.answers c.args.talk.now c.loop-feed.is_good c.loop-feed.talk in
    let exit = err_from_is_err_and c.from_residual-in_err-answer_pending.result c.from_residual-in_err-answer_pending.ensures.1 in
    end_as _ old new c.from_residual-in_err-answer_pending.result exit.0 exit.1 (answer_ends (texts_of g.T.Answerer.answers c.args.talk.now) old new c.in_err-answer_pending.field-0.0 exit.0 exit.2
    (λ is. (
      rose_later _ _ _ i.writes (t.fault (ap (λ (e : Stop Failed). Err e) is)),
      way_breaks _ _ _ _ _ _ _ _ _ _ _ _ was i.way more (t.front (ap (λ (e : Stop Failed). Err e) is) c.args.talk.now),
    ))
    (λ is. way_stops _ _ _ _ _ _ _ _ _ _ _ _ was i.way more (t.first (ap (λ (e : Stop Failed). Err e) is) c.args.talk.now)))

pub returns-in_err-answer_last-clause-ends : goal.returns-in_err-answer_last-clause-ends
returns-in_err-answer_last-clause-ends g c =
    let old : Outside = record { left = g.S.Script.left c.args.script.now; held = g.K.Sink.held c.args.sink.now; reads_failed = g.S.Script.faults c.args.script.now; writes_failed = g.K.Sink.faults c.args.sink.now } in
    let new : Outside = record { left = g.S.Script.left c.take_more.new.self; held = g.K.Sink.held c.answer_last.new.sink; reads_failed = g.S.Script.faults c.take_more.new.self; writes_failed = g.K.Sink.faults c.answer_last.new.sink } in
    let i = c.loop-feed.invariant in
    let t = c.in_err-answer_last.ensures in
    let more = c.in_ok-take_more.ensures.more in
    let was : Answering = talking g.T.Answerer.answers c.args.talk.now c.loop-feed.is_good c.loop-feed.talk in
    let way = way_closes _ _ _ _ _ _ _ _ _ _ _ was i.way more c.if-branch.false in
    let exit = err_from_is_err_and c.from_residual-in_err-answer_last.result c.from_residual-in_err-answer_last.ensures.1 in
    end_as _ old new c.from_residual-in_err-answer_last.result exit.0 exit.1 (answer_ends (texts_of g.T.Answerer.answers c.args.talk.now) old new c.in_err-answer_last.field-0.0 exit.0 exit.2
    (λ is. let breaks = t.front (ap (λ (e : Stop Failed). Err e) is) c.args.talk.now in (
      rose_later _ _ _ i.writes (t.fault (ap (λ (e : Stop Failed). Err e) is)),
      way_breaks_last _ _ _ _ _ _ _ _ way (breaks (g.S.Script.left c.take_more.new.self) (more.at_end c.if-branch.false).1 (g.K.Sink.held c.args.sink.now)),
    ))
    (λ is. let first = t.first (ap (λ (e : Stop Failed). Err e) is) c.args.talk.now in
    way_stops_last _ _ _ _ _ _ _ _ way (first (g.K.Sink.held c.args.sink.now))))

pub returns-clause-ends : goal.returns-clause-ends
returns-clause-ends g c =
    let more = c.in_ok-take_more.ensures.more in
    let was : Answering = talking g.T.Answerer.answers c.args.talk.now c.loop-feed.is_good c.loop-feed.talk in
    let way = way_closes _ _ _ _ _ _ _ _ _ _ _ was c.loop-feed.invariant.way more c.if-branch.false in
    way_ends (texts_of g.T.Answerer.answers c.args.talk.now) _ _ _ _ _ _ _ _ way (more.at_end c.if-branch.false).1 (c.in_ok-answer_last.ensures.whole c.args.talk.now (g.K.Sink.held c.args.sink.now))

pub returns-in_err-feed-clause-counted : goal.returns-in_err-feed-clause-counted
returns-in_err-feed-clause-counted g c = record { few = omega arith; reads = inr refl; writes = inr refl }

pub returns-in_err-take_more-clause-counted : goal.returns-in_err-take_more-clause-counted
returns-in_err-take_more-clause-counted g c =
    let i = c.loop-feed.invariant in
    let t = c.in_err-take_more.ensures in
    let exit = err_from_is_err_and c.from_residual-in_err-take_more.result c.from_residual-in_err-take_more.ensures.1 in
    record {
      few = omega (arith, i.few, t.one);
      reads = reads_or_same _ _ _ c.in_err-take_more.field-0.0 exit.0 _ exit.1 exit.2 t.unfailed i.pulled;
      writes = inr i.put;
    }

pub returns-in_err-answer_pending-clause-counted : goal.returns-in_err-answer_pending-clause-counted
returns-in_err-answer_pending-clause-counted g c =
    let i = c.loop-feed.invariant in
    let t = c.in_ok-take_more.ensures in
    let a = c.in_err-answer_pending.ensures in
    let exit = err_from_is_err_and c.from_residual-in_err-answer_pending.result c.from_residual-in_err-answer_pending.ensures.1 in
    record {
      few = omega (arith, i.few, t.one);
      reads = inr (as_answered _ _ t.unfailed ∙ i.pulled);
      writes = writes_or_same _ _ _ c.in_err-answer_pending.field-0.0 exit.0 _ exit.1 exit.2 (λ is. a.unfailed_first (ap (λ (e : Stop Failed). Err e) is)) i.put;
    }

pub returns-in_err-answer_last-clause-counted : goal.returns-in_err-answer_last-clause-counted
returns-in_err-answer_last-clause-counted g c =
    let i = c.loop-feed.invariant in
    let t = c.in_ok-take_more.ensures in
    let a = c.in_err-answer_last.ensures in
    let exit = err_from_is_err_and c.from_residual-in_err-answer_last.result c.from_residual-in_err-answer_last.ensures.1 in
    record {
      few = omega (arith, i.few, t.one);
      reads = inr (as_answered _ _ t.unfailed ∙ i.pulled);
      writes = writes_or_same _ _ _ c.in_err-answer_last.field-0.0 exit.0 _ exit.1 exit.2 (λ is. a.unfailed_first (ap (λ (e : Stop Failed). Err e) is)) i.put;
    }

pub returns-clause-counted : goal.returns-clause-counted
returns-clause-counted g c =
    let i = c.loop-feed.invariant in
    let t = c.in_ok-take_more.ensures in
    record {
      few = omega (arith, i.few, t.one);
      reads = inr (as_answered _ _ t.unfailed ∙ i.pulled);
      writes = inr (c.in_ok-answer_last.ensures.unfailed ∙ i.put);
    }
