use Rattle.std.proofs.Common.{◌∙◌, Err, ap}
use Rattle.std.proofs.lemmas.Result.{err_from_is_err_and}
use Rattle.edge_io.specs.Outside.{Outside}
use Rattle.line_by_line.specs.Answers.{texts_of}
use Rattle.line_by_line.specs.declared.script.ScriptStop.{ScriptStop}
use Rattle.line_by_line.specs.declared.script.ScriptStop.TheVariants as stop
use Rattle.line_by_line.proofs.Others.{end_too, nothing_answered}
use Rattle.line_by_line.proofs.Stops.{end_as}
use Rattle.layout_cli.specs.Machine.{IsRunOf}
use Rattle.layout_cli.specs.declared.talk.Talk.{Talk}
use Rattle.layout_cli.proofs.Lines.{by_talking, is_run, no_run}
use Rattle.layout_cli.proofs.talk.talk_over.Goals as goal

pub returns-in_err-talk-clause-ends : goal.returns-in_err-talk-clause-ends
returns-in_err-talk-clause-ends g c =
    let old : Outside = record { left = g.S.Source.left c.args.source.now; held = g.K.Sink.held c.args.sink.now; reads_failed = g.S.Source.faults c.args.source.now; writes_failed = g.K.Sink.faults c.args.sink.now } in
    let exit = err_from_is_err_and c.from_residual.result c.from_residual.ensures.1 in
    end_as IsRunOf old old c.from_residual.result stop.OutOfMemory (exit.1 ∙ ap (λ (e : ScriptStop). Err e) exit.2)
    (nothing_answered IsRunOf (g.S.Source.left c.args.source.now) (g.K.Sink.held c.args.sink.now) no_run)

pub answer_script-answered-requires : goal.answer_script-answered-requires
answer_script-answered-requires g c = record { asked = λ now held taken consumed answered. tt }

pub returns-clause-ends : goal.returns-clause-ends
returns-clause-ends g c =
    let old : Outside = record { left = g.S.Source.left c.args.source.now; held = g.K.Sink.held c.args.sink.now; reads_failed = g.S.Source.faults c.args.source.now; writes_failed = g.K.Sink.faults c.args.sink.now } in
    let new : Outside = record { left = g.S.Source.left c.answer_script-answered.new.script; held = g.K.Sink.held c.answer_script-answered.new.sink; reads_failed = g.S.Source.faults c.answer_script-answered.new.script; writes_failed = g.K.Sink.faults c.answer_script-answered.new.sink } in
    let first : Talk = c.in_ok-talk.talk in
    end_too (texts_of (by_talking (λ (t : Talk). t.responder)) first) IsRunOf old new c.answer_script-answered.result
    (is_run (λ (t : Talk). t.responder) first c.in_ok-talk.ensures.first c.in_ok-talk.ensures.unbegun) c.answer_script-answered.ensures.ends
