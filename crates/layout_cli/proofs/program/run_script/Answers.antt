use Rattle.std.proofs.Common.{sym}
use Rattle.edge_io.specs.Outside.{Outside}
use Rattle.program_words.specs.declared.mode.Mode.TheVariants as mode
use Rattle.layout_cli.specs.Ends.{script_status}
use Rattle.layout_cli.proofs.Stops.{ended_as, run_counted, run_ended}
use Rattle.layout_cli.proofs.program.run_script.Goals as goal

pub returns-clause-counted : goal.returns-clause-counted
returns-clause-counted g c = run_counted c.talk_over.result c.script_status.result _ _ c.script_status.ensures c.talk_over.ensures.counted

pub returns-clause-ends : goal.returns-clause-ends
returns-clause-ends g c =
    let old : Outside = record { left = g.S.Source.left c.args.source.now; held = g.K.Sink.held c.args.sink.now; reads_failed = g.S.Source.faults c.args.source.now; writes_failed = g.K.Sink.faults c.args.sink.now } in
    let new : Outside = record { left = g.S.Source.left c.talk_over.new.source; held = g.K.Sink.held c.talk_over.new.sink; reads_failed = g.S.Source.faults c.talk_over.new.source; writes_failed = g.K.Sink.faults c.talk_over.new.sink } in
    ended_as mode.Run old new (script_status c.talk_over.result) c.script_status.result (sym c.script_status.ensures) (run_ended old new c.talk_over.result c.talk_over.ensures.ends)
