use Rattle.edge_io.specs.Outside.{Outside}
use Rattle.layout_cli.proofs.Stops.{made_ends}
use Rattle.layout_cli.proofs.program.run_made.Goals as goal

pub returns-in-Ok-clause-ends : goal.returns-in-Ok-clause-ends
returns-in-Ok-clause-ends g c = λ left failed.
    let old : Outside = record { left = left; held = g.K.Sink.held c.args.sink.now; reads_failed = failed; writes_failed = g.K.Sink.faults c.args.sink.now } in
    let new : Outside = record { left = left; held = g.K.Sink.held c.put_output.new.sink; reads_failed = failed; writes_failed = g.K.Sink.faults c.put_output.new.sink } in
    let output = c.in-Ok.output in
    let put = c.put_output.ensures in
    made_ends old new c.args.seed c.args.views output.text.items output.is_good c.put_output.result c.in-Ok.ensures put.done put.refused put.fault put.ends
