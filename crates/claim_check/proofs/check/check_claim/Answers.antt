use Rattle.std.proofs.Common.{inr, refl}
use Rattle.std.proofs.lemmas.Result.{err_from_is_err_and}
use Rattle.edge_io.specs.Outside.{Outside}
use Rattle.edge_io.proofs.Moves.{appends_none}
use Rattle.claim_check.proofs.Ended.{as_answered, end_as, failed_too, put_ends, stop_ends}
use Rattle.claim_check.proofs.check.check_claim.Goals as goal

pub returns-in_err-output-clause-ends : goal.returns-in_err-output-clause-ends
returns-in_err-output-clause-ends g c =
    let old : Outside = record { left = g.S.Source.left c.args.source.now; held = g.K.Sink.held c.args.sink.now; reads_failed = g.S.Source.faults c.args.source.now; writes_failed = g.K.Sink.faults c.args.sink.now } in
    let new : Outside = record { left = g.S.Source.left c.output_for.new.source; held = g.K.Sink.held c.args.sink.now; reads_failed = g.S.Source.faults c.output_for.new.source; writes_failed = g.K.Sink.faults c.args.sink.now } in
    let exit = err_from_is_err_and c.from_residual.result c.from_residual.ensures.1 in
    end_as old new c.from_residual.result _ exit.0 exit.1 exit.2 (stop_ends old new _ c.in_err-output.ensures.made (appends_none (g.K.Sink.held c.args.sink.now)))

pub returns-clause-ends : goal.returns-clause-ends
returns-clause-ends g c =
    let old : Outside = record { left = g.S.Source.left c.args.source.now; held = g.K.Sink.held c.args.sink.now; reads_failed = g.S.Source.faults c.args.source.now; writes_failed = g.K.Sink.faults c.args.sink.now } in
    let new : Outside = record { left = g.S.Source.left c.output_for.new.source; held = g.K.Sink.held c.put_output.new.sink; reads_failed = g.S.Source.faults c.output_for.new.source; writes_failed = g.K.Sink.faults c.put_output.new.sink } in
    put_ends old new c.in_ok-output.output.text.items c.in_ok-output.output.is_good c.put_output.result c.in_ok-output.ensures.made c.put_output.ensures.put

pub returns-in_err-output-clause-counted : goal.returns-in_err-output-clause-counted
returns-in_err-output-clause-counted g c =
    let exit = err_from_is_err_and c.from_residual.result c.from_residual.ensures.1 in
    record { few = c.in_err-output.ensures.few; reads = failed_too c.from_residual.result _ exit.0 _ exit.1 exit.2 c.in_err-output.ensures.unfailed; writes = inr (refl {a = g.K.Sink.faults c.args.sink.now}) }

pub returns-clause-counted : goal.returns-clause-counted
returns-clause-counted g c = record {
  few = c.in_ok-output.ensures.few;
  reads = inr (as_answered _ _ c.in_ok-output.ensures.unfailed);
  writes = c.put_output.ensures.unfailed;
}
