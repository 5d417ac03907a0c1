use Rattle.std.proofs.Common.{◌∙◌}
use Rattle.std.proofs.lemmas.Result.{err_from_is_err_and}
use Rattle.problem_reading.proofs.Problems.Readings.{whole_read}
use Rattle.problem_reading.proofs.Problems.RoundTrip.{read_is, stop_is}
use Rattle.problem_reading.proofs.problem.reader.read_problem.Goals as goal

pub finish-requires : goal.finish-requires
finish-requires c = whole_read _ c.in_ok-draft.draft c.in_ok-draft.ensures.read

pub returns-in_err-draft-clause-written : goal.returns-in_err-draft-clause-written
returns-in_err-draft-clause-written c = λ p whole rows stays is.
    let exit = err_from_is_err_and c.from_residual-in_err-draft.result c.from_residual-in_err-draft.ensures.1 in
    rw (exit.1, exit.2) (stop_is p c.in_err-draft.field-0.0 c.args.text.now c.in_err-draft.ensures.stop whole rows stays is)

pub returns-clause-written : goal.returns-clause-written
returns-clause-written c = λ p whole rows stays is.
    c.finish.ensures ∙ read_is p c.in_ok-draft.draft c.args.text.now c.in_ok-draft.ensures.read whole rows stays is
