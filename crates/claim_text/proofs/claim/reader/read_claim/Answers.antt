use Rattle.std.proofs.Common.{arith}
use Rattle.std.proofs.lemmas.Result.{err_from_is_err_and}
use Rattle.claim_text.proofs.Claims.ClaimRoundTrip.{read_is, lines_stop_is, not_early}
use Rattle.claim_text.specs.Claims.ClaimTexts.{nothing_read}
use Rattle.problem_reading.proofs.Problems.Readings.{lines_count}
use Rattle.claim_text.proofs.Claims.ClaimReadings.{draft_read, draft_nothing}
use Rattle.claim_text.proofs.Claims.ClaimForms.{few-parts}
use Rattle.claim_text.proofs.claim.reader.read_claim.Goals as goal

pub finish-requires : goal.finish-requires
finish-requires c = draft_read _ nothing_read c.in_ok-found.found.draft c.in_ok-found.ensures.read.reads draft_nothing

pub overflow_add-result : goal.overflow_add-result
overflow_add-result c = omega (arith, c.in_ok-found.ensures.read.count_is, lines_count c.args.text.now, c.requires)

pub returns-in_err-found-clause-written : goal.returns-in_err-found-clause-written
returns-in_err-found-clause-written c = λ claim is text.
    let exit = err_from_is_err_and c.from_residual.result c.from_residual.ensures.1 in
    rw (exit.1, exit.2) (lines_stop_is claim c.in_err-found.field-0.0 c.args.text.now c.in_err-found.ensures.stop is text)

pub returns-in-Some-clause-written : goal.returns-in-Some-clause-written
returns-in-Some-clause-written c = λ claim is text.
    let ends = rw c.in-Some.is at c.in_ok-claim.ensures.some in
    read_is claim c.in-Some.claim c.args.text.now (c.in_ok-found.found.draft, c.in_ok-found.ensures.read.reads, ends) is text

pub returns-clause-written : goal.returns-clause-written
returns-clause-written c = λ claim is text.
    not_early claim c.args.text.now c.in_ok-found.found.draft c.in_ok-found.found.count c.in_ok-found.ensures.read (rw c.in-None.is at c.in_ok-claim.ensures.none) is text

pub returns-in-Some-clause-few : goal.returns-in-Some-clause-few
returns-in-Some-clause-few c =
    let ends = rw c.in-Some.is at c.in_ok-claim.ensures.some in
    few-parts c.in-Some.claim c.args.text.now (c.in_ok-found.found.draft, c.in_ok-found.ensures.read.reads, ends)
