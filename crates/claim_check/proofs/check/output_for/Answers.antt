use Rattle.std.proofs.Common.{◌≤◌, Err, List, ℕ, length, arith, ap, subst}
use Rattle.std.proofs.lemmas.Result.{err_from_is_err_and}
use Rattle.claim_check.specs.Checks.{IsCheckOf}
use Rattle.claim_check.specs.declared.stop.CheckStop.{CheckStop}
use Rattle.claim_check.proofs.Ended.{checked_all, failed_too, made_as, not_made}
use Rattle.claim_check.proofs.check.output_for.Goals as goal

pub returns-in_err-input-clause-made : goal.returns-in_err-input-clause-made
returns-in_err-input-clause-made g c =
    let exit = err_from_is_err_and c.from_residual.result c.from_residual.ensures.1 in
    let read = c.in_err-input.ensures in
    made_as _ _ _ c.from_residual.result _ exit.0 exit.1 exit.2 (not_made _ _ _ _
    (λ is. read.fault (ap (λ (e : CheckStop). Err e) is)) (λ is. read.too_long (ap (λ (e : CheckStop). Err e) is)) (λ is. read.unwritten (ap (λ (e : CheckStop). Err e) is)))

pub returns-in_err-input-clause-unfailed : goal.returns-in_err-input-clause-unfailed
returns-in_err-input-clause-unfailed g c =
    let exit = err_from_is_err_and c.from_residual.result c.from_residual.ensures.1 in
    failed_too c.from_residual.result _ exit.0 _ exit.1 exit.2 c.in_err-input.ensures.unfailed

pub returns-clause-made : goal.returns-clause-made
returns-clause-made g c =
    let input = c.in_ok-input.input in
    let output = c.in_ok-check_input.field-0 in
    let checks : IsCheckOf input.items output.text.items output.is_good =
    subst (λ (bs : List ℕ). IsCheckOf bs output.text.items output.is_good) c.deref.ensures.value c.in_ok-check_input.ensures in
    let short : length input.items ≤ 16777216 = omega (arith, input.ok, c.in_ok-input.ensures.short) in
    checked_all (g.S.Source.left c.args.source.now) input.items (λ bs. IsCheckOf bs output.text.items output.is_good) c.in_ok-input.ensures.bytes short checks
