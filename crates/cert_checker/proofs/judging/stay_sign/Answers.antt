use Rattle.std.proofs.Common.{◌<◌, ◌∙◌}
use Rattle.cert_checker.proofs.Certificates.Certified.{stay-order}
use Rattle.cert_checker.proofs.judging.stay_sign.Goals as goal

pub returns : goal.returns
returns c = λ level x gives.
    let some : 0 < c.value-value.result.den = c.den.ensures.kept.lowest.above in
    c.compare.ensures ∙ stay-order c.args.values.now x c.args.stay.now level c.value-value.result c.value-value.ensures some c.requires gives
