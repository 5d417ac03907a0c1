use Rattle.std.proofs.Common.{◌+◌, List, length, ap}
use Rattle.path_lines.proofs.Stops.{is_refused}
use Rattle.problem_core.specs.declared.parts.Term.{Term}
use Rattle.path_fits.proofs.Beginning.FirstSums.{last_is_first, sums_fit}
use Rattle.path_fits.proofs.firsts.first_line.Goals as goal

pub returns-in-Ok-clause-fit : goal.returns-in-Ok-clause-fit
returns-in-Ok-clause-fit c = sums_fit c.args.p.now c.args.r.now c.in-Ok.sum c.show_whole.ensures c.requires c.in-Ok.ensures.sum c.num.ensures.kept c.in_default.ensures.none

pub returns-in-Err-Refused-clause-stop : goal.returns-in-Err-Refused-clause-stop
returns-in-Err-Refused-clause-stop c =
    last_is_first c.args.p.now c.args.r.now (length c.terms.result.now + 1) c.show_whole.ensures c.requires (ap (λ (ts : List Term). length ts + 1) c.terms.ensures) (c.in-Err-Refused.ensures.unfit (is_refused _ _ c.in-Err-Refused.field-0-is)) c.in_default.ensures.none
