use Rattle.std.proofs.Common.{subst, refl}
use Rattle.path_lines.specs.Exchanges.Pivots.{next_marks}
use Rattle.path_lines.proofs.Stops.{is_refused}
use Rattle.path_fits.specs.Attrs.{IsAttrAfter}
use Rattle.path_fits.proofs.last.terms.attr_of_term.Goals as goal

pub returns-in-Ok-Some-clause-attr : goal.returns-in-Ok-Some-clause-attr
returns-in-Ok-Some-clause-attr c = λ marks turn lines.
    (subst (IsAttrAfter c.args.case.p.now (next_marks c.args.case.p.now c.args.case.pivot.now marks) c.args.attr) c.in-Ok-Some.field-0-is (c.in-Ok-Some.ensures.attr marks turn lines)).0

pub returns-in-Err-Refused-clause-stop : goal.returns-in-Err-Refused-clause-stop
returns-in-Err-Refused-clause-stop c = λ marks turn lines attrs. (refl, c.in-Err-Refused.ensures.unfit (is_refused _ _ c.in-Err-Refused.field-0-is) marks turn lines attrs)
