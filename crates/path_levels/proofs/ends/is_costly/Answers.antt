use Rattle.path_lines.proofs.Iffs.{never, right_then, through, wrong_then}
use Rattle.path_levels.proofs.Judging.LevelEnds.{costly_decided, no_required}
use Rattle.path_levels.proofs.ends.is_costly.Goals as goal

pub returns-then-has_required-clause-above : goal.returns-then-has_required-clause-above
returns-then-has_required-clause-above c = λ p at lines levels d kept sums is.
    through c.is_above.result c.is_above.ensures (costly_decided p at c.args.outline.now lines levels d c.args.sum.now kept sums is (right_then c.has_required.result c.if-has_required.true c.has_required.ensures))

pub returns-else-has_required-clause-above : goal.returns-else-has_required-clause-above
returns-else-has_required-clause-above c = λ p at lines levels d kept sums is.
    never c.has_required.result c.if-has_required.false (no_required p at c.args.outline.now kept.outline_is (λ required. wrong_then c.has_required.result c.if-has_required.false c.has_required.ensures required))
