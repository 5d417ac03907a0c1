use Rattle.problem_core.specs.declared.parts.Side.{Side}
use Rattle.problem_core.specs.Corners.{HasNegativeColumn}
use Rattle.path_levels.proofs.Judging.LineCosts.{over_is, under_is}
use Rattle.path_levels.proofs.Judging.OwnColumns.{mark_at}
use Rattle.path_levels.proofs.columns.has_negative_column.Goals as goal

pub returns-then-is_negative_column : goal.returns-then-is_negative_column
returns-then-is_negative_column c = λ p marks kept sums.
    under_is (λ (side : Side). HasNegativeColumn p marks (mark_at p c.args.at side)) c.is_negative_column.result c.if-is_negative_column.true (c.is_negative_column.ensures p marks kept sums)

pub returns-else-is_negative_column : goal.returns-else-is_negative_column
returns-else-is_negative_column c = λ p marks kept sums.
    over_is (λ (side : Side). HasNegativeColumn p marks (mark_at p c.args.at side)) c.is_negative_column.result c.is_negative_column-else-is_negative_column.result c.if-is_negative_column.false (c.is_negative_column.ensures p marks kept sums)
    (c.is_negative_column-else-is_negative_column.ensures p marks kept sums)
