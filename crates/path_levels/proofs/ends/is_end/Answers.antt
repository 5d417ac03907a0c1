use Rattle.std.proofs.Common.{Bool, IsTrue, ◌↔◌, sym, subst}
use Rattle.problem_core.specs.Changes.Paths.{IsEndOf}
use Rattle.path_levels.proofs.Judging.LevelEnds.{or_else, or_then}
use Rattle.path_levels.proofs.ends.is_end.Goals as goal

pub returns-then-has_no_negative_value : goal.returns-then-has_no_negative_value
returns-then-has_no_negative_value c = λ p at kept sums.
    subst (λ (b : Bool). IsTrue c.has_no_negative_value.result ↔ IsEndOf b p at) (sym c.if-dual.true) (or_then c.has_no_negative_value.result c.if-has_no_negative_value.true (c.has_no_negative_value.ensures p at kept.there kept.lines_are))

pub returns-else-has_no_negative_value : goal.returns-else-has_no_negative_value
returns-else-has_no_negative_value c = λ p at kept sums.
    subst (λ (b : Bool). IsTrue c.costs_above.result ↔ IsEndOf b p at) (sym c.if-dual.true)
    (or_else c.has_no_negative_value.result c.costs_above.result c.if-has_no_negative_value.false (c.has_no_negative_value.ensures p at kept.there kept.lines_are) (c.costs_above.ensures p at c.args.tableau.corner.lines.now kept sums))

pub returns-then-has_no_negative_column : goal.returns-then-has_no_negative_column
returns-then-has_no_negative_column c = λ p at kept sums.
    subst (λ (b : Bool). IsTrue c.has_no_negative_column.result ↔ IsEndOf b p at) (sym c.if-dual.false) (or_then c.has_no_negative_column.result c.if-has_no_negative_column.true (c.has_no_negative_column.ensures p at kept sums))

pub returns-else-has_no_negative_column : goal.returns-else-has_no_negative_column
returns-else-has_no_negative_column c = λ p at kept sums.
    subst (λ (b : Bool). IsTrue c.is_refuted.result ↔ IsEndOf b p at) (sym c.if-dual.false)
    (or_else c.has_no_negative_column.result c.is_refuted.result c.if-has_no_negative_column.false (c.has_no_negative_column.ensures p at kept sums) (c.is_refuted.ensures p at kept sums))
