use Rattle.std.specs.Prelude.{Contains}
use Rattle.problem_reading.proofs.Problems.Refused.{covered_alone}
use Rattle.problem_reading.proofs.problem.draft.Draft.row_may_follow.Goals as goal

pub returns : goal.returns
returns c =
    covered_alone (λ a. Contains c.args.covered.now a) c.args.self.now c.args.row.now c.terms.result.now c.are_covered.result c.rises_to.result c.takes_rows.result c.terms.ensures
    c.takes_rows.ensures c.if-not-takes_rows.false (rw c.id.ensures at c.rises_to.ensures) c.if-not-rises_to.false c.are_covered.ensures
