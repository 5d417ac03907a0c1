use Rattle.std.proofs.Common.{sym, subst}
use Rattle.problem_core.specs.Levels.{IsCostAt}
use Rattle.corner_table.specs.Tables.{lists_of, marks_at, problem_of}
use Rattle.corner_writings.proofs.LevelFacts.LevelCostFacts.{level_cost}
use Rattle.corner_writings.proofs.levels.cost_at.Goals as goal

pub returns : goal.returns
returns c k is = subst (λ f. IsCostAt (problem_of (lists_of c.args.table.now)) (marks_at (lists_of c.args.table.now)) k f) (sym c.value_at.ensures) (level_cost (lists_of c.args.table.now) c.args.l k c.requires.kept is)
