use Rattle.std.proofs.Common.{◌<◌, Bool, IsTrue, ◌↔◌, sym, subst, arith}
use Rattle.problem_core.specs.Changes.Paths.{MaySwap}
use Rattle.path_lines.specs.Tables.{IsLineAt, line_count, mark_of, name_at, swap_of}
use Rattle.path_levels.proofs.ends.may_swap.Goals as goal

pub returns-then-dual : goal.returns-then-dual
returns-then-dual c = λ p at kept sums ex.
    let within : c.args.step.leave.at < line_count p = let h = kept.lines_are.count in omega (arith, c.requires.step, h) in
    let line : IsLineAt p at (name_at p c.args.step.leave.at) c.index-lines-step.result = subst (IsLineAt p at (name_at p c.args.step.leave.at)) (sym c.index-lines-step.is) (kept.lines_are.each c.args.step.leave.at c.index-lines-step.result within) in
    subst (λ (b : Bool). IsTrue c.is_down.result ↔ MaySwap b p at (swap_of p c.args.step)) (sym c.if-dual.true) (c.is_down.ensures p at (mark_of p c.args.step.leave) kept.there line ex.leaves)

pub returns-else-dual : goal.returns-else-dual
returns-else-dual c = λ p at kept sums ex. subst (λ (b : Bool). IsTrue c.is_negative_column.result ↔ MaySwap b p at (swap_of p c.args.step)) (sym c.if-dual.false) (c.is_negative_column.ensures p at kept sums)
