use Rattle.std.proofs.Common.{Bool, IsTrue, ◌↔◌, sym, subst}
use Rattle.problem_core.specs.Changes.Paths.{IsSound}
use Rattle.path_levels.proofs.ends.is_sound.Goals as goal

pub returns-then-dual : goal.returns-then-dual
returns-then-dual c = λ p at kept sums. subst (λ (b : Bool). IsTrue c.has_no_negative_column.result ↔ IsSound b p at) (sym c.if-dual.true) (c.has_no_negative_column.ensures p at kept sums)

pub returns-else-dual : goal.returns-else-dual
returns-else-dual c = λ p at kept sums. subst (λ (b : Bool). IsTrue c.has_no_negative_value.result ↔ IsSound b p at) (sym c.if-dual.false) (c.has_no_negative_value.ensures p at kept.there kept.lines_are)
