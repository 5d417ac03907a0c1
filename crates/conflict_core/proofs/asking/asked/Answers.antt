use Rattle.std.proofs.Common.{subst}
use Rattle.problem_core.specs.Layout.{Problem, Satisfies}
use Rattle.conflict_core.proofs.asking.asked.Goals as goal

pub returns-in-Ok-clause-known : goal.returns-in-Ok-clause-known
returns-in-Ok-clause-known g c =
    let (x, is, gives) = c.show_layout.ensures.best.best in
    (x, subst (λ (p : Problem). Satisfies p x) c.in-Ok.ensures.problem is.0)
