use Rattle.std.proofs.Common.{◌≤◌, List, sym, subst, arith}
use Rattle.std.proofs.lemmas.Bool.Decides.{nat_tests}
use Rattle.problem_core.specs.declared.parts.Level.{Level}
use Rattle.problem_core.specs.declared.parts.Stay.{Stay}
use Rattle.problem_core.specs.Layout.{HasStay}
use Rattle.problem_core.specs.Levels.{IsLevelAt}
use Rattle.corner_view.specs.Seen.{IsLevelOf}
use Rattle.layout_solver.proofs.Shown.{has_stay_level, no_stay_level, priority_level}
use Rattle.layout_solver.proofs.reading.has_level.Goals as goal

pub returns-in-Priority-clause-yes : goal.returns-in-Priority-clause-yes
returns-in-Priority-clause-yes c = λ p e h.
    let low : c.in-Priority.rank ≤ 1000 = grind (arith, nat_tests, h) in
    subst (λ (l : Level). IsLevelOf p l) (sym c.in-Priority.is) (priority_level p c.in-Priority.rank low)

pub returns-in-Stay-clause-yes : goal.returns-in-Stay-clause-yes
returns-in-Stay-clause-yes c = λ p e h.
    subst (λ (l : Level). IsLevelOf p l) (sym c.in-Stay.is) (has_stay_level p c.in-Stay.attr (subst (λ (ss : List Stay). HasStay ss c.in-Stay.attr) (sym e) (c.has_stay.ensures.yes h)))

pub returns-in-Stay-clause-no : goal.returns-in-Stay-clause-no
returns-in-Stay-clause-no c = λ p e h k at.
    no_stay_level p c.in-Stay.attr k (λ has. c.has_stay.ensures.no h (subst (λ (ss : List Stay). HasStay ss c.in-Stay.attr) e has)) (subst (λ (l : Level). IsLevelAt p l k) c.in-Stay.is at)
