use Rattle.std.proofs.Common.{rules, SFits, subst, ℤ, pos, ◌<ℤ◌, ◌≤ℤ◌, arith, sym}
use Rattle.std.specs.Int.{w64}
use Rattle.std.proofs.lemmas.Int.{to_z-of_z}
use Rattle.problem_core.specs.declared.parts.Level.{Level}
use Rattle.problem_core.specs.Levels.{IsLevelAt}
use Rattle.corner_ends.proofs.RequiredCosts.{cost_above, cost_none}
use Rattle.corner_ends.proofs.costs.is_costly.Goals as goal

pub returns-clause-yes : goal.returns-clause-yes
returns-clause-yes g c = λ yes.
    let fits : SFits w64 c.num.result = search rules in
    let up = simp to_z-of_z at c.is_above.ensures.yes in
    let there : IsLevelAt c.args.c.now.problem c.required_level.result 0 = subst (λ (l : Level). IsLevelAt c.args.c.now.problem l 0) (sym c.required_level.ensures) (omega arith) in
    cost_above c.args.c.now.problem c.args.c.now.marks c.cost.result c.show_corner.ensures.kept (c.cost.ensures 0 there) (subst (λ (z : ℤ). pos 0 <ℤ z) c.num.ensures.value (up yes))

pub returns-clause-no : goal.returns-clause-no
returns-clause-no g c = λ no.
    let fits : SFits w64 c.num.result = search rules in
    let low = simp to_z-of_z at c.is_above.ensures.no in
    let there : IsLevelAt c.args.c.now.problem c.required_level.result 0 = subst (λ (l : Level). IsLevelAt c.args.c.now.problem l 0) (sym c.required_level.ensures) (omega arith) in
    cost_none c.args.c.now.problem c.args.c.now.marks c.cost.result c.show_corner.ensures.kept c.num.ensures.kept.lowest.above (c.cost.ensures 0 there) (subst (λ (z : ℤ). z ≤ℤ pos 0) c.num.ensures.value (low no))
