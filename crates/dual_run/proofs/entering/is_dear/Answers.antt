use Rattle.std.proofs.Common.{rules, SFits, subst, sym, arith}
use Rattle.std.specs.Int.{w64}
use Rattle.std.proofs.lemmas.Int.{to_z-of_z}
use Rattle.problem_core.specs.declared.parts.Level.{Level}
use Rattle.problem_core.specs.Levels.{IsLevelAt}
use Rattle.corner_view.specs.Seen.{IsReducedAt}
use Rattle.dual_run.proofs.Turns.{dear_cost, free_cost}
use Rattle.dual_run.proofs.entering.is_dear.Goals as goal

pub reduced-requires-clause-level : goal.reduced-requires-clause-level
reduced-requires-clause-level g c = (0, subst (λ (l : Level). IsLevelAt c.args.c.now.problem l 0) (sym c.required_level.ensures) (omega arith))

pub returns-clause-yes : goal.returns-clause-yes
returns-clause-yes g c = λ yes.
    let fits : SFits w64 c.reduced.result = search rules in
    let up = simp to_z-of_z at c.is_above.ensures.yes in
    dear_cost c.args.c.now.problem c.args.c.now.marks c.args.mark c.reduced.result c.show_corner.ensures.kept c.requires
    (subst (λ (l : Level). IsReducedAt c.args.c.now.problem c.args.c.now.marks l c.args.mark c.reduced.result) c.required_level.ensures c.reduced.ensures) (up yes)

pub returns-clause-no : goal.returns-clause-no
returns-clause-no g c = λ no.
    let fits : SFits w64 c.reduced.result = search rules in
    let low = simp to_z-of_z at c.is_above.ensures.no in
    free_cost c.args.c.now.problem c.args.c.now.marks c.args.mark c.reduced.result c.show_corner.ensures.kept c.requires
    (subst (λ (l : Level). IsReducedAt c.args.c.now.problem c.args.c.now.marks l c.args.mark c.reduced.result) c.required_level.ensures c.reduced.ensures) (low no)
