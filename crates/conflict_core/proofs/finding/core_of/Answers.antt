use Rattle.std.proofs.Common.{◌∙◌, ap, subst, IfOk}
use Rattle.problem_core.specs.Layout.{Problem}
use Rattle.layout_solver.specs.Layouts.{Layout}
use Rattle.layout_solver.specs.Requests.{posed_by}
use Rattle.conflict_core.specs.Shown.{IsFound}
use Rattle.conflict_core.proofs.finding.core_of.Goals as goal

pub returns-in_ok-posed-in-Refuted-clause-found : goal.returns-in_ok-posed-in-Refuted-clause-found
returns-in_ok-posed-in-Refuted-clause-found g c =
    subst (λ (p : Problem). IfOk c.core_among-in-Refuted.result (IsFound p)) (c.in_ok-posed-in-Refuted.ensures ∙ ap (λ (l : Layout). posed_by l c.args.request) c.in_ok-asked.ensures.same) c.core_among-in-Refuted.ensures.found

pub returns-in_ok-posed-in-Nothing-clause-found : goal.returns-in_ok-posed-in-Nothing-clause-found
returns-in_ok-posed-in-Nothing-clause-found g c =
    subst (λ (p : Problem). IfOk c.core-in-Nothing.result (IsFound p)) (c.in_ok-posed-in-Nothing.ensures ∙ ap (λ (l : Layout). posed_by l c.args.request) c.in_ok-asked.ensures.same) c.core-in-Nothing.ensures.found
