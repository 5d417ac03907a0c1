use Rattle.std.proofs.Common.{subst}
use Rattle.script_text.specs.View.{change_view}
use Rattle.scenes.specs.Drafts.{drafted}
use Rattle.scenes.specs.Steps.{IsProblemOf}
use Rattle.session_undo.specs.State.{State}
use Rattle.session_undo.proofs.Commands.Carried.{drafted-poses}
use Rattle.session_undo.proofs.session.Session.change_problem.Goals as goal

pub pose-requires : goal.pose-requires
pose-requires g c = rw (← c.self.view_is) at c.in_ok-draft.ensures.made.may

pub returns-clause-posed : goal.returns-clause-posed
returns-clause-posed g c =
    drafted-poses c.args.self.now (change_view c.args.change.now) c.in_ok-draft.draft c.in_ok-pose.field-0 c.in_ok-draft.ensures.made
    (subst (λ (s : State). IsProblemOf (drafted s.scene c.in_ok-draft.draft) c.in_ok-pose.field-0) c.self.view_is c.in_ok-pose.ensures)
