use Rattle.std.proofs.Common.{ap, refl}
use Rattle.scenes.specs.Scene.{History}
use Rattle.session_undo.specs.Kept.{limits_of}
use Rattle.session_undo.specs.State.{State}
use Rattle.scenes.specs.declared.limits.TheConstants.{FIRST_BUDGET}
use Rattle.session_undo.proofs.Commands.TreeLimits.{limits-first}
use Rattle.session_undo.proofs.session.Session.with.Goals as goal

pub returns : goal.returns
returns g c = (
  c.in_ok-with.ensures.corner,
  ap (λ (h : History). (let s : State = record { scene = h.scene; earlier = h.earlier; budget = FIRST_BUDGET; limits = limits_of c.args.limits; version = c.args.version } in s)) c.in_ok-with.ensures.first,
)

pub invariant_of-result : goal.invariant_of-result
invariant_of-result g c = (c.requires, limits-first (limits_of c.args.limits) c.args.limits.views _ _ refl c.in_ok-with.ensures.first)
