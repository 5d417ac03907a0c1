use Rattle.std.proofs.Common.{◌≡◌, ap, inr, rules, subst}
use Rattle.std.specs.Prelude.{IfErr}
use Rattle.session_undo.specs.Replies.{MayRefuse, Reply}
use Rattle.session_undo.specs.State.{State}
use Rattle.session_undo.proofs.Commands.Chains.{err-map}
use Rattle.layout_cli.specs.Machine.{LeadsTo, Opens, Step, Talking}
use Rattle.layout_cli.proofs.responder.Responder.step.Goals as goal

pub returns-clause-refused : goal.returns-clause-refused
returns-clause-refused c =
    let other : Opens c.args.self.now c.args.line.now → ⊥ = search rules in
    let same : c.self.inside.session ≡ c.args.self.now.state = ap (λ (t : Talking). t.state) c.self.view_is in
    err-map (λ (reply : Reply). Step c.args.self.now.state c.args.line.now reply c.args.self.now.state) (λ (reply : Reply). LeadsTo c.args.self.now c.args.line.now reply c.args.self.now.state) c.step.result
    (λ reply step. inr (other, step))
    (subst (λ (s : State). IfErr c.step.result (MayRefuse (λ reply. Step s c.args.line.now reply s))) same c.step.ensures.refused)
