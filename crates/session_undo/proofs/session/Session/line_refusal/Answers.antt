use Rattle.session_undo.proofs.Commands.Steps.{stop-kind-limited, stop-kind, stop-limit-limited, stop-limit}
use Rattle.session_undo.proofs.session.Session.line_refusal.Goals as goal

pub returns-in-Some : goal.returns-in-Some
returns-in-Some g c = rw c.in-Kind.is (stop-kind-limited c.args.self.now c.args.group.now c.args.count c.in-Kind.word c.in-Some.limit c.in-Some.ensures.full)

pub returns-in-None : goal.returns-in-None
returns-in-None g c = rw c.in-Kind.is (stop-kind c.args.self.now c.args.group.now c.args.count c.in-Kind.word c.in-None.ensures.free)

pub returns-in-Some-limit_before : goal.returns-in-Some-limit_before
returns-in-Some-limit_before g c = rw c.in-Limit.is (stop-limit-limited c.args.self.now c.args.group.now c.args.count c.in-Limit.word c.in-Some-limit_before.limit c.in-Some-limit_before.ensures.full)

pub returns-in-None-limit_before : goal.returns-in-None-limit_before
returns-in-None-limit_before g c = rw c.in-Limit.is (stop-limit c.args.self.now c.args.group.now c.args.count c.in-Limit.word c.in-None-limit_before.ensures.free)
