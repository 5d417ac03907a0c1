use Rattle.std.proofs.Common.{◌≡◌, ◌∙◌, length, rules}
use Rattle.session_undo.proofs.Commands.Steps.{add-limited}
use Rattle.session_undo.proofs.session.Session.new_line.Goals as goal

pub returns-in-Some-clause-refused : goal.returns-in-Some-clause-refused
returns-in-Some-clause-refused g c =
    let long : c.len.result ≡ length c.in_ok-rows.rows.items = search rules in
    add-limited c.args.self.now c.args.group.now c.args.line c.len.result c.in-Some.word (long ∙ c.in_ok-rows.ensures.rows.long) c.in-Some.ensures.full
