use Rattle.std.proofs.Common.{◌≡◌, ◌∙◌, false, rules}
use Rattle.std.specs.List.{list_any}
use Rattle.held_items.specs.Leaving.{is_in_group}
use Rattle.session_undo.specs.Adding.{NoEnd}
use Rattle.session_undo.specs.Kept.{session_at}
use Rattle.session_undo.proofs.Commands.LeavingSteps.{removed-unknown}
use Rattle.session_undo.proofs.session.Session.held_group.Goals as goal

pub returns-then-not-has_group-clause-refused : goal.returns-then-not-has_group-clause-refused
returns-then-not-has_group-clause-refused g c =
    let old = (session_at c.self.inside.scene c.self.inside.budget c.self.inside.limits c.self.inside.version) in
    let named : c.in_ok-name.name ≡ c.args.group.now = c.in_ok-name.ensures ∙ c.as_bytes.ensures.value in
    let none : list_any (is_in_group c.args.group.now) old.scene.held ≡ false = search rules in
    rw (named, ← c.self.view_is) (removed-unknown old c.args.group.now NoEnd none)
