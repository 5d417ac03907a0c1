use Rattle.std.proofs.Common.{◌≡◌, None, rules}
use Rattle.view_tree.specs.Views.{view_named}
use Rattle.held_items.specs.Items.{intrinsic_of}
use Rattle.session_undo.specs.Adding.{NoEnd}
use Rattle.session_undo.specs.Kept.{session_at}
use Rattle.session_undo.proofs.Commands.SizeSteps.{unsize-unknown}
use Rattle.session_undo.proofs.Commands.SuggestionSteps.{view-found}
use Rattle.session_undo.proofs.session.Session.sized.Goals as goal

pub returns-then-is_none-clause-refused : goal.returns-then-is_none-clause-refused
returns-then-is_none-clause-refused g c =
    let old = (session_at c.self.inside.scene c.self.inside.budget c.self.inside.limits c.self.inside.version) in
    let f = view-found (view_named old.scene.tree.views c.args.name.now) c.in-Some.view.0 (rw c.tree.ensures at c.in-Some.ensures) in
    let none : intrinsic_of c.in-Some.view.0 old.scene.held ≡ None = search rules in
    rw (c.in_ok-intrinsic_name.ensures, ← c.self.view_is) (unsize-unknown old c.args.name.now f.0 NoEnd f.1 (rw f.2 none))
