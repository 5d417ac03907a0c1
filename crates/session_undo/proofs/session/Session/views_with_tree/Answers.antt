use Rattle.std.proofs.lemmas.Result.{err_from_is_err_and}
use Rattle.view_tree.specs.JsonStops.{IsGrown}
use Rattle.session_undo.specs.Kept.{session_at}
use Rattle.held_items.proofs.Views.Attributes.{grown-branch}
use Rattle.session_undo.proofs.Commands.TreeChains.{first-number, first-there}
use Rattle.session_undo.proofs.session.Session.views_with_tree.Goals as goal

pub unreachable-requires : goal.unreachable-requires
unreachable-requires g c =
    let old = (session_at c.self.inside.scene c.self.inside.budget c.self.inside.limits c.self.inside.version) in
    let grown : IsGrown old.scene.tree old.scene.metrics c.args.text.now c.add_json.new.self c.in_ok-count.count = (rw (c.in_ok-tree.ensures, c.tree-views.ensures, c.metrics.ensures) at c.in_ok-count.ensures.grown) in
    first-there old.scene.tree c.add_json.new.self grown.parent c.len-before.result grown.tree.branch grown.grown (rw c.tree-views.ensures at c.len-before.ensures.len) c.in_default.ensures

pub returns-clause-made : goal.returns-clause-made
returns-clause-made g c = rw (c.in_ok-own.ensures, ← c.self.view_is) (rw (c.in_ok-tree.ensures, c.tree-views.ensures, c.metrics.ensures) at c.in_ok-count.ensures.grown)

pub returns-clause-first : goal.returns-clause-first
returns-clause-first g c =
    let old = (session_at c.self.inside.scene c.self.inside.budget c.self.inside.limits c.self.inside.version) in
    let grown : IsGrown old.scene.tree old.scene.metrics c.args.text.now c.add_json.new.self c.in_ok-count.count = (rw (c.in_ok-tree.ensures, c.tree-views.ensures, c.metrics.ensures) at c.in_ok-count.ensures.grown) in
    rw (← c.self.view_is) (first-number old.scene.tree c.add_json.new.self grown.parent c.len-before.result grown.tree.branch grown.grown (rw c.tree-views.ensures at c.len-before.ensures.len) _ c.in-Some.ensures)

pub returns-clause-grown : goal.returns-clause-grown
returns-clause-grown g c =
    let old = (session_at c.self.inside.scene c.self.inside.budget c.self.inside.limits c.self.inside.version) in
    let grown : IsGrown old.scene.tree old.scene.metrics c.args.text.now c.add_json.new.self c.in_ok-count.count = (rw (c.in_ok-tree.ensures, c.tree-views.ensures, c.metrics.ensures) at c.in_ok-count.ensures.grown) in
    rw (c.in_ok-own.ensures, ← c.self.view_is) (grown-branch old.scene.tree c.add_json.new.self grown.parent c.in-Some.first.id.0 c.in_ok-count.count grown.tree.branch (rw c.tree-views.ensures at c.len-before.ensures.tree) c.len-after.ensures.tree grown.grown (first-number old.scene.tree c.add_json.new.self grown.parent c.len-before.result grown.tree.branch grown.grown (rw c.tree-views.ensures at c.len-before.ensures.len) _ c.in-Some.ensures) grown.counted)

pub returns-in_err-count-clause-stop : goal.returns-in_err-count-clause-stop
returns-in_err-count-clause-stop g c =
    let exit = err_from_is_err_and c.from_residual-in_err-count.result c.from_residual-in_err-count.ensures.1 in
    rw (exit.1, exit.2, ← c.self.view_is) (rw (c.in_ok-tree.ensures, c.tree-views.ensures, c.metrics.ensures) at c.in_err-count.ensures.refused)
